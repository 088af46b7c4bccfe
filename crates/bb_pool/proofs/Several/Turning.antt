-- What a worker's calls do to what it has searched, and what two workers have together.
use Rattle.std.proofs.Common.{◌≡◌, ℕ, List, [], ◌∷◌, ◌++◌, Option, refl, sym, ap, ◌∙◌, subst, inl, inr}
use Rattle.std.specs.Prelude.{Contains, ◌⊎◌}
use Rattle.pq_words.specs.declared.entries.Entry.{Entry}
use Rattle.pq_model.specs.declared.marks.Act.{Act}
use Rattle.pq_model.specs.declared.marks.Act.TheVariants.{Insert}
use Rattle.pq_model.specs.declared.marks.Reply.{Reply}
use Rattle.pq_model.specs.declared.marks.Reply.TheVariants.{Done, Got}
use Rattle.pq_model.specs.declared.passes.Call.{Call}
use Rattle.pq_model.specs.declared.passes.Lane.{Lane}
use Rattle.pq_model.specs.declared.passes.Known.{Known}
use Rattle.pq_model.specs.Passes.{call, lane, lanes, fresh, with_call, joined_with}
use Rattle.bb_problem.specs.Meaning.{Meaning}
use Rattle.bb_shared.specs.declared.store.stored.Numbered.{Numbered}
use Rattle.bb_shared.specs.Costs.{IsLower}
use Rattle.bb_pool.specs.Working.{HasMade, AreRemoved, IsPassedOn, IsHandled, IsSearched, IsRooted}
use Rattle.bb_pool.proofs.Members.{none_in_empty, Contains-here, Contains-there, Contains-cases, Contains-left, Contains-right, Contains-either}

-- the calls of the first are calls of the second
abbrev pub Grows : Known → Known → Type 0
Grows k now = (act : Act) (reply : Reply) → HasMade k act reply → HasMade now act reply

-- and the elements of one list are those of another
abbrev pub Within : {X : Type 0} → List X → List X → Type 0
Within {X} xs ys = (x : X) → Contains xs x → Contains ys x

-- a pass after one more call has made that, or had made it before
pub call_cases : (k : Known) (place : ℕ) (act a : Act) (reply r : Reply) → HasMade (with_call k place act reply) a r → ((act ≡ a) × (reply ≡ r)) ⊎ HasMade k a r
call_cases k place act a reply r (l, has, c, there, is_a, is_r) = let own : Lane = lane k.number (k.calls ++ call place act reply ∷ []) in
    elim (Contains-cases own l k.joined has) [
      | inl same ↦ (let in_it : Contains (k.calls ++ call place act reply ∷ []) c = subst (λ (z : Lane). Contains z.calls c) (sym same) there in
          elim (Contains-either c k.calls (call place act reply ∷ []) in_it) [
            | inl old ↦ inr (lane k.number k.calls, Contains-here (lane k.number k.calls) k.joined, c, old, is_a, is_r)
            | inr new ↦ elim (Contains-cases (call place act reply) c [] new) [ inl is ↦ inl (ap (λ (z : Call). z.act) is ∙ is_a, ap (λ (z : Call). z.reply) is ∙ is_r) | inr nil ↦ absurd (none_in_empty c nil) ]
          ])
      | inr other ↦ inr (l, Contains-there (lane k.number k.calls) l k.joined other, c, there, is_a, is_r)
    ]

pub call_grows : (k : Known) (place : ℕ) (act : Act) (reply : Reply) → Grows k (with_call k place act reply)
call_grows k place act reply a r (l, has, c, there, is_a, is_r) = let own : Lane = lane k.number (k.calls ++ call place act reply ∷ []) in
    elim (Contains-cases (lane k.number k.calls) l k.joined has) [
      | inl same ↦ (own, Contains-here own k.joined, c, Contains-left c k.calls (call place act reply ∷ []) (subst (λ (z : Lane). Contains z.calls c) (sym same) there), is_a, is_r)
      | inr other ↦ (l, Contains-there own l k.joined other, c, there, is_a, is_r)
    ]

pub call_made : (k : Known) (place : ℕ) (act : Act) (reply : Reply) → HasMade (with_call k place act reply) act reply
call_made k place act reply = let own : Lane = lane k.number (k.calls ++ call place act reply ∷ []) in
    (own, Contains-here own k.joined, call place act reply, Contains-right (call place act reply) k.calls (call place act reply ∷ []) (Contains-here (call place act reply) []), refl, refl)

pub joined_cases : (k other : Known) (act : Act) (reply : Reply) → HasMade (joined_with k other) act reply → HasMade k act reply ⊎ HasMade other act reply
joined_cases k other act reply (l, has, c, there, a, r) = elim (Contains-either l (lanes k) (lanes other) has) [ inl mine ↦ inl (l, mine, c, there, a, r) | inr theirs ↦ inr (l, theirs, c, there, a, r) ]

pub joined_grows : (k other : Known) → Grows k (joined_with k other)
joined_grows k other act reply (l, has, c, there, a, r) = (l, Contains-left l (lanes k) (lanes other) has, c, there, a, r)

pub joined_has : (k other : Known) → Grows other (joined_with k other)
joined_has k other act reply (l, has, c, there, a, r) = (l, Contains-right l (lanes k) (lanes other) has, c, there, a, r)

-- the entries of these nodes were removed, and more calls were made
pub removed_more : {N : Type 0} (k now : Known) (takes : List (Numbered N)) → Grows k now → AreRemoved k takes → AreRemoved now takes
removed_more k now takes grows removed p there = let (e, act, id, made) = removed p there in (e, act, id, grows act (Got e) made)

module _ {N L : Type 0} (m : Meaning N L) where
  pub passed_more : (k now : Known) (puts more : List (Numbered N)) (name : List ℕ) (v : ℕ) → Grows k now → Within puts more → IsPassedOn m k puts name v → IsPassedOn m now more name v
  passed_more k now puts more name v grows within p = record {
    within = p.within;
    next = p.next;
    longer = p.longer;
    child = p.child;
    put = within p.child p.put;
    standing = p.standing;
    reached = p.reached;
    inserted = record { entry = p.inserted.entry; id = p.inserted.id; key_is = p.inserted.key_is; made = grows (Insert p.inserted.entry) Done p.inserted.made };
  }

  pub handled_more : (k now : Known) (puts more takes taken : List (Numbered N)) (cut low : Option ℕ) (e : Entry) → Grows k now → Within puts more → Within takes taken → IsLower low cut
      → IsHandled m k puts takes cut e → IsHandled m now more taken low e
  handled_more k now puts more takes taken cut low e grows within also lower h = record {
    found = h.found;
    number = h.number;
    taken = also h.found h.taken;
    exhausted = λ name v st key r better. passed_more k now puts more name v grows within (h.exhausted name v st key r (lower v better));
  }

  -- a new worker has nothing to answer for
  pub fresh_searched : (n : ℕ) (puts takes : List (Numbered N)) (cut : Option ℕ) → IsSearched m (fresh n) puts takes cut
  fresh_searched n puts takes cut = record {
    each = λ e act made. let (l, has, c, there, a, r) = made in elim (Contains-cases (lane n []) l [] has) [
      | inl same ↦ absurd (none_in_empty c (subst (λ (z : Lane). Contains z.calls c) (sym same) there))
      | inr nil ↦ absurd (none_in_empty l nil)
    ];
  }

  -- a call that removes nothing, more puts and takes, and a lower cut
  pub called : (k : Known) (place : ℕ) (act : Act) (reply : Reply) (puts more takes taken : List (Numbered N)) (cut low : Option ℕ) → ((e : Entry) → reply ≡ Got e → ⊥) → Within puts more → Within takes taken → IsLower low cut
      → IsSearched m k puts takes cut → IsSearched m (with_call k place act reply) more taken low
  called k place act reply puts more takes taken cut low none within also lower s = record {
    each = λ e a made. elim (call_cases k place act a reply (Got e) made) [
      | inl new ↦ absurd (none e new.1)
      | inr old ↦ handled_more k (with_call k place act reply) puts more takes taken cut low e (call_grows k place act reply) within also lower (s.each e a old)
    ];
  }

  -- two workers together
  pub joined : (k other : Known) (puts their_puts takes their_takes : List (Numbered N)) (cut their_cut low : Option ℕ) → IsLower low cut → IsLower low their_cut
      → IsSearched m k puts takes cut → IsSearched m other their_puts their_takes their_cut → IsSearched m (joined_with k other) (puts ++ their_puts) (takes ++ their_takes) low
  joined k other puts their_puts takes their_takes cut their_cut low lower also mine theirs = let now = joined_with k other in record {
    each = λ e act made. elim (joined_cases k other act (Got e) made) [
      | inl a ↦ handled_more k now puts (puts ++ their_puts) takes (takes ++ their_takes) cut low e (joined_grows k other) (λ x. Contains-left x puts their_puts) (λ x. Contains-left x takes their_takes) lower (mine.each e act a)
      | inr b ↦ handled_more other now their_puts (puts ++ their_puts) their_takes (takes ++ their_takes) their_cut low e (joined_has k other) (λ x. Contains-right x puts their_puts) (λ x. Contains-right x takes their_takes) also (theirs.each e act b)
    ];
  }

  pub lower_cut : (k : Known) (puts takes : List (Numbered N)) (cut low : Option ℕ) → IsLower low cut → IsSearched m k puts takes cut → IsSearched m k puts takes low
  lower_cut k puts takes cut low lower s = record {
    each = λ e act made. handled_more k k puts puts takes takes cut low e (λ a r m. m) (λ x there. there) (λ x there. there) lower (s.each e act made);
  }

  pub rooted_more : (k now : Known) (puts more : List (Numbered N)) → Grows k now → Within puts more → IsRooted m k puts → IsRooted m now more
  rooted_more k now puts more grows within r = record {
    root = r.root;
    put = within r.root r.put;
    standing = r.standing;
    inserted = record { entry = r.inserted.entry; id = r.inserted.id; key_is = r.inserted.key_is; made = grows (Insert r.inserted.entry) Done r.inserted.made };
  }
