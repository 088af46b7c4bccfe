-- What a caller has made, call by call.
use Rattle.std.proofs.Common.{◌≡◌, ◌∙◌, ◌<◌, ℕ, zero, suc, List, [], ◌∷◌, ◌++◌, length, get_or, refl, sym, ap, subst, arith}
use Rattle.std.specs.List.{AllByRecursion}
use Rattle.std.proofs.lemmas.List.{map-append, length-map}
use Rattle.pq_words.specs.declared.entries.Entry.{Entry}
use Rattle.pq_model.specs.declared.marks.Act.{Act}
use Rattle.pq_model.specs.declared.marks.Act.TheVariants.{Insert, Remove, RemoveBelow}
use Rattle.pq_model.specs.declared.marks.Reply.{Reply}
use Rattle.pq_model.specs.declared.passes.Call.{Call}
use Rattle.pq_model.specs.declared.passes.Lane.{Lane}
use Rattle.pq_model.specs.declared.passes.Known.{Known}
use Rattle.pq_model.specs.Passes.{call, lane, lanes, with_call, fresh, Knows, Witnesses}
use Rattle.pq_model.proofs.Fronts.{Witnesses-fresh}
use Rattle.pq_api.specs.declared.answers.Inserted.{Inserted}
use Rattle.pq_api.specs.declared.answers.Inserted.TheVariants as inserted
use Rattle.pq_api.specs.declared.answers.Removed.{Removed}
use Rattle.pq_api.specs.declared.answers.Removed.TheVariants as removed
use Rattle.pq_api.specs.declared.answers.Below.{Below}
use Rattle.pq_api.specs.declared.answers.Below.TheVariants as below
use Rattle.pq_api.specs.Answers.{MakesCall, IsInserted, IsRemoved, IsRemovedBelow, insert_reply, remove_reply, below_reply}
use Rattle.pq_lanes.specs.Answers.{insert_place, remove_place, below_place}
use Rattle.pq_lanes.specs.Lanes.{acts_of, HasMade}

-- each answer is that of a call

pub insert_makes : (before now : Known) (e : Entry) (a : Inserted) → IsInserted before e a now → MakesCall before (insert_place a) (Insert e) (insert_reply a) now
insert_makes before now e (inserted.Done r) is = is
insert_makes before now e (inserted.Full r) is = is

pub remove_makes : (before now : Known) (a : Removed) → IsRemoved before a now → MakesCall before (remove_place a) Remove (remove_reply a) now
remove_makes before now (removed.Got e r) is = is
remove_makes before now (removed.Empty r) is = is

pub remove_below_makes : (before now : Known) (limit : ℕ) (a : Below) → IsRemovedBelow before limit a now → MakesCall before (below_place a) (RemoveBelow limit) (below_reply a) now
remove_below_makes before now limit (below.Got e r) is = is
remove_below_makes before now limit (below.Empty r) is = is
remove_below_makes before now limit (below.Above r) is = is

-- one call more

pub made_more : (s c number : ℕ) (acts : List Act) (k now : Known) (tape longer : Lane) (place : ℕ) (act : Act) (reply : Reply) → HasMade s c number acts k tape →
    now ≡ with_call k place act reply → longer ≡ lane tape.number (tape.calls ++ call place act reply ∷ []) → Knows s c now → HasMade s c number (acts ++ act ∷ []) now longer
made_more s cap number acts k now tape longer place act reply made is added knows =
    let c : Call = call place act reply in
    let same : lane tape.number (tape.calls ++ c ∷ []) ≡ lane number (k.calls ++ c ∷ []) = ap (λ (l : Lane). lane l.number (l.calls ++ c ∷ [])) made.taped in
    let calls : now.calls ≡ k.calls ++ c ∷ [] = ap (λ (z : Known). z.calls) is in
    record {
      number_is = ap (λ (z : Known). z.number) is ∙ made.number_is;
      alone = ap (λ (z : Known). z.joined) is ∙ made.alone;
      acts_are = ap acts_of calls ∙ map-append (λ (d : Call). d.act) k.calls (c ∷ []) ∙ ap (λ xs. xs ++ act ∷ []) made.acts_are;
      taped = added ∙ same ∙ ap (λ cs. lane number cs) (sym calls);
      knows = knows;
    }

-- a new pass has made none

pub made_none : (s c n : ℕ) (k : Known) (tape : Lane) → k ≡ fresh n → tape ≡ lane n [] → HasMade s c k.number [] k tape
made_none s c n k tape new empty = record {
  number_is = refl;
  alone = ap (λ (z : Known). z.joined) new;
  acts_are = ap (λ (z : Known). acts_of z.calls) new;
  taped = empty ∙ sym (ap (λ (z : Known). lane z.number z.calls) new);
  knows = ([], subst (λ z. Witnesses s c z []) (sym new) (Witnesses-fresh s c n));
}

-- whatever was asked
pub made_own : (s c n : ℕ) (acts : List Act) (k : Known) (tape : Lane) → HasMade s c n acts k tape → HasMade s c n (acts_of k.calls) k tape
made_own s c n acts k tape made = record { number_is = made.number_is; alone = made.alone; acts_are = refl; taped = made.taped; knows = made.knows }

pub one_lane : (s c n : ℕ) (acts : List Act) (k : Known) (tape : Lane) → HasMade s c n acts k tape → lanes k ≡ tape ∷ []
one_lane s c n acts k tape made = (λ i. lane (made.number_is i) k.calls ∷ made.alone i) ∙ ap (λ l. l ∷ []) (sym made.taped)

-- as many calls as commands, on the tape too

pub made_count : (s c number : ℕ) (acts : List Act) (k : Known) (tape : Lane) → HasMade s c number acts k tape → length k.calls ≡ length acts
made_count s c number acts k tape made = sym (length-map k.calls (λ (c : Call). c.act)) ∙ ap length made.acts_are

pub taped_count : (s c number : ℕ) (acts : List Act) (k : Known) (tape : Lane) → HasMade s c number acts k tape → length tape.calls ≡ length acts
taped_count s c number acts k tape made = ap (λ (l : Lane). length l.calls) made.taped ∙ made_count s c number acts k tape made

-- a property of all commands, of one of them

pub each_of : {A : Type 0} (P : A → Type 0) (xs : List A) (i : ℕ) (d : A) → i < length xs → AllByRecursion P xs → P (get_or xs i d)
each_of P [] i d lt all = absurd (omega arith)
each_of P (x ∷ xs) zero d lt all = all.0
each_of P (x ∷ xs) (suc i) d lt all = each_of P xs i d (omega arith) all.1
