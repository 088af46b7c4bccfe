-- The draws of a removal are allowed.
use Rattle.std.proofs.Common.{◌≡◌, ℕ, ◌+◌, ◌-◌, ◌<◌, ◌≤◌, Bool, cond, leb, List, [], ◌∷◌, map, length, refl, sym, ap, ◌∙◌, subst, arith, length-append}
use Rattle.std.specs.Prelude.{Contains, slice_index}
use Rattle.std.proofs.lemmas.List.{length-map}
use Rattle.std.proofs.lemmas.Bool.{lt-leb, le-leb}
use Rattle.pq_words.specs.declared.entries.Entry.{Entry}
use Rattle.pq_model.specs.declared.marks.Act.{Act}
use Rattle.pq_model.specs.declared.marks.Act.TheVariants.{Insert, Remove, RemoveBelow}
use Rattle.pq_model.specs.declared.marks.Reply.TheVariants as replies
use Rattle.pq_model.specs.History.{mark}
use Rattle.pq_seats.specs.declared.views.Limits.{Limits}
use Rattle.pq_seats.specs.declared.views.View.{View}
use Rattle.pq_seats.specs.Batches.{Batch, insert_of, marks_of}
use Rattle.pq_seats.specs.Rules.{Table, Holds, Stands}
use Rattle.pq_seats.specs.Allowed.{Places, MayDraw}
use Rattle.pq_hunt.specs.Marks.{IsRemoval, MayGet}
use Rattle.pq_hunt.specs.Order.{HasWord}
use Rattle.pq_hunt.specs.Guards.{Guard}
use Rattle.pq_hunt.specs.declared.views.HuntPart.{HuntPart}
use Rattle.pq_hunt.specs.Layout.{heap_lock}
use Rattle.pq_hunt.specs.Views.{with_guards}
use Rattle.pq_hunt.specs.Batches.{entry_at, flight_at, removal, removal_below, hunt_batch, settled, after_removal, after_removal_below, after_draw}
use Rattle.pq_hunt.specs.Rules.{hunt_rule}
use Rattle.pq_hunt.proofs.Keeping.Draws.{has_entry}
use Rattle.pq_hunt.proofs.Keeping.RemovalDraws.{places_empty, places_got, places_last, places_above}

-- how many marks a batch has
pub marks_long : (n : ℕ) (act : Act) (b : Batch) → length (marks_of n act b) ≡ length b.before + 1 + length b.after
marks_long n act b = let f = length-map b.before insert_of in let g = length-map b.after insert_of in
    let l = length-append (map insert_of b.before) (mark n act b.reply ∷ map insert_of b.after) in omega arith

-- a removal that finds nothing to guard
pub empty_batch : (act : Act) (own : HuntPart) → IsRemoval act → own.guards ≡ [] → hunt_batch own act ≡ removal []
empty_batch (Insert x) own removes none = absurd removes
empty_batch Remove own removes none = ap removal none
empty_batch (RemoveBelow limit) own removes none = ap (removal_below limit) none

abbrev emptied_of : HuntPart → List Guard → List Guard
emptied_of own gs = (after_removal (with_guards own gs)).guards

pub empty_part : (act : Act) (own : HuntPart) → IsRemoval act → own.guards ≡ [] → own.size_counted ≡ 0 → after_draw own act ≡ own
empty_part (Insert x) own removes none zero_size = absurd removes
empty_part Remove own removes none zero_size = λ j. record own { guards = (ap (emptied_of own) none ∙ sym none) j; size_counted = (ap (λ (z : ℕ). z - 1) zero_size ∙ sym zero_size) j }
empty_part (RemoveBelow limit) own removes none zero_size = ap (λ (gs : List Guard). after_removal_below limit gs own) none

-- a removal that may take the root's entry
pub gets_batch : (act : Act) (e : Entry) (g : Guard) (gs : List Guard) (own : HuntPart) → own.guards ≡ g ∷ gs → entry_at g.counted ≡ e → MayGet act e
    → hunt_batch own act ≡ removal (g ∷ gs)
gets_batch (Insert x) e g gs own guards is may = absurd may
gets_batch Remove e g gs own guards is may = ap removal guards
gets_batch (RemoveBelow limit) e g gs own guards is may = ap (removal_below limit) guards
    ∙ ap (λ (b : Bool). cond {A = Batch} b (record { before = flight_at g.counted; reply = replies.Above; after = [] }) (removal (g ∷ gs)))
    (ap (λ (z : Entry). leb limit z.key) is ∙ lt-leb limit e.key may)

pub gets_part : (act : Act) (e : Entry) (g : Guard) (gs : List Guard) (own : HuntPart) → own.guards ≡ g ∷ gs → entry_at g.counted ≡ e → MayGet act e
    → after_draw own act ≡ after_removal own
gets_part (Insert x) e g gs own guards is may = absurd may
gets_part Remove e g gs own guards is may = refl
gets_part (RemoveBelow limit) e g gs own guards is may = ap (λ (l : List Guard). after_removal_below limit l own) guards
    ∙ ap (λ (b : Bool). cond {A = HuntPart} b (with_guards own (settled own.guards)) (after_removal own))
    (ap (λ (z : Entry). leb limit z.key) is ∙ lt-leb limit e.key may)

-- one that may not
abbrev pub above : Guard → Batch
above g = record { before = flight_at g.counted; reply = replies.Above; after = [] }

pub bars_batch : (limit : ℕ) (e : Entry) (g : Guard) (gs : List Guard) (own : HuntPart) → own.guards ≡ g ∷ gs → entry_at g.counted ≡ e → limit ≤ e.key
    → hunt_batch own (RemoveBelow limit) ≡ above g
bars_batch limit e g gs own guards is high = ap (removal_below limit) guards
    ∙ ap (λ (b : Bool). cond {A = Batch} b (above g) (removal (g ∷ gs))) (ap (λ (z : Entry). leb limit z.key) is ∙ le-leb limit e.key high)

pub bars_part : (limit : ℕ) (e : Entry) (g : Guard) (gs : List Guard) (own : HuntPart) → own.guards ≡ g ∷ gs → entry_at g.counted ≡ e → limit ≤ e.key
    → after_draw own (RemoveBelow limit) ≡ with_guards own (settled own.guards)
bars_part limit e g gs own guards is high = ap (λ (l : List Guard). after_removal_below limit l own) guards
    ∙ ap (λ (b : Bool). cond {A = HuntPart} b (with_guards own (settled own.guards)) (after_removal own))
    (ap (λ (z : Entry). leb limit z.key) is ∙ le-leb limit e.key high)

module _ (k : Limits) (id : ℕ) (v : View HuntPart) where
  -- a draw of this batch, whose own part is this
  abbrev MayPlace : Act → ℕ → Batch → HuntPart → Type 0
  MayPlace act n b own = (length (marks_of v.post.number act b) ≡ n)
      × ((s : Table HuntPart) (h : Holds hunt_rule k s) → Stands hunt_rule s id v → Places hunt_rule k id v act b own (slice_index s.words 0 + n) s h)

  pub may_empty : (act : Act) → IsRemoval act → 0 < v.post.number → v.post.owed ≡ [] → v.post.own.climbing ≡ 0 → Contains v.post.locks heap_lock → v.post.own.size_counted ≡ 0 → v.post.own.guards ≡ []
      → MayDraw hunt_rule k id v act 1
  may_empty act removes positive owed idle locked none_there guards =
      subst (λ (b : Batch). MayPlace act 1 b (after_draw v.post.own act)) (sym (empty_batch act v.post.own removes guards))
      (refl, λ s h at. places_empty k s h id v at act (slice_index s.words 0 + 1) removes positive owed idle locked none_there (after_draw v.post.own act) (empty_part act v.post.own removes guards none_there))

  pub may_get : (g f : Guard) (act : Act) (e l : Entry) (n : ℕ) → v.post.own.guards ≡ g ∷ f ∷ [] → g.node ≡ 1 → n ≡ 1 + length (flight_at g.counted) + length (flight_at f.counted)
      → 0 < v.post.number → v.post.owed ≡ [] → v.post.own.climbing ≡ 0 → Contains v.post.locks heap_lock → 2 ≤ v.post.own.size_counted → f.node ≡ v.post.own.size_counted
      → HasWord g.counted e → HasWord f.counted l → MayGet act e → MayDraw hunt_rule k id v act n
  may_get g f act e l n guards root long positive owed idle locked some_left last word last_word may =
      let is = has_entry g.counted e word in
      subst (λ (b : Batch). MayPlace act n b (after_draw v.post.own act)) (sym (gets_batch act e g (f ∷ []) v.post.own guards is may))
      (subst (λ (own : HuntPart). MayPlace act n (removal (g ∷ f ∷ [])) own) (sym (gets_part act e g (f ∷ []) v.post.own guards is may)) (
        (let m = marks_long v.post.number act (removal (g ∷ f ∷ [])) in omega arith),
        λ s h at. places_got k s h id v at g f guards root act e l (slice_index s.words 0 + n) positive owed idle locked some_left last word last_word may,
      ))

  pub may_get_last : (g : Guard) (act : Act) (e : Entry) (n : ℕ) → v.post.own.guards ≡ g ∷ [] → g.node ≡ 1 → n ≡ 1 + length (flight_at g.counted)
      → 0 < v.post.number → v.post.owed ≡ [] → v.post.own.climbing ≡ 0 → Contains v.post.locks heap_lock → v.post.own.size_counted ≡ 1
      → HasWord g.counted e → MayGet act e → MayDraw hunt_rule k id v act n
  may_get_last g act e n guards root long positive owed idle locked one word may =
      let is = has_entry g.counted e word in
      subst (λ (b : Batch). MayPlace act n b (after_draw v.post.own act)) (sym (gets_batch act e g [] v.post.own guards is may))
      (subst (λ (own : HuntPart). MayPlace act n (removal (g ∷ [])) own) (sym (gets_part act e g [] v.post.own guards is may)) (
        (let m = marks_long v.post.number act (removal (g ∷ [])) in omega arith),
        λ s h at. places_last k s h id v at g guards root act e (slice_index s.words 0 + n) positive owed idle locked one word may,
      ))

  pub may_bar : (g : Guard) (limit : ℕ) (e : Entry) (n : ℕ) → v.post.own.guards ≡ g ∷ [] → g.node ≡ 1 → n ≡ 1 + length (flight_at g.counted)
      → 0 < v.post.number → v.post.owed ≡ [] → v.post.own.climbing ≡ 0 → Contains v.post.locks heap_lock → 1 ≤ v.post.own.size_counted
      → HasWord g.counted e → limit ≤ e.key → MayDraw hunt_rule k id v (RemoveBelow limit) n
  may_bar g limit e n guards root long positive owed idle locked some_left word high =
      let is = has_entry g.counted e word in
      subst (λ (b : Batch). MayPlace (RemoveBelow limit) n b (after_draw v.post.own (RemoveBelow limit))) (sym (bars_batch limit e g [] v.post.own guards is high))
      (subst (λ (own : HuntPart). MayPlace (RemoveBelow limit) n (above g) own) (sym (bars_part limit e g [] v.post.own guards is high)) (
        (let m = marks_long v.post.number (RemoveBelow limit) (above g) in omega arith),
        λ s h at. places_above k s h id v at g guards root limit e (slice_index s.words 0 + n) positive owed idle locked some_left word high,
      ))
