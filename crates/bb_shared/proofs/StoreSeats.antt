-- What a seat has between the steps of a put and of a take.
use Rattle.std.proofs.Common.{◌≡◌, ℕ, zero, suc, ◌+◌, ◌++◌, replicate, ◌^◌, ◌<◌, ◌≤◌, Bool, leb, List, [], ◌∷◌, Some, None, Option, ap, ◌∙◌, sym, subst, refl, arith}
use Rattle.std.specs.Prelude.{Contains}
use Rattle.std.proofs.lemmas.Bool.{le-leb, lt-leb}
use Rattle.atomic_table.specs.Table.{Me, rest}
use Rattle.bb_shared.specs.declared.store.drawn.Drawn.TheVariants.{First, Over}
use Rattle.bb_shared.specs.declared.store.stored.Numbered.{Numbered}
use Rattle.bb_shared.specs.declared.store.stored.Stored.{Stored}
use Rattle.bb_shared.specs.declared.store.stored.StoreView.{StoreView}
use Rattle.pq_numbers.specs.Draws.{draw_of}
use Rattle.bb_shared.specs.Stores.{numbered, with_draw, IsDrawn}
use Rattle.bb_shared.specs.StoreRules.{having_put}

pub replicate-snoc : {A : Type 0} (n : ℕ) (x : A) → replicate n x ++ x ∷ [] ≡ replicate (n + 1) x
replicate-snoc zero x = refl
replicate-snoc {A} (suc n) x = let e : suc (n + 1) ≡ suc n + 1 = omega arith in ap (λ (l : List A). x ∷ l) (replicate-snoc n x) ∙ ap (λ (k : ℕ). replicate k x) e

abbrev pub first_held : {N : Type 0} → List (ℕ × Option N) → Option N
first_held [] = None
first_held (x ∷ xs) = x.1

abbrev pub Hand : Type 0 → Type 0
Hand N = Me (Option N) (StoreView N)

module _ {N : Type 0} where
  abbrev pub seat_of : StoreView N → List (ℕ × Option N) → Hand N
  seat_of v l = (v, l)

  -- a slot was taken, so the seat has it
  pub has_slot : (m : Hand N) (v : StoreView N) (x : ℕ) (o : Option N) (l : List (ℕ × Option N)) → m ≡ (v, (x, o) ∷ l) → m.1 ≡ (x, o) ∷ rest m.1
  has_slot m v x o l is = subst (λ (z : Hand N). z.1 ≡ (x, o) ∷ rest z.1) (sym is) refl

  -- and what was read of it is what was in it
  pub was_held : (m : Hand N) (v : StoreView N) (x y : ℕ) (o found : Option N) (l : List (ℕ × Option N)) → m ≡ (v, (x, o) ∷ l) → m.1 ≡ (y, found) ∷ rest m.1 → found ≡ o
  was_held m v x y o found l is read = sym (ap first_held read) ∙ ap (λ (z : Hand N). first_held z.1) is

  -- the slot was written
  pub rewritten : (m now : Hand N) (v : StoreView N) (x : ℕ) (o written : Option N) (l : List (ℕ × Option N)) → m ≡ (v, (x, o) ∷ l) → l ≡ [] → now ≡ (m.0, (x, written) ∷ rest m.1) → now ≡ (v, (x, written) ∷ [])
  rewritten m now v x o written l is none w = w ∙ (ap (λ (z : Hand N). seat_of z.0 ((x, written) ∷ rest z.1)) is ∙ ap (λ (z : List (ℕ × Option N)). seat_of v ((x, written) ∷ z)) none)

  -- and given back
  pub put_done : (m now : Hand N) (v : StoreView N) (x : ℕ) (node : N) → m ≡ (v, (x, Some node) ∷ []) → now ≡ (having_put m.0 (numbered x node), []) → now ≡ (having_put v (numbered x node), [])
  put_done m now v x node is done = done ∙ ap (λ (z : Hand N). seat_of (having_put z.0 (numbered x node)) []) is

  pub take_done : (m now : Hand N) (v : StoreView N) (x : ℕ) → m ≡ (v, (x, None) ∷ []) → now ≡ (m.0, rest m.1) → now ≡ (v, [])
  take_done m now v x is done = done ∙ ap (λ (z : Hand N). seat_of z.0 (rest z.1)) is

  -- what a draw answers, by the step that it made
  pub drawn_first : (before now : Stored N) (o count limit : ℕ) → o + count ≤ limit → before.front ≤ o → ((p : Numbered N) → Contains before.puts p → p.number < o) → now ≡ with_draw before (draw_of o count (leb (o + count) limit)) → IsDrawn before count limit (First o) now
  drawn_first before now o count limit within front puts is = (within, front, puts, is ∙ ap (λ (b : Bool). with_draw before (draw_of o count b)) (le-leb (o + count) limit within))

  pub drawn_over : (before now : Stored N) (o count limit : ℕ) → limit < o + count → before.front ≤ o → o + count < 2 ^ 33 → now ≡ with_draw before (draw_of o count (leb (o + count) limit)) → IsDrawn before count limit (Over (o + count)) now
  drawn_over before now o count limit beyond front few is = (beyond, o, refl, front, few, is ∙ ap (λ (b : Bool). with_draw before (draw_of o count b)) (lt-leb (o + count) limit beyond))
