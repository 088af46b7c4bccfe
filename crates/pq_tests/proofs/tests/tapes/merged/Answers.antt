use Rattle.std.proofs.Common.{◌≡◌, ℕ, ◌<◌, [], ◌∷◌, refl, subst, ap, sym, arith}
use Rattle.std.specs.List.{IsDistinct}
use Rattle.std.proofs.lemmas.List.Elements.{All-from_recursion}
use Rattle.pq_model.specs.declared.marks.Act.TheVariants.{Remove}
use Rattle.pq_model.specs.declared.marks.Reply.TheVariants.{Empty, Full}
use Rattle.pq_model.specs.declared.passes.Lane.{Lane}
use Rattle.pq_model.specs.Passes.{call, lane}
use Rattle.pq_tape.specs.Tapes.{Taped, IsComplete}
use Rattle.pq_tests.proofs.tests.tapes.merged.Goals as goal

abbrev first_lane : Lane
first_lane = lane 1 (call 0 Remove Empty ∷ call 3 Remove Full ∷ [])

abbrev second_lane : Lane
second_lane = lane 2 (call 2 Remove Empty ∷ call 1 Remove Full ∷ [])

abbrev taped : Lane → ℕ → Taped
taped l room = record { lane = l; room = room }

-- the places are 0, 3, 2 and 1
four_places : (j k : ℕ) → IsComplete (taped first_lane j ∷ taped second_lane k ∷ [])
unfolding IsDistinct
four_places j k = record {
  below = All-from_recursion (λ (p : ℕ). p < 4) (0 ∷ 3 ∷ 2 ∷ 1 ∷ []) (omega arith, (omega arith, (omega arith, (omega arith, tt))));
  once = ((refl, (refl, (refl, tt))), ((refl, (refl, tt)), ((refl, tt), (tt, tt))));
}

complete : (one two : Taped) → one.lane ≡ first_lane → two.lane ≡ second_lane → IsComplete (one ∷ two ∷ [])
complete one two e f =
    let a : taped first_lane one.room ≡ one = ap (λ (l : Lane). taped l one.room) (sym e) in
    let b : taped second_lane two.room ≡ two = ap (λ (l : Lane). taped l two.room) (sym f) in
    subst (λ (t : Taped). IsComplete (t ∷ two ∷ [])) a (subst (λ (t : Taped). IsComplete (taped first_lane one.room ∷ t ∷ [])) b (four_places one.room two.room))

pub merge-requires : goal.merge-requires
merge-requires c = rw c.in_ok-vec.ensures.items (complete c.in_ok-one.one c.in_ok-two.two c.in_ok-one.ensures c.in_ok-two.ensures)
