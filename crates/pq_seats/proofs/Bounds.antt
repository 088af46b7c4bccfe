-- No word of the base passes its field.
use Rattle.std.proofs.Common.{◌≡◌, ◌⊎◌, ℕ, List, map, get_or, set, subst, inl, inr, ⊎_elim, arith, Contains}
use native.Mathlib.Decide.{ℕ_discrete}
use mathlib.Core.Logic.{dite}
use Rattle.atomic_table.proofs.Lists.{at_map}
use Rattle.pq_model.specs.declared.marks.Act.TheVariants.{Insert}
use Rattle.pq_model.specs.declared.marks.Reply.TheVariants.{Done}
use Rattle.pq_model.specs.History.{IsSeat}
use Rattle.pq_model.specs.Passes.{call}
use Rattle.pq_seats.specs.declared.views.Limits.{Limits}
use Rattle.pq_seats.specs.declared.views.Post.{Post}
use Rattle.pq_seats.specs.declared.views.View.{View}
use Rattle.pq_seats.specs.Views.{post_of, empty_post}
use Rattle.pq_seats.specs.Letters.{owed_count, owed_sum, letter_count, letter_sum}
use Rattle.pq_seats.specs.Rules.{Table, Rule, Holds, Stands}
use Rattle.pq_seats.specs.Laws.{IsSmall, Fields}
use Rattle.pq_seats.proofs.Lists.{sum_one, sum_set}
use Rattle.pq_seats.proofs.Lengths.{few_marks}
use Rattle.pq_seats.proofs.Waiting.{no_sum}
use Rattle.pq_seats.proofs.Leaving.{sum_of_one, place_within, lane_at, one_letter}

module _ {O : Type 0} (R : Rule O) (k : Limits) (s : Table O) (h : Holds R k s) where
  abbrev ps : List (Post O)
  ps = map post_of s.views

  -- what a seat's letters add up to is none, Back, or a place of the history plus 1
  sum_small : (n : ℕ) → IsSeat k.seats n → (letter_count n s.words ps ≡ 0) ⊎ IsSmall (letter_sum n s.words ps)
  sum_small n seat = let r = lane_at R k s h n seat in
      subst (λ (z : ℕ). (letter_count z s.words ps ≡ 0) ⊎ IsSmall (letter_sum z s.words ps)) r.5
      (⊎_elim (λ t. inl t.none) (⊎_elim
      (λ t. inr (inl t.letter))
      (λ t. let early = place_within r.2.number h.history r.2.calls (call t.place (Insert t.entry) Done) t.all in let letter = t.letter in let few = few_marks R k s h in inr (inr (omega arith))))
      ((h.each r.0 r.1 r.3).calls r.2 r.4))

  written : (n : ℕ) → IsSeat k.seats n → IsSmall (get_or s.words n 0)
  written n seat = dite (ℕ_discrete (get_or s.words n 0) 0)
      (λ e. inr (omega arith))
      (λ ne. let most = one_letter R k s h n seat in let none_owed = no_sum n ps (omega arith) in
      ⊎_elim (λ t. absurd (omega arith)) (λ t. subst IsSmall (omega arith) t) (sum_small n seat))

  -- who owes a seat a letter owes the only one
  owed : (j : ℕ) (v : View O) (x : ℕ × ℕ) → Stands R s j v → Contains v.post.owed x → IsSmall x.1
  owed j v x at has =
      let n = x.0 in
      let seat = ((h.each j v at).owes x has).0 in
      let pat = at_map post_of s.views j v at in
      let most = one_letter R k s h n seat in
      let mine = sum_of_one n x.1 v.post.owed has in
      let part = sum_one (λ (p : Post O). owed_count n p.owed) ps j v.post pat in
      let some_owed = mine.0 in
      let worth : owed_sum n v.post.owed ≡ x.1 = mine.1 (omega arith) in
      let least = sum_one (λ (p : Post O). owed_sum n p.owed) ps j v.post pat in
      let others = sum_set (λ (p : Post O). owed_count n p.owed) ps j v.post (empty_post R.idle 0) pat in
      let others_worth = sum_set (λ (p : Post O). owed_sum n p.owed) ps j v.post (empty_post R.idle 0) pat in
      let rest = no_sum n (set ps j (empty_post R.idle 0)) (omega arith) in
      let no_word : get_or s.words n 0 ≡ 0 = omega arith in
      ⊎_elim (λ t. absurd (omega arith)) (λ t. subst IsSmall (omega arith) t) (sum_small n seat)

  pub fields : Fields R k s h
  fields = record { history = few_marks R k s h; written = written; owed = owed }
