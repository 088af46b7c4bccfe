-- What the rule of the whole table says of who has a number, and of who has a lock.
use Rattle.std.proofs.Common.{◌≡◌, ◌≢◌, ℕ, map, get_or, ap, ◌∙◌, sym, subst, Contains}
use mathlib.Core.Option.{some}
use lib.ListN.{get_elem?}
use Rattle.pq_seats.specs.declared.views.Limits.{Limits}
use Rattle.pq_seats.specs.declared.views.Post.{Post}
use Rattle.pq_seats.specs.declared.views.View.{View}
use Rattle.pq_seats.specs.Views.{post_of}
use Rattle.pq_seats.specs.Rules.{Table, Rule, Holds, Stands}
use Rattle.pq_seats.proofs.Lists.{at_unmap}
use Rattle.pq_seats.proofs.Keeps.{one_number}

module _ {O : Type 0} (R : Rule O) (k : Limits) (s : Table O) (h : Holds R k s) (id : ℕ) (v : View O) (at : Stands R s id v) where
  -- two seats with one number are one
  pub one_seat : v.post.number ≢ 0 → (j : ℕ) (q : Post O) → get_elem? (map post_of s.views) j ≡ some q → q.number ≡ v.post.number → j ≡ id
  one_seat ne j q to e = let b = at_unmap post_of s.views j q to in one_number R k s h id j v b.0 at b.1 ne (sym (ap (λ (z : Post O). z.number) b.2 ∙ e))

  -- nobody else has a lock that this seat has
  pub alone : (i : ℕ) → Contains v.post.locks i → (j : ℕ) (q : Post O) → j ≢ id → get_elem? (map post_of s.views) j ≡ some q → ¬ Contains q.locks i
  alone i has j q ne to has' =
      let b = at_unmap post_of s.views j q to in
      let mine = (h.each id v at).held i has in
      let other = (h.each j b.0 b.1).held i (subst (λ (z : Post O). Contains z.locks i) (sym b.2) has') in
      ne (one_number R k s h id j v b.0 at b.1 mine.2 (sym mine.1 ∙ other.1))

-- nobody has a lock whose word is 0
pub nobody_has : {O : Type 0} (R : Rule O) (k : Limits) (s : Table O) (h : Holds R k s) (i : ℕ) → get_or s.words i 0 ≡ 0 → (j : ℕ) (q : Post O) → get_elem? (map post_of s.views) j ≡ some q → ¬ Contains q.locks i
nobody_has R k s h i zero_word j q to has =
    let b = at_unmap post_of s.views j q to in
    let other = (h.each j b.0 b.1).held i (subst (λ (z : Post _). Contains z.locks i) (sym b.2) has) in
    other.2 (sym other.1 ∙ zero_word)
