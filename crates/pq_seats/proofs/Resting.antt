-- When a seat is at rest.
use Rattle.std.proofs.Common.{◌≡◌, ℕ, sym, ap, ◌∙◌, subst}
use Rattle.pq_seats.specs.declared.views.Post.{Post}
use Rattle.pq_seats.specs.Views.{empty_post}
use Rattle.pq_seats.specs.Rules.{Rule, IsAtRest}

module _ {O : Type 0} (R : Rule O) where
  -- a seat that holds nothing, and whose own part is this one, which rests
  pub at_rest : (p : Post O) (own : O) (n : ℕ) → R.rests own → p ≡ empty_post own n → IsAtRest R p
  at_rest p own n rests is = record {
    bare = is ∙ ap (λ (q : Post O). empty_post q.own q.number) (sym is);
    rests = subst R.rests (sym (ap (λ (q : Post O). q.own) is)) rests;
  }

  -- what it has, where only this own part rests
  pub plain_at_rest : (p : Post O) (own : O) → (R.rests p.own → p.own ≡ own) → IsAtRest R p → p ≡ empty_post own p.number
  plain_at_rest p own only rest = rest.bare ∙ ap (λ (o : O). empty_post o p.number) (only rest.rests)
