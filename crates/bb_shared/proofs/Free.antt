-- What a seat may put under after a draw and after a put, and when it may draw again.
use Rattle.std.proofs.Common.{◌≢◌, ℕ, ◌+◌, ◌<◌, ◌≤◌, sym, refl, ap, ◌∙◌, subst, ⊎_elim, arith, true}
use Rattle.std.specs.Prelude.{Contains}
use Rattle.std.proofs.lemmas.List.Elements.{Contains-push, Contains-push_cases}
use Rattle.pq_numbers.specs.declared.draws.Draw.{Draw}
use Rattle.pq_numbers.specs.Draws.{draw_of}
use Rattle.bb_shared.specs.declared.store.drawn.Drawn.TheVariants.{First}
use Rattle.bb_shared.specs.declared.store.stored.Numbered.{Numbered}
use Rattle.bb_shared.specs.declared.store.stored.Stored.{Stored}
use Rattle.bb_shared.specs.Stores.{numbered, with_put, HasNoOver, IsDrawn, IsFree}

module _ {N : Type 0} where
  pub drawn_free : (before now : Stored N) (o count limit number : ℕ) → IsDrawn before count limit (First o) now → o ≤ number → number < o + count → IsFree now number
  drawn_free before now o count limit number drawn from to =
      let d : Draw = draw_of o count true in let low = drawn.2 in
      subst (λ (s : Stored N). IsFree s number) (sym drawn.3) (record {
        draw = d;
        drawn = Contains-push before.draws d;
        good = refl;
        from = from;
        to = to;
        unput = λ p c e. let lt = low p c in absurd (omega arith);
      })

  pub may_draw_again : (before now : Stored N) (o count limit : ℕ) → HasNoOver before → IsDrawn before count limit (First o) now → HasNoOver now
  may_draw_again before now o count limit under drawn e has = ⊎_elim
      (λ t. under e t)
      (λ t. ap (λ (z : Draw). z.within) (sym t))
      (Contains-push_cases before.draws (draw_of o count true) e (subst (λ (s : Stored N). Contains s.draws e) drawn.3 has))

  pub stays_free : (s : Stored N) (number other : ℕ) (node : N) → IsFree s number → number ≢ other → IsFree (with_put s (numbered other node)) number
  stays_free s number other node free ne = record {
    draw = free.draw;
    drawn = free.drawn;
    good = free.good;
    from = free.from;
    to = free.to;
    unput = λ p c e. ⊎_elim (λ t. free.unput p t e) (λ t. ne (sym e ∙ ap (λ (z : Numbered N). z.number) (sym t))) (Contains-push_cases s.puts (numbered other node) p c);
  }
