-- The notes of the builder stay.
use Rattle.std.proofs.Common.{◌≡◌, ◌≢◌, ℕ, ◌≤◌, List, [], ◌∷◌, ◌++◌, get_or, set, sym, ap, ◌∙◌, subst, inl, inr, ⊎_elim, arith, Contains}
use mathlib.Core.Option.{some}
use lib.ListN.{get_elem?}
use Rattle.atomic_table.proofs.Lists.{at_set, at_snoc}
use Rattle.pq_seats.specs.declared.views.Post.{Post}
use Rattle.pq_seats.proofs.Lists.{not_in}
use Rattle.pq_pool.specs.declared.views.PoolState.{PoolState}
use Rattle.pq_pool.specs.Layout.{state_word}
use Rattle.pq_pool.specs.States.{IsBuilt}
use Rattle.pq_chunk.specs.declared.views.ChunkView.{ChunkView}
use Rattle.pq_chunk.specs.declared.views.BuilderView.{BuilderView}
use Rattle.pq_chunk.specs.Chain.{Replaced}
use Rattle.pq_chunk.specs.Views.{idle_builder}
use Rattle.pq_chunk.specs.Building.{BuilderFacts, IsNote}

-- a note is of a word of a chunk, and not of its state
pub note_far : (chunks : ℕ) (counted : PoolState) (old : Replaced) (outside words : List ℕ) (i x : ℕ) → IsNote chunks counted old outside words i x → 50 ≤ i
note_far chunks counted old outside words i x n = ⊎_elim
    (λ b. ⊎_elim (λ e. omega arith) (λ r. ⊎_elim (λ e. omega arith) (λ e. omega arith) r) b)
    (λ r. ⊎_elim (λ f. let e = f.2 in omega arith) (λ o. ⊎_elim (λ e. omega arith) (λ q. let e = q.2 in omega arith) o.1) r)
    n.steady

pub note_no_state : (chunks : ℕ) (counted : PoolState) (old : Replaced) (outside words : List ℕ) (i x : ℕ) → IsNote chunks counted old outside words i x → (c : ℕ) → i ≢ state_word c
note_no_state chunks counted old outside words i x n c z = ⊎_elim
    (λ b. ⊎_elim (λ e. omega arith) (λ r. ⊎_elim (λ e. omega arith) (λ e. omega arith) r) b)
    (λ r. ⊎_elim (λ f. let e = f.2 in let lt = f.1 in omega arith) (λ o. ⊎_elim (λ e. omega arith) (λ q. let e = q.2 in let lt = q.1 in omega arith) o.1) r)
    n.steady

-- a note stays whose word does, where new chunks stay new
pub note_stays : (chunks : ℕ) (counted counted' : PoolState) (old : Replaced) (outside words words' : List ℕ) (i x : ℕ) → ((c : ℕ) → IsBuilt counted c → IsBuilt counted' c)
    → get_or words' i 0 ≡ get_or words i 0 → IsNote chunks counted old outside words i x → IsNote chunks counted' old outside words' i x
note_stays chunks counted counted' old outside words words' i x built same n = record {
  value = same ∙ n.value;
  chunk = n.chunk;
  within = n.within;
  steady = ⊎_elim (λ b. inl b) (λ r. inr (⊎_elim (λ f. inl f) (λ o. inr (⊎_elim (λ q. inl (built n.chunk q)) (λ q. inr q) o.0, o.1)) r)) n.steady;
}

module _ (chunks : ℕ) (counted : PoolState) (old : Replaced) (words : List ℕ) (posts : List (Post ChunkView)) (t : BuilderFacts chunks counted old words posts) where
  -- the frame
  pub notes_kept : (counted' : PoolState) (words' : List ℕ) (id : ℕ) (p p' : Post ChunkView) → get_elem? posts id ≡ some p → ((c : ℕ) → IsBuilt counted c → IsBuilt counted' c)
      → ((j : ℕ) (q : Post ChunkView) → get_elem? posts j ≡ some q → (i x : ℕ) → IsNote chunks counted old q.own.builder.outside words i x → get_or words' i 0 ≡ get_or words i 0) → p'.own.builder ≡ p.own.builder
      → BuilderFacts chunks counted' old words' (set posts id p')
  notes_kept counted' words' id p p' at built same builder = record {
    notes = λ j q to x has. ⊎_elim
        (λ e. let b : q.own.builder ≡ p.own.builder = ap (λ (z : Post ChunkView). z.own.builder) (sym e.1) ∙ builder in
        let n = t.notes id p at x (subst (λ (z : BuilderView). Contains z.notes x) b has) in
        subst (λ (z : BuilderView). IsNote chunks counted' old z.outside words' x.0 x.1) (sym b)
        (note_stays chunks counted counted' old p.own.builder.outside words words' x.0 x.1 built (same id p at x.0 x.1 n) n))
        (λ r. let n = t.notes j q r.1 x has in note_stays chunks counted counted' old q.own.builder.outside words words' x.0 x.1 built (same j q r.1 x.0 x.1 n) n)
        (at_set posts id j p' q to);
  }

  pub notes_come : (p' : Post ChunkView) → p'.own.builder ≡ idle_builder → BuilderFacts chunks counted old words (posts ++ p' ∷ [])
  notes_come p' idle = record {
    notes = λ j q to x has. ⊎_elim (λ a. t.notes j q a x has)
        (λ e. absurd (not_in x (subst (λ (z : BuilderView). Contains z.notes x) (ap (λ (z : Post ChunkView). z.own.builder) (sym e) ∙ idle) has)))
        (at_snoc posts p' q j to);
  }
