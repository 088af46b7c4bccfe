-- The facts of the chain stay.
use Rattle.std.proofs.Common.{◌≡◌, ℕ, ◌<◌, ◌≤◌, List, [], ◌∷◌, ◌++◌, get_or, set, sym, ap, ◌∙◌, subst, inl, inr, ⊎_elim, arith, Contains}
use Rattle.std.proofs.lemmas.List.Sums.{sum_by_push}
use mathlib.Core.Option.{some}
use lib.ListN.{get_elem?}
use Rattle.atomic_table.proofs.Lists.{at_set, at_snoc}
use Rattle.pq_seats.specs.declared.views.Post.{Post}
use Rattle.pq_seats.proofs.Lists.{sum_kept, in_first, in_later}
use Rattle.pq_pool.specs.declared.views.PoolState.{PoolState}
use Rattle.pq_pool.specs.Layout.{builder_word, next_word}
use Rattle.pq_pool.specs.States.{IsInUse}
use Rattle.pq_chunk.specs.declared.views.ChunkView.{ChunkView}
use Rattle.pq_chunk.specs.declared.views.BuilderView.{BuilderView}
use Rattle.pq_chunk.specs.Layout.{place_word, low_word, high_word}
use Rattle.pq_chunk.specs.Places.{IsSealed, chunk_weight}
use Rattle.pq_chunk.specs.Views.{times, outside_of, idle_builder}
use Rattle.pq_chunk.specs.Chain.{ChainFacts, Joined, Replaced, Leads, Ends, live_one}

-- the link and the bounds of a chunk are as they were
pub record KeepsLinks (words words' : List ℕ) (c : ℕ) : Type 0 where
  pub next : get_or words' (next_word c) 0 ≡ get_or words (next_word c) 0
  pub low : get_or words' (low_word c) 0 ≡ get_or words (low_word c) 0
  pub high : get_or words' (high_word c) 0 ≡ get_or words (high_word c) 0

-- and so are the places that are In or Frozen
abbrev pub KeepsSealed : List ℕ → List ℕ → Type 0
KeepsSealed words words' = (c i : ℕ) → i < 64 → IsSealed (get_or words (place_word c i) 0) → get_or words' (place_word c i) 0 ≡ get_or words (place_word c i) 0

pub joined_stays : (words words' : List ℕ) (c : ℕ) (bs : List ℕ) → ((b : ℕ) → Contains (c ∷ bs) b → KeepsLinks words words' b) → Joined words c bs → Joined words' c bs
joined_stays words words' c [] same j = let s = same c (in_first c []) in (s.next ∙ j.0, s.high ∙ j.1)
joined_stays words words' c (b ∷ bs) same j = let s = same c (in_first c (b ∷ bs)) in let r = same b (in_later c b (b ∷ bs) (in_first b bs)) in
    let high = s.high in let low = r.low in let top = r.high in let j1 = j.1 in let j2 = j.2 in
    (s.next ∙ j.0, omega arith, omega arith, joined_stays words words' b bs (λ e has. same e (in_later c e (b ∷ bs) has)) j.3)

module _ (chunks : List ℕ) (old : Replaced) (words words' : List ℕ) (same : (c : ℕ) → KeepsLinks words words' c) (c : ℕ) where
  pub leads_stays : Leads chunks old words c → Leads chunks old words' c
  leads_stays l = record {
    next = l.next;
    links = (same c).next ∙ l.links;
    insert = l.insert;
    meets = (same l.next).low ∙ (l.meets ∙ sym (same c).high);
  }

  pub ends_stays : Ends words c → Ends words' c
  ends_stays e = ((same c).next ∙ e.0, (same c).high ∙ e.1)

module _ (counted : PoolState) (first : ℕ) (chunks : List ℕ) (old : Replaced) (words : List ℕ) (posts : List (Post ChunkView)) (t : ChainFacts counted first chunks old words posts) where
  pub chain_kept : (counted' : PoolState) (words' : List ℕ) (id : ℕ) (p p' : Post ChunkView) → get_elem? posts id ≡ some p
      → ((c : ℕ) → live_one counted' c ≡ live_one counted c) → ((c : ℕ) → IsInUse counted' c → IsInUse counted c)
      → ((c : ℕ) → KeepsLinks words words' c) → KeepsSealed words words'
      → ((c : ℕ) → Contains chunks c → chunk_weight (λ _. 1) words c ≤ chunk_weight (λ _. 1) words' c)
      → p'.own.builder.outside ≡ p.own.builder.outside → (¬ Contains p'.locks builder_word → p'.own.builder ≡ idle_builder)
      → ChainFacts counted' first chunks old words' (set posts id p')
  chain_kept counted' words' id p p' at live in_use same kept fills outside idle = record {
    joined = joined_stays words words' first chunks (λ b has. same b) t.joined;
    one = t.one;
    filled = λ c has ne. let a = t.filled c has (λ z. ne ((same c).next ∙ z)) in let b = fills c has in omega arith;
    lives = λ c. let a = t.lives c in let b = live c in let s = sum_kept (outside_of c) posts id p p' at (ap (times c) outside) in omega arith;
    idle = λ j q to. ⊎_elim (λ e. subst (λ (z : Post ChunkView). ¬ Contains z.locks builder_word → z.own.builder ≡ idle_builder) e.1 idle) (λ r. t.idle j q r.1) (at_set posts id j p' q to);
    sealed = λ c has used i lt. let s = t.sealed c has (in_use c used) i lt in subst IsSealed (sym (kept c i lt s)) s;
    inserts_lead = λ c has used. ⊎_elim (λ l. inl (leads_stays chunks old words words' same c l)) (λ e. inr (ends_stays chunks old words words' same c e)) (t.inserts_lead c has (in_use c used));
    firsts_lead = λ c has used. leads_stays chunks old words words' same c (t.firsts_lead c has (in_use c used));
  }

  pub chain_come : (p' : Post ChunkView) → p'.own.builder ≡ idle_builder → ChainFacts counted first chunks old words (posts ++ p' ∷ [])
  chain_come p' idle = record {
    joined = t.joined;
    one = t.one;
    filled = t.filled;
    lives = λ c. let a = t.lives c in let s = sum_by_push (outside_of c) posts p' in let z : outside_of c p' ≡ 0 = ap (λ (z : BuilderView). times c z.outside) idle in omega arith;
    idle = λ j q to. ⊎_elim (λ a. t.idle j q a) (λ e. subst (λ (z : Post ChunkView). ¬ Contains z.locks builder_word → z.own.builder ≡ idle_builder) e (λ _. idle)) (at_snoc posts p' q j to);
    sealed = t.sealed;
    inserts_lead = t.inserts_lead;
    firsts_lead = t.firsts_lead;
  }
