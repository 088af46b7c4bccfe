-- The canonical proof of what is pending.
use Rattle.std.proofs.Common.{◌≡◌, ℕ, zero, suc, ◌+◌, ◌-◌, ◌≤◌, Bool, true, false, List, [], ◌∷◌, ◌++◌, map, inl, inr, refl, sym, ap, ◌∙◌, length, arith}
use Rattle.std.specs.Prelude.{not, nat_le}
use Rattle.std.specs.List.{flat_map}
use Rattle.std.proofs.lemmas.Bool.{cases_lt}
use Rattle.std.proofs.lemmas.Bool.Decides.{leb_tells}
use Rattle.std.proofs.lemmas.Grind.{flat_map-append}
use Rattle.std.proofs.lemmas.List.{append-nil, length_push, length-append}
use Rattle.bb_problem.specs.Tree.{Tree, below}
use Rattle.bb_proof.specs.Tokens.{canonical_from, canonical, names_below, behind}

-- the canonical proof from a node on, whatever its depth
abbrev pub canonical_at : Tree → ℕ → List ℕ → List Bool
canonical_at tree cost name = canonical_from tree cost (tree.height - length name) name

-- and of all nodes that are pending
abbrev pub canonical_all : Tree → ℕ → List (List ℕ) → List Bool
canonical_all tree cost pending = flat_map (canonical_at tree cost) pending

closed_at : (tree : Tree) (cost : ℕ) (more : ℕ) (name : List ℕ) → nat_le cost (tree.bound name) ≡ true → canonical_from tree cost more name ≡ false ∷ []
closed_at tree cost zero name h = rw h refl
closed_at tree cost (suc more) name h = rw h refl

open_at : (tree : Tree) (cost : ℕ) (more : ℕ) (name : List ℕ) → nat_le cost (tree.bound name) ≡ false → canonical_from tree cost (suc more) name ≡ true ∷ flat_map (λ k. canonical_from tree cost more (below name k)) (tree.children name)
open_at tree cost more name h = rw h refl

open_last : (tree : Tree) (cost : ℕ) (name : List ℕ) → nat_le cost (tree.bound name) ≡ false → canonical_from tree cost zero name ≡ true ∷ []
open_last tree cost name h = rw h refl

-- the children's, one after the other
of_children : (tree : Tree) (cost more : ℕ) (name ks : List ℕ) → tree.height - (length name + 1) ≡ more → flat_map (λ k. canonical_from tree cost more (below name k)) ks ≡ canonical_all tree cost (map (below name) ks)
of_children tree cost more name [] e = refl
of_children tree cost more name (k ∷ ks) e =
    let deep : more ≡ tree.height - length (below name k) = omega (arith, e, length_push name k) in
    ap (λ m. canonical_from tree cost m (below name k) ++ flat_map (λ j. canonical_from tree cost more (below name j)) ks) deep
    ∙ ap (λ xs. canonical_at tree cost (below name k) ++ xs) (of_children tree cost more name ks e)

opened : (tree : Tree) (cost : ℕ) → ((name : List ℕ) → tree.height ≤ length name → tree.children name ≡ []) → (name : List ℕ) → nat_le cost (tree.bound name) ≡ false
    → canonical_at tree cost name ≡ true ∷ canonical_all tree cost (names_below tree name)
opened tree cost ends name h =
    elim (cases_lt (length name) tree.height) [
      | inl inside ↦
          let e : tree.height - length name ≡ suc (tree.height - (length name + 1)) = omega (arith, inside) in
          ap (λ m. canonical_from tree cost m name) e ∙ open_at tree cost (tree.height - (length name + 1)) name h
          ∙ ap (λ ts. true ∷ ts) (of_children tree cost (tree.height - (length name + 1)) name (tree.children name) refl)
      | inr past ↦
          let e : tree.height - length name ≡ zero = omega (arith, past) in
          ap (λ m. canonical_from tree cost m name) e ∙ open_last tree cost name h
          ∙ ap (λ ks. true ∷ canonical_all tree cost (map (below name) ks)) (sym (ends name past))
    ]

-- the next node's token, and what is pending behind it
pub canonical-next : (tree : Tree) (cost : ℕ) → ((name : List ℕ) → tree.height ≤ length name → tree.children name ≡ []) → (name : List ℕ) (rest : List (List ℕ)) (token : Bool)
    → token ≡ not (nat_le cost (tree.bound name)) → canonical_all tree cost (name ∷ rest) ≡ token ∷ canonical_all tree cost (behind tree name token rest)
canonical-next tree cost ends name rest token is =
    elim (leb_tells cost (tree.bound name)) [
      | inl high ↦
          let e : token ≡ false = is ∙ ap not (high.0) in
          rw e (ap (λ ts. ts ++ canonical_all tree cost rest) (closed_at tree cost (tree.height - length name) name (high.0)))
      | inr low ↦
          let e : token ≡ true = is ∙ ap not (low.0) in
          rw e (ap (λ ts. ts ++ canonical_all tree cost rest) (opened tree cost ends name (low.0))
          ∙ ap (λ ts. true ∷ ts) (sym (flat_map-append (canonical_at tree cost) (names_below tree name) rest)))
    ]

some_tokens : (tree : Tree) (cost more : ℕ) (name : List ℕ) → 1 ≤ length (canonical_from tree cost more name)
some_tokens tree cost zero name = omega arith
some_tokens tree cost (suc more) name =
    elim (leb_tells cost (tree.bound name)) [
      | inl high ↦ omega (arith, ap length (closed_at tree cost (suc more) name (high.0)))
      | inr low ↦ omega (arith, ap length (open_at tree cost more name (low.0)))
    ]

pub some_pending : (tree : Tree) (cost : ℕ) (pending : List (List ℕ)) → (pending ≡ [] → ⊥) → 1 ≤ length (canonical_all tree cost pending)
some_pending tree cost [] some = absurd (some refl)
some_pending tree cost (name ∷ rest) some =
    omega (arith, some_tokens tree cost (tree.height - length name) name, length-append (canonical_at tree cost name) (canonical_all tree cost rest))

-- at the root, it is the whole
pub canonical-root : (tree : Tree) (cost : ℕ) → canonical tree cost ≡ canonical_all tree cost ([] ∷ [])
canonical-root tree cost =
    let e : tree.height ≡ tree.height - 0 = omega arith in
    ap (λ m. canonical_from tree cost m []) e ∙ sym (append-nil (canonical_at tree cost []))
