-- Numbers, names and the store: what one node more or one node less keeps.
use Rattle.std.proofs.Common.{◌≡◌, ℕ, ◌<◌, zero, suc, List, [], ◌∷◌, ◌++◌, length, set, Some, None, Option, refl, sym, ap, ◌∙◌, subst, arith}
use Rattle.std.specs.Prelude.{All, slice_get, nat_le}
use Rattle.std.proofs.lemmas.List.{get_or_append_left, get_or_push}
use Rattle.std.proofs.lemmas.List.Elements.{All-nil, All-head, All-tail}
use Rattle.std.proofs.lemmas.Option.{slice_get_within}
use Rattle.pq_words.specs.declared.entries.Entry.{Entry}
use Rattle.pq_words.specs.Entries.{raw_of}
use Rattle.pq_model.specs.Multiset.{add}
use Rattle.pq_model.proofs.Choices.{by_test}
use Rattle.pq_model.proofs.Multisets.{All-add}
use Rattle.bb_problem.specs.Meaning.{Meaning}
use Rattle.bb_pool.specs.Searching.{name_at, StandsFor, IdsDiffer}

pub slice_get-push : {X : Type 0} (xs : List X) (y : X) (n : ℕ) (x : X) → slice_get xs n ≡ Some x → slice_get (xs ++ y ∷ []) n ≡ Some x
slice_get-push [] y n x is = absurd (cc)
slice_get-push (z ∷ xs) y zero x is = is
slice_get-push (z ∷ xs) y (suc n) x is = slice_get-push xs y n x is

pub slice_get-new : {X : Type 0} (xs : List X) (y : X) → slice_get (xs ++ y ∷ []) (length xs) ≡ Some y
slice_get-new [] y = refl
slice_get-new (z ∷ xs) y = slice_get-new xs y

pub slice_get-set : {X : Type 0} (xs : List X) (i j : ℕ) (y : X) → (j ≡ i → ⊥) → slice_get (set xs i y) j ≡ slice_get xs j
slice_get-set [] i j y apart = refl
slice_get-set (x ∷ xs) zero zero y apart = absurd (apart refl)
slice_get-set (x ∷ xs) zero (suc j) y apart = refl
slice_get-set (x ∷ xs) (suc i) zero y apart = refl
slice_get-set (x ∷ xs) (suc i) (suc j) y apart = slice_get-set xs i j y (λ e. apart (ap (λ (n : ℕ). suc n) e))

pub name_at-push : (names : List (List ℕ)) (name : List ℕ) (n : ℕ) → n < length names → name_at (names ++ name ∷ []) n ≡ name_at names n
name_at-push names name n lt = get_or_append_left names (name ∷ []) [] n lt

pub name_at-new : (names : List (List ℕ)) (name : List ℕ) (n : ℕ) → length names ≡ n → name_at (names ++ name ∷ []) n ≡ name
name_at-new names name n is = get_or_push names name [] n is

pub id_within : {N P : Type 0} {m : Meaning N P} {names : List (List ℕ)} {store : List (Option N)} {e : Entry} → StandsFor m names store e → e.id < length store
id_within {store} {e} s = slice_get_within store e.id (Some s.node) s.stored

pub StandsFor-push : {N P : Type 0} {m : Meaning N P} {names : List (List ℕ)} {store : List (Option N)} {e : Entry} (name : List ℕ) (slot : Option N) → length names ≡ length store → StandsFor m names store e → StandsFor m (names ++ name ∷ []) (store ++ slot ∷ []) e
StandsFor-push {m} {names} {store} {e} name slot count s = let within : e.id < length names = omega (arith, id_within s) in
    let same : name_at names e.id ≡ name_at (names ++ name ∷ []) e.id = sym (name_at-push names name e.id within) in record {
      node = s.node;
      stored = slice_get-push store slot e.id (Some s.node) s.stored;
      named = subst (λ (n : List ℕ). m.stands s.node n) same s.named;
      keyed = s.keyed ∙ ap (λ (n : List ℕ). m.tree.bound n) same;
    }

pub StandsFor-set : {N P : Type 0} {m : Meaning N P} {names : List (List ℕ)} {store : List (Option N)} {e : Entry} (i : ℕ) → (e.id ≡ i → ⊥) → StandsFor m names store e → StandsFor m names (set store i None) e
StandsFor-set {store} {e} i apart s = record { node = s.node; stored = slice_get-set store i e.id None apart ∙ s.stored; named = s.named; keyed = s.keyed }

pub IdsDiffer-add : (e : Entry) (m : List Entry) → All (λ (f : Entry). f.id ≡ e.id → ⊥) m → IdsDiffer m → IdsDiffer (add e m)
IdsDiffer-add e [] apart differ = (All-nil (λ (f : Entry). f.id ≡ e.id → ⊥), tt)
IdsDiffer-add e (x ∷ xs) apart differ = by_test IdsDiffer (nat_le (raw_of e) (raw_of x)) (e ∷ x ∷ xs) (x ∷ add e xs)
    (λ _. (apart, differ))
    (λ _. let P : Entry → Type 0 = λ f. f.id ≡ e.id → ⊥ in
    (All-add (λ (f : Entry). f.id ≡ x.id → ⊥) e xs (λ is. All-head P x xs apart (sym is)) differ.0, IdsDiffer-add e xs (All-tail P x xs apart) differ.1))
