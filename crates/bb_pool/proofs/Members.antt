-- What is a member of a list after one element more, of two lists together, of a filter or a map, and of a multiset after
-- an entry was added.
use Rattle.std.proofs.Common.{◌≡◌, ℕ, ◌<◌, Bool, true, zero, suc, List, [], ◌∷◌, ◌++◌, map, Some, refl, ap, subst, inl, inr, arith, get_or}
use Rattle.std.specs.Prelude.{All, Contains, nat_le, filter, ◌⊎◌, slice_get}
use Rattle.pq_words.specs.declared.entries.Entry.{Entry}
use Rattle.pq_words.specs.Entries.{raw_of}
use Rattle.pq_model.specs.Multiset.{add}
use Rattle.pq_model.proofs.Choices.{by_test}

pub none_in_empty : {X : Type 0} (x : X) → Contains [] x → ⊥
none_in_empty x (k, lt, is) = let below : k < 0 = lt in omega arith

pub Contains-here : {X : Type 0} (x : X) (xs : List X) → Contains (x ∷ xs) x
Contains-here x xs = (0, omega arith, refl)

pub Contains-there : {X : Type 0} (y x : X) (xs : List X) → Contains xs x → Contains (y ∷ xs) x
Contains-there y x xs (k, lt, is) = (suc k, omega arith, is)

pub Contains-cases : {X : Type 0} (y x : X) (xs : List X) → Contains (y ∷ xs) x → (y ≡ x) ⊎ Contains xs x
Contains-cases y x xs (zero, lt, is) = inl is
Contains-cases y x xs (suc k, lt, is) = inr (k, omega arith, is)

pub Contains-left : {X : Type 0} (x : X) (xs ys : List X) → Contains xs x → Contains (xs ++ ys) x
Contains-left x [] ys there = absurd (none_in_empty x there)
Contains-left x (y ∷ xs) ys there = elim (Contains-cases y x xs there) [ inl is ↦ subst (λ z. Contains (y ∷ (xs ++ ys)) z) is (Contains-here y (xs ++ ys)) | inr rest ↦ Contains-there y x (xs ++ ys) (Contains-left x xs ys rest) ]

pub Contains-right : {X : Type 0} (x : X) (xs ys : List X) → Contains ys x → Contains (xs ++ ys) x
Contains-right x [] ys there = there
Contains-right x (y ∷ xs) ys there = Contains-there y x (xs ++ ys) (Contains-right x xs ys there)

pub Contains-either : {X : Type 0} (x : X) (xs ys : List X) → Contains (xs ++ ys) x → Contains xs x ⊎ Contains ys x
Contains-either x [] ys there = inr there
Contains-either x (y ∷ xs) ys there = elim (Contains-cases y x (xs ++ ys) there) [
  | inl is ↦ inl (subst (λ z. Contains (y ∷ xs) z) is (Contains-here y xs))
  | inr rest ↦ elim (Contains-either x xs ys rest) [ inl a ↦ inl (Contains-there y x xs a) | inr b ↦ inr b ]
]

pub Contains-got : {X : Type 0} (xs : List X) (i : ℕ) (x : X) → slice_get xs i ≡ Some x → Contains xs x
Contains-got [] i x is = absurd (cc)
Contains-got (y ∷ xs) zero x is = let same : y ≡ x = cc in subst (λ z. Contains (y ∷ xs) z) same (Contains-here y xs)
Contains-got (y ∷ xs) (suc i) x is = Contains-there y x xs (Contains-got xs i x is)

pub Contains-map : {X Y : Type 0} (f : X → Y) (x : X) (xs : List X) → Contains xs x → Contains (map f xs) (f x)
Contains-map f x [] there = absurd (none_in_empty x there)
Contains-map f x (y ∷ xs) there = elim (Contains-cases y x xs there) [ inl is ↦ subst (λ z. Contains (map f (y ∷ xs)) (f z)) is (Contains-here (f y) (map f xs)) | inr rest ↦ Contains-there (f y) (f x) (map f xs) (Contains-map f x xs rest) ]

pub Contains-filter : {X : Type 0} (p : X → Bool) (x : X) (xs : List X) → p x ≡ true → Contains xs x → Contains (filter p xs) x
Contains-filter p x [] good there = there
Contains-filter {X} p x (y ∷ xs) good there = by_test (λ (l : List X). Contains l x) (p y) (y ∷ filter p xs) (filter p xs)
    (λ t. elim (Contains-cases y x xs there) [ inl is ↦ subst (λ z. Contains (y ∷ filter p xs) z) is (Contains-here y (filter p xs)) | inr rest ↦ Contains-there y x (filter p xs) (Contains-filter p x xs good rest) ])
    (λ t. elim (Contains-cases y x xs there) [ inl is ↦ absurd (let e : p y ≡ p x = ap p is in cc) | inr rest ↦ Contains-filter p x xs good rest ])

pub Contains-added : (e : Entry) (m : List Entry) → Contains (add e m) e
Contains-added e [] = Contains-here e []
Contains-added e (x ∷ xs) = by_test (λ (l : List Entry). Contains l e) (nat_le (raw_of e) (raw_of x)) (e ∷ x ∷ xs) (x ∷ add e xs)
    (λ _. Contains-here e (x ∷ xs)) (λ _. Contains-there x e (add e xs) (Contains-added e xs))

pub Contains-add : (e f : Entry) (m : List Entry) → Contains m f → Contains (add e m) f
Contains-add e f [] there = absurd (none_in_empty f there)
Contains-add e f (x ∷ xs) there = by_test (λ (l : List Entry). Contains l f) (nat_le (raw_of e) (raw_of x)) (e ∷ x ∷ xs) (x ∷ add e xs)
    (λ _. Contains-there e f (x ∷ xs) there)
    (λ _. elim (Contains-cases x f xs there) [ inl is ↦ subst (λ z. Contains (x ∷ add e xs) z) is (Contains-here x (add e xs)) | inr rest ↦ Contains-there x f (add e xs) (Contains-add e f xs rest) ])

-- what follows from two facts of each element
pub All-both : {X : Type 0} (P Q R : X → Type 0) (xs : List X) → ((x : X) → P x → Q x → R x) → All P xs → All Q xs → All R xs
All-both P Q R xs f p q k d lt = f (get_or xs k d) (p k d lt) (q k d lt)
