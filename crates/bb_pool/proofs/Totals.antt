-- Totals over lists.
use Rattle.std.proofs.Common.{◌≡◌, ℕ, ◌+◌, ◌≤◌, Bool, false, List, [], ◌∷◌, length, map, refl, arith}
use Rattle.std.specs.Prelude.{All, nat_le, filter}
use Rattle.std.proofs.lemmas.List.Elements.{All-head, All-tail}
use Rattle.pq_words.specs.declared.entries.Entry.{Entry}
use Rattle.pq_words.specs.Entries.{raw_of}
use Rattle.pq_model.specs.Multiset.{add}
use Rattle.pq_model.proofs.Choices.{by_test}
use Rattle.bb_problem.specs.Tree.{total}

pub total-add : (f : Entry → ℕ) (e : Entry) (m : List Entry) → total f (add e m) ≡ f e + total f m
total-add f e [] = refl
total-add f e (x ∷ xs) = by_test (λ (l : List Entry). total f l ≡ f e + total f (x ∷ xs)) (nat_le (raw_of e) (raw_of x)) (e ∷ x ∷ xs) (x ∷ add e xs)
    (λ _. refl) (λ _. let rest = total-add f e xs in omega arith)

pub total-same : {X : Type 0} (f g : X → ℕ) (xs : List X) → All (λ (x : X). f x ≡ g x) xs → total f xs ≡ total g xs
total-same f g [] same = refl
total-same {X} f g (x ∷ xs) same = let first : f x ≡ g x = All-head (λ (y : X). f y ≡ g y) x xs same in
    let rest : total f xs ≡ total g xs = total-same f g xs (All-tail (λ (y : X). f y ≡ g y) x xs same) in omega arith

pub total-more : {X : Type 0} (f g : X → ℕ) (xs : List X) → ((x : X) → g x ≡ 1 + f x) → total g xs ≡ length xs + total f xs
total-more f g [] more = refl
total-more f g (x ∷ xs) more = let first = more x in let rest = total-more f g xs more in omega arith

pub total-map : {X Y : Type 0} (f : Y → ℕ) (h : X → Y) (xs : List X) → total f (map h xs) ≡ total (λ (x : X). f (h x)) xs
total-map f h [] = refl
total-map f h (x ∷ xs) = let rest = total-map f h xs in omega arith

pub total-filter : {X : Type 0} (f : X → ℕ) (p : X → Bool) (xs : List X) → total f (filter p xs) ≤ total f xs
total-filter f p [] = omega arith
total-filter {X} f p (x ∷ xs) = let rest = total-filter f p xs in by_test (λ (l : List X). total f l ≤ total f (x ∷ xs)) (p x) (x ∷ filter p xs) (filter p xs) (λ _. omega arith) (λ _. omega arith)

-- where each is at least one, there are at most as many as the total
pub length-total : {X : Type 0} (f : X → ℕ) (xs : List X) → ((x : X) → 1 ≤ f x) → length xs ≤ total f xs
length-total f [] least = omega arith
length-total f (x ∷ xs) least = let first = least x in let rest = length-total f xs least in omega arith

-- where what is left out adds nothing, the total stays
pub total-sifted : {X : Type 0} (f : X → ℕ) (p : X → Bool) (xs : List X) → ((x : X) → p x ≡ false → f x ≡ 0) → total f (filter p xs) ≡ total f xs
total-sifted f p [] none = refl
total-sifted {X} f p (x ∷ xs) none = let rest = total-sifted f p xs none in
    by_test (λ (l : List X). total f l ≡ total f (x ∷ xs)) (p x) (x ∷ filter p xs) (filter p xs) (λ _. omega arith) (λ no. let zero = none x no in omega arith)

-- where each is nothing, so is the total
pub total-none : {X : Type 0} (f : X → ℕ) (xs : List X) → All (λ (x : X). f x ≡ 0) xs → total f xs ≡ 0
total-none f [] none = refl
total-none {X} f (x ∷ xs) none = let first : f x ≡ 0 = All-head (λ (y : X). f y ≡ 0) x xs none in
    let rest : total f xs ≡ 0 = total-none f xs (All-tail (λ (y : X). f y ≡ 0) x xs none) in omega arith

pub total-equal : {X : Type 0} (f g : X → ℕ) (xs : List X) → ((x : X) → f x ≡ g x) → total f xs ≡ total g xs
total-equal f g [] same = refl
total-equal f g (x ∷ xs) same = let first = same x in let rest = total-equal f g xs same in omega arith

pub length_map : {X Y : Type 0} (f : X → Y) (xs : List X) → length (map f xs) ≡ length xs
length_map f [] = refl
length_map f (x ∷ xs) = let rest = length_map f xs in omega arith
