-- What is left of a seat's locks and guards where the lock of one of its nodes is freed.
use Rattle.std.proofs.Common.{◌≡◌, ◌≢◌, ℕ, Bool, cond, eqb, List, [], ◌∷◌, refl, ap, ◌∙◌, subst, ⊎_elim, arith, eq-eqb, ne_eqb}
use Rattle.std.specs.Prelude.{Contains}
use Rattle.pq_seats.specs.Posts.{less}
use Rattle.pq_seats.proofs.Lists.{in_first, in_later, in_cases, not_in}
use Rattle.pq_nodes.specs.declared.guards.Guard.{Guard}
use Rattle.pq_nodes.specs.Layout.{lock_of}
use Rattle.pq_nodes.specs.Views.{without_guard, locks_of, AreOthers}

module _ {A : Type 0} where
  same_number : (a b : ℕ) (x y : A) → a ≡ b → cond (eqb a b) x y ≡ x
  same_number a b x y e = ap (λ (t : Bool). cond t x y) (eq-eqb a b e)

  other_number : (a b : ℕ) (x y : A) → a ≢ b → cond (eqb a b) x y ≡ y
  other_number a b x y ne = ap (λ (t : Bool). cond t x y) (ne_eqb a b ne)

module _ {N : Type 0} where
  locks_apart : (i : ℕ) (gs : List (Guard N)) (locks : List ℕ) → AreOthers i gs
      → less (lock_of i) (locks_of gs locks) ≡ locks_of gs (less (lock_of i) locks)
  locks_apart i [] locks a = refl
  locks_apart i (g ∷ gs) locks a = locks_apart i gs (lock_of g.node ∷ locks) a.1
      ∙ ap (locks_of gs) (other_number (lock_of g.node) (lock_of i) (less (lock_of i) locks)
      (lock_of g.node ∷ less (lock_of i) locks) (λ e. a.0 (omega arith)))

  guards_apart : (i : ℕ) (gs : List (Guard N)) → AreOthers i gs → without_guard (lock_of i) gs ≡ gs
  guards_apart i [] a = refl
  guards_apart i (g ∷ gs) a = other_number (lock_of g.node) (lock_of i) (without_guard (lock_of i) gs)
      (g ∷ without_guard (lock_of i) gs) (λ e. a.0 (omega arith))
      ∙ ap (λ (z : List (Guard N)). g ∷ z) (guards_apart i gs a.1)

  -- the first one's lock is freed
  pub first_locks : (i : ℕ) (g : Guard N) (gs : List (Guard N)) → g.node ≡ i → AreOthers i gs
      → less (lock_of i) (locks_of (g ∷ gs) []) ≡ locks_of gs []
  first_locks i g gs is apart = locks_apart i gs (lock_of g.node ∷ []) apart
      ∙ ap (locks_of gs) (same_number (lock_of g.node) (lock_of i) [] (lock_of g.node ∷ []) (ap lock_of is))

  pub first_guards : (i : ℕ) (g : Guard N) (gs : List (Guard N)) → g.node ≡ i → AreOthers i gs
      → without_guard (lock_of i) (g ∷ gs) ≡ gs
  first_guards i g gs is apart = same_number (lock_of g.node) (lock_of i) (without_guard (lock_of i) gs)
      (g ∷ without_guard (lock_of i) gs) (ap lock_of is) ∙ guards_apart i gs apart

  -- the second one's lock is freed
  pub second_locks : (i : ℕ) (f g : Guard N) (gs : List (Guard N)) → g.node ≡ i → f.node ≢ i → AreOthers i gs
      → less (lock_of i) (locks_of (f ∷ g ∷ gs) []) ≡ locks_of (f ∷ gs) []
  second_locks i f g gs is ne apart = locks_apart i gs (lock_of g.node ∷ lock_of f.node ∷ []) apart ∙ ap (locks_of gs)
      (same_number (lock_of g.node) (lock_of i) (less (lock_of i) (lock_of f.node ∷ []))
      (lock_of g.node ∷ less (lock_of i) (lock_of f.node ∷ [])) (ap lock_of is)
      ∙ other_number (lock_of f.node) (lock_of i) [] (lock_of f.node ∷ []) (λ e. ne (omega arith)))

  pub second_guards : (i : ℕ) (f g : Guard N) (gs : List (Guard N)) → g.node ≡ i → f.node ≢ i → AreOthers i gs
      → without_guard (lock_of i) (f ∷ g ∷ gs) ≡ f ∷ gs
  second_guards i f g gs is ne apart = other_number (lock_of f.node) (lock_of i) (without_guard (lock_of i) (g ∷ gs))
      (f ∷ without_guard (lock_of i) (g ∷ gs)) (λ e. ne (omega arith))
      ∙ ap (λ (z : List (Guard N)). f ∷ z) (first_guards i g gs is apart)

  -- the locks of the guards' nodes are held
  still_has : (gs : List (Guard N)) (locks : List ℕ) (l : ℕ) → Contains locks l → Contains (locks_of gs locks) l
  still_has [] locks l has = has
  still_has (g ∷ gs) locks l has = still_has gs (lock_of g.node ∷ locks) l (in_later (lock_of g.node) l locks has)

  pub lock_has : (gs : List (Guard N)) (locks : List ℕ) (g : Guard N) → Contains gs g
      → Contains (locks_of gs locks) (lock_of g.node)
  lock_has [] locks g has = absurd (not_in g has)
  lock_has (f ∷ gs) locks g has = ⊎_elim
      (λ e. still_has gs (lock_of f.node ∷ locks) (lock_of g.node)
      (subst (λ (z : Guard N). Contains (lock_of f.node ∷ locks) (lock_of z.node)) e (in_first (lock_of f.node) locks)))
      (λ r. lock_has gs (lock_of f.node ∷ locks) g r)
      (in_cases f g gs has)
