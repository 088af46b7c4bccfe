-- The bounds of nodes, one after another, and the names of those that are kept.
use Rattle.std.proofs.Common.{◌≡◌, ℕ, ◌+◌, ◌<◌, ◌≤◌, Bool, true, false, cond, List, [], ◌∷◌, ◌++◌, length, take, get_or, Option, refl, sym, ap, ◌∙◌, arith}
use Rattle.std.proofs.lemmas.Bool.Decides.{nat_tests}
use Rattle.std.proofs.lemmas.List.{take_more}
use mir.Val.{bool_byte}
use Rattle.bb_problem.specs.Meaning.{Meaning}
use Rattle.bb_pool.specs.Costs.{is_better}
use Rattle.bb_pool.specs.Children.{AreBounds, better_keys, better_names}

pub bounds_push : {N P : Type 0} (m : Meaning N P) (nodes : List N) (keys : List ℕ) (node : N) (key : ℕ) → AreBounds m nodes keys → ((name : List ℕ) → m.stands node name → key ≡ m.tree.bound name) → AreBounds m (nodes ++ node ∷ []) (keys ++ key ∷ [])
bounds_push m [] [] node key bounds exact = (exact, tt)
bounds_push m (n ∷ ns) (k ∷ ks) node key bounds exact = (bounds.0, bounds_push m ns ks node key bounds.1 exact)
bounds_push m [] (k ∷ ks) node key bounds exact = absurd bounds
bounds_push m (n ∷ ns) [] node key bounds exact = absurd bounds

pub bounds_length : {N P : Type 0} (m : Meaning N P) (nodes : List N) (keys : List ℕ) → AreBounds m nodes keys → length nodes ≡ length keys
bounds_length m [] [] bounds = refl
bounds_length m (n ∷ ns) (k ∷ ks) bounds = let rest = bounds_length m ns ks bounds.1 in omega arith
bounds_length m [] (k ∷ ks) bounds = absurd bounds
bounds_length m (n ∷ ns) [] bounds = absurd bounds

-- one where the test holds
abbrev pub one_if : Bool → ℕ
one_if b = cond b 1 0

pub byte_is : (b : Bool) → bool_byte b ≡ one_if b
byte_is true = refl
byte_is false = refl

-- a key more counts one where it is better than the best
pub better_push : (best : Option ℕ) (keys : List ℕ) (key : ℕ) → length (better_keys best (keys ++ key ∷ [])) ≡ length (better_keys best keys) + one_if (is_better key best)
better_push best [] key = grind (arith, nat_tests)
better_push best (k ∷ ks) key = let rest = better_push best ks key in grind (arith, nat_tests)

pub bounds_more : {N P : Type 0} (m : Meaning N P) (nodes : List N) (i : ℕ) (d : N) (keys : List ℕ) (key : ℕ) → i < length nodes → AreBounds m (take i nodes) keys → ((name : List ℕ) → m.stands (get_or nodes i d) name → key ≡ m.tree.bound name) → AreBounds m (take (i + 1) nodes) (keys ++ key ∷ [])
bounds_more m nodes i d keys key lt bounds exact = rw (take_more nodes i d lt) (bounds_push m (take i nodes) keys (get_or nodes i d) key bounds exact)

-- the first of the names is kept, or is not
pub names_kept : {N P : Type 0} (m : Meaning N P) (best : Option ℕ) (name : List ℕ) (names : List (List ℕ)) (key : ℕ) → key ≡ m.tree.bound name → is_better key best ≡ true → better_names m.tree best (name ∷ names) ≡ name ∷ better_names m.tree best names
names_kept m best name names key bound good = let test = ap (λ (k : ℕ). is_better k best) (sym bound) ∙ good in
    ap (λ (b : Bool). cond b (name ∷ better_names m.tree best names) (better_names m.tree best names)) test

pub names_left : {N P : Type 0} (m : Meaning N P) (best : Option ℕ) (name : List ℕ) (names : List (List ℕ)) (key : ℕ) → key ≡ m.tree.bound name → is_better key best ≡ false → better_names m.tree best (name ∷ names) ≡ better_names m.tree best names
names_left m best name names key bound bad = let test = ap (λ (k : ℕ). is_better k best) (sym bound) ∙ bad in
    ap (λ (b : Bool). cond b (name ∷ better_names m.tree best names) (better_names m.tree best names)) test

-- and the same of keys
pub keys_kept : (best : Option ℕ) (key : ℕ) (keys : List ℕ) → is_better key best ≡ true → length (better_keys best (key ∷ keys)) ≡ 1 + length (better_keys best keys)
keys_kept best key keys good = let is = ap (λ (b : Bool). length (cond b (key ∷ better_keys best keys) (better_keys best keys))) good in omega arith

pub keys_left : (best : Option ℕ) (key : ℕ) (keys : List ℕ) → is_better key best ≡ false → length (better_keys best (key ∷ keys)) ≡ length (better_keys best keys)
keys_left best key keys bad = ap length (ap (λ (b : Bool). cond b (key ∷ better_keys best keys) (better_keys best keys)) bad)

pub one_at_most : (b : Bool) → one_if b ≤ 1
one_at_most true = omega arith
one_at_most false = omega arith
