-- The jobs that are left, and the children of an order.
use Rattle.std.proofs.Common.{◌≡◌, ℕ, zero, suc, ◌+◌, ◌<◌, ◌≤◌, false, List, [], ◌∷◌, ◌++◌, inl, inr, refl, sym, ap}
use Rattle.std.proofs.Common.{◌∙◌, length, get_or, take, arith}
use Rattle.std.specs.Prelude.{nat_eq, nat_lt, nat_le, Contains, All}
use Rattle.std.specs.List.{IsDistinct}
use Rattle.std.proofs.lemmas.Bool.{cases_lt, cond-true, cond-false, lt-ltb, le-ltb, le-leb, lt-leb, ne_eqb}
use Rattle.std.proofs.lemmas.List.{length-set, length-take, take_more, append-nil}
use Rattle.std.proofs.lemmas.List.Elements.{All-nil, All-cons, All-weaker, All-contains, recursion_from_All}
use Rattle.std.proofs.lemmas.Map.Keys.{IsDistinct-cons}
use Rattle.bb_problem.specs.Tree.{below}
use Rattle.inst_text.specs.Shop.{JobShop, operations}
use Rattle.bb_shop.specs.Dispatching.{State, opened, starts_of, next_start, dispatched, state_from, state_of, IsLeft}
use Rattle.bb_shop.specs.Dispatching.{IsOrder}
use Rattle.bb_shop.specs.Branching.{jobs_left, children_of}
use Rattle.bb_shop.specs.TreeLawsHold.States.{IsOrder-below, some_left, starts-dispatched, IsState-opened}

pub jobs_left-short : (m j : ℕ) (row : List ℕ) (rows : List (List ℕ)) → length row < m
    → jobs_left m j (row ∷ rows) ≡ j ∷ jobs_left m (j + 1) rows
unfolding jobs_left
jobs_left-short m j row rows short = cond-true (nat_lt (length row) m) (j ∷ jobs_left m (j + 1) rows)
    (jobs_left m (j + 1) rows) (lt-ltb (length row) m short)

pub jobs_left-full : (m j : ℕ) (row : List ℕ) (rows : List (List ℕ)) → m ≤ length row
    → jobs_left m j (row ∷ rows) ≡ jobs_left m (j + 1) rows
unfolding jobs_left
jobs_left-full m j row rows full = cond-false (nat_lt (length row) m) (j ∷ jobs_left m (j + 1) rows)
    (jobs_left m (j + 1) rows) (le-ltb (length row) m full)

pub jobs_left-nil : (m j : ℕ) → jobs_left m j [] ≡ []
unfolding jobs_left
jobs_left-nil m j = refl

-- the jobs left of some rows, and then of others
pub jobs_left-append : (m j : ℕ) (xs ys : List (List ℕ))
    → jobs_left m j (xs ++ ys) ≡ jobs_left m j xs ++ jobs_left m (j + length xs) ys
jobs_left-append m j [] ys = rw (jobs_left-nil m j) (ap (λ i. jobs_left m i ys) (omega arith))
jobs_left-append m j (row ∷ rows) ys =
    let place : jobs_left m (j + 1 + length rows) ys ≡ jobs_left m (j + length (row ∷ rows)) ys =
    ap (λ i. jobs_left m i ys) (omega arith) in
    let rest = jobs_left-append m (j + 1) rows ys in
    elim (cases_lt (length row) m) [
      | inl short ↦
          jobs_left-short m j row (rows ++ ys) short ∙ ap (λ is. j ∷ is) rest
          ∙ ap (λ is. j ∷ (jobs_left m (j + 1) rows ++ is)) place
          ∙ ap (λ is. is ++ jobs_left m (j + length (row ∷ rows)) ys) (sym (jobs_left-short m j row rows short))
      | inr full ↦
          jobs_left-full m j row (rows ++ ys) full ∙ rest
          ∙ ap (λ is. jobs_left m (j + 1) rows ++ is) place
          ∙ ap (λ is. is ++ jobs_left m (j + length (row ∷ rows)) ys) (sym (jobs_left-full m j row rows full))
    ]

-- one row more
pub jobs_left-more_short : (m j i x : ℕ) (rows : List (List ℕ)) → x ≡ j + i → i < length rows
    → length (get_or rows i []) < m → jobs_left m j (take (i + 1) rows) ≡ jobs_left m j (take i rows) ++ x ∷ []
jobs_left-more_short m j i x rows number lt short =
    let row = get_or rows i [] in
    let e : length (take i rows) ≡ i = omega (arith, length-take i rows, lt) in
    ap (jobs_left m j) (take_more rows i [] lt)
    ∙ jobs_left-append m j (take i rows) (row ∷ [])
    ∙ ap (λ n. jobs_left m j (take i rows) ++ jobs_left m (j + n) (row ∷ [])) e
    ∙ ap (λ is. jobs_left m j (take i rows) ++ is) (jobs_left-short m (j + i) row [] short
    ∙ ap (λ is. (j + i) ∷ is) (jobs_left-nil m (j + i + 1)) ∙ ap (λ n. n ∷ []) (sym number))

pub jobs_left-more_full : (m j i : ℕ) (rows : List (List ℕ)) → i < length rows → m ≤ length (get_or rows i [])
    → jobs_left m j (take (i + 1) rows) ≡ jobs_left m j (take i rows)
jobs_left-more_full m j i rows lt full =
    let row = get_or rows i [] in
    let e : length (take i rows) ≡ i = omega (arith, length-take i rows, lt) in
    ap (jobs_left m j) (take_more rows i [] lt)
    ∙ jobs_left-append m j (take i rows) (row ∷ [])
    ∙ ap (λ n. jobs_left m j (take i rows) ++ jobs_left m (j + n) (row ∷ [])) e
    ∙ ap (λ is. jobs_left m j (take i rows) ++ is) (jobs_left-full m (j + i) row [] full ∙ jobs_left-nil m (j + i + 1))
    ∙ append-nil (jobs_left m j (take i rows))

-- x is the number of a row with fewer start times than machines
pub record IsShort (m j : ℕ) (rows : List (List ℕ)) (x : ℕ) : Type 0 where
  pub place : ℕ
  pub inside : place < length rows
  pub short : length (get_or rows place []) < m
  pub number : x ≡ j + place

IsShort-behind : (m j : ℕ) (row : List ℕ) (rows : List (List ℕ)) (x : ℕ) → IsShort m (j + 1) rows x
    → IsShort m j (row ∷ rows) x
IsShort-behind m j row rows x is = record {
  place = suc is.place;
  inside = omega (arith, is.inside);
  short = is.short;
  number = omega (arith, is.number);
}

-- each job that is listed has operations left
pub jobs_left-are_short : (m j : ℕ) (rows : List (List ℕ)) → All (IsShort m j rows) (jobs_left m j rows)
jobs_left-are_short m j [] = rw (jobs_left-nil m j) (All-nil (IsShort m j []))
jobs_left-are_short m j (row ∷ rows) =
    let rest = All-weaker (IsShort m (j + 1) rows) (IsShort m j (row ∷ rows)) (IsShort-behind m j row rows)
    (jobs_left m (j + 1) rows) (jobs_left-are_short m (j + 1) rows) in
    elim (cases_lt (length row) m) [
      | inl short ↦
          let here : IsShort m j (row ∷ rows) j =
          record { place = 0; inside = omega arith; short = short; number = omega arith } in
          rw (jobs_left-short m j row rows short)
          (All-cons (IsShort m j (row ∷ rows)) j (jobs_left m (j + 1) rows) here rest)
      | inr full ↦ rw (jobs_left-full m j row rows full) rest
    ]

-- behind one more number
Contains-behind : (x : ℕ) (xs : List ℕ) (y : ℕ) → Contains xs y → Contains (x ∷ xs) y
Contains-behind x xs y there = (suc there.0, omega (arith, there.1), there.2)

-- each job that has operations left is listed
pub jobs_left-contains : (m j : ℕ) (rows : List (List ℕ)) (i : ℕ) → i < length rows → length (get_or rows i []) < m
    → Contains (jobs_left m j rows) (j + i)
jobs_left-contains m j [] i lt short = absurd (omega (arith, lt))
jobs_left-contains m j (row ∷ rows) zero lt short =
    let e : j ≡ j + 0 = omega arith in
    rw (jobs_left-short m j row rows short) (0, omega arith, e)
jobs_left-contains m j (row ∷ rows) (suc i) lt short =
    let place : j + 1 + i ≡ j + suc i = omega arith in
    let rest : Contains (jobs_left m (j + 1) rows) (j + suc i) =
    rw place at (jobs_left-contains m (j + 1) rows i (omega (arith, lt)) short) in
    elim (cases_lt (length row) m) [
      | inl here ↦
          rw (jobs_left-short m j row rows here) (Contains-behind j (jobs_left m (j + 1) rows) (j + suc i) rest)
      | inr full ↦ rw (jobs_left-full m j row rows full) rest
    ]

-- no job is listed twice
pub jobs_left-distinct : (m j : ℕ) (rows : List (List ℕ)) → IsDistinct nat_eq (jobs_left m j rows)
unfolding IsDistinct
jobs_left-distinct m j [] = rw (jobs_left-nil m j) tt
jobs_left-distinct m j (row ∷ rows) =
    elim (cases_lt (length row) m) [
      | inl short ↦
          let others : All (λ y. nat_eq j y ≡ false) (jobs_left m (j + 1) rows) =
          All-weaker (IsShort m (j + 1) rows) (λ y. nat_eq j y ≡ false)
          (λ y is. ne_eqb j y (λ e. omega (arith, e, is.number))) (jobs_left m (j + 1) rows)
          (jobs_left-are_short m (j + 1) rows) in
          rw (jobs_left-short m j row rows short)
          (IsDistinct-cons nat_eq j (jobs_left m (j + 1) rows)
          (recursion_from_All (λ y. nat_eq j y ≡ false) (jobs_left m (j + 1) rows) others)
          (jobs_left-distinct m (j + 1) rows))
      | inr full ↦ rw (jobs_left-full m j row rows full) (jobs_left-distinct m (j + 1) rows)
    ]

-- no more jobs are listed than there are rows
pub length-jobs_left : (m j : ℕ) (rows : List (List ℕ)) → length (jobs_left m j rows) ≤ length rows
length-jobs_left m j [] = rw (jobs_left-nil m j) (omega arith)
length-jobs_left m j (row ∷ rows) =
    elim (cases_lt (length row) m) [
      | inl short ↦ rw (jobs_left-short m j row rows short) (omega (arith, length-jobs_left m (j + 1) rows))
      | inr full ↦ rw (jobs_left-full m j row rows full) (omega (arith, length-jobs_left m (j + 1) rows))
    ]

-- where all operations are dispatched there are no children, and before that the jobs left
pub children-none : (s : JobShop) (name : List ℕ) → operations s ≤ length name → children_of s name ≡ []
unfolding children_of
children-none s name full =
    cond-true (nat_le (operations s) (length name)) [] (jobs_left s.machines 0 (state_of s name).starts)
    (le-leb (operations s) (length name) full)

pub children-some : (s : JobShop) (name : List ℕ) → length name < operations s
    → children_of s name ≡ jobs_left s.machines 0 (state_of s name).starts
unfolding children_of
children-some s name short =
    cond-false (nat_le (operations s) (length name)) [] (jobs_left s.machines 0 (state_of s name).starts)
    (lt-leb (operations s) (length name) short)

-- the rows of start times stay as many, whatever is dispatched
length-starts_from : (s : JobShop) (st : State) (js : List ℕ) → length (state_from s st js).starts ≡ length st.starts
unfolding state_from
length-starts_from s st [] = refl
length-starts_from s st (j ∷ js) =
    length-starts_from s (dispatched s st j) js ∙ ap (λ (rows : List (List ℕ)). length rows) (starts-dispatched s st j)
    ∙ length-set st.starts j (starts_of st j ++ next_start s st j ∷ [])

pub length-starts : (s : JobShop) (name : List ℕ) → length (state_of s name).starts ≡ length s.rows
length-starts s name = length-starts_from s (opened s) name ∙ (IsState-opened s).starts

pub length-children : (s : JobShop) (name : List ℕ) → length (children_of s name) ≤ length s.rows
length-children s name =
    elim (cases_lt (length name) (operations s)) [
      | inl short ↦ rw (children-some s name short)
          (omega (arith, length-jobs_left s.machines 0 (state_of s name).starts, length-starts s name))
      | inr full ↦ rw (children-none s name full) (omega arith)
    ]

-- a job is a child of an order exactly if it is left
pub child_is_left : (s : JobShop) (name : List ℕ) (k : ℕ) → length name < operations s
    → Contains (children_of s name) k → IsLeft s (state_of s name) k
child_is_left s name k short there =
    let rows = (state_of s name).starts in
    let is = All-contains (IsShort s.machines 0 rows) (jobs_left s.machines 0 rows) k
    (jobs_left-are_short s.machines 0 rows) (rw (children-some s name short) at there) in
    let e : k ≡ is.place = omega (arith, is.number) in
    rw e (omega (arith, is.inside, length-starts s name), is.short)

pub left_is_child : (s : JobShop) (name : List ℕ) (k : ℕ) → length name < operations s → IsLeft s (state_of s name) k
    → Contains (children_of s name) k
left_is_child s name k short left =
    let rows = (state_of s name).starts in
    let e : 0 + k ≡ k = omega arith in
    let there : Contains (jobs_left s.machines 0 rows) k =
    rw e at (jobs_left-contains s.machines 0 rows k (omega (arith, left.0, length-starts s name)) left.1) in
    rw (children-some s name short) there

-- what the children of an order are that is not whole
pub record AreChildren (s : JobShop) (name : List ℕ) : Type 0 where
  pub are : children_of s name ≡ jobs_left s.machines 0 (state_of s name).starts
  pub some : 1 ≤ length (children_of s name)
  pub few : length (children_of s name) ≤ length s.rows
  pub left : (k : ℕ) → Contains (children_of s name) k → IsLeft s (state_of s name) k
  pub orders : (k : ℕ) → Contains (children_of s name) k → IsOrder s (below name k)
  pub all : (k : ℕ) → IsLeft s (state_of s name) k → Contains (children_of s name) k

pub children_are_left : (s : JobShop) (name : List ℕ) → IsOrder s name → length name < operations s → AreChildren s name
children_are_left s name order short =
    let one = some_left s name order short in
    let there = left_is_child s name one.0 short one.1 in
    record {
      are = children-some s name short;
      some = omega (arith, there.1);
      few = length-children s name;
      left = λ k is. child_is_left s name k short is;
      orders = λ k is. IsOrder-below s name k order (child_is_left s name k short is);
      all = λ k left. left_is_child s name k short left;
    }
