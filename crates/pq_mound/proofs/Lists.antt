-- Sorted lists of cells.
use Rattle.std.proofs.Common.{◌≡◌, ◌⊎◌, ℕ, ◌≤◌, Bool, true, false, cond, List, [], ◌∷◌, ◌++◌, inl, inr, refl, ap, arith}
use Rattle.std.specs.Prelude.{All, nat_lt}
use Rattle.std.proofs.lemmas.Bool.Decides.{nat_tests}
use Rattle.std.proofs.lemmas.List.Elements.{All-nil, All-cons, All-head, All-tail, All-map}
use Rattle.pq_words.specs.declared.entries.Entry.{Entry}
use Rattle.pq_words.specs.Entries.{raw_of}
use Rattle.pq_words.specs.Limits.{raw_limit}
use Rattle.pq_words.proofs.Order.{raw_of-fits}
use Rattle.pq_model.specs.Multiset.{IsRising}
use Rattle.pq_mound.specs.declared.nodes.Cell.{Cell}
use Rattle.pq_mound.specs.declared.nodes.Node.{Node}
use Rattle.pq_mound.specs.declared.nodes.Node.TheVariants.{Resting, Hole, Joining}
use Rattle.pq_mound.specs.Nodes.{cells, entries}
use Rattle.pq_mound.specs.Order.{value_of, value, bound, before, behind, put}

pub value_fits : (cs : List Cell) → value_of cs ≤ raw_limit
value_fits [] = omega arith
value_fits (c ∷ cs) = let lt = raw_of-fits c.entry in omega arith

pub bound_value : (v : Node) → bound v ≤ value v
bound_value (Resting cs) = omega arith
bound_value (Hole cs) = omega arith
bound_value (Joining front c back) = omega arith

value_over : (x : ℕ) (cs : List Cell) → x ≤ raw_limit → All (λ (e : Entry). x ≤ raw_of e) (entries cs) → x ≤ value_of cs
value_over x [] fits all = fits
value_over x (c ∷ cs) fits all = All-head (λ (e : Entry). x ≤ raw_of e) c.entry (entries cs) all

-- what is not above the head of a sorted list is above none of its cells
pub sorted_over : (x : ℕ) (cs : List Cell) → IsRising (entries cs) → x ≤ value_of cs
    → All (λ (c : Cell). x ≤ raw_of c.entry) cs
sorted_over x [] rising le = All-nil (λ (c : Cell). x ≤ raw_of c.entry)
sorted_over x (c ∷ cs) rising le = let lt = raw_of-fits c.entry in
    let next = value_over (raw_of c.entry) cs (omega arith) rising.0 in
    All-cons (λ (d : Cell). x ≤ raw_of d.entry) c cs le (sorted_over x cs rising.1 (omega arith))

-- a list, cut where an entry has its place
pub record IsSplit (e : Entry) (list front back : List Cell) : Type 0 where
  pub whole : front ++ back ≡ list
  pub low : All (λ (c : Cell). raw_of c.entry ≤ raw_of e) front
  pub high : raw_of e ≤ value_of back

by_both : {A B : Type 0} (P : A → B → Type 0) (b : Bool) (x x' : A) (y y' : B) → (b ≡ true → P x y)
    → (b ≡ false → P x' y') → P (cond b x x') (cond b y y')
by_both P true x x' y y' one other = one refl
by_both P false x x' y y' one other = other refl

pub split : (e : Entry) (list : List Cell) → IsSplit e list (before e list) (behind e list)
split e [] = let lt = raw_of-fits e in
    record { whole = refl; low = All-nil (λ (c : Cell). raw_of c.entry ≤ raw_of e); high = omega arith }
split e (c ∷ cs) = let P : Cell → Type 0 = λ d. raw_of d.entry ≤ raw_of e in
    by_both (IsSplit e (c ∷ cs)) (nat_lt (raw_of c.entry) (raw_of e)) (c ∷ before e cs) [] (behind e cs) (c ∷ cs)
    (λ t. let rest = split e cs in let le : raw_of c.entry ≤ raw_of e = grind (arith, nat_tests) in record {
      whole = ap (λ (z : List Cell). c ∷ z) rest.whole;
      low = All-cons P c (before e cs) le rest.low;
      high = rest.high;
    })
    (λ t. let le : raw_of e ≤ raw_of c.entry = grind (arith, nat_tests) in
    record { whole = refl; low = All-nil P; high = le })

-- a cell between two parts of a list
pub put_cells : (front back : List Cell) (c : Cell) → cells (put front c back) ≡ front ++ c ∷ back
put_cells [] back c = refl
put_cells (d ∷ front) back c = refl

pub put_bound : (front back : List Cell) (c : Cell) → bound (put front c back) ≡ value_of (front ++ c ∷ back)
put_bound [] back c = refl
put_bound (d ∷ front) back c = refl

-- a cell is put at its place
put_all : (P : Entry → Type 0) (front back : List Cell) (c : Cell) → P c.entry → All P (entries (front ++ back))
    → All P (entries (front ++ c ∷ back))
put_all P [] back c one all = All-cons P c.entry (entries back) one all
put_all P (d ∷ front) back c one all = All-cons P d.entry (entries (front ++ c ∷ back))
    (All-head P d.entry (entries (front ++ back)) all)
    (put_all P front back c one (All-tail P d.entry (entries (front ++ back)) all))

pub rising_put : (front back : List Cell) (c : Cell) → IsRising (entries (front ++ back))
    → All (λ (d : Cell). raw_of d.entry ≤ raw_of c.entry) front → raw_of c.entry ≤ value_of back
    → IsRising (entries (front ++ c ∷ back))
rising_put [] back c rising low high = (
  All-map (λ (e : Entry). raw_of c.entry ≤ raw_of e) (λ (d : Cell). d.entry) back
      (sorted_over (raw_of c.entry) back rising high),
  rising,
)
rising_put (d ∷ front) back c rising low high = (
  put_all (λ (e : Entry). raw_of d.entry ≤ raw_of e) front back c
      (All-head (λ (x : Cell). raw_of x.entry ≤ raw_of c.entry) d front low) rising.0,
  rising_put front back c rising.1 (All-tail (λ (x : Cell). raw_of x.entry ≤ raw_of c.entry) d front low) high,
)

-- its list's value is then not above what it was: it is that, or the new entry
pub value_put : (front back : List Cell) (c : Cell) → All (λ (d : Cell). raw_of d.entry ≤ raw_of c.entry) front
    → raw_of c.entry ≤ value_of back
    → (value_of (front ++ c ∷ back) ≤ value_of (front ++ back))
    × ((value_of (front ++ c ∷ back) ≡ raw_of c.entry) ⊎ (value_of (front ++ c ∷ back) ≡ value_of (front ++ back)))
value_put [] back c low high = (high, inl refl)
value_put (d ∷ front) back c low high = (omega arith, inr refl)
