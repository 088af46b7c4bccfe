-- The multiset as the lists have it. The root's head is its least entry.
use Rattle.std.proofs.Common.{◌≡◌, ℕ, ◌+◌, ◌<◌, ◌≤◌, List, [], ◌∷◌, length, Some, refl, sym, ap, ◌∙◌, arith}
use Rattle.std.specs.Prelude.{All, sum_by}
use native.Mathlib.Decide.{ℕ_discrete}
use mathlib.Core.Logic.{dite}
use Rattle.std.proofs.lemmas.Bool.Decides.{nat_tests}
use Rattle.std.proofs.lemmas.List.Elements.{All-from_get_or, All-weaker}
use Rattle.std.proofs.lemmas.List.Sums.{sum_by-cons, sum_by-le}
use Rattle.pq_words.specs.declared.entries.Entry.{Entry}
use Rattle.pq_words.specs.Entries.{raw_of}
use Rattle.pq_words.specs.Limits.{raw_limit}
use Rattle.pq_words.proofs.Order.{raw_of-fits, same_raw_of}
use Rattle.pq_model.specs.Multiset.{least, without_least, IsRising, sorted_of}
use Rattle.pq_model.proofs.Multisets.{below, none_below, least_all, with_least, same_from_weights}
use Rattle.pq_model.proofs.Multisets.{sum_by-sorted_of, IsRising-sorted_of}
use Rattle.pq_nodes.proofs.Orders.{root_least}
use Rattle.pq_mound.specs.declared.nodes.Cell.{Cell}
use Rattle.pq_mound.specs.declared.nodes.Node.{Node}
use Rattle.pq_mound.specs.declared.nodes.Node.TheVariants.{Resting}
use Rattle.pq_mound.specs.Nodes.{node, cells, all_cells, entries}
use Rattle.pq_mound.specs.Order.{value_of, value, bound}
use Rattle.pq_mound.specs.LawsHold.Sums.{flat_sum, part_sum}
use Rattle.pq_mound.proofs.Lists.{value_fits, sorted_over}
use Rattle.pq_mound.proofs.Mounds.{IsMound}
use Rattle.pq_mound.proofs.Sums.{weight, entries_weigh}

-- the lists weigh what the multiset weighs, whatever weighs how much
pub record Holds (t : List Node) (m : List Entry) : Type 0 where
  pub same : (w : ℕ → ℕ) → sum_by (weight w) (all_cells t) ≡ sum_by (λ (e : Entry). w (raw_of e)) m

pub by_weights : (t : List Node) (m : List Entry) → m ≡ sorted_of (entries (all_cells t)) → Holds t m × IsRising m
by_weights t m is = rw is (
  record {
    same = λ w. sym (entries_weigh w (all_cells t))
        ∙ sym (sum_by-sorted_of (λ (e : Entry). w (raw_of e)) (entries (all_cells t)));
  },
  IsRising-sorted_of (entries (all_cells t)),
)

pub in_entries : (t : List Node) (m : List Entry) → Holds t m → IsRising m → m ≡ sorted_of (entries (all_cells t))
in_entries t m holds rising = same_from_weights m (sorted_of (entries (all_cells t))) rising
    (IsRising-sorted_of (entries (all_cells t)))
    (λ w. sym (holds.same w) ∙ (sym (entries_weigh w (all_cells t))
    ∙ sym (sum_by-sorted_of (λ (e : Entry). w (raw_of e)) (entries (all_cells t)))))

-- every list is at or above the root's value
over_root : (t : List Node) (x i : ℕ) → IsMound t → bound (node t 1) ≡ x → value (node t 1) ≡ x → x ≤ raw_limit
    → x ≤ value (node t i)
over_root t x i f b s le = dite (ℕ_discrete i 0)
    (λ e. let at : value (node t i) ≡ raw_limit = ap (λ (z : ℕ). value (node t z)) e ∙ ap value f.first in omega arith)
    (λ some. dite (ℕ_discrete i 1)
    (λ e. let at : value (node t i) ≡ value (node t 1) = ap (λ (z : ℕ). value (node t z)) e in omega arith)
    (λ more. let less = root_least (λ j. bound (node t j)) (λ j. value (node t j)) i f.ordered (omega arith) in
    omega arith))

-- so no entry is below it
none_below_root : (t : List Node) (list : List Cell) → IsMound t → node t 1 ≡ Resting list
    → sum_by (weight (below (value_of list))) (all_cells t) ≡ 0
none_below_root t list f root = let x : ℕ = value_of list in
    let none : (v : Node) → IsRising (entries (cells v)) → x ≤ value v → sum_by (weight (below x)) (cells v) ≤ 0 =
    (λ v sorted le. let zeros : All (λ (c : Cell). weight (below x) c ≤ 0) (cells v) = All-weaker
    (λ (c : Cell). x ≤ raw_of c.entry) (λ (c : Cell). weight (below x) c ≤ 0)
    (λ c h. grind (arith, nat_tests)) (cells v)
    (sorted_over x (cells v) sorted le) in omega (arith, sum_by-le (weight (below x)) 0 (cells v) zeros)) in
    let all : All (λ (v : Node). sum_by (weight (below x)) (cells v) ≤ 0) t =
    All-from_get_or (λ (v : Node). sum_by (weight (below x)) (cells v) ≤ 0) t (Resting [])
    (λ i lt. none (node t i) (f.sorted i) (over_root t x i f (ap bound root) (ap value root) (value_fits list))) in
    omega (
      arith,
      flat_sum (weight (below x)) cells t,
      sum_by-le
          (λ (v : Node). sum_by (weight (below x)) (cells v)) 0 t all,
    )

root_weighs : (w : ℕ → ℕ) (t : List Node) (c : Cell) (list : List Cell) → 1 < length t → node t 1 ≡ Resting (c ∷ list)
    → w (raw_of c.entry) ≤ sum_by (weight w) (all_cells t)
root_weighs w t c list within root = let part = part_sum (weight w) t 1 within in
    let at : sum_by (weight w) (cells (node t 1)) ≡ sum_by (weight w) (c ∷ list)
    = ap (λ (v : Node). sum_by (weight w) (cells v)) root in
    omega (arith, sum_by-cons (weight w) c list)

pub least_head : (t : List Node) (m : List Entry) (c : Cell) (list : List Cell) → IsMound t → Holds t m → IsRising m
    → 1 < length t → node t 1 ≡ Resting (c ∷ list) → least m ≡ Some c.entry
least_head t [] c list f holds rising within root = let some = root_weighs (λ _. 1) t c list within root in
    let none = holds.same (λ _. 1) in absurd (omega arith)
least_head t (z ∷ m) c list f holds rising within root = let x : ℕ = raw_of c.entry in let y : ℕ = raw_of z in
    let over : y ≤ x = (let same = holds.same (below y) in let zero = none_below y (z ∷ m) (least_all z m rising) in
    let some = root_weighs (below y) t c list within root in let nil : below y x ≡ 0 = omega arith in
    grind (arith, nat_tests)) in
    let under : x ≤ y = (let same = holds.same (below x) in let zero = none_below_root t (c ∷ list) f root in
    let sum = sum_by-cons (λ (e : Entry). below x (raw_of e)) z m in let nil : below x y ≡ 0 = omega arith in
    grind (arith, nat_tests)) in
    ap Some (same_raw_of z c.entry (omega arith))

-- where the root's list is empty, all are
pub empty_root : (t : List Node) (m : List Entry) → IsMound t → Holds t m → node t 1 ≡ Resting [] → m ≡ []
empty_root t [] f holds root = refl
empty_root t (z ∷ m) f holds root = let same = holds.same (below raw_limit) in
    let zero = none_below_root t [] f root in let small = raw_of-fits z in
    let sum = sum_by-cons (λ (e : Entry). below raw_limit (raw_of e)) z m in
    let nil : below raw_limit (raw_of z) ≡ 0 = omega arith in absurd (grind (arith, nat_tests))

pub without_sum : (w : ℕ → ℕ) (m : List Entry) (e : Entry) → least m ≡ Some e
    → sum_by (λ (z : Entry). w (raw_of z)) (without_least m) + w (raw_of e) ≡ sum_by (λ (z : Entry). w (raw_of z)) m
without_sum w m e is = let g : Entry → ℕ = λ z. w (raw_of z) in let parts = ap (sum_by g) (with_least m e is) in
    let sum = sum_by-cons g e (without_least m) in omega arith
