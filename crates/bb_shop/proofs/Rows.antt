-- Rows of operations with their start times: they keep within the limits, and end at the latest with the makespan.
use Rattle.std.proofs.Common.{◌≡◌, ℕ, zero, suc, ◌+◌, ◌<◌, ◌≤◌, max, List, [], ◌∷◌, refl, ap, ◌∙◌, sym, length, map, drop, get_or, min, arith}
use Rattle.std.specs.List.{AllByRecursion}
use Rattle.std.proofs.lemmas.List.{drop_more, get_or-map, length-map}
use Rattle.inst_text.specs.Limits.{max_total}
use Rattle.inst_text.specs.declared.shop.Operation.{Operation}
use Rattle.inst_text.specs.Shop.{JobShop, IsJobShop, AreStarts}
use Rattle.bb_shop.specs.Plans.{step_at, row_at, row_end, rows_end, AreShaped}
use Rattle.bb_shop.specs.Judging.{times_at, AreTimed}
use Rattle.bb_shop.specs.TreeLawsHold.Times.{row_time-le}
use Rattle.bb_shop.specs.TreeLawsHold.States.{row-length}
use Rattle.bb_shop.specs.TreeLawsHold.Ended.{length-times}

-- what is read of a list of vectors is the row there
pub read_row : {V A : Type 0} (vs : List V) (items : V → List A) (rows : List (List A)) (i : ℕ) (v : V) (r : List A) → map items vs ≡ rows → i < length vs → v ≡ get_or vs i v → r ≡ items v → r ≡ get_or rows i []
read_row vs items rows i v r are inside here is = is ∙ ap items here ∙ sym (get_or-map items vs i v [] inside) ∙ ap (λ rs. get_or rs i []) are

pub length-rows : {V A : Type 0} (vs : List V) (items : V → List A) (rows : List (List A)) → map items vs ≡ rows → length vs ≡ length rows
length-rows vs items rows are = sym (length-map vs items) ∙ ap length are

-- a start time is within its limit
pub start-le : (times : List ℕ) (k : ℕ) → AllByRecursion (λ (t : ℕ). t ≤ max_total) times → get_or times k 0 ≤ max_total
start-le [] zero early = omega arith
start-le [] (suc k) early = omega arith
start-le (t ∷ ts) zero early = early.0
start-le (t ∷ ts) (suc k) early = start-le ts k early.1

pub starts-early : (starts : List (List ℕ)) (j : ℕ) → AreStarts starts → AllByRecursion (λ (t : ℕ). t ≤ max_total) (times_at starts j)
starts-early [] zero early = tt
starts-early [] (suc j) early = tt
starts-early (r ∷ rs) zero early = early.0
starts-early (r ∷ rs) (suc j) early = starts-early rs j early.1

-- a job's row and start times are within the limits
pub are_timed : (s : JobShop) (starts : List (List ℕ)) (j : ℕ) → IsJobShop s → AreStarts starts → AreShaped s starts → j < length s.rows → AreTimed (row_at s.rows j) (times_at starts j)
are_timed s starts j limits early shaped inside = record {
  count = omega (arith, row-length s j limits inside, length-times s starts j shaped inside);
  limited = omega (arith, row_time-le s.rows j, limits.times);
  early = starts-early starts j early;
}

-- the ends from one place on: the one there, and those behind it
pub row_end-drop : (row : List Operation) (times : List ℕ) (i : ℕ) → i < length row → i < length times
    → row_end (drop i row) (drop i times) ≡ max (get_or times i 0 + (step_at row i).time) (row_end (drop (i + 1) row) (drop (i + 1) times))
row_end-drop row times i inside timed =
    ap (λ r. row_end r (drop i times)) (drop_more row i (record { machine = 0; time = 0 }) inside)
    ∙ ap (λ t. row_end (step_at row i ∷ drop (i + 1) row) t) (drop_more times i 0 timed)

pub rows_end-drop : (rows : List (List Operation)) (starts : List (List ℕ)) (i : ℕ) → i < length rows → i < length starts
    → rows_end (drop i rows) (drop i starts) ≡ max (row_end (row_at rows i) (times_at starts i)) (rows_end (drop (i + 1) rows) (drop (i + 1) starts))
rows_end-drop rows starts i inside timed =
    ap (λ r. rows_end r (drop i starts)) (drop_more rows i [] inside)
    ∙ ap (λ t. rows_end (row_at rows i ∷ drop (i + 1) rows) t) (drop_more starts i [] timed)

-- one row more, behind those whose greatest end is end
pub rows_end-more : (rows : List (List Operation)) (starts : List (List ℕ)) (i j end more all : ℕ) → i < length rows → i < length starts → j ≡ i + 1
    → more ≡ max end (row_end (row_at rows i) (times_at starts i)) → max end (rows_end (drop i rows) (drop i starts)) ≡ all → max more (rows_end (drop j rows) (drop j starts)) ≡ all
rows_end-more rows starts i j end more all inside timed next is so_far =
    rw next (omega (arith, rows_end-drop rows starts i inside timed, is, so_far))

-- past the last place there is no end
pub row_end-past : (row : List Operation) (times : List ℕ) (i : ℕ) → i ≡ min (length row) (length times) → row_end (drop i row) (drop i times) ≡ 0
row_end-past [] times zero past = refl
row_end-past [] times (suc i) past = refl
row_end-past (o ∷ os) [] zero past = refl
row_end-past (o ∷ os) (t ∷ ts) zero past = absurd (omega (arith, past))
row_end-past (o ∷ os) [] (suc i) past = absurd (omega (arith, past))
row_end-past (o ∷ os) (t ∷ ts) (suc i) past = row_end-past os ts i (omega (arith, past))

pub rows_end-past : (rows : List (List Operation)) (starts : List (List ℕ)) (i : ℕ) → i ≡ min (length rows) (length starts) → rows_end (drop i rows) (drop i starts) ≡ 0
rows_end-past [] starts zero past = refl
rows_end-past [] starts (suc i) past = refl
rows_end-past (r ∷ rs) [] zero past = refl
rows_end-past (r ∷ rs) (t ∷ ts) zero past = absurd (omega (arith, past))
rows_end-past (r ∷ rs) [] (suc i) past = absurd (omega (arith, past))
rows_end-past (r ∷ rs) (t ∷ ts) (suc i) past = rows_end-past rs ts i (omega (arith, past))
