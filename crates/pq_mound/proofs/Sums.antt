-- Sums over the cells of all lists.
use Rattle.std.proofs.Common.{◌≡◌, ◌≢◌, ℕ, ◌+◌, ◌<◌, List, [], ◌∷◌, ◌++◌, length, set, arith}
use Rattle.std.specs.Prelude.{sum_by}
use Rattle.std.proofs.lemmas.List.Sums.{sum_by-cons, sum_by-append, sum_by-set}
use Rattle.pq_words.specs.declared.entries.Entry.{Entry}
use Rattle.pq_words.specs.Entries.{raw_of}
use Rattle.pq_nodes.proofs.Written.{two_place_sums}
use Rattle.pq_mound.specs.declared.nodes.Cell.{Cell}
use Rattle.pq_mound.specs.declared.nodes.Node.{Node}
use Rattle.pq_mound.specs.declared.nodes.Node.TheVariants.{Resting}
use Rattle.pq_mound.specs.Nodes.{node, cells, all_cells, entries}
use Rattle.pq_mound.specs.LawsHold.Sums.{flat_sum, map_sum}

abbrev pub weight : (ℕ → ℕ) → Cell → ℕ
weight w c = w (raw_of c.entry)

pub entries_weigh : (w : ℕ → ℕ) (cs : List Cell)
    → sum_by (λ (e : Entry). w (raw_of e)) (entries cs) ≡ sum_by (weight w) cs
entries_weigh w cs = map_sum (λ (e : Entry). w (raw_of e)) (λ (c : Cell). c.entry) cs

-- one list is written
pub set_sum : (f : Cell → ℕ) (t : List Node) (h : ℕ) (v : Node) → h < length t
    → sum_by f (all_cells (set t h v)) + sum_by f (cells (node t h)) ≡ sum_by f (all_cells t) + sum_by f (cells v)
set_sum f t h v within = omega (
  arith,
  flat_sum f cells (set t h v),
  flat_sum f cells t,
  sum_by-set (λ (u : Node). sum_by f (cells u)) t h v (Resting []) within,
)

-- two lists are written
pub two_sums : (f : Cell → ℕ) (t : List Node) (h : ℕ) (v : Node) (c : ℕ) (u : Node) → h ≢ c → h < length t
    → c < length t
    → sum_by f (all_cells (set (set t h v) c u)) + sum_by f (cells (node t h)) + sum_by f (cells (node t c))
    ≡ sum_by f (all_cells t) + sum_by f (cells v) + sum_by f (cells u)
two_sums f t h v c u ne h_in c_in = omega (
  arith,
  flat_sum f cells (set (set t h v) c u),
  flat_sum f cells t,
  two_place_sums (λ (x : Node). sum_by f (cells x)) t h v c u (Resting []) ne h_in c_in,
)

-- a cell is put into a list
pub put_sum : (f : Cell → ℕ) (front back : List Cell) (c : Cell)
    → sum_by f (front ++ c ∷ back) ≡ sum_by f (front ++ back) + f c
put_sum f front back c =
    omega (arith, sum_by-append f front (c ∷ back), sum_by-append f front back, sum_by-cons f c back)
