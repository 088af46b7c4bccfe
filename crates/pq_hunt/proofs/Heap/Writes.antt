-- Nodes after one of them was written, and after two.
use Rattle.std.proofs.Common.{◌≡◌, ◌≢◌, ℕ, ◌+◌, ◌<◌, List, length, set}
use Rattle.std.specs.Prelude.{sum_by}
use Rattle.std.proofs.lemmas.List.{get_or-set_same, get_or-set_other}
use Rattle.pq_nodes.proofs.Written.{IsTwo, two_places, two_place_sums}
use Rattle.pq_hunt.specs.declared.nodes.Node.{Node}
use Rattle.pq_hunt.specs.declared.nodes.Node.TheVariants.{Empty}
use Rattle.pq_hunt.specs.Nodes.{node}

pub node_same : (t : List Node) (h : ℕ) (v : Node) → h < length t → node (set t h v) h ≡ v
node_same t h v lt = get_or-set_same t h v Empty lt

pub node_other : (t : List Node) (h i : ℕ) (v : Node) → i ≢ h → node (set t h v) i ≡ node t i
node_other t h i v ne = get_or-set_other t h i v Empty ne

pub two_writes : (t : List Node) (h : ℕ) (v : Node) (c : ℕ) (w : Node) → h ≢ c → h < length t → c < length t
    → IsTwo t h v c w Empty (set (set t h v) c w)
two_writes t h v c w ne h_in c_in = two_places t h v c w Empty ne h_in c_in

pub two_sums : (f : Node → ℕ) (t : List Node) (h : ℕ) (v : Node) (c : ℕ) (w : Node) → h ≢ c → h < length t
    → c < length t
    → sum_by f (set (set t h v) c w) + f (node t h) + f (node t c) ≡ sum_by f t + f v + f w
two_sums f t h v c w ne h_in c_in = two_place_sums f t h v c w Empty ne h_in c_in
