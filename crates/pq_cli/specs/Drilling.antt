-- What a drill writes: what lanes on a queue, and a search over one of its kind, come to.
use Rattle.std.specs.Prelude.{ℕ, ◌*◌, List}
use Rattle.inst_text.specs.Generator.{made_knapsack}
use Rattle.inst_text.specs.Knapsack.{Instance}
use Rattle.bb_knap.specs.Branching.{best_value}
use Rattle.pq_cli.specs.Texts.{summary_text}

-- how many items the knapsack of a drill has
abbrev pub drill_items : ℕ
drill_items = 12

-- how many nodes its search may make
abbrev pub drill_nodes : ℕ
drill_nodes = 16000

-- the greatest value of a choice that fits
abbrev pub greatest_value : Instance → ℕ
greatest_value i = best_value i.capacity i.items

-- Each lane inserts so many entries and removes as many, with a mark for each; nothing is left; and the best choice of
-- the knapsack that belongs to the seed has this value.
abbrev pub drill_text : ℕ → ℕ → ℕ → List ℕ
drill_text workers seed size =
    summary_text (2 * (workers * size)) 0 (greatest_value (made_knapsack seed drill_items))
