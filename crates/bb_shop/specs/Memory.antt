-- The memory of a node: its ready times and its small numbers, with those that are not in use.
use Rattle.std.specs.Prelude.{ℕ, List}
use Rattle.bb_shop.specs.declared.node_memory.NodeMemory.{NodeMemory}
use Rattle.bb_shop.specs.declared.node_memory.NodeMemory.TheVariants.{Tiny, Small, Middle, Large, Most}

-- the ready times
abbrev pub times_of : NodeMemory → List ℕ
times_of (Tiny memory) = memory.value.times
times_of (Small memory) = memory.value.times
times_of (Middle memory) = memory.value.times
times_of (Large memory) = memory.value.times
times_of (Most memory) = memory.value.times

-- the small numbers
abbrev pub bytes_of : NodeMemory → List ℕ
bytes_of (Tiny memory) = memory.value.bytes
bytes_of (Small memory) = memory.value.bytes
bytes_of (Middle memory) = memory.value.bytes
bytes_of (Large memory) = memory.value.bytes
bytes_of (Most memory) = memory.value.bytes
