-- The states of chunks and the grace bits of seats, as words and as they count.
use Rattle.std.specs.Prelude.{◌≡◌, ◌≢◌, ℕ, zero, suc, ◌<◌, ◌≤◌, List, length, slice_index}
use Rattle.pq_model.specs.History.{IsSeat}
use Rattle.pq_pool.specs.declared.views.PoolState.{PoolState}
use Rattle.pq_pool.specs.Layout.{state_word, grace_word}

abbrev pub state_of : PoolState → ℕ → ℕ
state_of b c = slice_index b.states c

abbrev pub grace_of : PoolState → ℕ → ℕ
grace_of b n = slice_index b.grace n

-- a chunk is free, being built, live, young or old
abbrev pub free_state : ℕ
free_state = 0

abbrev pub built_state : ℕ
built_state = 1

abbrev pub live_state : ℕ
live_state = 2

abbrev pub young_state : ℕ
young_state = 3

abbrev pub old_state : ℕ
old_state = 4

abbrev pub IsFree : PoolState → ℕ → Type 0
IsFree b c = state_of b c ≡ free_state

abbrev pub IsBuilt : PoolState → ℕ → Type 0
IsBuilt b c = state_of b c ≡ built_state

abbrev pub IsLive : PoolState → ℕ → Type 0
IsLive b c = state_of b c ≡ live_state

abbrev pub IsYoung : PoolState → ℕ → Type 0
IsYoung b c = state_of b c ≡ young_state

abbrev pub IsOld : PoolState → ℕ → Type 0
IsOld b c = state_of b c ≡ old_state

-- it is live, young or old
abbrev pub IsInUse : PoolState → ℕ → Type 0
IsInUse b c = live_state ≤ state_of b c

-- A seat that is pinned may stand on the chunk: it is live or young, or it is old and the seat's grace bit is set
abbrev pub IsSafe : PoolState → ℕ → ℕ → Type 0
IsSafe b n c = IsInUse b c × (IsOld b c → grace_of b n ≢ 0)

-- what becomes of a state where the batches turn: the old chunks become free, and the young ones old
abbrev pub turned : ℕ → ℕ
turned zero = 0
turned (suc zero) = 1
turned (suc (suc zero)) = 2
turned (suc (suc (suc zero))) = 4
turned (suc (suc (suc (suc zero)))) = 0
turned (suc (suc (suc (suc (suc n))))) = suc (suc (suc (suc (suc n))))

-- the lists have a state for each chunk, and a bit for each seat's number
pub record Sized (chunks seats : ℕ) (b : PoolState) : Type 0 where
  pub states : length b.states ≡ chunks
  pub grace : length b.grace ≡ suc seats

-- the words that only the builder writes are these
pub record Written (chunks seats : ℕ) (words : List ℕ) (b : PoolState) : Type 0 where
  pub states : (c : ℕ) → c < chunks → slice_index words (state_word c) ≡ state_of b c
  pub grace : (n : ℕ) → IsSeat seats n → slice_index words (grace_word n) ≡ grace_of b n

-- what is written is what counts
pub record Agrees (seats : ℕ) (a b : PoolState) : Type 0 where
  pub states : (c : ℕ) → state_of a c ≡ state_of b c
  pub grace : (n : ℕ) → IsSeat seats n → grace_of a n ≡ grace_of b n
