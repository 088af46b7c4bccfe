-- The rule of a chunk queue, of its parts.
use Rattle.std.specs.Prelude.{◌≡◌, ℕ, ◌-◌, ◌/◌, ◌%◌, ◌^◌, ◌==◌, List, [], length}
use Rattle.pq_words.specs.Limits.{dry_at}
use Rattle.pq_words.specs.declared.entries.Entry.{Entry}
use Rattle.pq_words.specs.declared.fronts.Front.{Front}
use Rattle.pq_words.specs.Fronts.{here}
use Rattle.pq_model.specs.declared.marks.Reply.TheVariants.{Empty}
use Rattle.pq_seats.specs.declared.views.Limits.{Limits}
use Rattle.pq_seats.specs.declared.views.Post.{Post}
use Rattle.pq_seats.specs.Rules.{Rule}
use Rattle.pq_pool.specs.declared.views.PoolState.{PoolState}
use Rattle.pq_pool.specs.Layout.{builder_word}
use Rattle.pq_pool.specs.Facts.{PoolFacts}
use Rattle.pq_pool.specs.Views.{idle_view}
use Rattle.pq_pool.specs.PoolLaws.{NamesWords}
use Rattle.pq_chunk.specs.declared.views.ChunkView.{ChunkView}
use Rattle.pq_chunk.specs.declared.views.Stage.TheVariants.{Idle}
use Rattle.pq_chunk.specs.Layout.{chunk_count, table_words}
use Rattle.pq_chunk.specs.Views.{pool_of, idle_chunk, idle_builder, Rests}
use Rattle.pq_chunk.specs.Front.{FrontFacts}
use Rattle.pq_chunk.specs.Chain.{ChainFacts, Replaced}
use Rattle.pq_chunk.specs.Stages.{PlaceFacts}
use Rattle.pq_chunk.specs.Contents.{ContentFacts}
use Rattle.pq_chunk.specs.Building.{BuilderFacts}
use Rattle.pq_chunk.specs.Offers.{OfferFacts}

-- What the parts of the rule name together: how the chunks and grace bits count, the front word, the insert chunks of
-- the chain, the chunks that have left it, and the multiset's entries in the first chunk and in the others
pub record Shape : Type 0 where
  pub counted : PoolState
  pub front : Front
  pub chunks : List ℕ
  pub old : Replaced
  pub firsts : List Entry
  pub rest : List Entry

-- The words and the posts of all seats stand for the multiset m
pub record ChunkTied (k : Limits) (words : List ℕ) (posts : List (Post ChunkView)) (m : List Entry) : Type 0 where
  pub shape : Shape
  pub sized : k.words ≡ table_words k.capacity
  pub pool : PoolFacts pool_of k words posts
  pub counts : pool.counted ≡ shape.counted
  pub front : FrontFacts k shape.front (length m) words posts
  pub chain : ChainFacts shape.counted shape.front.first shape.chunks shape.old words posts
  pub places : PlaceFacts shape.counted shape.front.first shape.chunks shape.old words posts
  pub content : ContentFacts m shape.firsts shape.rest (here shape.front) shape.front.first shape.chunks words posts
  pub building : BuilderFacts (chunk_count k.capacity) shape.counted shape.old words posts
  pub offers : OfferFacts k.capacity words posts

-- how long the history is, by the front word: the total less the entries left in the first chunk
abbrev pub length_in : ℕ → ℕ
length_in word = word / 2 ^ 32 - (word % 2 ^ 7 - dry_at)

-- what a seat's own part becomes where it takes the builder's word: it names the words of the pool, and nothing else yet
pub record Begins (k : Limits) (o o' : ChunkView) : Type 0 where
  pub names : NamesWords k o'.pool
  pub rest : o' ≡ record o { pool = o'.pool; builder = idle_builder }

-- `batch` and `drawn` are not used: the front word is no plain count, so this queue places its marks by its own steps
abbrev pub chunk_rule : Rule ChunkView
chunk_rule = record {
  idle = idle_chunk;
  rests = Rests;
  width = λ k. table_words k.capacity;
  locks = λ k i. i == builder_word;
  ties = ChunkTied;
  taken = λ k o i o'. Begins k o o';
  freed = λ k o i. record o { pool = idle_view; builder = idle_builder };
  batch = λ k p act n. record { before = []; reply = Empty; after = [] };
  drawn = λ k p act n. p.own;
  told = λ o. record o { stage = Idle };
  knows = λ o letter. Unit {0};
  length_of = length_in;
}
