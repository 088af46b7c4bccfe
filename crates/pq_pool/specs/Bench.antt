-- The rule of a table with the words of the base and of the pool alone.
use Rattle.std.specs.Prelude.{◌≡◌, ℕ, ◌+◌, ◌*◌, ◌==◌, false, List, [], Contains, slice_index}
use mathlib.Core.Option.{some}
use lib.ListN.{get_elem?}
use Rattle.atomic_table.specs.Seated.{TableId}
use Rattle.atomic_table.specs.declared.shared.Seat.{Seat}
use Rattle.pq_words.specs.declared.entries.Entry.{Entry}
use Rattle.pq_model.specs.Limits.{max_seats}
use Rattle.pq_model.specs.History.{IsSeat}
use Rattle.pq_model.specs.declared.marks.Reply.TheVariants.{Empty}
use Rattle.pq_seats.specs.declared.views.Limits.{Limits}
use Rattle.pq_seats.specs.declared.views.Post.{Post}
use Rattle.pq_seats.specs.declared.views.View.{View}
use Rattle.pq_seats.specs.declared.shared.Shared.{Shared}
use Rattle.pq_seats.specs.declared.shared.SeatPass.{SeatPass}
use Rattle.pq_seats.specs.Rules.{Rule}
use Rattle.pq_seats.specs.Seats.{Sits}
use Rattle.pq_pool.specs.declared.views.PoolView.{PoolView}
use Rattle.pq_pool.specs.Layout.{builder_word, next_word, first_chunk, chunk_words}
use Rattle.pq_pool.specs.Facts.{PoolFacts}
use Rattle.pq_pool.specs.Views.{idle_view}
use Rattle.pq_pool.specs.Parts.{PoolPart}
use Rattle.pq_pool.specs.PoolLaws.{NamesWords}

-- the pool's part is all that a view holds of the bench
abbrev pub bench_pool : PoolPart PoolView
bench_pool = record { view_of = λ v. v; with_view = λ v w. w }

pub record BenchFacts (k : Limits) (words : List ℕ) (posts : List (Post PoolView)) (left : List Entry) : Type 0 where
  pub pool : PoolFacts bench_pool.view_of k words posts
  -- nobody makes another's call
  pub unwritten : (n : ℕ) → IsSeat max_seats n → slice_index words n ≡ 0
  pub unowed : (j : ℕ) (p : Post PoolView) → get_elem? posts j ≡ some p → p.owed ≡ []
  -- no chunk links to another
  pub unlinked : (c : ℕ) → slice_index words (next_word c) ≡ 0

abbrev pub bench_rule : Rule PoolView
bench_rule = record {
  idle = idle_view;
  -- it has no pin, however often it had one
  rests = λ v. v.pinned ≡ false;
  width = λ k. first_chunk;
  locks = λ k i. i == builder_word;
  ties = BenchFacts;
  taken = λ k v i w. NamesWords k w;
  freed = λ k v i. idle_view;
  batch = λ k p act n. record { before = []; reply = Empty; after = [] };
  drawn = λ k p act n. p.own;
  told = λ v. v;
  knows = λ v letter. Unit {0};
  length_of = λ word. word;
}

-- what a bench with so many chunks is opened for
abbrev pub bench_limits : ℕ → ℕ → ℕ → Limits
bench_limits capacity seats chunks =
    record { capacity = capacity; seats = seats; words = first_chunk + chunk_words * chunks }

-- the seat of a pass that has no pin, and not the builder's word
pub record SeatIsLoose (z : TableId) (k : Limits) (number lanes : ℕ) (seat : Seat (Unit {0}) (View PoolView))
    : Type 0 where
  pub sits : Sits z k number lanes seat
  pub unpinned : seat.me.0.post.own.pinned ≡ false
  pub no_lock : ¬ Contains seat.me.0.post.locks builder_word

module _ {R : Type 0} where
  -- the pass is one of this table, and has no pin and not the builder's word
  abbrev pub IsLoose : Shared R PoolView → SeatPass R PoolView → Type 0
  IsLoose q p = SeatIsLoose q.table.shared.table_id q.table.shared.key p.number p.lanes p.seat
