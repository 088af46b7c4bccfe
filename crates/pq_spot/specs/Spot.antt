-- The rule of a queue that takes one entry at a time, always the same. Behind the letters it has a lock, and the spot:
-- 0 where nothing is there, 1 where the entry is in the queue, and n + 1 where the seat n offers it.
use Rattle.std.specs.Prelude.{◌≡◌, ◌<◌, ◌≤◌, ℕ, zero, suc, ◌-◌, ◌^◌, ◌==◌, Bool, true, false, List, [], ◌∷◌}
use Rattle.std.specs.Prelude.{Option, Some, None, Contains, slice_index}
use mathlib.Core.Option.{some}
use lib.ListN.{get_elem?}
use Rattle.atomic_table.specs.Table.{Me, Step}
use Rattle.pq_words.specs.declared.entries.Entry.{Entry}
use Rattle.pq_model.specs.declared.marks.Act.{Act}
use Rattle.pq_model.specs.declared.marks.Act.TheVariants.{Insert, Remove, RemoveBelow}
use Rattle.pq_model.specs.declared.marks.Reply.TheVariants.{Done, Got, Empty}
use Rattle.pq_model.specs.EntryWords.{entry_of}
use Rattle.pq_model.specs.History.{IsSeat}
use Rattle.pq_model.specs.Limits.{max_seats}
use Rattle.pq_seats.specs.declared.views.Limits.{Limits}
use Rattle.pq_seats.specs.declared.views.Post.{Post}
use Rattle.pq_seats.specs.declared.views.View.{View}
use Rattle.pq_api.specs.Answers.{MakesCall}
use Rattle.pq_seats.specs.Views.{known_of, with_post, with_seen}
use Rattle.pq_seats.specs.Letters.{letter_count}
use Rattle.pq_seats.specs.Batches.{Batch}
use Rattle.pq_seats.specs.Posts.{helped_post, owing_back, placed_view}
use Rattle.pq_seats.specs.Laws.{history_limit}
use Rattle.pq_seats.specs.Rules.{Rule}
use Rattle.pq_spot.specs.declared.views.SpotPart.{SpotPart}

-- the one entry
abbrev pub token : Entry
token = entry_of 0 0

abbrev pub lock_word : ℕ
lock_word = 17

abbrev pub spot_word : ℕ
spot_word = 18

-- how many words the table has at least
abbrev pub words_needed : ℕ
words_needed = 19

-- the greatest word of the spot: the greatest number of a seat, and one
abbrev pub max_word : ℕ
max_word = suc max_seats

abbrev pub part : ℕ → ℕ → Bool → SpotPart
part stored counted out = record { stored = stored; counted = counted; out = out }

abbrev pub idle : SpotPart
idle = part 0 0 false

-- the entries in the queue, by what the spot counts as
abbrev pub held : ℕ → List Entry
held zero = []
held (suc zero) = token ∷ []
held (suc (suc n)) = []

-- The seat n offers the entry: its insert is in flight, and nobody has placed it
pub record IsOffered (n : ℕ) (words : List ℕ) (posts : List (Post SpotPart)) : Type 0 where
  pub seat : IsSeat max_seats n
  pub id : ℕ
  pub post : Post SpotPart
  pub stands : get_elem? posts id ≡ some post
  pub number : post.number ≡ n
  pub flight : post.flight ≡ Some token
  pub out : post.own.out ≡ true
  pub unwritten : letter_count n words posts ≡ 0

-- What holds between any two steps
pub record SpotTied (k : Limits) (words : List ℕ) (posts : List (Post SpotPart)) (left : List Entry) : Type 0 where
  pub room : 1 ≤ k.capacity
  -- what the spot counts as
  pub counted : ℕ
  pub entries : left ≡ held counted
  pub offers : (n : ℕ) → counted ≡ suc (suc n) → IsOffered (suc n) words posts
  -- it is what its word says, and under the lock what the holder's view says
  pub free : slice_index words lock_word ≡ 0 → slice_index words spot_word ≡ counted
  pub mine : (j : ℕ) (p : Post SpotPart) → get_elem? posts j ≡ some p → Contains p.locks lock_word
      → (p.own.counted ≡ counted) × (p.own.stored ≡ slice_index words spot_word)
  -- who has no offer out has no letter
  pub quiet : (j : ℕ) (p : Post SpotPart) → get_elem? posts j ≡ some p → IsSeat max_seats p.number → p.own.out ≡ false
      → letter_count p.number words posts ≡ 0

-- A removal takes the entry. Where a seat offers it, that seat's insert is placed before
abbrev pub removal : ℕ → Batch
removal zero = record { before = []; reply = Empty; after = [] }
removal (suc zero) = record { before = []; reply = Got token; after = [] }
removal (suc (suc n)) = record { before = (suc n, token) ∷ []; reply = Got token; after = [] }

abbrev pub batch_of : ℕ → Act → Batch
batch_of counted (Insert e) = record { before = []; reply = Done; after = [] }
batch_of counted Remove = removal counted
batch_of counted (RemoveBelow limit) = removal counted

-- what the spot counts as then
abbrev pub after_draw : Act → ℕ
after_draw (Insert e) = 1
after_draw Remove = 0
after_draw (RemoveBelow limit) = 0

-- who draws its own insert has nothing out any more
abbrev pub out_after : Act → Bool → Bool
out_after (Insert e) out = false
out_after Remove out = out
out_after (RemoveBelow limit) out = out

abbrev pub spot_rule : Rule SpotPart
spot_rule = record {
  idle = idle;
  rests = λ own. own ≡ idle;
  width = λ k. words_needed;
  locks = λ k i. i == lock_word;
  ties = SpotTied;
  taken = λ k v i w. (w.stored ≡ w.counted) × (w.out ≡ v.out);
  freed = λ k v i. part 0 0 v.out;
  batch = λ k p act n. batch_of p.own.counted act;
  drawn = λ k p act n. part p.own.stored (after_draw act) (out_after act p.own.out);
  told = λ v. part v.stored v.counted false;
  knows = λ v letter. Unit {0};
  length_of = λ word. word;
}

-- the post of a seat that has stored a word at the spot, and of one that offers the entry there
abbrev pub stored_post : Post SpotPart → ℕ → Post SpotPart
stored_post p x = record p { own = part x p.own.counted p.own.out }

abbrev pub offered_post : Post SpotPart → Post SpotPart
offered_post p = record p { flight = Some token; own = part (suc p.number) (suc p.number) true }

-- Where the seat owner offers the entry: of one that has placed that insert, and of one that has sent it back
abbrev pub accepted_post : Post SpotPart → ℕ → ℕ → Post SpotPart
accepted_post p owner place = helped_post p ((owner, token) ∷ []) (part p.own.stored 1 p.own.out) place

abbrev pub refused_post : Post SpotPart → ℕ → Post SpotPart
refused_post p owner = owing_back p owner (part 0 0 p.own.out)

-- A removal that looks for no offer takes what is in the queue
abbrev pub plain_removal : ℕ → Batch
plain_removal zero = removal 0
plain_removal (suc zero) = removal 1
plain_removal (suc (suc n)) = removal 0

abbrev pub after_removal : ℕ → ℕ
after_removal zero = 0
after_removal (suc zero) = 0
after_removal (suc (suc n)) = suc (suc n)

abbrev pub removed_view : View SpotPart → ℕ → View SpotPart
removed_view v place = placed_view v Remove (plain_removal v.post.own.counted)
    (part v.post.own.stored (after_removal v.post.own.counted) v.post.own.out) place

-- the front of a seat that has seen a history of this length, where it has no insert in flight
abbrev pub front_after : Option Entry → ℕ → ℕ → ℕ
front_after None front long = long
front_after (Some e) front long = front

abbrev pub seen_view : View SpotPart → ℕ → View SpotPart
seen_view v long = with_seen v (front_after v.post.flight v.front long)

-- Of a step at the spot: the view that was, what was found, and the view that is
module _ (st : Step (Unit {0})) (m : Me (Unit {0}) (View SpotPart)) (found : ℕ)
    (m' : Me (Unit {0}) (View SpotPart)) where
  abbrev pub looks : Type 0
  looks = (m' ≡ m) × (found ≡ m.0.post.own.stored) × (m.0.post.own.counted ≤ max_word)

  abbrev pub offers : Type 0
  offers = m' ≡ (with_post m.0 (offered_post m.0.post), m.1)

  -- the word was the length of the history, and is one more where a mark was placed
  abbrev pub sees : Type 0
  sees = (m' ≡ (seen_view m.0 found, m.1)) × (m.0.front ≤ found) × (found < 2 ^ 30)

  abbrev pub accepts : Type 0
  accepts = (m' ≡ (with_post m.0 (accepted_post m.0.post (m.0.post.own.counted - 1) found), m.1)) × (found < 2 ^ 30)

  abbrev pub removes : Type 0
  removes = (m' ≡ (removed_view m.0 found, m.1)) × (found < 2 ^ 30)
      × MakesCall (known_of m.0) found Remove (plain_removal m.0.post.own.counted).reply (known_of m'.0)

  abbrev pub refuses : Type 0
  refuses = m' ≡ (with_post m.0 (refused_post m.0.post (m.0.post.own.counted - 1)), m.1)

  abbrev pub puts : Type 0
  puts = (m' ≡ (with_post m.0 (stored_post m.0.post st.first), m.1)) × (m.0.front ≤ history_limit)
