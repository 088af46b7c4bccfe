-- What each step makes of the post of the seat that steps.
use Rattle.std.specs.Prelude.{ℕ, ◌==◌, List, [], ◌∷◌, ◌++◌, None}
use mathlib.Core.Bool.{cond}
use Rattle.pq_words.specs.declared.entries.Entry.{Entry}
use Rattle.pq_model.specs.declared.marks.Act.{Act}
use Rattle.pq_model.specs.Passes.{call}
use Rattle.pq_seats.specs.declared.views.Post.{Post}
use Rattle.pq_seats.specs.declared.views.View.{View}
use Rattle.pq_seats.specs.Views.{with_made}
use Rattle.pq_seats.specs.Letters.{back, without}
use Rattle.pq_seats.specs.Batches.{Batch, own_place, letters_of, letters_from}

-- the list without this number
abbrev pub less : ℕ → List ℕ → List ℕ
less n [] = []
less n (x ∷ xs) = cond (x == n) (less n xs) (x ∷ less n xs)

module _ {O : Type 0} where
  -- a lock is taken, and then freed
  abbrev pub with_lock : Post O → ℕ → O → Post O
  with_lock p i own = record p { locks = i ∷ p.locks; own = own }

  abbrev pub without_lock : Post O → ℕ → O → Post O
  without_lock p i own = record p { locks = less i p.locks; own = own }

  -- a letter was left with its owner
  abbrev pub without_letter : Post O → ℕ → Post O
  without_letter p owner = record p { owed = without owner p.owed }

  -- a batch was placed, from this place on: no insert of the seat is in flight any more, and it owes the letters
  abbrev pub placed_post : Post O → Batch → O → ℕ → Post O
  placed_post p b own first = record p { flight = None; owed = p.owed ++ letters_from first b; own = own }

  -- the view after it has the seat's own call, at the place of its mark
  abbrev pub placed_view : View O → Act → Batch → O → ℕ → View O
  placed_view v act b own first =
      record (with_made v (call (own_place first b) act b.reply)) { post = placed_post v.post b own first }

  -- inserts of others were placed alone: the seat owes the letters, and its own insert stays in flight
  abbrev pub helped_post : Post O → List (ℕ × Entry) → O → ℕ → Post O
  helped_post p hs own first = record p { owed = p.owed ++ letters_of first hs; own = own }

  -- the insert of this owner was sent back: the seat owes it the letter Back
  abbrev pub owing_back : Post O → ℕ → O → Post O
  owing_back p owner own = record p { owed = p.owed ++ (owner, back) ∷ []; own = own }
