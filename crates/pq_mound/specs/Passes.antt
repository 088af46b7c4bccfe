-- What a step of the mound makes of its pass, as the contracts of its parts see it.
use Rattle.std.specs.Prelude.{◌≤◌, ℕ, List, [], ◌∷◌, length, Option, Some, None}
use Rattle.pq_seats.specs.declared.views.Post.{Post}
use Rattle.pq_seats.specs.declared.views.View.{View}
use Rattle.pq_seats.specs.Posts.{with_lock, without_lock}
use Rattle.pq_nodes.specs.Passes.{ComesTo}
use Rattle.pq_mound.specs.declared.views.MoundPart.{MoundPart}
use Rattle.pq_mound.specs.declared.views.OwnCell.{OwnCell}
use Rattle.pq_mound.specs.Layout.{cells_lock}
use Rattle.pq_mound.specs.Views.{with_free}

-- the seat took the cells' lock, and its view names the free cells, which are as many as their count says
abbrev pub TookCells : View MoundPart → View MoundPart → ℕ → Type 0
TookCells v w capacity = (free : List ℕ) × (length free ≤ capacity) ×
    ComesTo v w (with_lock v.post cells_lock (with_free v.post.own free (length free)))

abbrev pub without_cells : Post MoundPart → Post MoundPart
without_cells p = without_lock p cells_lock (with_free p.own [] 0)

-- the post of a seat that holds no lock of a node, and the cells' lock or none; and a cell, or none
abbrev pub post_with : ℕ → List ℕ → List ℕ → ℕ → Option OwnCell → Post MoundPart
post_with number locks free count held = record {
  number = number;
  locks = locks;
  flight = None;
  owed = [];
  own = record { guards = []; free = free; count = count; held = held };
}

-- a seat that holds this cell, and nothing else
abbrev pub with_cell : ℕ → OwnCell → Post MoundPart
with_cell number o = post_with number [] [] 0 (Some o)

-- a seat that holds the cells' lock, and no lock of a node
abbrev pub at_cells : ℕ → List ℕ → ℕ → Option OwnCell → Post MoundPart
at_cells number free count held = post_with number (cells_lock ∷ []) free count held
