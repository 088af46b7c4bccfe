-- What a seat's post is in the course of a call of the heap.
use Rattle.std.specs.Prelude.{◌≡◌, ℕ, ◌≤◌, Bool, true, false, List, [], ◌∷◌}
use Rattle.std.specs.Prelude.{Option, Some, None}
use Rattle.pq_words.specs.declared.entries.Entry.{Entry}
use Rattle.pq_words.specs.declared.heap_words.HeapWord.{HeapWord}
use Rattle.pq_words.specs.HeapWords.{heap_number}
use Rattle.pq_seats.specs.declared.views.Post.{Post}
use Rattle.pq_seats.specs.declared.views.View.{View}
use Rattle.pq_seats.specs.Letters.{without}
use Rattle.pq_seats.specs.Posts.{with_lock, without_lock}
use Rattle.pq_hunt.specs.declared.nodes.Node.{Node}
use Rattle.pq_hunt.specs.declared.nodes.Node.TheVariants.{Empty, Available, Busy, Hole}
use Rattle.pq_hunt.specs.Guards.{Guard}
use Rattle.pq_hunt.specs.declared.views.HuntPart.{HuntPart}
use Rattle.pq_hunt.specs.Layout.{heap_lock}
use Rattle.pq_hunt.specs.Words.{node_of}
use Rattle.pq_nodes.specs.Views.{guard, locks_of, refilled}
use Rattle.pq_nodes.specs.Passes.{ComesTo}
use Rattle.pq_hunt.specs.Views.{idle, with_guards, with_size}
use Rattle.pq_nodes.specs.Parts.{guarding}
use Rattle.pq_hunt.specs.Steps.{first_entry}
use Rattle.pq_hunt.specs.NodeParts.{hunt_nodes}

-- the heap's lock, where it is held
abbrev pub heap_locks : Bool → List ℕ
heap_locks true = heap_lock ∷ []
heap_locks false = []

-- the post of a seat that holds the locks of its guards' nodes, and the heap's lock or not
abbrev pub post_with : ℕ → Bool → Option Entry → List (ℕ × ℕ) → HuntPart → Post HuntPart
post_with number heap flight owed own =
    record { number = number; locks = locks_of own.guards (heap_locks heap); flight = flight; owed = owed; own = own }

-- the heap's lock was taken, and the view names the size; it was freed
abbrev pub TookHeap : View HuntPart → View HuntPart → ℕ → Type 0
TookHeap v w capacity = (size : ℕ) × (size ≤ capacity) ×
    ComesTo v w (with_lock v.post heap_lock (with_size v.post.own size size))

abbrev pub without_heap : Post HuntPart → Post HuntPart
without_heap p = without_lock p heap_lock (with_size p.own 0 0)

-- the post of a seat that filled its hole
abbrev pub filled : Post HuntPart → ℕ → Post HuntPart
filled p word = guarding hunt_nodes p (refilled word (Available (first_entry p.own.guards)) p.own.guards)

-- A seat whose insert of e is in flight, and that looks for the entry at this node. It holds no lock
abbrev pub in_flight : ℕ → Entry → ℕ → Post HuntPart
in_flight number e node = post_with number false (Some e) [] (record idle { place = node; climbing = 1 })

-- A seat that holds the heap's lock, and has read this size
abbrev pub at_heap : ℕ → ℕ → Post HuntPart
at_heap number size = post_with number true None [] (with_size idle size size)

-- A remover that guards one hole, with the entry in hand, and the word that the node still has
abbrev pub at_hole : ℕ → ℕ → ℕ → Entry → Post HuntPart
at_hole number node word hand = post_with number false None [] (with_guards idle (guard node word (Hole hand) ∷ []))

-- A seat whose insert of e is in flight, and that guards these nodes
abbrev pub guarding_flight : ℕ → Entry → ℕ → List Guard → Post HuntPart
guarding_flight number e place guards =
    post_with number false (Some e) [] (record idle { guards = guards; place = place; climbing = 1 })

-- A remover that holds the heap's lock, and guards these nodes. It owes these letters, and the size is stored and
-- counts as these
abbrev pub removing : ℕ → List (ℕ × ℕ) → ℕ → ℕ → List Guard → Post HuntPart
removing number owed stored counted guards =
    post_with number true None owed (with_guards (with_size idle stored counted) guards)

-- the guard of a node that counts as its word says
abbrev pub saying : ℕ → HeapWord → Guard
saying node word = guard node (heap_number word) (node_of word)

-- the letters that are still owed once the owner of the insert that a node holds has its own
abbrev pub owed_after : Node → List (ℕ × ℕ) → List (ℕ × ℕ)
owed_after Empty owed = owed
owed_after (Available e) owed = owed
owed_after (Busy o e) owed = without o owed
owed_after (Hole e) owed = owed

abbrev pub telling : Post HuntPart → Node → Post HuntPart
telling p node = record p { owed = owed_after node p.owed }

-- A remover that sifts, and holds the locks of these guards' nodes alone
abbrev pub sifting : ℕ → List Guard → Post HuntPart
sifting number guards = post_with number false None [] (with_guards idle guards)

abbrev pub IsHolding : View HuntPart → List Guard → Type 0
IsHolding v guards = v.post ≡ sifting v.post.number guards

-- after a part of its turn it holds these
abbrev pub Leaves : View HuntPart → View HuntPart → List Guard → Type 0
Leaves v w guards = ComesTo v w (sifting v.post.number guards)
