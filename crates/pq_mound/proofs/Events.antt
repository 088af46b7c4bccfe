-- One lemma for each step of the mound: the facts before give the facts after.
use Rattle.std.proofs.Common.{◌≡◌, ℕ, zero, suc, ◌+◌, ◌<◌, ◌≤◌, List, [], ◌∷◌, ◌++◌, length, replicate, set, refl}
use Rattle.std.proofs.Common.{sym, ap, ◌∙◌, subst, arith}
use Rattle.std.specs.Prelude.{sum_by}
use Rattle.std.proofs.lemmas.List.{length-set, length-replicate, length-map}
use Rattle.std.proofs.lemmas.List.Concat.{flat_map-cons}
use Rattle.std.proofs.lemmas.List.Sums.{sum_by-cons}
use Rattle.pq_words.specs.declared.entries.Entry.{Entry}
use Rattle.pq_words.specs.Entries.{raw_of}
use Rattle.pq_model.specs.Multiset.{IsRising, add, without_least, sorted_of}
use Rattle.pq_model.proofs.Multisets.{sum_by-add, IsRising-add, IsRising-without_least, length-sorted_of}
use Rattle.pq_mound.specs.declared.nodes.Cell.{Cell}
use Rattle.pq_mound.specs.declared.nodes.Node.{Node}
use Rattle.pq_mound.specs.declared.nodes.Node.TheVariants.{Resting, Hole, Joining}
use Rattle.pq_mound.specs.Nodes.{node, cells, all_cells, entries, numbers, cell}
use Rattle.pq_mound.specs.Order.{value, bound, before, behind, joined}
use Rattle.pq_mound.specs.Cells.{times, IsDealt}
use Rattle.pq_mound.specs.Facts.{MoundFacts}
use Rattle.pq_mound.specs.Laws.{FullWhereNoneIsFree, JoinsKeep, RestsKeep, HeadsAreLeast, EmptyRootsHoldNone, TakesKeep}
use Rattle.pq_mound.specs.Laws.{SwapsKeep, EndsKeep, NewMoundsKeep, HandsChange}
use Rattle.pq_mound.specs.LawsHold.Sums.{is_cell, numbers_times, times-here}
use Rattle.pq_mound.proofs.Lists.{split, put_cells}
use Rattle.pq_mound.proofs.Sums.{weight, set_sum, two_sums, put_sum}
use Rattle.pq_mound.proofs.Mounds.{IsMound, join, rest, take_head, swap, end}
use Rattle.pq_mound.proofs.Least.{Holds, by_weights, in_entries, least_head, empty_root, without_sum}
use Rattle.pq_mound.proofs.Counts.{times-cons, times-some, dealt_count}

module _ {capacity : ℕ} {free held : List ℕ} {t : List Node} {m : List Entry}
    (f : MoundFacts capacity free held t m) where
  mound_in : IsMound t
  mound_in = record { first = f.first; sorted = f.sorted; ordered = f.ordered }

  holds_in : Holds t m
  holds_in = (by_weights t m f.holds).0

  rising_in : IsRising m
  rising_in = (by_weights t m f.holds).1

  -- the multiset, the free cells and those held are all cells
  pub counted : length m + length free + length held ≡ capacity
  counted = let all = dealt_count capacity (numbers (all_cells t)) free held f.dealt in
      omega (
        arith,
        length-map (all_cells t) (λ (c : Cell). c.number),
        length-map (all_cells t) (λ (c : Cell). c.entry),
        ap (λ (z : List Entry). length z) f.holds,
        length-sorted_of (entries (all_cells t)),
      )

facts_out : (capacity : ℕ) (free held : List ℕ) (t : List Node) (m : List Entry) → 1 < length t → IsMound t → Holds t m
    → IsRising m → IsDealt capacity (numbers (all_cells t)) free held → MoundFacts capacity free held t m
facts_out capacity free held t m rooted mound holds rising dealt = record {
  rooted = rooted;
  first = mound.first;
  sorted = mound.sorted;
  ordered = mound.ordered;
  holds = in_entries t m holds rising;
  dealt = dealt;
}

-- cells are dealt out after one list was written, by sums
dealt_set : (capacity : ℕ) (free held held' : List ℕ) (t : List Node) (h : ℕ) (v : Node) → h < length t
    → IsDealt capacity (numbers (all_cells t)) free held
    → ((k : ℕ) → sum_by (is_cell k) (cells v) + times k held' ≡ sum_by (is_cell k) (cells (node t h)) + times k held)
    → IsDealt capacity (numbers (all_cells (set t h v))) free held'
dealt_set capacity free held held' t h v within d moved = record {
  once = λ k. let old = d.once k in let sum = set_sum (is_cell k) t h v within in let move = moved k in
      omega (arith, numbers_times k (all_cells t), numbers_times k (all_cells (set t h v)));
}

-- a list is written that has the same cells
same_cells : (capacity : ℕ) (free held : List ℕ) (t : List Node) (m : List Entry) (h : ℕ) (v : Node)
    → MoundFacts capacity free held t m → h < length t → IsMound (set t h v) → cells (node t h) ≡ cells v
    → MoundFacts capacity free held (set t h v) m
same_cells capacity free held t m h v f within mound same = facts_out capacity free held (set t h v) m
    (let rooted = f.rooted in omega (arith, length-set t h v)) mound
    (record {
      same = λ w. let old = (holds_in f).same w in let sum = set_sum (weight w) t h v within in
          let at : sum_by (weight w) (cells (node t h)) ≡ sum_by (weight w) (cells v) =
          ap (sum_by (weight w)) same in omega arith;
    })
    (rising_in f)
    (dealt_set capacity free held held t h v within f.dealt
    (λ k. let at : sum_by (is_cell k) (cells (node t h)) ≡ sum_by (is_cell k) (cells v) =
    ap (sum_by (is_cell k)) same in omega arith))

-- Full, where no cell is free
pub event_full : FullWhereNoneIsFree
event_full seats capacity held t m f few = let all = counted f in omega arith

-- the cell of an insert joins a list, and the insert has its place
pub event_join : JoinsKeep
event_join capacity free held held' t m i k e list f some within is may own =
    let c : Cell = cell k e in let v : Node = joined list c in let all = counted f in
    let front : List Cell = before e list in let back : List Cell = behind e list in let s = split e list in
    let at : (g : Cell → ℕ) → sum_by g (cells v) ≡ sum_by g (cells (node t i)) + g c =
    (λ g. let old : sum_by g (cells (node t i)) ≡ sum_by g list = ap (λ (u : Node). sum_by g (cells u)) is in
    let whole : sum_by g (front ++ back) ≡ sum_by g list = ap (sum_by g) s.whole in
    let one = put_sum g front back c in let same : sum_by g (cells v) ≡ sum_by g (front ++ c ∷ back) = ap (sum_by g)
    (put_cells front back c) in omega arith) in (
      (let held_some = held_one held held' k own in omega arith),
      facts_out capacity free held' (set t i v) (add e m) (let rooted = f.rooted in omega (arith, length-set t i v))
          (join t i c list (mound_in f) some within is may)
          (record {
            same = λ w. let old = (holds_in f).same w in let sum = set_sum (weight w) t i v within in
                let one = at (weight w) in let added = sum_by-add (λ (z : Entry). w (raw_of z)) e m in omega arith;
          })
          (IsRising-add e m (rising_in f))
          (dealt_set capacity free held held' t i v within f.dealt
          (λ n. let one = at (is_cell n) in let mine = own n in omega (arith, times-cons n k held'))),
    )
  where
    held_one : (held held' : List ℕ) (k : ℕ) → ((n : ℕ) → times n held ≡ times n (k ∷ held')) → 1 ≤ length held
    held_one held held' k own = times-some k held (let is = own k in omega (arith, times-here k held'))

-- the cell is linked
pub event_rest : RestsKeep
event_rest capacity free held t m i front back c f some within is =
    same_cells capacity free held t m i (Resting (front ++ c ∷ back)) f within
    (rest t i (Joining front c back) (front ++ c ∷ back) (mound_in f) some within is refl refl) (ap cells is)

pub event_least : HeadsAreLeast
event_least capacity free held t m c list f is =
    least_head t m c list (mound_in f) (holds_in f) (rising_in f) f.rooted is

pub event_empty : EmptyRootsHoldNone
event_empty capacity free held t m f is = empty_root t m (mound_in f) (holds_in f) is

-- the head is taken off the root's list, and the removal has its place
pub event_take : TakesKeep
event_take capacity free held held' t m c list f is own = let within = f.rooted in let v : Node = Hole list in
    let at : (g : Cell → ℕ) → sum_by g (cells (node t 1)) ≡ g c + sum_by g list =
    (λ g. ap (λ (u : Node). sum_by g (cells u)) is ∙ sum_by-cons g c list) in
    facts_out capacity free held' (set t 1 v) (without_least m) (omega (arith, length-set t 1 v))
    (take_head t c list (mound_in f) within is)
    (record {
      same = λ w. let old = (holds_in f).same w in let sum = set_sum (weight w) t 1 v within in
          let one = at (weight w) in
          let less = without_sum w m c.entry (event_least capacity free held t m c list f is) in omega arith;
    })
    (IsRising-without_least m (rising_in f))
    (dealt_set capacity free held held' t 1 v within f.dealt
    (λ n. let one = at (is_cell n) in let mine = own n in omega (arith, times-cons n c.number held)))

-- two lists change places
pub event_swap : SwapsKeep
event_swap capacity free held t m h c d lower upper f some within child pair at_h at_c le may =
    let v : Node = Resting upper in let u : Node = Hole lower in let t' : List Node = set (set t h v) c u in
    let same : (g : Cell → ℕ) → sum_by g (all_cells t') ≡ sum_by g (all_cells t) =
    (λ g. let sums = two_sums g t h v c u (omega arith) (omega arith) within in
    let a = ap (λ (z : Node). sum_by g (cells z)) at_h in let b = ap (λ (z : Node). sum_by g (cells z)) at_c in
    omega arith) in
    facts_out capacity free held t' m
    (let rooted = f.rooted in omega (arith, length-set (set t h v) c u, length-set t h v))
    (swap t h c d lower upper (mound_in f) some within child pair at_h at_c le may)
    (record { same = λ w. let old = (holds_in f).same w in let one = same (weight w) in omega arith }) (rising_in f)
    (record {
      once = λ k. let old = f.dealt.once k in let one = same (is_cell k) in
          omega (arith, numbers_times k (all_cells t), numbers_times k (all_cells t'));
    })

-- the hole ends
pub event_end : EndsKeep
event_end capacity free held t m h list f some within is may =
    same_cells capacity free held t m h (Resting list) f within (end t h list (mound_in f) some within is may)
    (ap cells is)

-- a cell changes hands
pub event_hands : HandsChange
event_hands capacity free free' held held' t m f same = record {
  rooted = f.rooted;
  first = f.first;
  sorted = f.sorted;
  ordered = f.ordered;
  holds = f.holds;
  dealt = record { once = λ k. let old = f.dealt.once k in let moved = same k in omega arith };
}

-- a new mound
empties : (n i : ℕ) → node (replicate n (Resting [])) i ≡ Resting []
empties zero i = refl
empties (suc n) zero = refl
empties (suc n) (suc i) = empties n i

no_cells : (n : ℕ) → all_cells (replicate n (Resting [])) ≡ []
no_cells zero = refl
no_cells (suc n) = flat_map-cons cells (Resting []) (replicate n (Resting [])) ∙ no_cells n

pub event_open : NewMoundsKeep
event_open capacity n free some d = let t : List Node = replicate n (Resting []) in record {
  rooted = omega (arith, length-replicate n (Resting []));
  first = empties n 0;
  sorted = λ i. subst (λ (v : Node). IsRising (entries (cells v))) (sym (empties n i)) tt;
  ordered = record {
    order = λ a i up. let at : bound (node t a) ≡ bound (Resting []) = ap bound (empties n a) in
        let is : value (node t i) ≡ value (Resting []) = ap value (empties n i) in omega arith;
  };
  holds = ap (λ (cs : List Cell). sorted_of (entries cs)) (sym (no_cells n));
  dealt = subst (λ (cs : List Cell). IsDealt capacity (numbers cs) free []) (sym (no_cells n)) d;
}
