-- How a turn ends: with the last call of all, or with children that are put.
use Rattle.std.proofs.Common.{◌≡◌, ℕ, ◌+◌, ◌<◌, ◌≤◌, true, false, List, [], ◌∷◌, ◌++◌, length, drop, length-drop, Option, refl, sym, ap, ◌∙◌, subst, inl, inr, arith}
use Rattle.std.specs.Prelude.{Contains, Result, Ok, Err, IfOk, IfErr}
use Rattle.pq_words.specs.declared.entries.Entry.{Entry}
use Rattle.pq_model.specs.declared.marks.Act.TheVariants.{Insert, RemoveBelow}
use Rattle.pq_model.specs.declared.marks.Reply.{Reply}
use Rattle.pq_model.specs.declared.marks.Reply.TheVariants as replies
use Rattle.pq_model.specs.declared.passes.Known.{Known}
use Rattle.pq_model.specs.Passes.{call, lane, Knows, with_call}
use Rattle.bb_problem.specs.declared.step.Step.{Step}
use Rattle.bb_problem.specs.Meaning.{Meaning, IsLawful}
use Rattle.bb_problem.specs.Expanding.{StandBelow, IsExpanded}
use Rattle.bb_shared.specs.declared.store.stored.Numbered.{Numbered}
use Rattle.pq_numbers.specs.declared.draws.Draw.{Draw}
use Rattle.bb_shared.specs.declared.store.stored.Stored.{Stored}
use Rattle.bb_shared.specs.declared.control.told.Told.{Told}
use Rattle.bb_shared.specs.declared.control.stop.Stop.{Stop}
use Rattle.bb_shared.specs.declared.control.stop.Stop.TheVariants.{Full, NodeLimit}
use Rattle.bb_shared.specs.Stores.{numbered, with_draw, with_take, IsFree, KnowsStore}
use Rattle.pq_numbers.specs.Draws.{draw_of}
use Rattle.bb_shared.specs.Controls.{IsRead, IsClosed, with_opened, with_closed}
use Rattle.bb_pool.specs.declared.child.Child.{Child}
use Rattle.bb_pool.specs.Costs.{is_better, limit_of}
use Rattle.bb_pool.specs.Children.{AreBounds, better_keys}
use Rattle.bb_pool.specs.Underway.{cost_so_far}
use Rattle.bb_pool.specs.Endings.{IsWhole, IsNoneBelow, EndsAt}
use Rattle.bb_pool.specs.Working.{Waiting, kept_of, IsHolding, IsInTurn}
use Rattle.bb_pool.specs.Together.{Doing, AtWork, GoesOn, IsCause}
use Rattle.bb_pool.specs.Turns.{IsHalt, HoldsNode, HasExpanded, HasRead, EndsIfWhole, WaitsFrom, AreFree, IsPut}
use Rattle.bb_pool.proofs.Members.{none_in_empty, Contains-here, Contains-cases, Contains-right, Contains-either}
use Rattle.bb_pool.proofs.Bounds.{bounds_length}
use Rattle.bb_pool.proofs.Ending.{ends_at}
use Rattle.bb_pool.proofs.Several.Expanded.{waiting, kept_by, kept_length}
use Rattle.bb_pool.proofs.Several.Working.{read_low, read_own, cut_lowered, held_lowered, call_more, node_taken, node_dropped, branch_waits, drew, put_first, turn_ended}
use Rattle.bb_pool.proofs.Several.Counting.{reached, same_read, goes_told, goes_drawn, goes_idle, goes_taken, goes_further}

-- The call asked for an entry below the best cost of all, where all are joined.
pub ends_here : (seats capacity : ℕ) (before k : Known) (place limit : ℕ) (reply : Reply) (c d : Told) (best r : Option ℕ) → k ≡ with_call before place (RemoveBelow limit) reply → IsNoneBelow reply → limit ≡ limit_of r → IsRead c r d → c.own ≡ best
    → Knows seats capacity k → d.parts ≡ d.seats → IsWhole seats k → EndsAt seats capacity (limit_of best) k × (d.read ≡ d.own)
ends_here seats capacity before k place limit reply c d best r is none asked reading told knows all whole =
    let parts : d.parts ≡ c.parts = ap (λ (z : Told). z.parts) reading.is in let seats_are : d.seats ≡ c.seats = ap (λ (z : Told). z.seats) reading.is in
    let whole_read : r ≡ c.own = reading.whole (sym parts ∙ (all ∙ seats_are)) in let same : r ≡ best = whole_read ∙ told in (
      ends_at seats capacity (limit_of best) place before k reply knows.0 (is ∙ ap (λ (n : ℕ). with_call before place (RemoveBelow n) reply) (asked ∙ ap limit_of same)) none whole knows.1,
      ap (λ (z : Told). z.read) reading.is ∙ (whole_read ∙ sym (ap (λ (z : Told). z.own) reading.is)),
    )

-- A removal found none.
pub none_found : {N L : Type 0} (m : Meaning N L) (nodes seats capacity : ℕ) (v w : Doing N L) (place limit : ℕ) (reply : Reply) (r : Option ℕ) → w.known ≡ with_call v.known place (RemoveBelow limit) reply → w.stored ≡ v.stored → IsRead v.told r w.told → w.found ≡ v.found → w.made ≡ v.made + 1
    → ((e : Entry) → reply ≡ replies.Got e → ⊥) → IsNoneBelow reply → limit ≡ limit_of r → Knows seats capacity w.known → AtWork m v → GoesOn nodes 1 v w × AtWork m w × EndsIfWhole seats capacity w
none_found {N} {L} m nodes seats capacity v w place limit reply r known stored read found made got none asked knows work = (
  reached (λ (x : Doing N L). GoesOn nodes 1 v x) known stored refl found made (goes_idle nodes v.known v.stored v.told w.told v.found v.made place limit reply (same_read v.told w.told r read)),
  reached (λ (x : Doing N L). AtWork m x) known stored refl found made
      (call_more m v.known place (RemoveBelow limit) reply v.stored w.told v.found got (cut_lowered m v.known v.stored v.told w.told v.found (read_own v.told w.told r read) (read_low v.told w.told r read) work)),
  λ all whole. ends_here seats capacity v.known w.known place limit reply v.told w.told (cost_so_far w.found) r known none asked read (work.told ∙ ap cost_so_far (sym found)) knows all whole,
)

-- A removal got an entry, and its node was taken.
pub node_got : {N L : Type 0} (m : Meaning N L) (nodes : ℕ) (v w : Doing N L) (place limit : ℕ) (e : Entry) (child : Child N) (r : Option ℕ) → w.known ≡ with_call v.known place (RemoveBelow limit) (replies.Got e) → w.stored ≡ with_take v.stored (numbered e.id child.node) → IsRead v.told r w.told → w.found ≡ v.found → w.made ≡ v.made + 1
    → e.key ≡ child.key → KnowsStore nodes w.stored → AtWork m v → GoesOn nodes 0 v w × HoldsNode m w child
node_got {N} {L} m nodes v w place limit e child r known stored read found made key knows work = (
  reached (λ (x : Doing N L). GoesOn nodes 0 v x) known stored refl found made (goes_taken nodes v.known v.stored v.told w.told v.found v.made place limit e (numbered e.id child.node) (same_read v.told w.told r read) (subst (λ (s : Stored N). KnowsStore nodes s) stored knows)),
  (
    e,
    key,
    reached (λ (x : Doing N L). IsHolding m x.known x.stored x.told x.found e child.node) known stored refl found made
        (node_taken m v.known place (RemoveBelow limit) e child.node v.stored w.told v.found (cut_lowered m v.known v.stored v.told w.told v.found (read_own v.told w.told r read) (read_low v.told w.told r read) work)),
  ),
)

-- an insert that was answered Full is the cause of a stop
pub full_cause : (nodes : ℕ) (k now : Known) (draws : List Draw) (place : ℕ) (e : Entry) → now ≡ with_call k place (Insert e) replies.Full → IsCause nodes now draws (Full place)
full_cause nodes k now draws place e is = let own = lane k.number (k.calls ++ call place (Insert e) replies.Full ∷ []) in
    subst (λ (z : Known). IsCause nodes z draws (Full place)) (sym is)
    (e, own, Contains-here own k.joined, Contains-right (call place (Insert e) replies.Full) k.calls (call place (Insert e) replies.Full ∷ []) (Contains-here (call place (Insert e) replies.Full) []))

-- a draw that was answered Over is one
pub over_cause : {N : Type 0} (nodes : ℕ) (k : Known) (before now : Stored N) (o count asked : ℕ) → now ≡ with_draw before (draw_of o count false) → 1 ≤ count → nodes < asked → o + count ≡ asked → IsCause nodes k now.draws (NodeLimit asked)
over_cause {N} nodes k before now o count asked is some over all = let d : Draw = draw_of o count false in
    subst (λ (s : Stored N). IsCause nodes k s.draws (NodeLimit asked)) (sym is) (over, d, Contains-right d before.draws (d ∷ []) (Contains-here d []), omega arith, all)

-- Of the children of a branch these are left to go through, with these bounds, and the first that is kept will have the
-- number.
pub record IsPutting {N L : Type 0} (m : Meaning N L) (nodes : ℕ) (best : Option ℕ) (v w : Doing N L) (rest : List N) (keys : List ℕ) (number : ℕ) : Type 0 where
  pub on : GoesOn nodes 0 v w
  pub bounds : AreBounds m rest keys
  pub waits : WaitsFrom m w (kept_of best rest keys) number
  pub within : number + length (kept_of best rest keys) ≤ nodes
  pub free : AreFree w.stored number (length (kept_of best rest keys))

-- a node is left, so a key is left
pub key_left : {N L : Type 0} {m : Meaning N L} {nodes : ℕ} {best : Option ℕ} {v w : Doing N L} {number : ℕ} (rest : List N) (keys : List ℕ) (place : ℕ) → IsPutting m nodes best v w rest (drop place keys) number → 1 ≤ length rest → place < length keys
key_left {m} rest keys place p some = let same = bounds_length m rest (drop place keys) p.bounds in let left = length-drop place keys in omega arith

first_kept : {N : Type 0} (best : Option ℕ) (n : N) (ns : List N) (k : ℕ) (ks : List ℕ) → is_better k best ≡ true → kept_of best (n ∷ ns) (k ∷ ks) ≡ waiting k n ∷ kept_of best ns ks
first_kept {N} best n ns k ks good = kept_by (λ (l : List (Waiting N)). l ≡ waiting k n ∷ kept_of best ns ks) best n ns k ks (λ t. refl) (λ t. absurd (cc))

module _ {N L : Type 0} {m : Meaning N L} {nodes : ℕ} {best : Option ℕ} {v w : Doing N L} {n : N} {ns : List N} {k : ℕ} {ks : List ℕ} {number : ℕ} where
  -- the first is not kept
  pub putting_less : is_better k best ≡ false → IsPutting m nodes best v w (n ∷ ns) (k ∷ ks) number → IsPutting m nodes best v w ns ks number
  putting_less bad p = let same : kept_of best (n ∷ ns) (k ∷ ks) ≡ kept_of best ns ks = kept_by (λ (l : List (Waiting N)). l ≡ kept_of best ns ks) best n ns k ks (λ t. absurd (cc)) (λ t. refl) in
      record {
        on = p.on;
        bounds = p.bounds.1;
        waits = subst (λ (l : List (Waiting N)). WaitsFrom m w l number) same p.waits;
        within = subst (λ (l : List (Waiting N)). number + length l ≤ nodes) same p.within;
        free = subst (λ (l : List (Waiting N)). AreFree w.stored number (length l)) same p.free;
      }

  pub number_within : is_better k best ≡ true → IsPutting m nodes best v w (n ∷ ns) (k ∷ ks) number → number < nodes
  number_within good p = let within = subst (λ (l : List (Waiting N)). number + length l ≤ nodes) (first_kept best n ns k ks good) p.within in omega arith

  pub number_free : is_better k best ≡ true → IsPutting m nodes best v w (n ∷ ns) (k ∷ ks) number → IsFree w.stored number
  number_free good p = let f = subst (λ (l : List (Waiting N)). AreFree w.stored number (length l)) (first_kept best n ns k ks good) p.free in
      record { draw = f.draw; drawn = f.drawn; good = f.good; from = f.from; to = let to = f.to in omega arith; unput = λ q there is. let lt = f.unput q there in omega arith }

  -- the first is kept, and is put
  pub putting_more : {x : Doing N L} (child : Child N) → child.key ≡ k → child.node ≡ n → is_better k best ≡ true → IsPutting m nodes best v w (n ∷ ns) (k ∷ ks) number → GoesOn nodes 0 w x → IsPut w x child number
      → IsPutting m nodes best v x ns ks (number + 1)
  putting_more {x} child key node good p on put = let same = first_kept best n ns k ks good in let more : Numbered N = numbered number child.node in
      let waits : WaitsFrom m w (waiting k n ∷ kept_of best ns ks) number = subst (λ (l : List (Waiting N)). WaitsFrom m w l number) same p.waits in
      let f = subst (λ (l : List (Waiting N)). AreFree w.stored number (length l)) same p.free in
      let within = subst (λ (l : List (Waiting N)). number + length l ≤ nodes) same p.within in
      record {
        on = goes_further p.on on;
        bounds = p.bounds.1;
        waits = record {
          entry = waits.entry;
          node = waits.node;
          turn = let turn = put_first m w.known put.place w.stored w.told w.found waits.entry put.entry waits.node (waiting child.key child.node) (kept_of best ns ks) number put.id put.key waits.above
              (subst (λ (z : Waiting N). IsInTurn m w.known w.stored w.told w.found waits.entry waits.node (z ∷ kept_of best ns ks)) (λ i. waiting (sym key i) (sym node i)) waits.turn) in
              subst (λ (z : Doing N L). IsInTurn m z.known z.stored z.told z.found waits.entry waits.node (kept_of best ns ks)) (λ i. record { known = sym put.inserted i; stored = sym put.stored i; told = sym put.told i; found = sym put.found i; made = x.made }) turn;
          above = let lt = waits.above in omega arith;
        };
        within = omega arith;
        free = subst (λ (s : Stored N). AreFree s (number + 1) (length (kept_of best ns ks))) (sym put.stored) (record {
          draw = f.draw;
          drawn = f.drawn;
          good = f.good;
          from = let from = f.from in omega arith;
          to = let to = f.to in omega arith;
          unput = λ q there. elim (Contains-either q w.stored.puts (more ∷ []) there) [
            | inl old ↦ (let lt = f.unput q old in omega arith)
            | inr new ↦ elim (Contains-cases more q [] new) [ inl is ↦ (let e : number ≡ q.number = ap (λ (z : Numbered N). z.number) is in omega arith) | inr nil ↦ absurd (none_in_empty q nil) ]
          ];
        });
      }

pub empty_of : {X : Type 0} (xs : List X) → length xs ≡ 0 → xs ≡ []
empty_of [] is = refl
empty_of (y ∷ xs) is = absurd (omega arith)

-- none is left
pub putting_over : {N L : Type 0} {m : Meaning N L} {nodes : ℕ} {best : Option ℕ} {v w : Doing N L} {rest : List N} {keys : List ℕ} {number : ℕ} → length rest ≡ 0 → IsPutting m nodes best v w rest keys number → AtWork m w
putting_over {N} {m} {best} {w} {rest} {keys} {number} none p = let waits = subst (λ (l : List N). WaitsFrom m w (kept_of best l keys) number) (empty_of rest none) p.waits in
    turn_ended m w.known w.stored w.told w.found waits.entry waits.node waits.turn

pub goes_read : {N L : Type 0} (nodes : ℕ) (w x : Doing N L) (r : Option ℕ) → IsRead w.told r x.told → x.known ≡ w.known → x.stored ≡ w.stored → x.found ≡ w.found → x.made ≡ w.made → GoesOn nodes 0 w x
goes_read {N} {L} nodes w x r is known stored found made = reached (λ (y : Doing N L). GoesOn nodes 0 w y) known stored refl found made (goes_told nodes w.known w.stored w.told x.told w.found w.found w.made (same_read w.told x.told r is))

pub holds_read : {N L : Type 0} (m : Meaning N L) (w x : Doing N L) (e : Entry) (node : N) (r : Option ℕ) → IsRead w.told r x.told → x.known ≡ w.known → x.stored ≡ w.stored → x.found ≡ w.found → x.made ≡ w.made → IsHolding m w.known w.stored w.told w.found e node → IsHolding m x.known x.stored x.told x.found e node
holds_read {N} {L} m w x e node r is known stored found made h = reached (λ (y : Doing N L). IsHolding m y.known y.stored y.told y.found e node) known stored refl found made
    (held_lowered m w.known w.stored w.told x.told w.found e node (read_own w.told x.told r is) (read_low w.told x.told r is) h)

-- a node whose key is not below the best cost is dropped
pub drops : {N L : Type 0} {m : Meaning N L} (w x : Doing N L) (child : Child N) (r : Option ℕ) → IsLawful m → IsRead w.told r x.told → x.known ≡ w.known → x.stored ≡ w.stored → x.found ≡ w.found → x.made ≡ w.made → is_better child.key r ≡ false → HoldsNode m w child → AtWork m x
drops {m} w x child r laws is known stored found made bad (e, key, h) = node_dropped m x.known x.stored x.told x.found e child.node r laws (ap (λ (z : Told). z.read) is.is) (ap (λ (n : ℕ). is_better n r) key ∙ bad)
    (holds_read m w x e child.node r is known stored found made h)

pub expands : {N L : Type 0} {m : Meaning N L} (w x : Doing N L) (child : Child N) (step : Step L N) (r : Option ℕ) → IsRead w.told r x.told → x.known ≡ w.known → x.stored ≡ w.stored → x.found ≡ w.found → x.made ≡ w.made → HoldsNode m w child → ((name : List ℕ) → m.stands child.node name → IsExpanded m name step) → HasExpanded m x step
expands {m} w x child step r is known stored found made (e, key, h) expanded = (e, child.node, holds_read m w x e child.node r is known stored found made h, expanded)

-- the children that are kept wait, for numbers above the node's
pub waits_from : {N L : Type 0} {m : Meaning N L} (w x : Doing N L) (best : Option ℕ) (children : List N) (keys : List ℕ) (e : Entry) (node : N) (o count : ℕ) → IsLawful m → HasRead w best → IsHolding m w.known w.stored w.told w.found e node
    → ((name : List ℕ) → m.stands node name → StandBelow m.stands name children (m.tree.children name)) → 1 ≤ length children → AreBounds m children keys
    → x.known ≡ w.known → x.stored ≡ with_draw w.stored (draw_of o count true) → x.told ≡ w.told → x.found ≡ w.found → w.stored.front ≤ o → WaitsFrom m x (kept_of best children keys) o
waits_from {N} {L} {m} w x best children keys e node o count laws read h expanded some bounds known stored told found front = record {
  entry = e;
  node = node;
  turn = reached (λ (y : Doing N L). IsInTurn m y.known y.stored y.told y.found e node (kept_of best children keys)) {made = x.made} known stored told found refl
      (drew m w.known w.stored o count w.told w.found e node (kept_of best children keys) front (branch_waits m w.known w.stored w.told w.found e node children keys best laws read.0 expanded some bounds h));
  above = let lt = h.below (numbered e.id node) h.taken in omega arith;
}

-- where none is kept, the turn is over
pub none_waits : {N L : Type 0} {m : Meaning N L} (w : Doing N L) (best : Option ℕ) (children : List N) (keys : List ℕ) (e : Entry) (node : N) → IsLawful m → HasRead w best → IsHolding m w.known w.stored w.told w.found e node
    → ((name : List ℕ) → m.stands node name → StandBelow m.stands name children (m.tree.children name)) → 1 ≤ length children → AreBounds m children keys → length (better_keys best keys) ≡ 0 → AtWork m w
none_waits {N} {L} {m} w best children keys e node laws read h expanded some bounds none = let same = kept_length m best children keys bounds in
    turn_ended m w.known w.stored w.told w.found e node (subst (λ (l : List (Waiting N)). IsInTurn m w.known w.stored w.told w.found e node l) (empty_of (kept_of best children keys) (omega arith))
    (branch_waits m w.known w.stored w.told w.found e node children keys best laws read.0 expanded some bounds h))

pub free_drawn : {N : Type 0} (s t : Stored N) (o count : ℕ) → t ≡ with_draw s (draw_of o count true) → ((p : Numbered N) → Contains s.puts p → p.number < o) → AreFree t o count
free_drawn {N} s t o count is low = subst (λ (z : Stored N). AreFree z o count) (sym is) (record {
  draw = draw_of o count true;
  drawn = Contains-right (draw_of o count true) s.draws (draw_of o count true ∷ []) (Contains-here (draw_of o count true) []);
  good = refl;
  from = omega arith;
  to = omega arith;
  unput = low;
})

pub goes_drew : {N L : Type 0} (nodes : ℕ) (w x : Doing N L) (d : Draw) → x.known ≡ w.known → x.stored ≡ with_draw w.stored d → x.told ≡ w.told → x.found ≡ w.found → x.made ≡ w.made → KnowsStore nodes x.stored → GoesOn nodes 0 w x
goes_drew {N} {L} nodes w x d known stored told found made knows = reached (λ (y : Doing N L). GoesOn nodes 0 w y) known stored told found made
    (goes_drawn nodes w.known w.stored w.told w.found w.made d (subst (λ (s : Stored N). KnowsStore nodes s) stored knows))

-- a turn is begun
pub goes_opened : {N L : Type 0} (nodes : ℕ) (v u : Doing N L) → u.known ≡ v.known → u.stored ≡ v.stored → u.told ≡ with_opened v.told 1 → u.found ≡ v.found → u.made ≡ v.made → GoesOn nodes 0 v u
goes_opened {N} {L} nodes v u known stored told found made = reached (λ (y : Doing N L). GoesOn nodes 0 v y) known stored told found made
    (goes_told nodes v.known v.stored v.told (with_opened v.told 1) v.found v.found v.made (record { seats = refl; parts = refl; stops = refl; turns = omega arith }))

-- and ended
pub goes_closed : {N L : Type 0} {nodes more : ℕ} (v u w x : Doing N L) (left : ℕ) → u.known ≡ v.known → u.stored ≡ v.stored → u.told ≡ with_opened v.told 1 → u.found ≡ v.found → u.made ≡ v.made → GoesOn nodes more u w
    → x.known ≡ w.known → x.stored ≡ w.stored → IsClosed w.told left x.told → x.found ≡ w.found → x.made ≡ w.made → GoesOn nodes more v x
goes_closed {N} {L} {nodes} {more} v u w x left known stored told found made on known' stored' closed found' made' = let before = goes_opened nodes v u known stored told found made in
    let opened = ap (λ (z : Told). z.opened) told in let unclosed = ap (λ (z : Told). z.closed) told in let b = on.follows.turns in
    reached (λ (y : Doing N L). GoesOn nodes more v y) known' stored' closed.is found' made' (record {
      follows = let f = (goes_further before on).follows in record {
        numbers_are = f.numbers_are;
        calls = f.calls;
        puts = f.puts;
        seats = f.seats;
        parts = f.parts;
        control_seats = f.control_seats;
        control_parts = f.control_parts;
        stops = f.stops;
        turns = omega arith;
      };
      counted = λ idle after is c. let first = c.turns in let d = on.counted idle after is (before.counted idle idle (omega arith) c) in record { knows = d.knows; made_is = d.made_is; few = d.few; inserts = d.inserts; turns = omega arith };
    })

pub work_closed : {N L : Type 0} {m : Meaning N L} (w x : Doing N L) (left : ℕ) → x.known ≡ w.known → x.stored ≡ w.stored → IsClosed w.told left x.told → x.found ≡ w.found → AtWork m w → AtWork m x
work_closed {N} {L} {m} w x left known stored closed found work = reached (AtWork m) {made = x.made} known stored closed.is found refl
    (cut_lowered m w.known w.stored w.told (with_closed w.told) w.found refl (λ v better. better) work)

pub ends_closed : {N L : Type 0} {seats capacity : ℕ} (w x : Doing N L) (left : ℕ) → x.known ≡ w.known → IsClosed w.told left x.told → x.found ≡ w.found → EndsIfWhole seats capacity w → EndsIfWhole seats capacity x
ends_closed {N} {L} {seats} {capacity} w x left known closed found ends = reached (EndsIfWhole seats capacity) {s = x.stored} {made = x.made} known refl closed.is found refl ends

-- what follows from a fact of an answer
pub after_ok : {X E : Type 0} {P Q : X → Type 0} → ((x : X) → P x → Q x) → (r : Result X E) → IfOk r P → IfOk r Q
after_ok f (Ok x) p = f x p
after_ok f (Err e) p = tt

pub after_err : {X E : Type 0} {P Q : E → Type 0} → ((e : E) → P e → Q e) → (r : Result X E) → IfErr r P → IfErr r Q
after_err f (Ok x) p = tt
after_err f (Err e) p = f e p

pub halt_more : {N L : Type 0} {nodes : ℕ} {u v w : Doing N L} (stop : Stop) → GoesOn nodes 0 u v → IsHalt nodes v w stop → IsHalt nodes u w stop
halt_more stop on h = (goes_further on h.0, h.1, h.2)

pub one_free : {N : Type 0} {s : Stored N} {number : ℕ} → AreFree s number 1 → IsFree s number
one_free f = record { draw = f.draw; drawn = f.drawn; good = f.good; from = f.from; to = let to = f.to in omega arith; unput = λ q there is. let lt = f.unput q there in omega arith }
