-- The actual history, place by place.
use Rattle.std.proofs.Common.{◌≡◌, ℕ, zero, suc, ◌<◌, List, [], ◌∷◌, length, map, get_or, Some, refl, sym, ap, ◌∙◌, subst, arith}
use Rattle.std.specs.Prelude.{Contains, slice_get}
use Rattle.std.proofs.lemmas.List.Elements.{All-get_or, All-contains}
use Rattle.std.proofs.lemmas.Option.{slice_get-get_or}
use Rattle.pq_model.specs.declared.marks.Act.TheVariants.{Remove}
use Rattle.pq_model.specs.declared.marks.Reply.TheVariants.{Empty}
use Rattle.pq_model.specs.declared.marks.Mark.{Mark}
use Rattle.pq_model.specs.declared.passes.Call.{Call}
use Rattle.pq_model.specs.declared.passes.Lane.{Lane}
use Rattle.pq_model.specs.declared.passes.Known.{Known}
use Rattle.pq_model.specs.History.{mark}
use Rattle.pq_model.specs.Passes.{call, calls_of, lanes, numbers, HoldsCalls, IsActual}
use Rattle.pq_model.proofs.Lanes.{mark_of_call, call_of_mark}
use Rattle.pq_api.specs.Laws.{Keeps}

lane_at : (ls : List Lane) (n : ℕ) → Contains (map (λ (l : Lane). l.number) ls) n → (l : Lane) × Contains ls l × (l.number ≡ n)
lane_at [] n (i, lt, is) = absurd (omega arith)
lane_at (l ∷ ls) n (zero, lt, is) = (l, (0, omega arith, refl), is)
lane_at (l ∷ ls) n (suc i, lt, is) = let rest = lane_at ls n (i, omega arith, is) in let at = rest.1 in (rest.0, (suc at.0, let within = at.1 in omega arith, at.2), rest.2)

calls_in : (k : Known) (history : List Mark) (l : Lane) → HoldsCalls history k → Contains (lanes k) l → calls_of l.number history ≡ l.calls
calls_in k history l holds there = All-contains (λ (l : Lane). calls_of l.number history ≡ l.calls) (lanes k) l holds there

-- a kept call is the mark at its place
pub kept_mark : (k : Known) (history : List Mark) (l : Lane) (c : Call) → HoldsCalls history k → Keeps k l c → slice_get history c.place ≡ Some (mark l.number c.act c.reply)
kept_mark k history l c holds kept = mark_of_call l.number history c (subst (λ (cs : List Call). Contains cs c) (sym (calls_in k history l holds kept.0)) kept.1)

-- and at each place of the actual history there is a kept call
pub each_place : (k : Known) (history : List Mark) (place : ℕ) → IsActual k history → place < length history → (l : Lane) × (c : Call) × Keeps k l c × (c.place ≡ place)
each_place k history place actual within = let d : Mark = mark 0 Remove Empty in let x : Mark = get_or history place d in let c : Call = call place x.act x.reply in
    let at = lane_at (lanes k) x.seat (All-get_or (λ (y : Mark). Contains (numbers k) y.seat) history place d within actual.own) in
    let made : Contains (calls_of x.seat history) c = call_of_mark x.seat history c (slice_get-get_or history place d within) in
    let same : calls_of x.seat history ≡ at.0.calls = ap (λ (n : ℕ). calls_of n history) (sym at.2) ∙ calls_in k history at.0 actual.holds at.1 in
    (at.0, c, (at.1, subst (λ (cs : List Call). Contains cs c) same made), refl)

-- and only one
pub one_at_place : (k : Known) (history : List Mark) (l m : Lane) (c d : Call) → IsActual k history → Keeps k l c → Keeps k m d → c.place ≡ d.place → (l.number ≡ m.number) × (c ≡ d)
one_at_place k history l m c d actual one other same = let at : slice_get history c.place ≡ slice_get history d.place = ap (slice_get history) same in
    let first = kept_mark k history l c actual.holds one in let second = kept_mark k history m d actual.holds other in
    let marks : mark l.number c.act c.reply ≡ mark m.number d.act d.reply = cc in
    (ap (λ (x : Mark). x.seat) marks, λ i. call (same i) (ap (λ (x : Mark). x.act) marks i) (ap (λ (x : Mark). x.reply) marks i))
