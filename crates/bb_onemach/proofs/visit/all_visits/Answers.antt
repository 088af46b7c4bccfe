use Rattle.std.proofs.Common.{◌≡◌, inl, inr, List, [], ◌∷◌, ◌++◌, length, get_or, map, sym, ap, subst, ◌∙◌, arith}
use Rattle.std.specs.Global.{Vec}
use Rattle.std.proofs.lemmas.Bool.{cases_lt}
use Rattle.std.proofs.lemmas.List.{length_push, length-map, map-append, get_or_append_left, get_or_push}
use Rattle.bb_onemach.specs.declared.visit.Visit.{Visit}
use Rattle.bb_onemach.specs.Working.{IsRow}
use Rattle.bb_onemach.proofs.visit.all_visits.Goals as goal

abbrev items_of : List (Vec Visit) → List (List Visit)
items_of rows = map (λ row. row.items) rows

pub loop-machine-init : goal.loop-machine-init
loop-machine-init c = record {
  count = ap length c.in_ok-rows.ensures.items;
  each = λ m lt. absurd (omega (arith, lt));
}

pub loop-machine-preserved : goal.loop-machine-preserved
loop-machine-preserved c =
    let s = c.args.shop.now in
    let n = c.loop-machine.machine in
    let old = c.loop-machine.rows.items in
    let new = c.in_ok-visits_of.field-0 in
    let pushed : c.push.new.self.items ≡ old ++ new ∷ [] = c.in_ok-push.ensures.items in
    let split : items_of c.push.new.self.items ≡ items_of old ++ new.items ∷ [] = ap items_of pushed ∙ map-append (λ (row : Vec Visit). row.items) old (new ∷ []) in
    let size : length (items_of old) ≡ n = length-map old (λ (row : Vec Visit). row.items) ∙ c.loop-machine.invariant.count in
    record {
      count = omega (arith, ap length pushed, length_push old new, c.loop-machine.invariant.count);
      each =
          λ m lt.
          elim (cases_lt m n) [
            | inl below ↦
                let same : get_or (items_of c.push.new.self.items) m [] ≡ get_or (items_of old) m [] =
                ap (λ rows. get_or rows m []) split ∙ get_or_append_left (items_of old) (new.items ∷ []) [] m (omega (arith, below, size)) in
                subst (IsRow s m) (sym same) (c.loop-machine.invariant.each m below)
            | inr le ↦
                let last : m ≡ n = omega (arith, le, lt) in
                let same : get_or (items_of c.push.new.self.items) m [] ≡ new.items =
                ap (λ rows. get_or rows m []) split ∙ get_or_push (items_of old) new.items [] m (size ∙ sym last) in
                subst (IsRow s m) (sym same) (subst (λ k. IsRow s k new.items) (sym last) c.in_ok-visits_of.ensures)
          ];
    }

pub returns : goal.returns
returns c =
    let same : c.loop-machine.machine ≡ c.args.shop.now.machines =
    omega (arith, c.loop-machine-test.false, c.loop-machine.auto.machine-end, c.machine_count-machine-end.ensures.count) in
    record {
      count = length-map c.loop-machine.rows.items (λ (row : Vec Visit). row.items) ∙ c.loop-machine.invariant.count ∙ same;
      each = λ m lt. c.loop-machine.invariant.each m (omega (arith, same, lt));
    }
