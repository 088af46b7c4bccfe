-- The lines of a shop that were read, and those that are found where they are spelled.
use Rattle.std.proofs.Common.{◌≡◌, ℕ, zero, suc, ◌+◌, ◌-◌, ◌*◌, ◌<◌, ◌≤◌, cond, leb, List, [], ◌∷◌, ◌++◌, length, Ok, Err, refl, sym, ap, subst, ◌∙◌, arith}
use Rattle.std.specs.List.{AllByRecursion}
use Rattle.std.proofs.lemmas.Bool.{leb-true, le-leb}
use Rattle.std.proofs.lemmas.List.{append-nil}
use Rattle.pq_io.specs.declared.text.fault.Cause.TheVariants.{Range}
use Rattle.pq_io.specs.Lines.{Line}
use Rattle.pq_io.specs.Reading.{◌>>=◌, Read, Spells, number_at, at_line_end}
use Rattle.pq_io.proofs.Binds.{ok_is, bind_ok, cond_ok}
use Rattle.pq_io.proofs.Taken.{number_taken, number_found, line_ends, end_found}
use Rattle.inst_text.specs.Limits.{max_jobs, max_machines, max_operations}
use Rattle.inst_text.specs.declared.shop.Operation.{Operation}
use Rattle.inst_text.specs.Several.{several, EachLine}
use Rattle.inst_text.specs.Knapsack.{SpellsTwo}
use Rattle.inst_text.specs.Shop.{row_time, rows_time, shop_head_of, operation_at, operations_at, row_of, SpellRow}
use Rattle.inst_text.proofs.TwoNumbers.{spells_two}
use Rattle.inst_text.proofs.OneByOne.{EachReads, before}

abbrev Words : Type 0
Words = List (List ℕ)

-- the first line

pub record ShopHeadTaken (words : Words) (head : ℕ × ℕ) : Type 0 where
  pub spells : SpellsTwo words head.0 head.1
  pub some_job : 1 ≤ head.0
  pub jobs : head.0 ≤ max_jobs
  pub some_machine : 1 ≤ head.1
  pub machines : head.1 ≤ max_machines
  pub size : head.0 * head.1 ≤ max_operations

pub shop_head_taken : (words : Words) (head : ℕ × ℕ) → shop_head_of words ≡ Ok head → ShopHeadTaken words head
unfolding shop_head_of
shop_head_taken words head e =
    let a = bind_ok (number_at 1 max_jobs words) (λ jobs. number_at 1 max_machines jobs.rest >>= λ machines. cond (leb (jobs.value * machines.value) max_operations) (at_line_end machines.rest) (Err Range) >>= λ end. Ok (jobs.value, machines.value)) head e in
    let b = bind_ok (number_at 1 max_machines a.0.rest) (λ machines. cond (leb (a.0.value * machines.value) max_operations) (at_line_end machines.rest) (Err Range) >>= λ end. Ok (a.0.value, machines.value)) head a.2 in
    let z = bind_ok (cond (leb (a.0.value * b.0.value) max_operations) (at_line_end b.0.rest) (Err Range)) (λ end. Ok (a.0.value, b.0.value)) head b.2 in
    let g = cond_ok (leb (a.0.value * b.0.value) max_operations) (at_line_end b.0.rest) z.0 Range z.1 in
    let v = number_taken 1 max_jobs words a.0 a.1 in
    let w = number_taken 1 max_machines a.0.rest b.0 b.1 in
    subst (λ (h : ℕ × ℕ). ShopHeadTaken words h) (ok_is (a.0.value, b.0.value) head z.2)
    (record {
      spells = spells_two words a.0.value b.0.value v.word w.word a.0.rest b.0.rest v.first w.first (line_ends b.0.rest z.0 g.1) v.spells w.spells;
      some_job = v.above;
      jobs = v.below;
      some_machine = w.above;
      machines = w.below;
      size = leb-true (a.0.value * b.0.value) max_operations g.0;
    })

pub shop_head_found : (words : Words) (a b : ℕ) → SpellsTwo words a b → 1 ≤ a → a ≤ max_jobs → 1 ≤ b → b ≤ max_machines → a * b ≤ max_operations → shop_head_of words ≡ Ok (a, b)
unfolding shop_head_of
shop_head_found [] a b spells some_a few_a some_b few_b size = absurd spells
shop_head_found (v ∷ []) a b spells some_a few_a some_b few_b size = absurd spells
shop_head_found (v ∷ w ∷ []) a b spells some_a few_a some_b few_b size =
    rw (number_found 1 max_jobs v (w ∷ []) a spells.0 some_a few_a, number_found 1 max_machines w [] b spells.1 some_b few_b, le-leb (a * b) max_operations size, end_found) refl
shop_head_found (v ∷ w ∷ x ∷ ws) a b spells some_a few_a some_b few_b size = absurd spells

-- an operation

abbrev pub less_time : ℕ → Operation → ℕ
less_time r o = r - o.time

abbrev pub AreNamed : ℕ → List Operation → Type 0
AreNamed machines row = AllByRecursion (λ (o : Operation). o.machine < machines) row

record OperationTaken (machines room : ℕ) (words : Words) (x : Read Operation Words) : Type 0 where
  machine : List ℕ
  time : List ℕ
  first : words ≡ machine ∷ time ∷ x.rest
  spells_machine : Spells machine x.value.machine
  spells_time : Spells time x.value.time
  named : x.value.machine ≤ machines - 1
  fits : x.value.time ≤ room

operation_taken : (machines room : ℕ) (words : Words) (x : Read Operation Words) → operation_at machines room words ≡ Ok x → OperationTaken machines room words x
unfolding operation_at
operation_taken machines room words x e =
    let a = bind_ok (number_at 0 (machines - 1) words) (λ machine. number_at 0 room machine.rest >>= λ time. Ok (record { value = record { machine = machine.value; time = time.value }; rest = time.rest })) x e in
    let b = bind_ok (number_at 0 room a.0.rest) (λ time. Ok (record { value = record { machine = a.0.value; time = time.value }; rest = time.rest })) x a.2 in
    let v = number_taken 0 (machines - 1) words a.0 a.1 in
    let w = number_taken 0 room a.0.rest b.0 b.1 in
    let made : Read Operation Words = record { value = record { machine = a.0.value; time = b.0.value }; rest = b.0.rest } in
    subst (λ (y : Read Operation Words). OperationTaken machines room words y) (ok_is made x b.2)
    (record { machine = v.word; time = w.word; first = v.first ∙ ap (λ (t : Words). v.word ∷ t) w.first; spells_machine = v.spells; spells_time = w.spells; named = v.below; fits = w.below })

operation_found : (machines room : ℕ) (v w : List ℕ) (rest : Words) (o : Operation) → Spells v o.machine → Spells w o.time → o.machine < machines → o.time ≤ room
    → operation_at machines room (v ∷ w ∷ rest) ≡ Ok (record { value = o; rest = rest })
unfolding operation_at
operation_found machines room v w rest o p q named fits =
    rw (number_found 0 (machines - 1) v (w ∷ rest) o.machine p (omega arith) (omega arith), number_found 0 room w rest o.time q (omega arith) fits) refl

-- the line of a job

record OperationsTaken (n machines room : ℕ) (words : Words) (x : Read (List Operation) Words) : Type 0 where
  prefix : Words
  first : words ≡ prefix ++ x.rest
  spell : SpellRow prefix x.value
  count : length x.value ≡ n
  named : AreNamed machines x.value
  times : row_time x.value ≤ room

operations_taken : (n machines room : ℕ) (words : Words) (x : Read (List Operation) Words) → 1 ≤ machines → operations_at n machines room words ≡ Ok x → OperationsTaken n machines room words x
unfolding several
operations_taken zero machines room words x some e =
    subst (λ (y : Read (List Operation) Words). OperationsTaken 0 machines room words y) (ok_is (record { value = []; rest = words }) x e)
    (record { prefix = []; first = refl; spell = tt; count = refl; named = tt; times = omega arith })
operations_taken (suc n) machines room words x some e =
    let p = bind_ok (operation_at machines room words) (λ o. before o.value (operations_at n machines (room - o.value.time) o.rest)) x e in
    let o = p.0.value in
    let q = bind_ok (operations_at n machines (room - o.time) p.0.rest) (λ os. Ok (record { value = o ∷ os.value; rest = os.rest })) x p.2 in
    let t = operation_taken machines room words p.0 p.1 in
    let ts = operations_taken n machines (room - o.time) p.0.rest q.0 some q.1 in
    let made : Read (List Operation) Words = record { value = o ∷ q.0.value; rest = q.0.rest } in
    subst (λ (y : Read (List Operation) Words). OperationsTaken (suc n) machines room words y) (ok_is made x q.2)
    (record {
      prefix = t.machine ∷ t.time ∷ ts.prefix;
      first = t.first ∙ ap (λ (rest : Words). t.machine ∷ t.time ∷ rest) ts.first;
      spell = (t.spells_machine, t.spells_time, ts.spell);
      count = ap suc ts.count;
      named = (omega (arith, t.named), ts.named);
      times = omega (arith, t.fits, ts.times);
    })

operations_found : (machines room : ℕ) (words : Words) (row : List Operation) → SpellRow words row → AreNamed machines row → row_time row ≤ room
    → operations_at (length row) machines room words ≡ Ok (record { value = row; rest = [] })
unfolding several
operations_found machines room [] [] spell named times = refl
operations_found machines room [] (o ∷ os) spell named times = absurd spell
operations_found machines room (v ∷ []) [] spell named times = absurd spell
operations_found machines room (v ∷ []) (o ∷ os) spell named times = absurd spell
operations_found machines room (v ∷ w ∷ ws) [] spell named times = absurd spell
operations_found machines room (v ∷ w ∷ ws) (o ∷ os) spell named times =
    rw (
      operation_found machines room v w ws o spell.0 spell.1 named.0 (omega arith),
      operations_found machines (room - o.time) ws os spell.2 named.1 (omega arith),
    ) refl

record RowTaken (machines room : ℕ) (words : Words) (row : List Operation) : Type 0 where
  spell : SpellRow words row
  count : length row ≡ machines
  named : AreNamed machines row
  times : row_time row ≤ room

row_taken : (machines room : ℕ) (words : Words) (row : List Operation) → 1 ≤ machines → row_of machines room words ≡ Ok row → RowTaken machines room words row
unfolding row_of
row_taken machines room words row some e =
    let p = bind_ok (operations_at machines machines room words) (λ row. at_line_end row.rest >>= λ end. Ok row.value) row e in
    let z = bind_ok (at_line_end p.0.rest) (λ end. Ok p.0.value) row p.2 in
    let t = operations_taken machines machines room words p.0 some p.1 in
    let whole : t.prefix ≡ words = sym (t.first ∙ ap (λ (r : Words). t.prefix ++ r) (line_ends p.0.rest z.0 z.1) ∙ append-nil t.prefix) in
    subst (λ (r : List Operation). RowTaken machines room words r) (ok_is p.0.value row z.2)
    (record { spell = subst (λ (ws : Words). SpellRow ws p.0.value) whole t.spell; count = t.count; named = t.named; times = t.times })

row_found : (machines room : ℕ) (words : Words) (row : List Operation) → length row ≡ machines → SpellRow words row → AreNamed machines row → row_time row ≤ room → row_of machines room words ≡ Ok row
unfolding row_of
row_found machines room words row count spell named times =
    let e : operations_at machines machines room words ≡ Ok (record { value = row; rest = [] }) =
    subst (λ (k : ℕ). operations_at k machines room words ≡ Ok (record { value = row; rest = [] })) count (operations_found machines room words row spell named times) in
    rw (e, end_found) refl

-- the lines of the jobs

abbrev pub less_row : ℕ → List Operation → ℕ
less_row r row = r - row_time row

pub record AreRows (machines room : ℕ) (ls : List Line) (rows : List (List Operation)) : Type 0 where
  pub spell : EachLine SpellRow ls rows
  pub steps : AllByRecursion (λ (row : List Operation). length row ≡ machines) rows
  pub named : AllByRecursion (λ (row : List Operation). AreNamed machines row) rows
  pub times : rows_time rows ≤ room

pub rows_are : (machines room : ℕ) (ls : List Line) (rows : List (List Operation)) → 1 ≤ machines → EachReads (row_of machines) less_row room ls rows → AreRows machines room ls rows
rows_are machines room [] [] some each = record { spell = tt; steps = tt; named = tt; times = omega arith }
rows_are machines room [] (r ∷ rs) some each = absurd each
rows_are machines room (l ∷ ls) [] some each = absurd each
rows_are machines room (l ∷ ls) (r ∷ rs) some each =
    let t = row_taken machines room l.words r some each.0 in
    let ts = rows_are machines (room - row_time r) ls rs some each.1 in
    record { spell = (t.spell, ts.spell); steps = (t.count, ts.steps); named = (t.named, ts.named); times = omega (arith, t.times, ts.times) }

pub rows_read : (machines room : ℕ) (ls : List Line) (rows : List (List Operation)) → AreRows machines room ls rows → EachReads (row_of machines) less_row room ls rows
rows_read machines room [] [] are = tt
rows_read machines room [] (r ∷ rs) are = absurd are.spell
rows_read machines room (l ∷ ls) [] are = absurd are.spell
rows_read machines room (l ∷ ls) (r ∷ rs) are =
    let times = are.times in (
      row_found machines room l.words r are.steps.0 are.spell.0 are.named.0 (omega arith),
      rows_read machines (room - row_time r) ls rs (record { spell = are.spell.1; steps = are.steps.1; named = are.named.1; times = omega arith }),
    )

-- for loops

pub row_time-push : (row : List Operation) (o : Operation) → row_time (row ++ o ∷ []) ≡ row_time row + o.time
row_time-push [] o = omega arith
row_time-push (p ∷ row) o = omega (arith, row_time-push row o)
