-- What is read as a shop is spelled so and keeps the limits, and what is spelled so is read.
use Rattle.std.proofs.Common.{◌≡◌, ℕ, ◌*◌, ◌≤◌, List, [], ◌∷◌, ◌++◌, length, Ok, refl, sym, subst, arith}
use Rattle.pq_io.specs.Lines.{Line, Text}
use Rattle.pq_io.specs.Reading.{◌>>=◌, Read, line_at}
use Rattle.pq_io.proofs.Binds.{ok_is, bind_ok}
use Rattle.pq_io.proofs.Taken.{line_taken, line_found}
use Rattle.inst_text.specs.Limits.{max_operations, max_total}
use Rattle.inst_text.specs.declared.shop.Operation.{Operation}
use Rattle.inst_text.specs.Knapsack.{SpellsTwo}
use Rattle.inst_text.specs.Shop.{JobShop, IsJobShop, IsMachineCount, SpellShop, IsShopText, shop_head_of, row_of, rows_at, shop_at, shop_of}
use Rattle.inst_text.proofs.OneByOne.{prefix_then, lines_taken, lines_found}
use Rattle.inst_text.proofs.Readers.{Prefix, IsReader, whole_taken, whole_found}
use Rattle.inst_text.proofs.ShopLines.{shop_head_taken, shop_head_found, less_row, rows_are, rows_read}

-- lines that spell a shop within the limits
pub record MeansShop (lines : List Line) (s : JobShop) : Type 0 where
  pub spell : SpellShop lines s
  pub limits : IsJobShop s

-- how many machines a head can name
pub machines_few : (text : Text) (head : Read (ℕ × ℕ) Text) → line_at shop_head_of text ≡ Ok head → IsMachineCount head.value.1
machines_few text head e =
    let l = line_taken shop_head_of text head e in
    let h = shop_head_taken l.line.words head.value l.value in
    (h.some_machine, h.machines)

-- a head and rows make a shop
pub shop_fits : (text : Text) (head : Read (ℕ × ℕ) Text) (rows : Read (List (List Operation)) Text) → line_at shop_head_of text ≡ Ok head → rows_at head.value.0 head.value.1 max_total head.rest ≡ Ok rows
    → IsJobShop (record { machines = head.value.1; rows = rows.value })
shop_fits text head rows e f =
    let l = line_taken shop_head_of text head e in
    let h = shop_head_taken l.line.words head.value l.value in
    let ts = lines_taken (row_of head.value.1) less_row head.value.0 max_total head.rest rows f in
    let rs = rows_are head.value.1 max_total ts.lines rows.value h.some_machine ts.each in
    record {
      some_job = omega (arith, h.some_job, ts.count);
      jobs = omega (arith, h.jobs, ts.count);
      some_machine = h.some_machine;
      machines = h.machines;
      size = subst (λ k. k * head.value.1 ≤ max_operations) (sym ts.count) h.size;
      steps = rs.steps;
      named = rs.named;
      times = rs.times;
    }

shop_taken : (text : Text) (x : Read JobShop Text) → shop_at text ≡ Ok x → Prefix MeansShop text x
unfolding shop_at
shop_taken text x e =
    let p = bind_ok (line_at shop_head_of text) (λ head. rows_at head.value.0 head.value.1 max_total head.rest >>= λ rows. Ok (record { value = record { machines = head.value.1; rows = rows.value }; rest = rows.rest })) x e in
    let q = bind_ok (rows_at p.0.value.0 p.0.value.1 max_total p.0.rest) (λ rows. Ok (record { value = record { machines = p.0.value.1; rows = rows.value }; rest = rows.rest })) x p.2 in
    let l = line_taken shop_head_of text p.0 p.1 in
    let h = shop_head_taken l.line.words p.0.value l.value in
    let ts = lines_taken (row_of p.0.value.1) less_row p.0.value.0 max_total p.0.rest q.0 q.1 in
    let rs = rows_are p.0.value.1 max_total ts.lines q.0.value h.some_machine ts.each in
    let made : Read JobShop Text = record { value = record { machines = p.0.value.1; rows = q.0.value }; rest = q.0.rest } in
    subst (λ (y : Read JobShop Text). Prefix MeansShop text y) (ok_is made x q.2)
    (record {
      lines = l.line ∷ ts.lines;
      first = prefix_then l.line text.lines p.0.rest.lines ts.lines q.0.rest.lines l.first ts.first;
      means = record { spell = (subst (λ k. SpellsTwo l.line.words k p.0.value.1) (sym ts.count) h.spells, rs.spell); limits = shop_fits text p.0 q.0 p.1 q.1 };
    })

shop_found : (ls rest : List Line) (end : ℕ) (s : JobShop) → MeansShop ls s → shop_at (record { lines = ls ++ rest; end = end }) ≡ Ok (record { value = s; rest = record { lines = rest; end = end } })
unfolding shop_at
shop_found [] rest end s m = absurd m.spell
shop_found (l ∷ ls) rest end s m =
    let limits = m.limits in
    rw (
      line_found shop_head_of l (ls ++ rest) end (length s.rows, s.machines)
          (shop_head_found l.words (length s.rows) s.machines m.spell.0 limits.some_job limits.jobs limits.some_machine limits.machines limits.size),
      lines_found (row_of s.machines) less_row max_total ls s.rows rest end
          (rows_read s.machines max_total ls s.rows (record { spell = m.spell.1; steps = limits.steps; named = limits.named; times = limits.times })),
    ) refl

pub shop_read : IsReader shop_at MeansShop
shop_read = record { taken = shop_taken; found = shop_found }

pub shop_is_spelled : (bytes : List ℕ) (s : JobShop) → shop_of bytes ≡ Ok s → IsShopText bytes s
unfolding shop_of
shop_is_spelled bytes s e =
    let w = whole_taken shop_at MeansShop shop_read bytes s e in
    record { size = w.size; lines = w.means.spell; limits = w.means.limits }

pub shop_is_read : (bytes : List ℕ) (s : JobShop) → IsShopText bytes s → shop_of bytes ≡ Ok s
unfolding shop_of
shop_is_read bytes s is = whole_found shop_at MeansShop shop_read bytes s (record { size = is.size; means = record { spell = is.lines; limits = is.limits } })
