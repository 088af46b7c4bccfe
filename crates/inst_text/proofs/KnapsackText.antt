-- What is read as a knapsack is spelled so and keeps the limits, and what is spelled so is read.
use Rattle.std.proofs.Common.{◌≡◌, ℕ, ◌-◌, ◌≤◌, List, [], ◌∷◌, ◌++◌, length, Ok, refl, sym, subst, arith}
use Rattle.std.specs.List.{AllByRecursion}
use Rattle.pq_io.specs.Lines.{Line, Text}
use Rattle.pq_io.specs.Reading.{◌>>=◌, Read, line_at}
use Rattle.pq_io.proofs.Binds.{ok_is, bind_ok}
use Rattle.pq_io.proofs.Taken.{line_taken, line_found}
use Rattle.inst_text.specs.Limits.{max_items, max_weight, max_knapsack_capacity, max_total}
use Rattle.inst_text.specs.declared.knapsack.Item.{Item}
use Rattle.inst_text.specs.Knapsack.{Instance, IsInstance, total_value, SpellsTwo, SpellItems, SpellKnapsack, IsKnapsackText, head_of, item_of, items_at, instance_at, knapsack_of}
use Rattle.inst_text.proofs.TwoNumbers.{two_taken, two_found}
use Rattle.inst_text.proofs.OneByOne.{EachReads, prefix_then, lines_taken, lines_found}
use Rattle.inst_text.proofs.Readers.{Prefix, IsReader, whole_taken, whole_found}

-- the first line

record HeadTaken (words : List (List ℕ)) (head : ℕ × ℕ) : Type 0 where
  spells : SpellsTwo words head.0 head.1
  count : head.0 ≤ max_items
  capacity : head.1 ≤ max_knapsack_capacity

head_taken : (words : List (List ℕ)) (head : ℕ × ℕ) → head_of words ≡ Ok head → HeadTaken words head
unfolding head_of
head_taken words head e =
    let t = two_taken max_items max_knapsack_capacity (λ a b. (a, b)) words head e in
    subst (λ (h : ℕ × ℕ). HeadTaken words h) t.made (record { spells = t.spells; count = t.first; capacity = t.second })

head_found : (words : List (List ℕ)) (a b : ℕ) → SpellsTwo words a b → a ≤ max_items → b ≤ max_knapsack_capacity → head_of words ≡ Ok (a, b)
unfolding head_of
head_found words a b spells p q = two_found max_items max_knapsack_capacity (λ a b. (a, b)) words a b spells p q

-- the line of an item

record ItemTaken (room : ℕ) (words : List (List ℕ)) (item : Item) : Type 0 where
  spells : SpellsTwo words item.weight item.value
  weight : item.weight ≤ max_weight
  value : item.value ≤ room

item_taken : (room : ℕ) (words : List (List ℕ)) (item : Item) → item_of room words ≡ Ok item → ItemTaken room words item
unfolding item_of
item_taken room words item e =
    let make : ℕ → ℕ → Item = λ a b. record { weight = a; value = b } in
    let t = two_taken max_weight room make words item e in
    subst (λ (i : Item). ItemTaken room words i) t.made (record { spells = t.spells; weight = t.first; value = t.second })

item_found : (room : ℕ) (words : List (List ℕ)) (item : Item) → SpellsTwo words item.weight item.value → item.weight ≤ max_weight → item.value ≤ room → item_of room words ≡ Ok item
unfolding item_of
item_found room words item spells p q = two_found max_weight room (λ a b. record { weight = a; value = b }) words item.weight item.value spells p q

pub item_fits : (room : ℕ) (text : Text) (x : Read Item Text) → line_at (item_of room) text ≡ Ok x → x.value.value ≤ room
item_fits room text x e = let l = line_taken (item_of room) text x e in (item_taken room l.line.words x.value l.value).value

-- the items

abbrev pub less : ℕ → Item → ℕ
less r item = r - item.value

abbrev Weights : List Item → Type 0
Weights is = AllByRecursion (λ (j : Item). j.weight ≤ max_weight) is

record AreItems (room : ℕ) (ls : List Line) (is : List Item) : Type 0 where
  spell : SpellItems ls is
  weights : Weights is
  values : total_value is ≤ room

items_are : (room : ℕ) (ls : List Line) (is : List Item) → EachReads item_of less room ls is → AreItems room ls is
items_are room [] [] each = record { spell = tt; weights = tt; values = omega arith }
items_are room [] (i ∷ is) each = absurd each
items_are room (l ∷ ls) [] each = absurd each
items_are room (l ∷ ls) (i ∷ is) each =
    let t = item_taken room l.words i each.0 in
    let r = items_are (room - i.value) ls is each.1 in
    record { spell = (t.spells, r.spell); weights = (t.weight, r.weights); values = omega (arith, t.value, r.values) }

items_read : (room : ℕ) (ls : List Line) (is : List Item) → SpellItems ls is → Weights is → total_value is ≤ room → EachReads item_of less room ls is
items_read room [] [] spell weights values = tt
items_read room [] (i ∷ is) spell weights values = absurd spell
items_read room (l ∷ ls) [] spell weights values = absurd spell
items_read room (l ∷ ls) (i ∷ is) spell weights values =
    (item_found room l.words i spell.0 weights.0 (omega arith), items_read (room - i.value) ls is spell.1 weights.1 (omega arith))

-- the instance

-- lines that spell an instance within the limits
pub record MeansInstance (lines : List Line) (i : Instance) : Type 0 where
  pub spell : SpellKnapsack lines i
  pub limits : IsInstance i

-- a head and items make an instance
pub instance_fits : (text : Text) (head : Read (ℕ × ℕ) Text) (items : Read (List Item) Text) → line_at head_of text ≡ Ok head → items_at head.value.0 max_total head.rest ≡ Ok items
    → IsInstance (record { capacity = head.value.1; items = items.value })
instance_fits text head items e f =
    let l = line_taken head_of text head e in
    let h = head_taken l.line.words head.value l.value in
    let ts = lines_taken item_of less head.value.0 max_total head.rest items f in
    let is = items_are max_total ts.lines items.value ts.each in
    record { count = omega (arith, h.count, ts.count); capacity = h.capacity; weights = is.weights; values = is.values }

instance_taken : (text : Text) (x : Read Instance Text) → instance_at text ≡ Ok x → Prefix MeansInstance text x
unfolding instance_at
instance_taken text x e =
    let p = bind_ok (line_at head_of text) (λ head. items_at head.value.0 max_total head.rest >>= λ items. Ok (record { value = record { capacity = head.value.1; items = items.value }; rest = items.rest })) x e in
    let q = bind_ok (items_at p.0.value.0 max_total p.0.rest) (λ items. Ok (record { value = record { capacity = p.0.value.1; items = items.value }; rest = items.rest })) x p.2 in
    let l = line_taken head_of text p.0 p.1 in
    let h = head_taken l.line.words p.0.value l.value in
    let ts = lines_taken item_of less p.0.value.0 max_total p.0.rest q.0 q.1 in
    let is = items_are max_total ts.lines q.0.value ts.each in
    let made : Read Instance Text = record { value = record { capacity = p.0.value.1; items = q.0.value }; rest = q.0.rest } in
    subst (λ (y : Read Instance Text). Prefix MeansInstance text y) (ok_is made x q.2)
    (record {
      lines = l.line ∷ ts.lines;
      first = prefix_then l.line text.lines p.0.rest.lines ts.lines q.0.rest.lines l.first ts.first;
      means = record { spell = (subst (λ k. SpellsTwo l.line.words k p.0.value.1) (sym ts.count) h.spells, is.spell); limits = instance_fits text p.0 q.0 p.1 q.1 };
    })

instance_found : (ls rest : List Line) (end : ℕ) (i : Instance) → MeansInstance ls i → instance_at (record { lines = ls ++ rest; end = end }) ≡ Ok (record { value = i; rest = record { lines = rest; end = end } })
unfolding instance_at
instance_found [] rest end i m = absurd m.spell
instance_found (l ∷ ls) rest end i m =
    let limits = m.limits in
    rw (
      line_found head_of l (ls ++ rest) end (length i.items, i.capacity) (head_found l.words (length i.items) i.capacity m.spell.0 limits.count limits.capacity),
      lines_found item_of less max_total ls i.items rest end (items_read max_total ls i.items m.spell.1 limits.weights limits.values),
    ) refl

pub instance_read : IsReader instance_at MeansInstance
instance_read = record { taken = instance_taken; found = instance_found }

pub knapsack_is_spelled : (bytes : List ℕ) (i : Instance) → knapsack_of bytes ≡ Ok i → IsKnapsackText bytes i
unfolding knapsack_of
knapsack_is_spelled bytes i e =
    let w = whole_taken instance_at MeansInstance instance_read bytes i e in
    record { size = w.size; lines = w.means.spell; limits = w.means.limits }

pub knapsack_is_read : (bytes : List ℕ) (i : Instance) → IsKnapsackText bytes i → knapsack_of bytes ≡ Ok i
unfolding knapsack_of
knapsack_is_read bytes i is = whole_found instance_at MeansInstance instance_read bytes i (record { size = is.size; means = record { spell = is.lines; limits = is.limits } })
