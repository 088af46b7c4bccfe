-- What is read as an instance and a plan is spelled so and keeps the limits, and what is spelled so is read.
use Rattle.std.proofs.Common.{◌≡◌, ℕ, ◌+◌, ◌≤◌, List, [], ◌∷◌, ◌++◌, length, codes, Ok, refl, ap, subst, ◌∙◌, arith}
use Rattle.std.specs.List.{AllByRecursion}
use Rattle.pq_io.specs.Lines.{Line, Text}
use Rattle.pq_io.specs.Reading.{◌>>=◌, Read, line_at}
use Rattle.pq_io.proofs.Binds.{ok_is, bind_ok}
use Rattle.pq_io.proofs.Taken.{line_taken, line_found}
use Rattle.inst_text.specs.Limits.{max_items, max_stated}
use Rattle.inst_text.specs.declared.plan.Claimed.{Claimed}
use Rattle.inst_text.specs.Several.{both}
use Rattle.inst_text.specs.Knapsack.{Instance, AreNumbers, instance_at}
use Rattle.inst_text.specs.Shop.{JobShop, AreStarts, shop_at}
use Rattle.inst_text.specs.Plans.{stated_of, choice_of, start_rows_at, choice_at, starts_at, knapsack_plan_of, shop_plan_of, SpellChoice, SpellStarts, IsKnapsackPlanText, IsShopPlanText}
use Rattle.inst_text.proofs.OneByOne.{prefix_then, lines_taken, lines_found}
use Rattle.inst_text.proofs.Readers.{Prefix, IsReader, MeansBoth, both_read, whole_taken, whole_found}
use Rattle.inst_text.proofs.KnapsackText.{MeansInstance, instance_read}
use Rattle.inst_text.proofs.ShopText.{MeansShop, shop_read}
use Rattle.inst_text.proofs.PlanLines.{stated_taken, stated_found, choice_taken, choice_found, row_reader, same_state, start_rows_are, start_rows_read}

-- a choice

-- lines that spell a choice of n items
pub record MeansChoice (n : ℕ) (lines : List Line) (c : Claimed (List ℕ)) : Type 0 where
  pub spell : SpellChoice lines c
  pub stated : c.stated ≤ max_stated
  pub shape : AreNumbers 0 n c.plan

choice_at_taken : (n : ℕ) (text : Text) (x : Read (Claimed (List ℕ)) Text) → choice_at n text ≡ Ok x → Prefix (MeansChoice n) text x
unfolding choice_at
choice_at_taken n text x e =
    let a = bind_ok (line_at (stated_of (codes "value")) text) (λ value. line_at (choice_of n) value.rest >>= λ choice. Ok (record { value = record { stated = value.value; plan = choice.value }; rest = choice.rest })) x e in
    let b = bind_ok (line_at (choice_of n) a.0.rest) (λ choice. Ok (record { value = record { stated = a.0.value; plan = choice.value }; rest = choice.rest })) x a.2 in
    let k = line_taken (stated_of (codes "value")) text a.0 a.1 in
    let l = line_taken (choice_of n) a.0.rest b.0 b.1 in
    let v = stated_taken (codes "value") k.line.words a.0.value k.value in
    let w = choice_taken n l.line.words b.0.value l.value in
    let made : Read (Claimed (List ℕ)) Text = record { value = record { stated = a.0.value; plan = b.0.value }; rest = b.0.rest } in
    subst (λ (y : Read (Claimed (List ℕ)) Text). Prefix (MeansChoice n) text y) (ok_is made x b.2)
    (record {
      lines = k.line ∷ l.line ∷ [];
      first = k.first ∙ ap (λ (t : List Line). k.line ∷ t) l.first;
      means = record { spell = (v.spells, w.spells); stated = v.limit; shape = w.are };
    })

choice_at_found : (n : ℕ) (lines rest : List Line) (end : ℕ) (c : Claimed (List ℕ)) → MeansChoice n lines c → choice_at n (record { lines = lines ++ rest; end = end }) ≡ Ok (record { value = c; rest = record { lines = rest; end = end } })
unfolding choice_at
choice_at_found n [] rest end c m = absurd m.spell
choice_at_found n (k ∷ []) rest end c m = absurd m.spell
choice_at_found n (k ∷ l ∷ []) rest end c m =
    rw (
      line_found (stated_of (codes "value")) k (l ∷ rest) end c.stated (stated_found (codes "value") k.words c.stated m.spell.0 m.stated),
      line_found (choice_of n) l rest end c.plan (choice_found n l.words c.plan m.spell.1 m.shape),
    ) refl
choice_at_found n (k ∷ l ∷ j ∷ ls) rest end c m = absurd m.spell

pub choice_read : (n : ℕ) → IsReader (choice_at n) (MeansChoice n)
choice_read n = record { taken = choice_at_taken n; found = choice_at_found n }

abbrev ChoiceOf : Instance → List Line → Claimed (List ℕ) → Type 0
ChoiceOf i = MeansChoice (length i.items)

abbrev KnapsackPlan : List Line → Instance × Claimed (List ℕ) → Type 0
KnapsackPlan = MeansBoth MeansInstance ChoiceOf

knapsack_plan_read : IsReader (both instance_at (λ i. choice_at (length i.items))) KnapsackPlan
knapsack_plan_read = both_read instance_at (λ i. choice_at (length i.items)) MeansInstance ChoiceOf instance_read (λ lines i m. choice_read (length i.items))

pub knapsack_plan_is_spelled : (bytes : List ℕ) (v : Instance × Claimed (List ℕ)) → knapsack_plan_of bytes ≡ Ok v → IsKnapsackPlanText bytes v.0 v.1
unfolding knapsack_plan_of
knapsack_plan_is_spelled bytes v e =
    let w = whole_taken (both instance_at (λ i. choice_at (length i.items))) KnapsackPlan knapsack_plan_read bytes v e in
    let m = w.means in
    record {
      size = w.size;
      lines = record { prefix = m.prefix; suffix = m.suffix; lines_are = m.lines_are; first = m.first.spell; second = m.second.spell };
      limits = m.first.limits;
      stated = m.second.stated;
      shape = m.second.shape;
    }

pub knapsack_plan_is_read : (bytes : List ℕ) (i : Instance) (c : Claimed (List ℕ)) → IsKnapsackPlanText bytes i c → knapsack_plan_of bytes ≡ Ok (i, c)
unfolding knapsack_plan_of
knapsack_plan_is_read bytes i c is =
    let l = is.lines in
    whole_found (both instance_at (λ i. choice_at (length i.items))) KnapsackPlan knapsack_plan_read bytes (i, c)
    (record {
      size = is.size;
      means = record { prefix = l.prefix; suffix = l.suffix; lines_are = l.lines_are; first = record { spell = l.first; limits = is.limits }; second = record { spell = l.second; stated = is.stated; shape = is.shape } };
    })

-- so the choice is one among all items that there may be
numbers_below : (low n m : ℕ) (ks : List ℕ) → n ≤ m → AreNumbers low n ks → AreNumbers low m ks
numbers_below low n m [] le are = tt
numbers_below low n m (k ∷ ks) le are = (are.0, omega (arith, are.1), numbers_below (k + 1) n m ks le are.2)

pub choice_fits : (n : ℕ) (text : Text) (x : Read (List ℕ) Text) → n ≤ max_items → line_at (choice_of n) text ≡ Ok x → AreNumbers 0 max_items x.value
choice_fits n text x few e =
    let l = line_taken (choice_of n) text x e in
    numbers_below 0 n max_items x.value few (choice_taken n l.line.words x.value l.value).are

-- start times

-- lines that spell start times of so many jobs, n of them each
pub record MeansStarts (jobs n : ℕ) (lines : List Line) (c : Claimed (List (List ℕ))) : Type 0 where
  pub spell : SpellStarts lines c
  pub stated : c.stated ≤ max_stated
  pub jobs_are : length c.plan ≡ jobs
  pub steps : AllByRecursion (λ (row : List ℕ). length row ≡ n) c.plan
  pub limits : AreStarts c.plan

starts_at_taken : (jobs n : ℕ) (text : Text) (x : Read (Claimed (List (List ℕ))) Text) → starts_at jobs n text ≡ Ok x → Prefix (MeansStarts jobs n) text x
unfolding starts_at
starts_at_taken jobs n text x e =
    let a = bind_ok (line_at (stated_of (codes "makespan")) text) (λ makespan. start_rows_at jobs n makespan.rest >>= λ rows. Ok (record { value = record { stated = makespan.value; plan = rows.value }; rest = rows.rest })) x e in
    let b = bind_ok (start_rows_at jobs n a.0.rest) (λ rows. Ok (record { value = record { stated = a.0.value; plan = rows.value }; rest = rows.rest })) x a.2 in
    let k = line_taken (stated_of (codes "makespan")) text a.0 a.1 in
    let v = stated_taken (codes "makespan") k.line.words a.0.value k.value in
    let ls = lines_taken (row_reader n) same_state jobs tt a.0.rest b.0 b.1 in
    let rows = start_rows_are n ls.lines b.0.value ls.each in
    let made : Read (Claimed (List (List ℕ))) Text = record { value = record { stated = a.0.value; plan = b.0.value }; rest = b.0.rest } in
    subst (λ (y : Read (Claimed (List (List ℕ))) Text). Prefix (MeansStarts jobs n) text y) (ok_is made x b.2)
    (record {
      lines = k.line ∷ ls.lines;
      first = prefix_then k.line text.lines a.0.rest.lines ls.lines b.0.rest.lines k.first ls.first;
      means = record { spell = (v.spells, rows.spell); stated = v.limit; jobs_are = ls.count; steps = rows.steps; limits = rows.limits };
    })

pub starts_fit : (jobs n : ℕ) (text : Text) (x : Read (List (List ℕ)) Text) → start_rows_at jobs n text ≡ Ok x → AreStarts x.value
starts_fit jobs n text x e =
    let ls = lines_taken (row_reader n) same_state jobs tt text x e in
    (start_rows_are n ls.lines x.value ls.each).limits

starts_at_found : (jobs n : ℕ) (lines rest : List Line) (end : ℕ) (c : Claimed (List (List ℕ))) → MeansStarts jobs n lines c → starts_at jobs n (record { lines = lines ++ rest; end = end }) ≡ Ok (record { value = c; rest = record { lines = rest; end = end } })
unfolding starts_at
starts_at_found jobs n [] rest end c m = absurd m.spell
starts_at_found jobs n (l ∷ ls) rest end c m =
    let rows : start_rows_at jobs n (record { lines = ls ++ rest; end = end }) ≡ Ok (record { value = c.plan; rest = record { lines = rest; end = end } }) =
    subst (λ k. start_rows_at k n (record { lines = ls ++ rest; end = end }) ≡ Ok (record { value = c.plan; rest = record { lines = rest; end = end } })) m.jobs_are
    (lines_found (row_reader n) same_state tt ls c.plan rest end (start_rows_read n ls c.plan (record { spell = m.spell.1; steps = m.steps; limits = m.limits }))) in
    rw (line_found (stated_of (codes "makespan")) l (ls ++ rest) end c.stated (stated_found (codes "makespan") l.words c.stated m.spell.0 m.stated), rows) refl

starts_read : (jobs n : ℕ) → IsReader (starts_at jobs n) (MeansStarts jobs n)
starts_read jobs n = record { taken = starts_at_taken jobs n; found = starts_at_found jobs n }

abbrev StartsOf : JobShop → List Line → Claimed (List (List ℕ)) → Type 0
StartsOf s = MeansStarts (length s.rows) s.machines

abbrev ShopPlan : List Line → JobShop × Claimed (List (List ℕ)) → Type 0
ShopPlan = MeansBoth MeansShop StartsOf

shop_plan_read : IsReader (both shop_at (λ s. starts_at (length s.rows) s.machines)) ShopPlan
shop_plan_read = both_read shop_at (λ s. starts_at (length s.rows) s.machines) MeansShop StartsOf shop_read (λ lines s m. starts_read (length s.rows) s.machines)

pub shop_plan_is_spelled : (bytes : List ℕ) (v : JobShop × Claimed (List (List ℕ))) → shop_plan_of bytes ≡ Ok v → IsShopPlanText bytes v.0 v.1
unfolding shop_plan_of
shop_plan_is_spelled bytes v e =
    let w = whole_taken (both shop_at (λ s. starts_at (length s.rows) s.machines)) ShopPlan shop_plan_read bytes v e in
    let m = w.means in
    let p = m.second in
    record {
      size = w.size;
      lines = record { prefix = m.prefix; suffix = m.suffix; lines_are = m.lines_are; first = m.first.spell; second = p.spell };
      limits = m.first.limits;
      stated = p.stated;
      shape = record { jobs = p.jobs_are; steps = p.steps; limits = p.limits };
    }

pub shop_plan_is_read : (bytes : List ℕ) (s : JobShop) (c : Claimed (List (List ℕ))) → IsShopPlanText bytes s c → shop_plan_of bytes ≡ Ok (s, c)
unfolding shop_plan_of
shop_plan_is_read bytes s c is =
    let l = is.lines in
    let h = is.shape in
    whole_found (both shop_at (λ s. starts_at (length s.rows) s.machines)) ShopPlan shop_plan_read bytes (s, c)
    (record {
      size = is.size;
      means =
          record {
            prefix = l.prefix;
            suffix = l.suffix;
            lines_are = l.lines_are;
            first = record { spell = l.first; limits = is.limits };
            second = record { spell = l.second; stated = is.stated; jobs_are = h.jobs; steps = h.steps; limits = h.limits };
          };
    })
