-- A supposed better plan is followed down the tree, from the root to where nothing is left to follow.
use Rattle.std.proofs.Common.{◌≡◌, ℕ, zero, suc, ◌+◌, ◌≤◌, false, List, [], length, Option, Some, None, refl, sym, ◌∙◌, subst, inl, inr, arith}
use Rattle.std.specs.Prelude.{Contains, IsTrue, IsSomeAnd}
use Rattle.std.proofs.lemmas.Bool.{lt-ltb, cases_lt}
use Rattle.std.proofs.lemmas.List.Elements.{All-contains}
use Rattle.pq_words.specs.declared.entries.Entry.{Entry}
use Rattle.pq_model.specs.declared.marks.Act.TheVariants.{Insert}
use Rattle.pq_model.specs.declared.marks.Reply.TheVariants.{Done}
use Rattle.pq_model.specs.declared.passes.Known.{Known}
use Rattle.pq_model.specs.History.{left}
use Rattle.bb_problem.specs.Meaning.{Meaning, IsLawful}
use Rattle.bb_shared.specs.declared.store.stored.Numbered.{Numbered}
use Rattle.bb_shared.specs.Stores.{AreMatched}
use Rattle.bb_pool.specs.Costs.{is_better, limit_of}
use Rattle.bb_pool.specs.Endings.{EndsAt}
use Rattle.bb_pool.specs.Working.{IsInserted, IsPassedOn, IsSearched, IsRooted}
use Rattle.bb_pool.proofs.Costs.{better_below}
use Rattle.bb_pool.proofs.Several.Marks.{inserted_goes, mark_of, made_of}
use Rattle.bb_pool.proofs.Ending.{all_own, none_left}

module _ {N L : Type 0} (m : Meaning N L) (seats capacity : ℕ) (k : Known) (puts takes : List (Numbered N)) (best : Option ℕ)
    (bounded : (name : List ℕ) (v : ℕ) → m.reaches name v → m.tree.bound name ≤ v) (searched : IsSearched m k puts takes best) (matched : AreMatched puts takes) (ends : EndsAt seats capacity (limit_of best) k) where
  -- a node that was put and inserted, and reaches a better cost, passes it on
  goes_on : (name : List ℕ) (v : ℕ) (p : Numbered N) → Contains puts p → m.stands p.node name → m.reaches name v → IsTrue (is_better v best) → IsInserted k p.number (m.tree.bound name) → IsPassedOn m k puts name v
  goes_on name v p put st r better ins = let w = ends.witnessed in
      elim (inserted_goes seats capacity [] ends.history ins.entry (mark_of k ends.history (Insert ins.entry) Done w.holds ins.made) w.legal.steps) [
        | inl gone ↦ let h = searched.each ins.entry gone.0 (made_of k ends.history gone.0 _ w.holds (all_own seats capacity k ends.history ends.whole w) gone.1) in
            let same : h.found ≡ p = matched.put_once h.found p (matched.from_puts h.found h.taken) put (h.number ∙ ins.id) in
            h.exhausted name v (subst (λ (q : Numbered N). m.stands q.node name) (sym same) st) ins.key_is r better
        | inr there ↦ let bad : is_better ins.entry.key best ≡ false = All-contains (λ (e : Entry). is_better e.key best ≡ false) (left ends.history) ins.entry (none_left seats capacity k best ends) there in
            let key = ins.key_is in let low = bounded name v r in
            let good : IsTrue (is_better ins.entry.key best) = better_below ins.entry.key v best (omega arith) better in absurd (cc)
      ]

  -- so there is none, since names do not grow past the tree's height
  pub none_better : (fuel : ℕ) (name : List ℕ) (v : ℕ) (p : Numbered N) → m.tree.height ≤ length name + fuel → Contains puts p → m.stands p.node name → m.reaches name v → IsTrue (is_better v best) → IsInserted k p.number (m.tree.bound name) → ⊥
  none_better zero name v p deep put st r better ins = let next = goes_on name v p put st r better ins in let within = next.within in omega arith
  none_better (suc fuel) name v p deep put st r better ins = let next = goes_on name v p put st r better ins in
      let longer = next.longer in none_better fuel next.next v next.child (omega arith) next.put next.standing next.reached better next.inserted

pub best_is_least : {N L : Type 0} (m : Meaning N L) (seats capacity : ℕ) (k : Known) (puts takes : List (Numbered N)) (best : Option ℕ)
    → IsLawful m → IsSearched m k puts takes best → AreMatched puts takes → IsRooted m k puts → EndsAt seats capacity (limit_of best) k
    → IsSomeAnd best (λ b. (plan : L) → m.is_feasible plan → b ≤ m.cost_of plan)
best_is_least {N} {L} m seats capacity k puts takes best laws searched matched rooted ends = found best searched ends
  where
    none : (b : Option ℕ) (s : IsSearched m k puts takes b) (e : EndsAt seats capacity (limit_of b) k) (v : ℕ) → m.reaches [] v → IsTrue (is_better v b) → ⊥
    none b s e v r better = none_better m seats capacity k puts takes b laws.bounded s matched e m.tree.height [] v rooted.root (omega arith) rooted.put rooted.standing r better rooted.inserted

    found : (b : Option ℕ) → IsSearched m k puts takes b → EndsAt seats capacity (limit_of b) k → IsSomeAnd b (λ c. (plan : L) → m.is_feasible plan → c ≤ m.cost_of plan)
    found None s e = none None s e (m.cost_of laws.attained.0) (laws.reached laws.attained.0 laws.attained.1) refl
    found (Some c) s e = λ plan is. elim (cases_lt (m.cost_of plan) c) [ inl lt ↦ absurd (none (Some c) s e (m.cost_of plan) (laws.reached plan is) (lt-ltb (m.cost_of plan) c lt)) | inr le ↦ le ]
