-- An entry that is in a multiset, or is inserted later, is removed later or left. And what a pass's calls have of it.
use Rattle.std.proofs.Common.{◌≡◌, ℕ, suc, List, [], ◌∷◌, Some, refl, sym, ap, ◌∙◌, subst, inl, inr}
use Rattle.std.specs.Prelude.{All, Contains, ◌⊎◌, slice_get}
use Rattle.std.proofs.lemmas.List.Elements.{All-contains}
use Rattle.pq_words.specs.declared.entries.Entry.{Entry}
use Rattle.pq_model.specs.declared.marks.Act.{Act}
use Rattle.pq_model.specs.declared.marks.Act.TheVariants.{Insert, Remove, RemoveBelow}
use Rattle.pq_model.specs.declared.marks.Reply.{Reply}
use Rattle.pq_model.specs.declared.marks.Reply.TheVariants.{Done, Got, Empty, Full, Above}
use Rattle.pq_model.specs.declared.marks.Mark.{Mark}
use Rattle.pq_model.specs.declared.passes.Call.{Call}
use Rattle.pq_model.specs.declared.passes.Lane.{Lane}
use Rattle.pq_model.specs.declared.passes.Known.{Known}
use Rattle.pq_model.specs.Multiset.{least, without_least}
use Rattle.pq_model.specs.History.{mark, IsStep, after, IsLegalFrom, left_from}
use Rattle.pq_model.specs.Passes.{call, calls_of, lanes, numbers, HoldsCalls}
use Rattle.pq_model.proofs.Multisets.{with_least}
use Rattle.pq_model.proofs.Lanes.{mark_of_call, call_of_mark}
use Rattle.bb_pool.specs.Working.{HasMade}
use Rattle.bb_pool.proofs.Ending.{lane_at}
use Rattle.bb_pool.proofs.Members.{none_in_empty, Contains-here, Contains-there, Contains-cases, Contains-added, Contains-add, Contains-got}

-- such a mark stands in the history
abbrev pub HasMark : List Mark → Act → Reply → Type 0
HasMark history act reply = (x : Mark) × Contains history x × (x.act ≡ act) × (x.reply ≡ reply)

-- a removal gave the entry
abbrev pub IsRemoved : List Mark → Entry → Type 0
IsRemoved history e = (act : Act) × HasMark history act (Got e)

first_gone : (m : List Entry) (e f : Entry) → Contains m f → least m ≡ Some e → (e ≡ f) ⊎ Contains (without_least m) f
first_gone m e f there is = Contains-cases e f (without_least m) (subst (λ (l : List Entry). Contains l f) (with_least m e is) there)

-- a step removes the entry or leaves it
kept_or_removed : (s c : ℕ) (m : List Entry) (f : Entry) (act : Act) (reply : Reply) → Contains m f → IsStep s c m act reply → (reply ≡ Got f) ⊎ Contains (after m act reply) f
kept_or_removed s c m f (Insert e) Done there step = inr (Contains-add e f m there)
kept_or_removed s c m f (Insert e) Full there step = inr there
kept_or_removed s c m f (Insert e) (Got x) there step = absurd step
kept_or_removed s c m f (Insert e) Empty there step = absurd step
kept_or_removed s c m f (Insert e) Above there step = absurd step
kept_or_removed s c m f Remove (Got e) there step = elim (first_gone m e f there step) [ inl same ↦ inl (ap Got same) | inr rest ↦ inr rest ]
kept_or_removed s c m f Remove Empty there step = inr there
kept_or_removed s c m f Remove Done there step = absurd step
kept_or_removed s c m f Remove Full there step = absurd step
kept_or_removed s c m f Remove Above there step = absurd step
kept_or_removed s c m f (RemoveBelow k) (Got e) there step = elim (first_gone m e f there step.0) [ inl same ↦ inl (ap Got same) | inr rest ↦ inr rest ]
kept_or_removed s c m f (RemoveBelow k) Empty there step = inr there
kept_or_removed s c m f (RemoveBelow k) Above there step = inr there
kept_or_removed s c m f (RemoveBelow k) Done there step = absurd step
kept_or_removed s c m f (RemoveBelow k) Full there step = absurd step

later : (x : Mark) (xs : List Mark) (act : Act) (reply : Reply) → HasMark xs act reply → HasMark (x ∷ xs) act reply
later x xs act reply (y, there, a, r) = (y, Contains-there x y xs there, a, r)

later_removed : (x : Mark) (xs : List Mark) (e : Entry) → IsRemoved xs e → IsRemoved (x ∷ xs) e
later_removed x xs e (act, h) = (act, later x xs act (Got e) h)

-- an entry of the multiset is removed or left
pub removed_or_left : (s c : ℕ) (m : List Entry) (history : List Mark) (e : Entry) → Contains m e → IsLegalFrom s c m history → IsRemoved history e ⊎ Contains (left_from m history) e
removed_or_left s c m [] e there legal = inr there
removed_or_left s c m (x ∷ xs) e there legal = elim (kept_or_removed s c m e x.act x.reply there legal.0) [
  | inl got ↦ inl (x.act, (x, Contains-here x xs, refl, got))
  | inr kept ↦ elim (removed_or_left s c (after m x.act x.reply) xs e kept legal.1) [ inl r ↦ inl (later_removed x xs e r) | inr l ↦ inr l ]
]

after_insert : (m : List Entry) (act : Act) (reply : Reply) (e : Entry) → act ≡ Insert e → reply ≡ Done → Contains (after m act reply) e
after_insert m act reply e a r = subst (λ (x : Act). Contains (after m x reply) e) (sym a) (subst (λ (y : Reply). Contains (after m (Insert e) y) e) (sym r) (Contains-added e m))

-- and so is one that is inserted
pub inserted_goes : (s c : ℕ) (m : List Entry) (history : List Mark) (e : Entry) → HasMark history (Insert e) Done → IsLegalFrom s c m history → IsRemoved history e ⊎ Contains (left_from m history) e
inserted_goes s c m [] e (y, there, a, r) legal = absurd (none_in_empty y there)
inserted_goes s c m (x ∷ xs) e (y, there, a, r) legal = let rest = after m x.act x.reply in elim (Contains-cases x y xs there) [
  | inl same ↦ let in_it : Contains rest e = after_insert m x.act x.reply e (ap (λ (z : Mark). z.act) same ∙ a) (ap (λ (z : Mark). z.reply) same ∙ r) in
      elim (removed_or_left s c rest xs e in_it legal.1) [ inl gone ↦ inl (later_removed x xs e gone) | inr l ↦ inr l ]
  | inr more ↦ elim (inserted_goes s c rest xs e (y, more, a, r) legal.1) [ inl gone ↦ inl (later_removed x xs e gone) | inr l ↦ inr l ]
]

calls_in : (k : Known) (history : List Mark) (l : Lane) → HoldsCalls history k → Contains (lanes k) l → calls_of l.number history ≡ l.calls
calls_in k history l holds there = All-contains (λ (l : Lane). calls_of l.number history ≡ l.calls) (lanes k) l holds there

-- a kept call is a mark of the history
pub mark_of : (k : Known) (history : List Mark) (act : Act) (reply : Reply) → HoldsCalls history k → HasMade k act reply → HasMark history act reply
mark_of k history act reply holds (l, has, c, there, a, r) =
    let at : slice_get history c.place ≡ Some (mark l.number c.act c.reply) = mark_of_call l.number history c (subst (λ (cs : List Call). Contains cs c) (sym (calls_in k history l holds has)) there) in
    (mark l.number c.act c.reply, Contains-got history c.place (mark l.number c.act c.reply) at, a, r)

pub place_of : (history : List Mark) (x : Mark) → Contains history x → (i : ℕ) × (slice_get history i ≡ Some x)
place_of [] x there = absurd (none_in_empty x there)
place_of (y ∷ ys) x there = elim (Contains-cases y x ys there) [ inl same ↦ (0, ap Some same) | inr rest ↦ (let p = place_of ys x rest in (suc p.0, p.1)) ]

-- where each mark's seat is one of the pass's numbers, each mark is a kept call
pub made_of : (k : Known) (history : List Mark) (act : Act) (reply : Reply) → HoldsCalls history k → All (λ (x : Mark). Contains (numbers k) x.seat) history → HasMark history act reply → HasMade k act reply
made_of k history act reply holds own (x, there, a, r) = let p = place_of history x there in let c : Call = call p.0 x.act x.reply in
    let at = lane_at (lanes k) x.seat (All-contains (λ (y : Mark). Contains (numbers k) y.seat) history x own there) in
    let made : Contains (calls_of x.seat history) c = call_of_mark x.seat history c p.1 in
    let same : calls_of x.seat history ≡ at.0.calls = ap (λ (n : ℕ). calls_of n history) (sym at.2) ∙ calls_in k history at.0 holds at.1 in
    (at.0, at.1, c, subst (λ (cs : List Call). Contains cs c) same made, a, r)
