-- A script has one history on a queue of one seat.
use Rattle.std.proofs.Common.{◌≡◌, ◌∙◌, ◌≤◌, ◌<◌, ℕ, suc, List, [], ◌∷◌, length, map, Option, None, Some, ◌+◌, true, false, nat_lt, if◌then◌else◌, refl, sym, ap, subst, arith}
use Rattle.std.specs.Prelude.{All, IsSomeAnd}
use Rattle.std.proofs.lemmas.Bool.Decides.{nat_tests}
use Rattle.pq_words.specs.declared.entries.Entry.{Entry}
use Rattle.pq_model.specs.declared.marks.Act.{Act}
use Rattle.pq_model.specs.declared.marks.Act.TheVariants.{Insert, Remove, RemoveBelow}
use Rattle.pq_model.specs.declared.marks.Reply.{Reply}
use Rattle.pq_model.specs.declared.marks.Reply.TheVariants.{Done, Got, Empty, Full, Above}
use Rattle.pq_model.specs.declared.marks.Mark.{Mark}
use Rattle.pq_model.specs.Multiset.{least}
use Rattle.pq_model.specs.History.{IsStep, IsLegalFrom, after, mark}
use Rattle.pq_lanes.specs.Tracing.{IsTraceOf}
use Rattle.pq_lanes.proofs.Ran.{all_first, acts_of_one}

-- the reply of a queue with one seat

insert_reply : ℕ → List Entry → Reply
insert_reply capacity m = if nat_lt (length m) capacity then Done else Full

remove_reply : Option Entry → Reply
remove_reply None = Empty
remove_reply (Some e) = Got e

below_reply : ℕ → Option Entry → Reply
below_reply limit None = Empty
below_reply limit (Some e) = if nat_lt e.key limit then Got e else Above

reply_of : ℕ → List Entry → Act → Reply
reply_of capacity m (Insert e) = insert_reply capacity m
reply_of capacity m Remove = remove_reply (least m)
reply_of capacity m (RemoveBelow limit) = below_reply limit (least m)

done_is : (capacity : ℕ) (m : List Entry) → length m < capacity → Done ≡ insert_reply capacity m
unfolding insert_reply
done_is capacity m lt = let is : nat_lt (length m) capacity ≡ true = grind (arith, nat_tests) in rw is refl

full_is : (capacity : ℕ) (m : List Entry) → capacity < length m + 1 → Full ≡ insert_reply capacity m
unfolding insert_reply
full_is capacity m lt = let is : nat_lt (length m) capacity ≡ false = grind (arith, nat_tests) in rw is refl

got_below : (limit : ℕ) (e : Entry) → e.key < limit → Got e ≡ below_reply limit (Some e)
unfolding below_reply
got_below limit e lt = let is : nat_lt e.key limit ≡ true = grind (arith, nat_tests) in rw is refl

above_is : (limit : ℕ) (o : Option Entry) → IsSomeAnd o (λ (e : Entry). limit ≤ e.key) → Above ≡ below_reply limit o
unfolding below_reply
above_is limit None h = absurd h
above_is limit (Some e) h = let is : nat_lt e.key limit ≡ false = grind (arith, nat_tests) in rw is refl

step_is : (capacity : ℕ) (m : List Entry) (act : Act) (reply : Reply) → IsStep 1 capacity m act reply → reply ≡ reply_of capacity m act
unfolding reply_of remove_reply below_reply
step_is capacity m (Insert e) Done step = done_is capacity m step
step_is capacity m (Insert e) (Got x) step = absurd step
step_is capacity m (Insert e) Empty step = absurd step
step_is capacity m (Insert e) Full step = full_is capacity m step
step_is capacity m (Insert e) Above step = absurd step
step_is capacity m Remove Done step = absurd step
step_is capacity m Remove (Got x) step = sym (ap remove_reply step)
step_is capacity m Remove Empty step = sym (ap (λ xs. remove_reply (least xs)) step)
step_is capacity m Remove Full step = absurd step
step_is capacity m Remove Above step = absurd step
step_is capacity m (RemoveBelow limit) Done step = absurd step
step_is capacity m (RemoveBelow limit) (Got x) step = got_below limit x step.1 ∙ sym (ap (below_reply limit) step.0)
step_is capacity m (RemoveBelow limit) Empty step = sym (ap (λ xs. below_reply limit (least xs)) step)
step_is capacity m (RemoveBelow limit) Full step = absurd step
step_is capacity m (RemoveBelow limit) Above step = above_is limit (least m) step

-- two histories, mark by mark

first : {A : Type 0} (P : A → Type 0) (x : A) (xs : List A) → All P (x ∷ xs) → P x
first P x xs h = h 0 x (omega arith)

others : {A : Type 0} (P : A → Type 0) (x : A) (xs : List A) → All P (x ∷ xs) → All P xs
others P x xs h = λ k d lt. h (suc k) d (omega (arith, lt))

same_mark : (x : Mark) (act : Act) (reply : Reply) → x.seat ≡ 1 → x.act ≡ act → x.reply ≡ reply → x ≡ mark 1 act reply
same_mark x act reply s a r = ap (λ n. record { seat = n; act = x.act; reply = x.reply }) s ∙ ap (λ b. mark 1 b x.reply) a ∙ ap (λ b. mark 1 act b) r

same_marks : (capacity : ℕ) (acts : List Act) (m : List Entry) (xs ys : List Mark) → map (λ (x : Mark). x.act) xs ≡ acts → map (λ (x : Mark). x.act) ys ≡ acts →
    All (λ (x : Mark). x.seat ≡ 1) xs → All (λ (x : Mark). x.seat ≡ 1) ys → IsLegalFrom 1 capacity m xs → IsLegalFrom 1 capacity m ys → xs ≡ ys
same_marks capacity acts m [] [] a b s t p q = refl
same_marks capacity acts m [] (y ∷ ys) a b s t p q = let no = a ∙ sym b in absurd (cc)
same_marks capacity acts m (x ∷ xs) [] a b s t p q = let no = b ∙ sym a in absurd (cc)
same_marks capacity [] m (x ∷ xs) (y ∷ ys) a b s t p q = absurd (cc)
same_marks capacity (act ∷ acts) m (x ∷ xs) (y ∷ ys) a b s t p q =
    let xa : x.act ≡ act = cc in
    let ya : y.act ≡ act = cc in
    let xs_are : map (λ (z : Mark). z.act) xs ≡ acts = cc in
    let ys_are : map (λ (z : Mark). z.act) ys ≡ acts = cc in
    let xr = step_is capacity m x.act x.reply p.0 ∙ ap (reply_of capacity m) xa in
    let yr = step_is capacity m y.act y.reply q.0 ∙ ap (reply_of capacity m) ya in
    let xm = same_mark x act (reply_of capacity m act) (first (λ (z : Mark). z.seat ≡ 1) x xs s) xa xr in
    let ym = same_mark y act (reply_of capacity m act) (first (λ (z : Mark). z.seat ≡ 1) y ys t) ya yr in
    let same : x ≡ y = xm ∙ sym ym in
    let rest = subst (λ (z : Mark). IsLegalFrom 1 capacity (after m z.act z.reply) ys) (sym same) q.1 in
    ap (λ zs. x ∷ zs) (same_marks capacity acts (after m x.act x.reply) xs ys xs_are ys_are (others (λ (z : Mark). z.seat ≡ 1) x xs s) (others (λ (z : Mark). z.seat ≡ 1) y ys t) p.1 rest)
    ∙ ap (λ z. z ∷ ys) same

pub traces_are_one : (capacity : ℕ) (acts : List Act) (xs ys : List Mark) → IsTraceOf capacity (acts ∷ []) xs → IsTraceOf capacity (acts ∷ []) ys → xs ≡ ys
traces_are_one capacity acts xs ys x y =
    same_marks capacity acts [] xs ys (all_acts xs x) (all_acts ys y) (all_first capacity xs x.legal) (all_first capacity ys y.legal) x.legal.steps y.legal.steps
  where
    all_acts : (zs : List Mark) → IsTraceOf capacity (acts ∷ []) zs → map (λ (z : Mark). z.act) zs ≡ acts
    all_acts zs z = sym (acts_of_one capacity zs z.legal) ∙ z.lanes 0 acts (omega arith)
