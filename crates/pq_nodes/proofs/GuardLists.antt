-- Lists of guards that a step changes, and which guards are left.
use Rattle.std.proofs.Common.{◌≡◌, ◌≢◌, ◌⊎◌, ℕ, Bool, true, false, cond, eqb, List, [], ◌∷◌, ◌++◌, length, inl, inr, ⊎_elim}
use Rattle.std.proofs.Common.{refl, sym, ap, ◌∙◌, subst, arith, eq-eqb, ne_eqb}
use Rattle.std.specs.Prelude.{Contains}
use Rattle.std.proofs.lemmas.Bool.Decides.{eqb_tells}
use Rattle.std.proofs.lemmas.List.Elements.{Contains-append_cases}
use Rattle.pq_seats.proofs.Lists.{in_first, in_later, in_cases, not_in}
use Rattle.pq_nodes.specs.declared.guards.Guard.{Guard}
use Rattle.pq_nodes.specs.Layout.{lock_of, word_of}
use Rattle.pq_nodes.specs.Views.{guard, nodes_of, without_guard, restored, HaveNodesApart}

abbrev tail_of : List ℕ → List ℕ
tail_of [] = []
tail_of (x ∷ xs) = xs

abbrev head_of : List ℕ → ℕ
head_of [] = 0
head_of (x ∷ xs) = x

-- one of the guards is of the same node
pub in_same : {N : Type 0} → (gs gs' : List (Guard N)) → nodes_of gs' ≡ nodes_of gs → (h : Guard N) → Contains gs' h → (g : Guard N) × Contains gs g × (g.node ≡ h.node)
in_same {N} [] [] e h has = absurd (not_in h has)
in_same {N} [] (x ∷ xs) e h has = absurd (let bad = ap (λ (z : List ℕ). length z) e in omega arith)
in_same {N} (y ∷ ys) [] e h has = absurd (not_in h has)
in_same {N} (y ∷ ys) (x ∷ xs) e h has = ⊎_elim
    (λ is. (y, in_first y ys, ap head_of (sym e) ∙ ap (λ (z : Guard N). z.node) is))
    (λ old. let r = in_same ys xs (ap tail_of e) h old in (r.0, in_later y r.0 ys r.1, r.2))
    (in_cases x h xs has)

pub apart_same : {N : Type 0} → (gs gs' : List (Guard N)) → nodes_of gs' ≡ nodes_of gs → HaveNodesApart gs → HaveNodesApart gs'
apart_same {N} [] [] e apart = tt
apart_same {N} [] (x ∷ xs) e apart = absurd (let bad = ap (λ (z : List ℕ). length z) e in omega arith)
apart_same {N} (y ∷ ys) [] e apart = tt
apart_same {N} (y ∷ ys) (x ∷ xs) e apart =
    ((λ h has same. let r = in_same ys xs (ap tail_of e) h has in apart.0 r.0 r.1 (r.2 ∙ (same ∙ ap head_of e))), apart_same ys xs (ap tail_of e) apart.1)

-- the guards behind the store of a word
restored_if : {N : Type 0} → (b : Bool) (g : Guard N) (x : ℕ) (gs rest : List (Guard N)) → nodes_of rest ≡ nodes_of gs
    → nodes_of (cond b (guard g.node x g.counted ∷ gs) (g ∷ rest)) ≡ nodes_of (g ∷ gs)
restored_if {N} true g x gs rest e = refl
restored_if {N} false g x gs rest e = ap (λ (z : List ℕ). g.node ∷ z) e

pub nodes_restored : {N : Type 0} → (word x : ℕ) (gs : List (Guard N)) → nodes_of (restored word x gs) ≡ nodes_of gs
nodes_restored {N} word x [] = refl
nodes_restored {N} word x (g ∷ gs) = restored_if (eqb (word_of g.node) word) g x gs (restored word x gs) (nodes_restored word x gs)

-- a guard behind the store is the one whose word was stored, or was there and is of another node
pub restored_cases : {N : Type 0} → (i x : ℕ) (gs : List (Guard N)) (g : Guard N) → HaveNodesApart gs → Contains gs g → g.node ≡ i → (h : Guard N) → Contains (restored (word_of i) x gs) h
    → (guard i x g.counted ≡ h) ⊎ ((h.node ≢ i) × Contains gs h)
restored_cases {N} i x [] g apart has is h at = absurd (not_in g has)
restored_cases {N} i x (y ∷ ys) g apart has is h at = ⊎_elim
    (λ t. let same : y.node ≡ i = omega (arith, t.1) in
    let first : y ≡ g = ⊎_elim (λ e. e) (λ later. absurd (apart.0 g later (is ∙ sym same))) (in_cases y g ys has) in
    let at' : Contains (guard y.node x y.counted ∷ ys) h = subst (λ (b : Bool). Contains (cond b (guard y.node x y.counted ∷ ys) (y ∷ restored (word_of i) x ys)) h) t.0 at in
    ⊎_elim
    (λ e. inl (ap (λ (n : ℕ). guard n x g.counted) (sym same) ∙ (ap (λ (z : Guard N). guard y.node x z.counted) (sym first) ∙ e)))
    (λ old. inr ((λ e. apart.0 h old (e ∙ sym same)), in_later y h ys old))
    (in_cases (guard y.node x y.counted) h ys at'))
    (λ t. let ne = t.1 in
    let later : Contains ys g = ⊎_elim (λ e. absurd (ne (let n : y.node ≡ i = ap (λ (z : Guard N). z.node) e ∙ is in omega arith))) (λ l. l) (in_cases y g ys has) in
    let at' : Contains (y ∷ restored (word_of i) x ys) h = subst (λ (b : Bool). Contains (cond b (guard y.node x y.counted ∷ ys) (y ∷ restored (word_of i) x ys)) h) t.0 at in
    ⊎_elim
    (λ e. inr ((λ n. ne (ap word_of (ap (λ (z : Guard N). z.node) e ∙ n))), subst (Contains (y ∷ ys)) e (in_first y ys)))
    (λ old. ⊎_elim (λ a. inl a) (λ b. inr (b.0, in_later y h ys b.1)) (restored_cases i x ys g apart.1 later is h old))
    (in_cases y h (restored (word_of i) x ys) at'))
    (eqb_tells (word_of y.node) (word_of i))

-- the first guard alone is another, or one behind it
pub first_cases : {N : Type 0} → (g g' : Guard N) (gs : List (Guard N)) → g'.node ≡ g.node → HaveNodesApart (g ∷ gs) → (h : Guard N) → Contains (g' ∷ gs) h → (g' ≡ h) ⊎ ((h.node ≢ g.node) × Contains (g ∷ gs) h)
first_cases {N} g g' gs same apart h has = ⊎_elim (λ e. inl e) (λ old. inr (apart.0 h old, in_later g h gs old)) (in_cases g' h gs has)

pub second_cases : {N : Type 0} → (f g g' : Guard N) (gs : List (Guard N)) → g'.node ≡ g.node → HaveNodesApart (f ∷ g ∷ gs) → (h : Guard N) → Contains (f ∷ g' ∷ gs) h → (g' ≡ h) ⊎ ((h.node ≢ g.node) × Contains (f ∷ g ∷ gs) h)
second_cases {N} f g g' gs same apart h has = ⊎_elim
    (λ e. inr ((λ n. apart.0 g (in_first g gs) (sym n ∙ ap (λ (z : Guard N). z.node) (sym e))), subst (Contains (f ∷ g ∷ gs)) e (in_first f (g ∷ gs))))
    (λ old. ⊎_elim (λ a. inl a) (λ b. inr (b.0, in_later f h (g ∷ gs) b.1)) (first_cases g g' gs same apart.1 h old))
    (in_cases f h (g' ∷ gs) has)

pub third_cases : {N : Type 0} → (e f g g' : Guard N) (gs : List (Guard N)) → g'.node ≡ g.node → HaveNodesApart (e ∷ f ∷ g ∷ gs) → (h : Guard N) → Contains (e ∷ f ∷ g' ∷ gs) h
    → (g' ≡ h) ⊎ ((h.node ≢ g.node) × Contains (e ∷ f ∷ g ∷ gs) h)
third_cases {N} e f g g' gs same apart h has = ⊎_elim
    (λ i. inr ((λ n. apart.0 g (in_later f g (g ∷ gs) (in_first g gs)) (sym n ∙ ap (λ (z : Guard N). z.node) (sym i))), subst (Contains (e ∷ f ∷ g ∷ gs)) i (in_first e (f ∷ g ∷ gs))))
    (λ old. ⊎_elim (λ a. inl a) (λ b. inr (b.0, in_later e h (f ∷ g ∷ gs) b.1)) (second_cases f g g' gs same apart.1 h old))
    (in_cases e h (f ∷ g' ∷ gs) has)

-- which guards are left
guard_if : {N : Type 0} → (b : Bool) (g h : Guard N) (rest : List (Guard N)) → Contains (cond b rest (g ∷ rest)) h → ((b ≡ false) × (g ≡ h)) ⊎ Contains rest h
guard_if {N} true g h rest has = inr has
guard_if {N} false g h rest has = ⊎_elim (λ e. inl (refl, e)) (λ r. inr r) (in_cases g h rest has)

pub without_guard_has : {N : Type 0} → (lock : ℕ) (gs : List (Guard N)) (h : Guard N) → Contains (without_guard lock gs) h → (lock_of h.node ≢ lock) × Contains gs h
without_guard_has {N} lock [] h has = absurd (not_in h has)
without_guard_has {N} lock (g ∷ gs) h has = ⊎_elim
    (λ e. ((λ same. let bad = eq-eqb (lock_of g.node) lock (ap (λ (z : Guard N). lock_of z.node) e.1 ∙ same) in let not = e.0 in absurd (cc)), (0, omega arith, e.1)))
    (λ r. let rest = without_guard_has lock gs h r in (rest.0, in_later g h gs rest.1))
    (guard_if (eqb (lock_of g.node) lock) g h (without_guard lock gs) has)

keep_if : {N : Type 0} → (b : Bool) (g h : Guard N) (rest : List (Guard N)) → Contains rest h → Contains (cond b rest (g ∷ rest)) h
keep_if {N} true g h rest has = has
keep_if {N} false g h rest has = in_later g h rest has

first_if : {N : Type 0} → (b : Bool) (g : Guard N) (rest : List (Guard N)) → b ≡ false → Contains (cond b rest (g ∷ rest)) g
first_if {N} true g rest e = absurd (cc)
first_if {N} false g rest e = (0, omega arith, refl)

pub has_without_guard : {N : Type 0} → (lock : ℕ) (gs : List (Guard N)) (h : Guard N) → Contains gs h → lock_of h.node ≢ lock → Contains (without_guard lock gs) h
has_without_guard {N} lock [] h has ne = absurd (not_in h has)
has_without_guard {N} lock (g ∷ gs) h has ne = ⊎_elim
    (λ e. subst (λ (z : Guard N). Contains (cond (eqb (lock_of g.node) lock) (without_guard lock gs) (g ∷ without_guard lock gs)) z) e
    (first_if (eqb (lock_of g.node) lock) g (without_guard lock gs) (ne_eqb (lock_of g.node) lock (λ same. ne (ap (λ (z : Guard N). lock_of z.node) (sym e) ∙ same)))))
    (λ r. keep_if (eqb (lock_of g.node) lock) g h (without_guard lock gs) (has_without_guard lock gs h r ne))
    (in_cases g h gs has)

-- guards of different nodes, with one more behind them, and with one less
pub apart_snoc : {N : Type 0} → (g : Guard N) (gs : List (Guard N)) → ((h : Guard N) → Contains gs h → h.node ≢ g.node) → HaveNodesApart gs → HaveNodesApart (gs ++ g ∷ [])
apart_snoc {N} g [] other apart = ((λ h has. absurd (not_in h has)), tt)
apart_snoc {N} g (x ∷ xs) other apart = (
  (λ h has. ⊎_elim (λ old. apart.0 h old) (λ b. ⊎_elim (λ e. λ same. other x (0, omega arith, refl) (sym same ∙ ap (λ (z : Guard N). z.node) (sym e))) (λ n. absurd (not_in h n)) (in_cases g h [] b)) (Contains-append_cases xs (g ∷ []) h has)),
  apart_snoc g xs (λ h has. other h (in_later x h xs has)) apart.1,
)

apart_if : {N : Type 0} → (b : Bool) (g : Guard N) (rest : List (Guard N)) → ((h : Guard N) → Contains rest h → h.node ≢ g.node) → HaveNodesApart rest → HaveNodesApart (cond b rest (g ∷ rest))
apart_if {N} true g rest other apart = apart
apart_if {N} false g rest other apart = (other, apart)

pub apart_without : {N : Type 0} → (lock : ℕ) (gs : List (Guard N)) → HaveNodesApart gs → HaveNodesApart (without_guard lock gs)
apart_without {N} lock [] apart = tt
apart_without {N} lock (g ∷ gs) apart =
    apart_if (eqb (lock_of g.node) lock) g (without_guard lock gs) (λ h has. apart.0 h (without_guard_has lock gs h has).1) (apart_without lock gs apart.1)
