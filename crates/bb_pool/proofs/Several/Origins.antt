-- How each step of a worker keeps the origins of the numbers that were drawn.
use Rattle.std.proofs.Common.{◌≡◌, ℕ, suc, ◌+◌, ◌<◌, Bool, true, false, ltb, List, [], ◌∷◌, ◌++◌, length, length-append, get_or, Option, Some, None, refl, sym, ap, ◌∙◌, subst, inl, inr, arith}
use Rattle.std.specs.Prelude.{All, Contains, count_by, nat_eq, ◌&&◌, ◌==◌, if◌then◌else◌}
use Rattle.std.specs.List.{IsDistinct, AllByRecursion}
use mathlib.Core.Logic.{dite}
use native.Mathlib.Decide.{ℕ_discrete, dec_lt}
use Rattle.std.proofs.lemmas.Bool.{lt-ltb, le-ltb, lt-leb, le-leb}
use Rattle.std.proofs.lemmas.List.Sums.{sum_by-cons, sum_by_push, sum_by-append}
use Rattle.std.proofs.lemmas.List.Elements.{All-nil, All-cons, All-head, All-tail, All-from_recursion, recursion_from_All, All-contains_itself, Contains-append_left, Contains-append_right, Contains-append_cases}
use Rattle.std.proofs.Math.Seq.{get_or-append_seam}
use Rattle.std.proofs.lemmas.List.{append_assoc}
use Rattle.bb_problem.specs.Tree.{below}
use Rattle.bb_problem.specs.Meaning.{Meaning, IsLawful}
use Rattle.bb_problem.specs.Expanding.{StandBelow}
use Rattle.bb_shared.specs.declared.store.stored.Numbered.{Numbered}
use Rattle.bb_shared.specs.declared.store.stored.Stored.{Stored}
use Rattle.bb_shared.specs.Stores.{numbered, number_of, with_draw, with_put, with_take, stores_joined, new_stored}
use Rattle.pq_numbers.specs.Draws.{draw_of}
use Rattle.pq_numbers.proofs.Counts.{times-cons, times-push, times-append, times_drawn-push, times_drawn-append, in_draw, one_if, same_one, other_none}
use Rattle.bb_pool.specs.Costs.{is_better}
use Rattle.bb_pool.specs.Working.{Waiting, kept_of}
use Rattle.bb_pool.specs.Origins.{Origin, IsOrigin, IsChildOf, is_drawn, HasOrigins, IsAmongOrigins, kept_parts, AreLeftOf}
use Rattle.bb_pool.proofs.Members.{none_in_empty, Contains-here, Contains-cases}

-- how many elements pass a test

pub count_cons : {A : Type 0} (p : A → Bool) (x : A) (xs : List A) → count_by p (x ∷ xs) ≡ one_if (p x) + count_by p xs
count_cons {A} p x xs = sum_by-cons (λ (y : A). one_if (p y)) x xs

count_push : {A : Type 0} (p : A → Bool) (xs : List A) (x : A) → count_by p (xs ++ x ∷ []) ≡ count_by p xs + one_if (p x)
count_push {A} p xs x = sum_by_push (λ (y : A). one_if (p y)) xs x

count_append : {A : Type 0} (p : A → Bool) (xs ys : List A) → count_by p (xs ++ ys) ≡ count_by p xs + count_by p ys
count_append {A} p xs ys = sum_by-append (λ (y : A). one_if (p y)) xs ys

-- what a draw of one number has
pub in_one : (o x : ℕ) (within : Bool) → in_draw x (draw_of o 1 within) ≡ (if o == x then 1 else 0)
in_one o x within = dite (ℕ_discrete o x)
    (λ e. let a : in_draw x (draw_of o 1 within) ≡ one_if (ltb x (o + 1)) = ap (λ (t : Bool). one_if (t && ltb x (o + 1))) (le-leb o x (omega arith)) in let b = ap one_if (lt-ltb x (o + 1) (omega arith)) in let c = same_one o x e in omega arith)
    (λ n. let c = other_none o x n in dite (dec_lt x o)
    (λ low. let a : in_draw x (draw_of o 1 within) ≡ 0 = ap (λ (t : Bool). one_if (t && ltb x (o + 1))) (lt-leb o x low) in omega arith)
    (λ high. let a : in_draw x (draw_of o 1 within) ≡ one_if (ltb x (o + 1)) = ap (λ (t : Bool). one_if (t && ltb x (o + 1))) (le-leb o x (omega arith)) in let b = ap one_if (le-ltb x (o + 1) (omega arith)) in omega arith))

module _ {N L : Type 0} {m : Meaning N L} where
  -- a worker that has done nothing
  pub traced_new : (seats : ℕ) → HasOrigins m None [] (new_stored seats)
  traced_new seats = record {
    origins = [];
    each = λ o there. absurd (none_in_empty o there);
    taken = λ o there. absurd (none_in_empty o there);
    still = λ p there. there;
    drawn = λ x. refl;
    once = λ x. omega arith;
    put = λ p there. absurd (none_in_empty p there);
  }

  -- the root's number is drawn
  pub root_drew : {s : Stored N} (o : ℕ) (within : Bool) → HasOrigins m None [] s → HasOrigins m (Some o) [] (with_draw s (draw_of o 1 within))
  root_drew {s} o within t = record {
    origins = t.origins;
    each = t.each;
    taken = t.taken;
    still = t.still;
    drawn = λ x. let a = t.drawn x in let b = times_drawn-push x s.draws (draw_of o 1 within) in let c = in_one o x within in omega arith;
    once = t.once;
    put = λ p there. elim (t.put p there) [ inl r ↦ absurd (let e = r.0 in cc) | inr q ↦ inr q ];
  }

module _ {N L : Type 0} {m : Meaning N L} {root : Option ℕ} where
  -- and the root is put under it
  pub root_put : {s : Stored N} (p : Numbered N) → root ≡ Some p.number → m.stands p.node [] → HasOrigins m root [] s → HasOrigins m root [] (with_put s p)
  root_put {s} p is stands t = record {
    origins = t.origins;
    each = t.each;
    taken = t.taken;
    still = t.still;
    drawn = t.drawn;
    once = t.once;
    put = λ q there. elim (Contains-append_cases s.puts (p ∷ []) q there) [
      | inl old ↦ t.put q old
      | inr new ↦ elim (Contains-cases p q [] new) [
        | inl same ↦ inl (is ∙ ap (λ (z : Numbered N). Some z.number) same, subst (λ (z : Numbered N). m.stands z.node []) same stands)
        | inr nil ↦ absurd (none_in_empty q nil)
      ]
    ];
  }

  -- a node is taken
  pub traced_took : {s : Stored N} (p : Numbered N) → HasOrigins m root [] s → HasOrigins m root (p ∷ []) (with_take s p)
  traced_took {s} p t = record {
    origins = t.origins;
    each = t.each;
    taken = λ o has. Contains-append_left s.takes (p ∷ []) o.parent (t.taken o has);
    still = λ q there. Contains-append_right s.takes (p ∷ []) q there;
    drawn = t.drawn;
    once = λ x. let a = t.once x in let b = times-push number_of x s.takes p in let c = times-cons number_of x p [] in omega arith;
    put = t.put;
  }

  -- and is not expanded to children that are kept
  pub traced_left : {s : Stored N} {held : List (Numbered N)} → HasOrigins m root held s → HasOrigins m root [] s
  traced_left t = record {
    origins = t.origins;
    each = t.each;
    taken = t.taken;
    still = λ q there. absurd (none_in_empty q there);
    drawn = t.drawn;
    once = λ x. let a = t.once x in omega arith;
    put = t.put;
  }

  -- or numbers are drawn for its children
  pub traced_drew : {s : Stored N} (o : Origin N) → IsOrigin m o → HasOrigins m root (o.parent ∷ []) s → IsAmongOrigins m root o (with_draw s o.draw)
  traced_drew {s} o is t = record {
    traced = record {
      origins = t.origins ++ o ∷ [];
      each = λ q there. elim (Contains-append_cases t.origins (o ∷ []) q there) [
        | inl old ↦ t.each q old
        | inr new ↦ elim (Contains-cases o q [] new) [ inl same ↦ subst (λ (z : Origin N). IsOrigin m z) same is | inr nil ↦ absurd (none_in_empty q nil) ]
      ];
      taken = λ q there. elim (Contains-append_cases t.origins (o ∷ []) q there) [
        | inl old ↦ t.taken q old
        | inr new ↦ elim (Contains-cases o q [] new) [
          | inl same ↦ subst (λ (z : Origin N). Contains s.takes z.parent) same (t.still o.parent (Contains-here o.parent []))
          | inr nil ↦ absurd (none_in_empty q nil)
        ]
      ];
      still = λ q there. absurd (none_in_empty q there);
      drawn = λ x. let a = t.drawn x in let b = times_drawn-push x s.draws o.draw in let c = count_push (λ (z : Origin N). is_drawn x z.draw) t.origins o in omega arith;
      once = λ x. let a = t.once x in let b = times-cons number_of x o.parent [] in let c = count_push (λ (z : Origin N). z.parent.number == x) t.origins o in omega arith;
      put = λ p there. elim (t.put p there) [ inl r ↦ inl r | inr q ↦ inr (q.0, Contains-append_left t.origins (o ∷ []) q.0 q.1, q.2) ];
    };
    has = Contains-append_right t.origins (o ∷ []) o (Contains-here o []);
  }

  -- and one of them is put under its number
  pub origin_put : {s : Stored N} {o : Origin N} (p : Numbered N) → IsChildOf m o p → IsAmongOrigins m root o s → IsAmongOrigins m root o (with_put s p)
  origin_put {s} {o} p is h = let t = h.traced in record {
    traced = record {
      origins = t.origins;
      each = t.each;
      taken = t.taken;
      still = t.still;
      drawn = t.drawn;
      once = t.once;
      put = λ q there. elim (Contains-append_cases s.puts (p ∷ []) q there) [
        | inl old ↦ t.put q old
        | inr new ↦ elim (Contains-cases p q [] new) [ inl same ↦ inr (o, h.has, subst (λ (z : Numbered N). IsChildOf m o z) same is) | inr nil ↦ absurd (none_in_empty q nil) ]
      ];
    };
    has = h.has;
  }

  -- two are joined, of which the second drew no number for the root
  pub traced_joined : {s t : Stored N} → HasOrigins m root [] s → HasOrigins m None [] t → HasOrigins m root [] (stores_joined s t)
  traced_joined {s} {t} a b = record {
    origins = a.origins ++ b.origins;
    each = λ o there. elim (Contains-append_cases a.origins b.origins o there) [ inl x ↦ a.each o x | inr y ↦ b.each o y ];
    taken = λ o there. elim (Contains-append_cases a.origins b.origins o there) [
      | inl x ↦ Contains-append_left s.takes t.takes o.parent (a.taken o x)
      | inr y ↦ Contains-append_right s.takes t.takes o.parent (b.taken o y)
    ];
    still = λ q there. absurd (none_in_empty q there);
    drawn = λ x. let p = a.drawn x in let q = b.drawn x in let d = times_drawn-append x s.draws t.draws in let c = count_append (λ (z : Origin N). is_drawn x z.draw) a.origins b.origins in omega arith;
    once = λ x. let p = a.once x in let q = b.once x in let d = times-append number_of x s.takes t.takes in let c = count_append (λ (z : Origin N). z.parent.number == x) a.origins b.origins in omega arith;
    put = λ p there. elim (Contains-append_cases s.puts t.puts p there) [
      | inl x ↦ elim (a.put p x) [ inl r ↦ inl r | inr q ↦ inr (q.0, Contains-append_left a.origins b.origins q.0 q.1, q.2) ]
      | inr y ↦ elim (b.put p y) [ inl r ↦ absurd (let e = r.0 in cc) | inr q ↦ inr (q.0, Contains-append_right a.origins b.origins q.0 q.1, q.2) ]
    ];
  }

-- the children of a branch that are kept

if_long : {A B : Type 0} (b : Bool) (x : A) (y : B) (xs : List A) (ys : List B) → length xs ≡ length ys → length (if b then x ∷ xs else xs) ≡ length (if b then y ∷ ys else ys)
if_long true x y xs ys same = ap suc same
if_long false x y xs ys same = same

if_all : {A : Type 0} (P : A → Type 0) (b : Bool) (x : A) (xs : List A) → P x → All P xs → All P (if b then x ∷ xs else xs)
if_all P true x xs here all = All-cons P x xs here all
if_all P false x xs here all = all

if_distinct : (b : Bool) (x : ℕ) (xs : List ℕ) → AllByRecursion (λ y. nat_eq x y ≡ false) xs → IsDistinct nat_eq xs → IsDistinct nat_eq (if b then x ∷ xs else xs)
unfolding IsDistinct
if_distinct true x xs here rest = (here, rest)
if_distinct false x xs here rest = rest

-- as many as nodes
pub parts_many : {N : Type 0} (stands : N → List ℕ → Type 0) (name : List ℕ) (best : Option ℕ) (nodes : List N) (ks keys : List ℕ) → StandBelow stands name nodes ks → length (kept_parts best ks keys) ≡ length (kept_of best nodes keys)
parts_many stands name best [] [] keys st = refl
parts_many stands name best [] (k ∷ ks) keys st = absurd st
parts_many stands name best (n ∷ ns) [] keys st = absurd st
parts_many stands name best (n ∷ ns) (k ∷ ks) [] st = refl
parts_many {N} stands name best (n ∷ ns) (k ∷ ks) (key ∷ keys) st = let first : Waiting N = record { key = key; node = n } in
    if_long (is_better key best) k first (kept_parts best ks keys) (kept_of best ns keys) (parts_many stands name best ns ks keys st.1)

kept_all : (P : ℕ → Type 0) (best : Option ℕ) (ks keys : List ℕ) → All P ks → All P (kept_parts best ks keys)
kept_all P best [] keys all = All-nil P
kept_all P best (k ∷ ks) [] all = All-nil P
kept_all P best (k ∷ ks) (key ∷ keys) all = if_all P (is_better key best) k (kept_parts best ks keys) (All-head P k ks all) (kept_all P best ks keys (All-tail P k ks all))

pub parts_children : (best : Option ℕ) (ks keys : List ℕ) → All (Contains ks) (kept_parts best ks keys)
parts_children best ks keys = kept_all (Contains ks) best ks keys (All-contains_itself ks)

pub parts_apart : (best : Option ℕ) (ks keys : List ℕ) → IsDistinct nat_eq ks → IsDistinct nat_eq (kept_parts best ks keys)
unfolding IsDistinct
parts_apart best [] keys apart = apart
parts_apart best (k ∷ ks) [] apart = tt
parts_apart best (k ∷ ks) (key ∷ keys) apart = let P : ℕ → Type 0 = λ y. nat_eq k y ≡ false in let rest : List ℕ = kept_parts best ks keys in
    if_distinct (is_better key best) k rest (recursion_from_All P rest (kept_all P best ks keys (All-from_recursion P ks apart.0))) (parts_apart best ks keys apart.1)

kept_yes : {A : Type 0} {b : Bool} (xs ys : A) → b ≡ true → (if b then xs else ys) ≡ xs
kept_yes xs ys good = ap (λ (t : Bool). if t then xs else ys) good

kept_no : {A : Type 0} {b : Bool} (xs ys : A) → b ≡ false → (if b then xs else ys) ≡ ys
kept_no xs ys bad = ap (λ (t : Bool). if t then xs else ys) bad

module _ {N L : Type 0} (m : Meaning N L) (best : Option ℕ) (o : Origin N) where
  -- the first of the nodes is left out
  less_parts : (place key : ℕ) (name : List ℕ) (node : N) (nodes : List N) (keys before ks : List ℕ) → is_better key best ≡ false → o.parts name ≡ before ++ kept_parts best ks (key ∷ keys) → length before ≡ place → StandBelow m.stands name (node ∷ nodes) ks
      → (first rest : List ℕ) × (o.parts name ≡ first ++ kept_parts best rest keys) × (length first ≡ place) × StandBelow m.stands name nodes rest
  less_parts place key name node nodes keys before [] bad is long st = absurd st
  less_parts place key name node nodes keys before (k ∷ ks) bad is long st = let rest : List ℕ = kept_parts best ks keys in
      (before, ks, is ∙ ap (λ (l : List ℕ). before ++ l) (kept_no {b = is_better key best} (k ∷ rest) rest bad), long, st.1)

  -- the first is kept, and is the child of the number
  first_part : (place key : ℕ) (name : List ℕ) (node : N) (nodes : List N) (keys before ks : List ℕ) → is_better key best ≡ true → o.parts name ≡ before ++ kept_parts best ks (key ∷ keys) → length before ≡ place → StandBelow m.stands name (node ∷ nodes) ks
      → m.stands node (below name (get_or (o.parts name) place 0))
  first_part place key name node nodes keys before [] good is long st = absurd st
  first_part place key name node nodes keys before (k ∷ ks) good is long st = let rest : List ℕ = kept_parts best ks keys in
      let whole : o.parts name ≡ before ++ k ∷ rest = is ∙ ap (λ (l : List ℕ). before ++ l) (kept_yes {b = is_better key best} (k ∷ rest) rest good) in
      let at : get_or (o.parts name) place 0 ≡ k = ap (λ (l : List ℕ). get_or l place 0) whole ∙ ap (λ (i : ℕ). get_or (before ++ k ∷ rest) i 0) (sym long) ∙ get_or-append_seam before k rest 0 in
      subst (λ (j : ℕ). m.stands node (below name j)) (sym at) st.0

  more_parts : (place key : ℕ) (name : List ℕ) (node : N) (nodes : List N) (keys before ks : List ℕ) → is_better key best ≡ true → o.parts name ≡ before ++ kept_parts best ks (key ∷ keys) → length before ≡ place → StandBelow m.stands name (node ∷ nodes) ks
      → (first rest : List ℕ) × (o.parts name ≡ first ++ kept_parts best rest keys) × (length first ≡ place + 1) × StandBelow m.stands name nodes rest
  more_parts place key name node nodes keys before [] good is long st = absurd st
  more_parts place key name node nodes keys before (k ∷ ks) good is long st = let rest : List ℕ = kept_parts best ks keys in
      let whole : o.parts name ≡ before ++ k ∷ rest = is ∙ ap (λ (l : List ℕ). before ++ l) (kept_yes {b = is_better key best} (k ∷ rest) rest good) in
      let grouped : (before ++ k ∷ []) ++ rest ≡ before ++ k ∷ rest = append_assoc before (k ∷ []) rest in
      (before ++ k ∷ [], ks, whole ∙ sym grouped, (let more = length-append before (k ∷ []) in omega arith), st.1)

module _ {N L : Type 0} {m : Meaning N L} {best : Option ℕ} {o : Origin N} where
  pub left_less : {number : ℕ} {node : N} {nodes : List N} {key : ℕ} {keys : List ℕ} → is_better key best ≡ false → AreLeftOf m best o number (node ∷ nodes) (key ∷ keys) → AreLeftOf m best o number nodes keys
  left_less {number} {node} {nodes} {key} {keys} bad a = let first : Waiting N = record { key = key; node = node } in record {
    place = a.place;
    number_is = a.number_is;
    count = let same = ap length (kept_no {b = is_better key best} (first ∷ kept_of best nodes keys) (kept_of best nodes keys) bad) in let c = a.count in omega arith;
    parts = λ name st. let p = a.parts name st in less_parts m best o a.place key name node nodes keys p.0 p.1 bad p.2 p.3 p.4;
  }

  pub left_child : {number : ℕ} {node : N} {nodes : List N} {key : ℕ} {keys : List ℕ} → is_better key best ≡ true → AreLeftOf m best o number (node ∷ nodes) (key ∷ keys) → IsChildOf m o (numbered number node)
  left_child {number} {node} {nodes} {key} {keys} good a = let first : Waiting N = record { key = key; node = node } in record {
    place = a.place;
    within = let same = ap length (kept_yes {b = is_better key best} (first ∷ kept_of best nodes keys) (kept_of best nodes keys) good) in let c = a.count in omega arith;
    number = a.number_is;
    follows = λ name st. let p = a.parts name st in first_part m best o a.place key name node nodes keys p.0 p.1 good p.2 p.3 p.4;
  }

  pub left_more : {number : ℕ} {node : N} {nodes : List N} {key : ℕ} {keys : List ℕ} → is_better key best ≡ true → AreLeftOf m best o number (node ∷ nodes) (key ∷ keys) → AreLeftOf m best o (number + 1) nodes keys
  left_more {number} {node} {nodes} {key} {keys} good a = let first : Waiting N = record { key = key; node = node } in record {
    place = a.place + 1;
    number_is = let n = a.number_is in omega arith;
    count = let same = ap length (kept_yes {b = is_better key best} (first ∷ kept_of best nodes keys) (kept_of best nodes keys) good) in let c = a.count in omega arith;
    parts = λ name st. let p = a.parts name st in more_parts m best o a.place key name node nodes keys p.0 p.1 good p.2 p.3 p.4;
  }

-- numbers that are drawn for those children of a branch that are kept
abbrev pub origin_of : {N L : Type 0} → Meaning N L → Option ℕ → List ℕ → ℕ → ℕ → Bool → Numbered N → Origin N
origin_of m best keys first count within parent = record { draw = draw_of first count within; parent = parent; parts = λ name. kept_parts best (m.tree.children name) keys }

module _ {N L : Type 0} (m : Meaning N L) (best : Option ℕ) (children : List N) (keys : List ℕ) (first count : ℕ) (parent : Numbered N) (laws : IsLawful m) (low : parent.number < first) (many : length (kept_of best children keys) ≡ count)
    (expanded : (name : List ℕ) → m.stands parent.node name → StandBelow m.stands name children (m.tree.children name)) where
  pub is_origin : (within : Bool) → IsOrigin m (origin_of m best keys first count within parent)
  is_origin within = record {
    above = low;
    many = λ name st. parts_many m.stands name best children (m.tree.children name) keys (expanded name st) ∙ many;
    children = λ name st. parts_children best (m.tree.children name) keys;
    apart = λ name st. parts_apart best (m.tree.children name) keys (laws.told_apart name);
  }

  pub all_left : AreLeftOf m best (origin_of m best keys first count true parent) first children keys
  all_left = record { place = 0; number_is = omega arith; count = (let c = many in omega arith); parts = λ name st. ([], m.tree.children name, refl, refl, expanded name st) }
