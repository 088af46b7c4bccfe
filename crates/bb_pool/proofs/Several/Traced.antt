-- Once all seats are joined, each number that was drawn has a name, and so there are no more than the tree has nodes.
use Rattle.std.proofs.Common.{◌≡◌, ◌≢◌, ℕ, zero, suc, ◌+◌, ◌-◌, ◌<◌, ◌≤◌, Bool, true, false, List, [], ◌∷◌, ◌++◌, length, length-append, get_or, Option, Some, None, refl, sym, ap, ◌∙◌, subst, inl, inr, arith}
use Rattle.std.specs.Prelude.{Contains, count_by, nat_eq, nat_le, nat_lt, ◌&&◌, ◌==◌, if◌then◌else◌}
use Rattle.std.specs.List.{IsDistinct}
use Rattle.std.specs.Cmp.Derive.{both_true}
use mathlib.Core.Logic.{dite}
use native.Mathlib.Decide.{ℕ_discrete, dec_lt}
use Rattle.std.proofs.lemmas.Bool.{cases_Bool, lt-ltb, le-ltb, le-leb, lt-leb, eq-eqb, ltb-true, leb-true}
use Rattle.std.proofs.lemmas.List.{get_or_append_left, get_or_push}
use Rattle.std.proofs.lemmas.List.Elements.{All-get_or, All-from_recursion}
use Rattle.bb_problem.specs.Limits.{size_limit}
use Rattle.bb_problem.specs.Tree.{below}
use Rattle.bb_problem.specs.Meaning.{Meaning, IsLawful}
use Rattle.pq_numbers.specs.declared.draws.Draw.{Draw}
use Rattle.bb_shared.specs.declared.store.stored.Numbered.{Numbered}
use Rattle.bb_shared.specs.declared.store.stored.Stored.{Stored}
use Rattle.bb_shared.specs.Stores.{KnowsStore}
use Rattle.pq_numbers.specs.Draws.{times_drawn, drawn_in_all}
use Rattle.pq_numbers.proofs.Counts.{one_if, other_none, times_drawn-contains, none_counted}
use Rattle.bb_pool.specs.Searching.{name_at}
use Rattle.bb_pool.specs.Numbers.{AreNames}
use Rattle.bb_pool.specs.Origins.{Origin, IsChildOf, is_drawn, roots_at, HasOrigins}
use Rattle.bb_pool.proofs.Members.{none_in_empty, Contains-here, Contains-there, Contains-cases}
use Rattle.bb_pool.proofs.Numbers.{within_names, within_size}
use Rattle.bb_pool.proofs.Several.Origins.{count_cons}

-- what passes a test is counted
counted : {A : Type 0} (p : A → Bool) (xs : List A) (a : A) → Contains xs a → p a ≡ true → 0 < count_by p xs
counted p [] a there good = absurd (none_in_empty a there)
counted {A} p (x ∷ xs) a there good = let c = count_cons p x xs in elim (Contains-cases x a xs there) [
  | inl is ↦ (let one : one_if (p x) ≡ 1 = ap (λ (z : A). one_if (p z)) is ∙ ap one_if good in omega arith)
  | inr rest ↦ (let r = counted p xs a rest good in omega arith)
]

-- what is counted once is one
one_of : {A : Type 0} (p : A → Bool) (xs : List A) (a b : A) → count_by p xs ≤ 1 → Contains xs a → Contains xs b → p a ≡ true → p b ≡ true → a ≡ b
one_of p [] a b few here there good also = absurd (none_in_empty a here)
one_of {A} p (x ∷ xs) a b few here there good also = let c = count_cons p x xs in elim (Contains-cases x a xs here) [
  | inl is ↦ elim (Contains-cases x b xs there) [
    | inl same ↦ sym is ∙ same
    | inr rest ↦ absurd (let one : one_if (p x) ≡ 1 = ap (λ (z : A). one_if (p z)) is ∙ ap one_if good in let r = counted p xs b rest also in omega arith)
  ]
  | inr later ↦ elim (Contains-cases x b xs there) [
    | inl same ↦ absurd (let one : one_if (p x) ≡ 1 = ap (λ (z : A). one_if (p z)) same ∙ ap one_if also in let r = counted p xs a later good in omega arith)
    | inr rest ↦ one_of p xs a b (omega arith) later rest good also
  ]
]

-- and what is counted is there
some_of : {A : Type 0} (p : A → Bool) (xs : List A) → 0 < count_by p xs → (a : A) × Contains xs a × (p a ≡ true)
some_of p [] some = absurd (omega arith)
some_of p (x ∷ xs) some = elim (cases_Bool (p x)) [
  | inl good ↦ (x, Contains-here x xs, good)
  | inr bad ↦ (let c = count_cons p x xs in let z : one_if (p x) ≡ 0 = ap one_if bad in let r = some_of p xs (omega arith) in (r.0, Contains-there x r.0 xs r.1, r.2))
]

-- whether a number is of a draw
is_in : (x : ℕ) (d : Draw) → d.first ≤ x → x < d.first + d.count → is_drawn x d ≡ true
is_in x d from to = both_true (le-leb d.first x from) (lt-ltb x (d.first + d.count) to)

and_both : (a b : Bool) → (a && b) ≡ true → (a ≡ true) × (b ≡ true)
and_both true b is = (refl, is)
and_both false b is = absurd (cc)

in_is : (x : ℕ) (d : Draw) → is_drawn x d ≡ true → (d.first ≤ x) × (x < d.first + d.count)
in_is x d is = let b = and_both (nat_le d.first x) (nat_lt x (d.first + d.count)) is in (leb-true d.first x b.0, ltb-true x (d.first + d.count) b.1)

before_is : (x : ℕ) (d : Draw) → x < d.first → is_drawn x d ≡ false
before_is x d low = ap (λ (t : Bool). t && nat_lt x (d.first + d.count)) (lt-leb d.first x low)

no_root : (x n : ℕ) → n ≢ x → roots_at x (Some n) ≡ 0
no_root x n ne = other_none n x ne

root_is : (x : ℕ) (root : Option ℕ) → roots_at x root ≡ 1 → root ≡ Some x
root_is x None is = absurd (omega arith)
root_is x (Some n) is = dite (ℕ_discrete n x) (λ e. ap (λ (i : ℕ). Some i) e) (λ ne. absurd (let z = no_root x n ne in omega arith))

-- different elements stand at different places
distinct_at : (xs : List ℕ) (i j : ℕ) → IsDistinct nat_eq xs → i < length xs → j < length xs → get_or xs i 0 ≡ get_or xs j 0 → i ≡ j
unfolding IsDistinct
distinct_at [] i j apart a b same = absurd (omega arith)
distinct_at (x ∷ xs) zero zero apart a b same = refl
distinct_at (x ∷ xs) zero (suc j) apart a b same = let P : ℕ → Type 0 = λ y. nat_eq x y ≡ false in
    absurd (let bad : nat_eq x (get_or xs j 0) ≡ false = All-get_or P xs j 0 (omega arith) (All-from_recursion P xs apart.0) in let good = eq-eqb x (get_or xs j 0) same in cc)
distinct_at (x ∷ xs) (suc i) zero apart a b same = let P : ℕ → Type 0 = λ y. nat_eq x y ≡ false in
    absurd (let bad : nat_eq x (get_or xs i 0) ≡ false = All-get_or P xs i 0 (omega arith) (All-from_recursion P xs apart.0) in let good = eq-eqb x (get_or xs i 0) (sym same) in cc)
distinct_at (x ∷ xs) (suc i) (suc j) apart a b same = ap suc (distinct_at xs i j apart.1 (omega arith) (omega arith) same)

module _ {N L : Type 0} (m : Meaning N L) (root : Option ℕ) (s : Stored N) (nodes : ℕ) (t : HasOrigins m root [] s) (knows : KnowsStore nodes s) (whole : s.parts ≡ s.seats) where
  drawn_once : (x : ℕ) → x < drawn_in_all s.draws → times_drawn x s.draws ≡ 1
  drawn_once x lt = knows.tiled whole x ∙ ap (λ (b : Bool). if b then 1 else 0) (lt-ltb x (drawn_in_all s.draws) lt)

  one_origin : (o q : Origin N) (x : ℕ) → Contains t.origins o → Contains t.origins q → is_drawn x o.draw ≡ true → is_drawn x q.draw ≡ true → x < drawn_in_all s.draws → o ≡ q
  one_origin o q x has also good too lt = one_of (λ (z : Origin N). is_drawn x z.draw) t.origins o q (let a = t.drawn x in let b = drawn_once x lt in omega arith) has also good too

  one_parent : (o q : Origin N) → Contains t.origins o → Contains t.origins q → o.parent.number ≡ q.parent.number → o ≡ q
  one_parent o q has also same = let x : ℕ = q.parent.number in
      one_of (λ (z : Origin N). z.parent.number == x) t.origins o q (let a = t.once x in let b = knows.takes_once x in omega arith) has also (eq-eqb o.parent.number x same) (eq-eqb x x refl)

  root_first : 0 < drawn_in_all s.draws → root ≡ Some 0
  root_first some = let none : count_by (λ (z : Origin N). is_drawn 0 z.draw) t.origins ≡ 0 = none_counted (λ (z : Origin N). is_drawn 0 z.draw) t.origins (λ o has. before_is 0 o.draw (let a = (t.each o has).above in omega arith)) in
      root_is 0 root (let a = t.drawn 0 in let b = drawn_once 0 some in omega arith)

  -- where a number has its name from
  record Owner (names : List (List ℕ)) (parents parts : List ℕ) (i : ℕ) : Type 0 where
    origin : Origin N
    has : Contains t.origins origin
    drawn : is_drawn i origin.draw ≡ true
    parent : get_or parents i 0 ≡ origin.parent.number
    part : get_or parts i 0 ≡ get_or (origin.parts (name_at names origin.parent.number)) (i - origin.draw.first) 0
    is : name_at names i ≡ below (name_at names origin.parent.number) (get_or parts i 0)

  -- the names of the numbers below this one
  record Named (n : ℕ) : Type 0 where
    names : List (List ℕ)
    parents : List ℕ
    parts : List ℕ
    many : length names ≡ n
    many_parents : length parents ≡ n
    many_parts : length parts ≡ n
    first : name_at names 0 ≡ []
    owner : (i : ℕ) → 1 ≤ i → i < n → Owner names parents parts i
    stands : (p : Numbered N) → Contains s.puts p → p.number < n → m.stands p.node (name_at names p.number)

  above_parent : (o : Origin N) (i : ℕ) → Contains t.origins o → is_drawn i o.draw ≡ true → o.parent.number < i
  above_parent o i has good = let a = (t.each o has).above in let b = in_is i o.draw good in let c = b.0 in omega arith

  parent_put : (o : Origin N) → Contains t.origins o → Contains s.puts o.parent
  parent_put o has = (knows.matched whole).from_puts o.parent (t.taken o has)

  named_root : 0 < drawn_in_all s.draws → Named 1
  named_root some = record {
    names = [] ∷ [];
    parents = 0 ∷ [];
    parts = 0 ∷ [];
    many = refl;
    many_parents = refl;
    many_parts = refl;
    first = refl;
    owner = λ i low high. absurd (omega arith);
    stands = λ p there lt. let zero_is : 0 ≡ p.number = omega arith in elim (t.put p there) [
      | inl r ↦ subst (λ (i : ℕ). m.stands p.node (name_at ([] ∷ []) i)) zero_is r.1
      | inr q ↦ absurd (let c = q.2 in let a = (t.each q.0 q.1).above in let b = c.number in omega arith)
    ];
  }

  old_name : (names : List (List ℕ)) (name : List ℕ) (i : ℕ) → i < length names → name_at (names ++ name ∷ []) i ≡ name_at names i
  old_name names name i lt = get_or_append_left names (name ∷ []) [] i lt

  old_at : (xs : List ℕ) (x i : ℕ) → i < length xs → get_or (xs ++ x ∷ []) i 0 ≡ get_or xs i 0
  old_at xs x i lt = get_or_append_left xs (x ∷ []) 0 i lt

  owner_more : (names : List (List ℕ)) (parents parts : List ℕ) (name : List ℕ) (parent part i : ℕ) → i < length names → i < length parents → i < length parts → Owner names parents parts i → Owner (names ++ name ∷ []) (parents ++ parent ∷ []) (parts ++ part ∷ []) i
  owner_more names parents parts name parent part i a b c w = let low = above_parent w.origin i w.has w.drawn in
      let same : name_at (names ++ name ∷ []) w.origin.parent.number ≡ name_at names w.origin.parent.number = old_name names name w.origin.parent.number (omega arith) in record {
        origin = w.origin;
        has = w.has;
        drawn = w.drawn;
        parent = old_at parents parent i b ∙ w.parent;
        part = old_at parts part i c ∙ (w.part ∙ ap (λ (l : List ℕ). get_or (w.origin.parts l) (i - w.origin.draw.first) 0) (sym same));
        is = old_name names name i a ∙ (w.is ∙ (λ j. below (sym same j) (sym (old_at parts part i c) j)));
      }

  named_more : (n : ℕ) → 1 ≤ n → n < drawn_in_all s.draws → Named n → Named (n + 1)
  named_more n some lt w =
      let start : root ≡ Some 0 = root_first (omega arith) in
      let none : roots_at n root ≡ 0 = ap (roots_at n) start ∙ no_root n 0 (λ e. omega arith) in
      let found = some_of (λ (z : Origin N). is_drawn n z.draw) t.origins (let a = t.drawn n in let b = drawn_once n lt in omega arith) in
      let o : Origin N = found.0 in let has = found.1 in let good : is_drawn n o.draw ≡ true = found.2 in
      let from = (in_is n o.draw good).0 in
      let low = above_parent o n has good in
      let parent : List ℕ = name_at w.names o.parent.number in
      let part : ℕ = get_or (o.parts parent) (n - o.draw.first) 0 in
      let name : List ℕ = below parent part in
      let many = w.many in let many_parents = w.many_parents in let many_parts = w.many_parts in
      let names : List (List ℕ) = w.names ++ name ∷ [] in
      let same : name_at names o.parent.number ≡ parent = old_name w.names name o.parent.number (omega arith) in
      let new : name_at names n ≡ name = get_or_push w.names name [] n w.many in
      let part_is : get_or (w.parts ++ part ∷ []) n 0 ≡ part = get_or_push w.parts part 0 n w.many_parts in
      let last : Owner names (w.parents ++ o.parent.number ∷ []) (w.parts ++ part ∷ []) n = record {
        origin = o;
        has = has;
        drawn = good;
        parent = get_or_push w.parents o.parent.number 0 n w.many_parents;
        part = part_is ∙ ap (λ (l : List ℕ). get_or (o.parts l) (n - o.draw.first) 0) (sym same);
        is = new ∙ (λ j. below (sym same j) (sym part_is j));
      } in record {
        names = names;
        parents = w.parents ++ o.parent.number ∷ [];
        parts = w.parts ++ part ∷ [];
        many = length-append w.names (name ∷ []) ∙ ap (λ (k : ℕ). k + 1) w.many;
        many_parents = length-append w.parents (o.parent.number ∷ []) ∙ ap (λ (k : ℕ). k + 1) w.many_parents;
        many_parts = length-append w.parts (part ∷ []) ∙ ap (λ (k : ℕ). k + 1) w.many_parts;
        first = old_name w.names name 0 (omega arith) ∙ w.first;
        owner = λ i low high. dite (dec_lt i n)
            (λ old. owner_more w.names w.parents w.parts name o.parent.number part i (omega arith) (omega arith) (omega arith) (w.owner i low old))
            (λ not_below. let is : n ≡ i = omega arith in subst (λ (k : ℕ). Owner names (w.parents ++ o.parent.number ∷ []) (w.parts ++ part ∷ []) k) is last);
        stands = λ p there below_it. dite (dec_lt p.number n)
            (λ old. subst (λ (l : List ℕ). m.stands p.node l) (sym (old_name w.names name p.number (omega arith))) (w.stands p there old))
            (λ not_below. let is : p.number ≡ n = omega arith in elim (t.put p there) [
              | inl r ↦ absurd (let e : Some 0 ≡ Some p.number = sym start ∙ r.0 in let z : 0 ≡ p.number = cc in omega arith)
              | inr q ↦ (let c = q.2 in let in_q : is_drawn n q.0.draw ≡ true = is_in n q.0.draw (let b = c.number in omega arith) (let b = c.number in let d = c.within in omega arith) in
                  let one : q.0 ≡ o = one_origin q.0 o n q.1 has in_q good lt in
                  let child : IsChildOf m o p = subst (λ (z : Origin N). IsChildOf m z p) one c in
                  let place : child.place ≡ n - o.draw.first = let b = child.number in omega arith in
                  let under : m.stands o.parent.node parent = w.stands o.parent (parent_put o has) (omega arith) in
                  let at : m.stands p.node (below parent part) = subst (λ (k : ℕ). m.stands p.node (below parent (get_or (o.parts parent) k 0))) place (child.follows parent under) in
                  subst (λ (l : List ℕ). m.stands p.node l) (sym (ap (name_at names) is ∙ new)) at)
            ]);
      }

  named : (n : ℕ) → suc n ≤ drawn_in_all s.draws → Named (suc n)
  named zero some = named_root (omega arith)
  named (suc n) some = let more : suc n + 1 ≡ suc (suc n) = omega arith in subst Named more (named_more (suc n) (omega arith) (omega arith) (named n (omega arith)))

  are_names : (n : ℕ) → n ≤ drawn_in_all s.draws → (w : Named n) → AreNames m.tree w.names (λ i. get_or w.parents i 0) (λ i. get_or w.parts i 0)
  are_names n most w = let many = w.many in record {
    root = w.first;
    lesser = λ i low high. let a = w.owner i low (omega arith) in let b = above_parent a.origin i a.has a.drawn in let c = a.parent in omega arith;
    child = λ i low high. let a = w.owner i low (omega arith) in let o : Origin N = a.origin in let is = t.each o a.has in let name : List ℕ = name_at w.names o.parent.number in
        let b = above_parent o i a.has a.drawn in let under : m.stands o.parent.node name = w.stands o.parent (parent_put o a.has) (omega arith) in
        let long = is.many name under in let d = in_is i o.draw a.drawn in
        let there : Contains (m.tree.children name) (get_or (o.parts name) (i - o.draw.first) 0) = All-get_or (Contains (m.tree.children name)) (o.parts name) (i - o.draw.first) 0 (let x = d.0 in let y = d.1 in omega arith) (is.children name under) in
        subst (λ (k : ℕ). Contains (m.tree.children (name_at w.names k)) (get_or w.parts i 0)) (sym a.parent) (subst (λ (k : ℕ). Contains (m.tree.children name) k) (sym a.part) there);
    is = λ i low high. let a = w.owner i low (omega arith) in a.is ∙ ap (λ (k : ℕ). below (name_at w.names k) (get_or w.parts i 0)) (sym a.parent);
    once = λ i j low other high also same part. let a = w.owner i low (omega arith) in let b = w.owner j other (omega arith) in let o : Origin N = a.origin in
        let one : b.origin ≡ o = one_parent b.origin o b.has a.has (sym b.parent ∙ (sym same ∙ a.parent)) in
        let name : List ℕ = name_at w.names o.parent.number in
        let under : m.stands o.parent.node name = w.stands o.parent (parent_put o a.has) (let x = above_parent o i a.has a.drawn in omega arith) in
        let is = t.each o a.has in let long = is.many name under in
        let d = in_is i o.draw a.drawn in let e = in_is j o.draw (subst (λ (z : Origin N). is_drawn j z.draw ≡ true) one b.drawn) in
        let theirs : get_or w.parts j 0 ≡ get_or (o.parts name) (j - o.draw.first) 0 = subst (λ (z : Origin N). get_or w.parts j 0 ≡ get_or (z.parts (name_at w.names z.parent.number)) (j - z.draw.first) 0) one b.part in
        let place = distinct_at (o.parts name) (i - o.draw.first) (j - o.draw.first) (is.apart name under) (let x = d.0 in let y = d.1 in omega arith) (let x = e.0 in let y = e.1 in omega arith) (sym a.part ∙ (part ∙ theirs)) in
        let x = d.0 in let y = e.0 in omega arith;
  }

  -- no more numbers were drawn than there are nodes
  pub drawn_within_size : IsLawful m → (d : Draw) (asked : ℕ) → Contains s.draws d → d.first < asked → d.first + d.count ≡ asked → m.tree_size < size_limit → asked ≤ m.tree_size
  drawn_within_size laws d asked there low is small = let last : ℕ = asked - 1 in
      let some = times_drawn-contains last s.draws d there (omega arith) (omega arith) in
      let within : asked ≤ drawn_in_all s.draws = dite (dec_lt last (drawn_in_all s.draws)) (λ lt. omega arith)
      (λ not_below. absurd (let none : times_drawn last s.draws ≡ 0 = knows.tiled whole last ∙ ap (λ (b : Bool). if b then 1 else 0) (le-ltb last (drawn_in_all s.draws) (omega arith)) in omega arith)) in
      let back : suc last ≡ asked = omega arith in
      let w : Named asked = subst Named back (named last (omega arith)) in
      let few = within_size m laws within_names w.names (λ i. get_or w.parents i 0) (λ i. get_or w.parts i 0) small (are_names asked within w) in
      let many = w.many in omega arith
