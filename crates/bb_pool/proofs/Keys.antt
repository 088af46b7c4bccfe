-- One node more under a key that was free, and one less.
use Rattle.std.proofs.Common.{◌≡◌, ◌≢◌, ℕ, zero, suc, List, [], ◌∷◌, ◌++◌, map, set, get_or, Some, None, Option, refl, sym, ap, ◌∙◌, subst, inl, inr}
use Rattle.std.specs.Prelude.{All, slice_get}
use Rattle.std.proofs.lemmas.List.Elements.{All-nil, All-cons, All-head, All-tail, All-weaker, All-set, All-push}
use Rattle.std.proofs.lemmas.List.{map-append}
use Rattle.std.proofs.lemmas.Bool.{cases_eq}
use Rattle.bb_pool.specs.Keys.{taken_key, node_in, IsInUse, AreApart, AreKeys}
use Rattle.bb_pool.proofs.Members.{All-both}

map_same : {X Y : Type 0} (f g : X → Y) (xs : List X) → All (λ (x : X). f x ≡ g x) xs → map f xs ≡ map g xs
map_same f g [] same = refl
map_same f g (x ∷ xs) same = let first = All-head (λ y. f y ≡ g y) x xs same in let rest = map_same f g xs (All-tail (λ y. f y ≡ g y) x xs same) in cc

-- each key in use is another than one that was free
others : {N : Type 0} (old : List (Option N)) (keys : List ℕ) (key : ℕ) → All (IsInUse old) keys → node_in old key ≡ None → key ≢ taken_key → All (λ (k : ℕ). k ≢ key) keys
others old keys key used free apart = All-weaker (IsInUse old) (λ (k : ℕ). k ≢ key) (λ k is same. apart (sym same ∙ is (ap (node_in old) same ∙ free))) keys used

apart_push : {N : Type 0} (old new : List (Option N)) (keys : List ℕ) (key : ℕ) → All (λ (k : ℕ). k ≢ key) keys → ((other : ℕ) → other ≢ key → node_in new other ≡ node_in old other) → AreApart old keys → AreApart new (keys ++ key ∷ [])
apart_push old new [] key differ same apart = (All-nil (λ (j : ℕ). j ≡ key → node_in new key ≡ None), tt)
apart_push old new (k ∷ ks) key differ same apart =
    let first : k ≢ key = All-head (λ (j : ℕ). j ≢ key) k ks differ in (
      All-push (λ (j : ℕ). j ≡ k → node_in new k ≡ None) ks key (All-weaker (λ (j : ℕ). j ≡ k → node_in old k ≡ None) (λ (j : ℕ). j ≡ k → node_in new k ≡ None) (λ j is e. same k first ∙ is e) ks apart.0) (λ e. absurd (first (sym e))),
      apart_push old new ks key (All-tail (λ (j : ℕ). j ≢ key) k ks differ) same apart.1,
    )

pub keys_push : {N : Type 0} (old new : List (Option N)) (keys : List ℕ) (key : ℕ) (node : N) → AreKeys old keys → node_in old key ≡ None → key ≢ taken_key → node_in new key ≡ Some node → ((other : ℕ) → other ≢ key → node_in new other ≡ node_in old other) → AreKeys new (keys ++ key ∷ [])
keys_push old new keys key node k free apart put same = let differ = others old keys key k.in_use free apart in record {
  none_taken = same taken_key (λ e. apart (sym e)) ∙ k.none_taken;
  in_use = All-push (IsInUse new) keys key
      (All-both (IsInUse old) (λ (j : ℕ). j ≢ key) (IsInUse new) keys (λ j is other none. is (sym (same j other) ∙ none)) k.in_use differ)
      (λ none. absurd (let no : Some node ≡ None = sym put ∙ none in cc));
  apart = apart_push old new keys key differ same k.apart;
}

pub nodes_push : {N : Type 0} (old new : List (Option N)) (keys : List ℕ) (key : ℕ) (node : N) → AreKeys old keys → node_in old key ≡ None → key ≢ taken_key → node_in new key ≡ Some node → ((other : ℕ) → other ≢ key → node_in new other ≡ node_in old other)
    → map (node_in new) (keys ++ key ∷ []) ≡ map (node_in old) keys ++ Some node ∷ []
nodes_push old new keys key node k free apart put same = let differ = others old keys key k.in_use free apart in
    let before = map_same (node_in new) (node_in old) keys (All-weaker (λ (j : ℕ). j ≢ key) (λ (j : ℕ). node_in new j ≡ node_in old j) (λ j other. same j other) keys differ) in
    let split = map-append (node_in new) keys (key ∷ []) in cc

-- The slots have nothing under the key now, and under every other what they had.
pub record Empties {N : Type 0} (old new : List (Option N)) (key : ℕ) : Type 0 where
  pub gone : node_in new key ≡ None
  pub same : (other : ℕ) → other ≢ key → node_in new other ≡ node_in old other

none_stays : {N : Type 0} {old new : List (Option N)} {key : ℕ} (k : ℕ) → Empties old new key → node_in old k ≡ None → node_in new k ≡ None
none_stays {new} {key} k e none = elim (cases_eq k key) [ inl is ↦ ap (node_in new) is ∙ e.gone | inr other ↦ e.same k other ∙ none ]

-- what holds of each of a list holds of the one at this place
all_at : {X : Type 0} (P : X → Type 0) (xs : List X) (i : ℕ) (x : X) → slice_get xs i ≡ Some x → All P xs → P x
all_at P [] i x is all = absurd (cc)
all_at P (y ∷ ys) zero x is all = let same : y ≡ x = cc in subst P same (All-head P y ys all)
all_at P (y ∷ ys) (suc i) x is all = all_at P ys i x is (All-tail P y ys all)

-- the keys behind one under which a node lies are others
rest_other : {N : Type 0} (old : List (Option N)) (key : ℕ) (node : N) (ks : List ℕ) → node_in old key ≡ Some node → All (λ (j : ℕ). j ≡ key → node_in old key ≡ None) ks → All (λ (j : ℕ). j ≢ key) ks
rest_other old key node ks there apart = All-weaker (λ (j : ℕ). j ≡ key → node_in old key ≡ None) (λ (j : ℕ). j ≢ key) (λ j is same. let none = is same in cc) ks apart

-- a key before one under which a node lies is another
first_other : {N : Type 0} (old : List (Option N)) (key : ℕ) (node : N) (k : ℕ) (ks : List ℕ) (i : ℕ) → node_in old key ≡ Some node → slice_get ks i ≡ Some key → All (λ (j : ℕ). j ≡ k → node_in old k ≡ None) ks → k ≢ key
first_other old key node k ks i there is apart same = let none = all_at (λ (j : ℕ). j ≡ k → node_in old k ≡ None) ks i key is apart (sym same) in let at = ap (node_in old) same in cc

apart_less : {N : Type 0} {old new : List (Option N)} {key : ℕ} (ks : List ℕ) → Empties old new key → AreApart old ks → AreApart new ks
apart_less [] e apart = tt
apart_less {old} {new} (k ∷ ks) e apart = (All-weaker (λ (j : ℕ). j ≡ k → node_in old k ≡ None) (λ (j : ℕ). j ≡ k → node_in new k ≡ None) (λ j is same. none_stays k e (is same)) ks apart.0, apart_less ks e apart.1)

apart_take : {N : Type 0} {old new : List (Option N)} {key : ℕ} (ks : List ℕ) (i : ℕ) → Empties old new key → node_in old taken_key ≡ None → AreApart old ks → AreApart new (set ks i taken_key)
apart_take [] i e none apart = tt
apart_take {old} {new} (k ∷ ks) zero e none apart = (
  All-weaker (λ (j : ℕ). j ≡ k → node_in old k ≡ None) (λ (j : ℕ). j ≡ taken_key → node_in new taken_key ≡ None) (λ j is same. none_stays taken_key e none) ks apart.0,
  apart_less ks e apart.1,
)
apart_take {old} {new} (k ∷ ks) (suc i) e none apart = (
  All-set (λ (j : ℕ). j ≡ k → node_in new k ≡ None) ks i taken_key (λ same. none_stays k e (ap (node_in old) (sym same) ∙ none))
      (All-weaker (λ (j : ℕ). j ≡ k → node_in old k ≡ None) (λ (j : ℕ). j ≡ k → node_in new k ≡ None) (λ j is same. none_stays k e (is same)) ks apart.0),
  apart_take ks i e none apart.1,
)

still_used : {N : Type 0} (old new : List (Option N)) (key : ℕ) (k : ℕ) → Empties old new key → k ≢ key → IsInUse old k → IsInUse new k
still_used old new key k e other is none = is (sym (e.same k other) ∙ none)

used_take : {N : Type 0} (old new : List (Option N)) (key : ℕ) (node : N) (ks : List ℕ) (i : ℕ) → Empties old new key → node_in old key ≡ Some node → slice_get ks i ≡ Some key → AreApart old ks → All (IsInUse old) ks → All (IsInUse new) (set ks i taken_key)
used_take old new key node [] i e there is apart used = absurd (cc)
used_take old new key node (k ∷ ks) zero e there is apart used = let same : k ≡ key = cc in
    let differ = rest_other old key node ks there (subst (λ (n : ℕ). All (λ (j : ℕ). j ≡ n → node_in old n ≡ None) ks) same apart.0) in
    All-cons (IsInUse new) taken_key ks (λ none. refl) (All-both (IsInUse old) (λ (j : ℕ). j ≢ key) (IsInUse new) ks (λ j was other. still_used old new key j e other was) (All-tail (IsInUse old) k ks used) differ)
used_take old new key node (k ∷ ks) (suc i) e there is apart used = let other = first_other old key node k ks i there is apart.0 in
    All-cons (IsInUse new) k (set ks i taken_key) (still_used old new key k e other (All-head (IsInUse old) k ks used)) (used_take old new key node ks i e there is apart.1 (All-tail (IsInUse old) k ks used))

pub keys_take : {N : Type 0} (old new : List (Option N)) (keys : List ℕ) (i key : ℕ) (node : N) → AreKeys old keys → Empties old new key → node_in old key ≡ Some node → slice_get keys i ≡ Some key → AreKeys new (set keys i taken_key)
keys_take old new keys i key node k e there is = record {
  none_taken = none_stays taken_key e k.none_taken;
  in_use = used_take old new key node keys i e there is k.apart k.in_use;
  apart = apart_take keys i e k.none_taken k.apart;
}

pub nodes_take : {N : Type 0} (old new : List (Option N)) (ks : List ℕ) (i key : ℕ) (node : N) → Empties old new key → node_in new taken_key ≡ None → node_in old key ≡ Some node → slice_get ks i ≡ Some key → AreApart old ks
    → map (node_in new) (set ks i taken_key) ≡ set (map (node_in old) ks) i None
nodes_take old new [] i key node e none there is apart = absurd (cc)
nodes_take old new (k ∷ ks) zero key node e none there is apart = let same : k ≡ key = cc in
    let differ = rest_other old key node ks there (subst (λ (n : ℕ). All (λ (j : ℕ). j ≡ n → node_in old n ≡ None) ks) same apart.0) in
    let rest = map_same (node_in new) (node_in old) ks (All-weaker (λ (j : ℕ). j ≢ key) (λ (j : ℕ). node_in new j ≡ node_in old j) (λ j other. e.same j other) ks differ) in cc
nodes_take old new (k ∷ ks) (suc i) key node e none there is apart = let other = first_other old key node k ks i there is apart.0 in
    let first = e.same k other in let rest = nodes_take old new ks i key node e none there is apart.1 in cc

-- the key of a number whose node is there
pub key_at : {N : Type 0} (slots : List (Option N)) (keys : List ℕ) (i d : ℕ) (node : N) → slice_get (map (node_in slots) keys) i ≡ Some (Some node) → (slice_get keys i ≡ Some (get_or keys i d)) × (node_in slots (get_or keys i d) ≡ Some node)
key_at slots [] i d node is = absurd (cc)
key_at slots (k ∷ ks) zero d node is = (refl, let at : node_in slots k ≡ Some node = cc in at)
key_at slots (k ∷ ks) (suc i) d node is = key_at slots ks i d node is
