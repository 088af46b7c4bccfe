-- What clap finds for words, as settings: each row is something that was said.
use Rattle.std.proofs.Common.{◌≡◌, ◌∙◌, ◌⊎◌, ◌≤◌, ◌+◌, inl, inr, refl, sym, ap, subst, ℕ, Bool, true, false, ◌||◌, ◌&&◌, List, [], ◌∷◌, ◌++◌, length, map, if◌then◌else◌, Option, None, Some, arith}
use Rattle.std.proofs.lemmas.List.{map-append}
use Rattle.std.proofs.lemmas.Slice.Eq.{bytes_eq-Decides}
use Rattle.std.specs.Prelude.{codes}
use Rattle.std.specs.Str.{bytes_eq}
use Rattle.clap.specs.Kinds.{Kinds, or_else}
use Rattle.clap.specs.Faults.{use_fault}
use Rattle.clap.specs.Simple.{new_rule}
use Rattle.clap.specs.Walk.{Row, Rule, Text, at_row, has_row, more_values, used, reading_by}
use Rattle.clap.specs.declared.error.kind.ErrorKind.TheVariants.{ArgumentConflict}
use Rattle.clap.specs.declared.builder.action.ArgAction.TheVariants.{Set}
use Rattle.clap.specs.declared.builder.value_parser.ValueParser.TheVariants as vp
use Rattle.clap.specs.declared.parser.matches.ValueSource.TheVariants.{CommandLine}
use Rattle.cli_words.specs.declared.settings.Settings.{Settings}
use Rattle.cli_words.specs.Words.{◌>>=◌, kind_of}
use Rattle.cli_words.specs.Sayings.{Saying, Named, Valued, named, values_of, Becomes, IsOptionName, AreSettings}
use Rattle.cli_words.specs.CommandWords.{nothing}
use Rattle.cli_words.proofs.SayingsRead.{with_saying, with_all, all_are_settings}

-- options of options

pub bind_some : {A : Type 0} (o : Option A) → (o >>= λ x. Some x) ≡ o
bind_some None = refl
bind_some (Some x) = refl

pub bind_bind : {A B C : Type 0} (o : Option A) (f : A → Option B) (g : B → Option C) → ((o >>= f) >>= g) ≡ (o >>= λ x. f x >>= g)
bind_bind None f g = refl
bind_bind (Some x) f g = refl

pub bind_same : {A B : Type 0} (o : Option A) (f g : A → Option B) → ((x : A) → f x ≡ g x) → (o >>= f) ≡ (o >>= g)
bind_same None f g h = refl
bind_same (Some x) f g h = h x

pub bind_none : {A B : Type 0} (o : Option A) (f : A → Option B) → ((x : A) → f x ≡ None) → (o >>= f) ≡ None
bind_none None f h = refl
bind_none (Some x) f h = h x

-- the value, where nothing is wrong

abbrev pub when : {A : Type 0} → Kinds → Option A → Option A
when [] x = x
when (k ∷ ks) x = None

pub when_or : {A : Type 0} (a b : Kinds) (x : Option A) → when (or_else a b) x ≡ when a (when b x)
when_or [] b x = refl
when_or (k ∷ ks) b x = refl

pub when_bind : {A B : Type 0} (a : Kinds) (o : Option A) (f : A → Option B) → when a (o >>= f) ≡ (when a o >>= f)
when_bind [] o f = refl
when_bind (k ∷ ks) o f = refl

pub when_none : {A : Type 0} (a : Kinds) → when {A = A} a None ≡ None
when_none [] = refl
when_none (k ∷ ks) = refl

-- what a row says

abbrev pub first_value : List Text → Text
first_value [] = []
first_value (v ∷ vs) = v

abbrev pub saying_of : Row → Saying
saying_of r = if bytes_eq r.id (codes "kind") then Named (first_value r.values) else Valued r.id (first_value r.values)

-- the settings that rows give
abbrev pub settings_by : List Row → Option Settings
settings_by rows = with_all nothing (map saying_of rows)

with_all_more : (said : Settings) (xs : List Saying) (y : Saying) → with_all said (xs ++ y ∷ []) ≡ (with_all said xs >>= λ t. with_saying t y)
with_all_more said [] y = bind_some (with_saying said y)
with_all_more said (x ∷ xs) y =
    bind_same (with_saying said x) (λ t. with_all t (xs ++ y ∷ [])) (λ t. with_all t xs >>= λ u. with_saying u y) (λ t. with_all_more t xs y)
    ∙ sym (bind_bind (with_saying said x) (λ t. with_all t xs) (λ u. with_saying u y))

settings_more : (rows : List Row) (r : Row) → settings_by (rows ++ r ∷ []) ≡ (settings_by rows >>= λ s. with_saying s (saying_of r))
settings_more rows r = ap (with_all nothing) (map-append saying_of rows (r ∷ [])) ∙ with_all_more nothing (map saying_of rows) (saying_of r)

-- a rule that takes one text, once

abbrev pub text_rule : Text → Option Text → Option ℕ → Rule
text_rule id long index = record (new_rule id) {
  long = long;
  index = index;
  action = Some Set;
  range = Some (record { start_inclusive = 1; end_inclusive = 1 });
  parser = Some vp.String;
}

abbrev pub row_for : Text → Text → Row
row_for id value = record {
  id = id;
  values = value ∷ [];
  count = None;
  source = Some CommandLine;
  reading = reading_by (text_rule id None None);
}

repeats : (b : Bool) → or_else (if b then ArgumentConflict ∷ [] else []) [] ≡ (if b then ArgumentConflict ∷ [] else [])
repeats true = refl
repeats false = refl

negated : (b : Bool) → (if b && true then ArgumentConflict ∷ [] else []) ≡ (if b then ArgumentConflict ∷ [] else [])
negated true = refl
negated false = refl

pub use_fault_is : (id : Text) (long : Option Text) (index : Option ℕ) (value : Text) (rows : List Row) →
    use_fault false (text_rule id long index) (value ∷ []) rows ≡ (if has_row id rows then ArgumentConflict ∷ [] else [])
use_fault_is id long index value rows = repeats _ ∙ negated (has_row id rows)

pub none_of_or : (a b : Bool) → (a || b) ≡ false → (a ≡ false) × (b ≡ false)
none_of_or true b h = absurd (cc)
none_of_or false b h = (refl, h)

row_missing : (id : Text) (change : Row → List Row) (missing : List Row) (rows : List Row) → has_row id rows ≡ false → at_row id change missing rows ≡ rows ++ missing
row_missing id change missing [] h = refl
row_missing id change missing (r ∷ rs) h =
    let b = none_of_or (bytes_eq r.id id) (has_row id rs) h in
    rw b.0 (ap (λ xs. r ∷ xs) (row_missing id change missing rs b.1))

pub nothing_more : {A : Type 0} (xs : List A) → xs ++ [] ≡ xs
nothing_more [] = refl
nothing_more (x ∷ xs) = ap (λ ys. x ∷ ys) (nothing_more xs)

pub used_is : (id : Text) (long : Option Text) (index : Option ℕ) (value : Text) (rows : List Row) → has_row id rows ≡ false →
    used (text_rule id long index) (value ∷ []) rows ≡ rows ++ row_for id value ∷ []
used_is id long index value rows h =
    let kept = row_missing id (λ _. []) [] rows h ∙ nothing_more rows in
    let change = more_values CommandLine (value ∷ []) in
    ap (at_row id change (row_for id value ∷ [])) kept ∙ row_missing id change (row_for id value ∷ []) rows h

-- a name is one of a command's words

abbrev pub IsId : Text → Type 0
IsId id = IsOptionName id ⊎ (id ≡ codes "kind")

-- two things of one kind are not said

pub same_bytes : (v w : Text) → bytes_eq v w ≡ true → v ≡ w
same_bytes v w e = (bytes_eq-Decides v w).0 e

pub bytes_self : (v : Text) → bytes_eq v v ≡ true
bytes_self v = (bytes_eq-Decides v v).1 refl

becomes_one : {A : Type 0} (read : Text → Option A) (ws : List Text) (after : Option A) → 2 ≤ length ws → Becomes read ws None after → ⊥
becomes_one read [] after two h = omega (arith, two)
becomes_one read (w ∷ []) after two h = omega (arith, two)
becomes_one read (w ∷ u ∷ ws) after two h = h

-- how often an id stands in rows
abbrev times : Text → List Row → ℕ
times id [] = 0
times id (r ∷ rs) = (if bytes_eq r.id id then 1 else 0) + times id rs

other_word : (id : Text) (r : Row) → bytes_eq id (codes "kind") ≡ false → bytes_eq r.id (codes "kind") ≡ true → bytes_eq r.id id ≡ true → ⊥
other_word id r n e f =
    let same = same_bytes r.id id f in
    let both : bytes_eq id (codes "kind") ≡ true = subst (λ (t : Text). bytes_eq t (codes "kind") ≡ true) same e in
    absurd (cc)

values_times : (id : Text) (is_kind is_id : Bool) (r : Row) (S : List Saying) (n : ℕ) → bytes_eq id (codes "kind") ≡ false →
    bytes_eq r.id (codes "kind") ≡ is_kind → bytes_eq r.id id ≡ is_id → length (values_of id S) ≡ n →
    length (values_of id (saying_of r ∷ S)) ≡ (if bytes_eq r.id id then 1 else 0) + n
values_times id true true r S n other e f h = absurd (other_word id r other e f)
values_times id true false r S n other e f h = rw (e, f) (omega (arith, h))
values_times id false true r S n other e f h = rw (e, f) (omega (arith, h))
values_times id false false r S n other e f h = rw (e, f) (omega (arith, h))

times_values : (id : Text) (rows : List Row) → bytes_eq id (codes "kind") ≡ false → length (values_of id (map saying_of rows)) ≡ times id rows
times_values id [] n = refl
times_values id (r ∷ rs) n = values_times id (bytes_eq r.id (codes "kind")) (bytes_eq r.id id) r (map saying_of rs) (times id rs) n refl refl (times_values id rs n)

named_times_by : (is_kind : Bool) (r : Row) (S : List Saying) (n : ℕ) → bytes_eq r.id (codes "kind") ≡ is_kind → length (named S) ≡ n →
    length (named (saying_of r ∷ S)) ≡ (if bytes_eq r.id (codes "kind") then 1 else 0) + n
named_times_by true r S n e h = rw e (omega (arith, h))
named_times_by false r S n e h = rw e (omega (arith, h))

times_named : (rows : List Row) → length (named (map saying_of rows)) ≡ times (codes "kind") rows
times_named [] = refl
times_named (r ∷ rs) = named_times_by (bytes_eq r.id (codes "kind")) r (map saying_of rs) (times (codes "kind") rs) refl (times_named rs)

times_end : (id value : Text) (rows : List Row) → 1 ≤ times id (rows ++ row_for id value ∷ [])
times_end id value [] = rw (bytes_self id) (omega arith)
times_end id value (r ∷ rs) = omega (arith, times_end id value rs)

times_two_by : (id value : Text) (is_id : Bool) (r : Row) (rs : List Row) → bytes_eq r.id id ≡ is_id → (is_id || has_row id rs) ≡ true →
    (has_row id rs ≡ true → 2 ≤ times id (rs ++ row_for id value ∷ [])) → 2 ≤ times id (r ∷ (rs ++ row_for id value ∷ []))
times_two_by id value true r rs e h more = rw e (omega (arith, times_end id value rs))
times_two_by id value false r rs e h more = rw e (omega (arith, more h))

times_two : (id value : Text) (rows : List Row) → has_row id rows ≡ true → 2 ≤ times id (rows ++ row_for id value ∷ [])
times_two id value [] h = absurd (cc)
times_two id value (r ∷ rs) h = times_two_by id value (bytes_eq r.id id) r rs refl h (times_two id value rs)

twice_by : (id value : Text) (rows : List Row) (s : Settings) → IsId id → has_row id rows ≡ true → AreSettings (map saying_of (rows ++ row_for id value ∷ [])) nothing s → ⊥
twice_by id value rows s is h a =
    let all = rows ++ row_for id value ∷ [] in
    let Goal : Text → Type 0 = λ t. (bytes_eq t (codes "kind") ≡ false → 2 ≤ length (values_of t (map saying_of all))) → ⊥ in
    let two : bytes_eq id (codes "kind") ≡ false → 2 ≤ length (values_of id (map saying_of all)) = λ n. omega (arith, times_two id value rows h, times_values id all n) in
    elim is [
      | inl (inl e) ↦ subst Goal (sym e) (λ k. becomes_one _ _ _ (k refl) a.queue) two
      | inl (inr (inl e)) ↦ subst Goal (sym e) (λ k. becomes_one _ _ _ (k refl) a.workers) two
      | inl (inr (inr (inl e))) ↦ subst Goal (sym e) (λ k. becomes_one _ _ _ (k refl) a.nodes) two
      | inl (inr (inr (inr (inl e)))) ↦ subst Goal (sym e) (λ k. becomes_one _ _ _ (k refl) a.capacity) two
      | inl (inr (inr (inr (inr (inl e))))) ↦ subst Goal (sym e) (λ k. becomes_one _ _ _ (k refl) a.branching) two
      | inl (inr (inr (inr (inr (inr (inl e)))))) ↦ subst Goal (sym e) (λ k. becomes_one _ _ _ (k refl) a.seed) two
      | inl (inr (inr (inr (inr (inr (inr e)))))) ↦ subst Goal (sym e) (λ k. becomes_one _ _ _ (k refl) a.size) two
      | inr e ↦ becomes_one kind_of (named (map saying_of all)) s.kind (omega (arith, times_named all, subst (λ (t : Text). 2 ≤ times t all) e (times_two id value rows h))) a.kind
    ]

none_or_not : {A : Type 0} (o : Option A) → ((x : A) → o ≡ Some x → ⊥) → o ≡ None
none_or_not None h = refl
none_or_not (Some x) h = absurd (h x refl)

twice_none : (id value : Text) (rows : List Row) → IsId id → has_row id rows ≡ true → settings_by (rows ++ row_for id value ∷ []) ≡ None
twice_none id value rows is h =
    none_or_not (settings_by (rows ++ row_for id value ∷ [])) (λ s e. twice_by id value rows s is h (all_are_settings nothing s (map saying_of (rows ++ row_for id value ∷ [])) e))

-- one use more of a rule, and the settings that are said by it
use_by : (b : Bool) (id : Text) (long : Option Text) (index : Option ℕ) (value : Text) (rows : List Row) → IsId id → has_row id rows ≡ b →
    when (if b then ArgumentConflict ∷ [] else []) (settings_by (used (text_rule id long index) (value ∷ []) rows))
    ≡ (settings_by rows >>= λ s. with_saying s (saying_of (row_for id value)))
use_by true id long index value rows is h = sym (sym (settings_more rows (row_for id value)) ∙ twice_none id value rows is h)
use_by false id long index value rows is h = ap settings_by (used_is id long index value rows h) ∙ settings_more rows (row_for id value)

pub use_is : (id : Text) (long : Option Text) (index : Option ℕ) (value : Text) (rows : List Row) → IsId id →
    when (use_fault false (text_rule id long index) (value ∷ []) rows) (settings_by (used (text_rule id long index) (value ∷ []) rows))
    ≡ (settings_by rows >>= λ s. with_saying s (saying_of (row_for id value)))
use_is id long index value rows is =
    ap (λ k. when k (settings_by (used (text_rule id long index) (value ∷ []) rows))) (use_fault_is id long index value rows)
    ∙ use_by (has_row id rows) id long index value rows is refl

-- good rows: each of a known id, with one value, and no id twice

abbrev pub AreGood : List Row → Type 0
AreGood [] = Unit {0}
AreGood (r ∷ rs) = IsId r.id × (r.values ≡ first_value r.values ∷ []) × (has_row r.id rs ≡ false) × AreGood rs

row_more : (id : Text) (rows : List Row) (r : Row) → has_row id rows ≡ false → bytes_eq r.id id ≡ false → has_row id (rows ++ r ∷ []) ≡ false
row_more id [] r h n = rw n refl
row_more id (x ∷ xs) r h n =
    let b = none_of_or (bytes_eq x.id id) (has_row id xs) h in
    rw b.0 (row_more id xs r b.1 n)

not_true : (b : Bool) → (b ≡ true → ⊥) → b ≡ false
not_true true h = absurd (h refl)
not_true false h = refl

fresh_by : (b : Bool) → (if b then ArgumentConflict ∷ [] else []) ≡ [] → b ≡ false
fresh_by true h = absurd (cc)
fresh_by false h = refl

pub differs : (v w : Text) → bytes_eq v w ≡ false → bytes_eq w v ≡ false
differs v w h = not_true (bytes_eq w v) (λ e.
    let same : v ≡ w = sym (same_bytes w v e) in
    let is : bytes_eq v w ≡ true = (bytes_eq-Decides v w).1 same in
    absurd (cc))

good_more : (rows : List Row) (r : Row) → AreGood rows → IsId r.id → (r.values ≡ first_value r.values ∷ []) → has_row r.id rows ≡ false → AreGood (rows ++ r ∷ [])
good_more [] r good is one h = (is, one, refl, tt)
good_more (x ∷ xs) r good is one h =
    let b = none_of_or (bytes_eq x.id r.id) (has_row r.id xs) h in
    (good.0, good.1, row_more x.id xs r good.2 (differs x.id r.id b.0), good_more xs r good.3 is one b.1)

pub used_good : (id : Text) (long : Option Text) (index : Option ℕ) (value : Text) (rows : List Row) → IsId id → AreGood rows →
    use_fault false (text_rule id long index) (value ∷ []) rows ≡ [] → AreGood (used (text_rule id long index) (value ∷ []) rows)
used_good id long index value rows is good none =
    let fresh = fresh_by (has_row id rows) (sym (use_fault_is id long index value rows) ∙ none) in
    subst AreGood (sym (used_is id long index value rows fresh)) (good_more rows (row_for id value) good is refl fresh)
