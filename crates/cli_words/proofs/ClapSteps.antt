-- One word of clap's walk over the words behind a command's name.
use Rattle.std.proofs.Common.{◌≡◌, ◌∙◌, ◌⊎◌, inl, inr, refl, ap, subst, ℕ, Bool, true, false, ◌&&◌, List, [], ◌∷◌, ◌++◌, Option, None, Some}
use Rattle.std.specs.Prelude.{codes, slice_get, fold}
use Rattle.std.specs.Str.{bytes_eq, chars}
use Rattle.clap.specs.Lexer.{long_of, short_of}
use Rattle.clap.specs.Kinds.{Kinds, or_else}
use Rattle.clap.specs.Faults.{use_fault, settle_fault, walk_fault, turn_fault, flags_fault, bundle_fault, bundle_step_fault}
use Rattle.clap.specs.Simple.{Shape}
use Rattle.clap.specs.Walk.{Row, Rule, Text, Held, Walk, idle, option, Outcome, plain, used, settled_rows, is_pending, walked, bundle_met, bundle_step, bundle, arg_by_long, arg_by_short, arg_by_id, arg_by_index}
use Rattle.clap.specs.declared.error.kind.ErrorKind.{ErrorKind}
use Rattle.clap.specs.declared.error.kind.ErrorKind.TheVariants.{UnknownArgument, InvalidValue}
use Rattle.cli_words.specs.declared.settings.Settings.{Settings}
use Rattle.cli_words.specs.Words.{behind_dashes, with_kind, with_option}
use Rattle.cli_words.specs.Sayings.{IsOptionName}
use Rattle.cli_words.proofs.SayingsRead.{WordIs, IsName, IsOpen, IsWhole}
use Rattle.cli_words.proofs.ClapRows.{when, when_or, settings_by, text_rule, bytes_self}
use Rattle.cli_words.proofs.ClapWords.{open_long, whole_long, not_long, dash_kind, short_cases}
use Rattle.cli_words.proofs.Options.{dash_option}

abbrev pub option_rule : Text → Rule
option_rule name = text_rule name (Some name) None

abbrev pub kind_rule : Rule
kind_rule = text_rule (codes "kind") None (Some 1)

-- no rule has a short name
abbrev pub HasNoShort : List Rule → Type 0
HasNoShort c = (x : ℕ) → arg_by_short c x ≡ None

-- the rules of a command's words: a problem, and options
pub record AreRules (c : List Rule) : Type 0 where
  pub long : (n : Text) → (IsOptionName n × (arg_by_long c n ≡ Some (option_rule n)))
      ⊎ ((arg_by_long c n ≡ None) × ((s : Settings) (v : Text) → with_option s n v ≡ None))
  pub id : (n : Text) → IsOptionName n → arg_by_id c n ≡ Some (option_rule n)
  pub other : (n : Text) → IsOptionName n → bytes_eq n (codes "kind") ≡ false
  pub kind : arg_by_id c (codes "kind") ≡ Some kind_rule
  pub short : HasNoShort c
  pub first : arg_by_index c 1 ≡ Some kind_rule
  pub second : arg_by_index c 2 ≡ None

abbrev pub leaf : Text → List Rule → Shape
leaf name c = record {
  name = name;
  aliases = [];
  rules = c;
  is_plain = true;
  is_leaf = true;
  no_binary_name = true;
  disable_help_flag = true;
  disable_help_subcommand = true;
  disable_version_flag = false;
  propagate_version = false;
  has_version = false;
  has_long_version = false;
  args_override_self = false;
  arg_required_else_help = false;
  subcommand_required = false;
  subcommand_negates_reqs = false;
  is_built = true;
}

abbrev pub holding : List Row → Option (Text × List Text) → Held
holding rows p = record { rows = rows; pending = p; skip = 0 }

-- between two things said: these rows, and one that may be pending
abbrev pub between : List Row → Option (Text × List Text) → ℕ → Walk
between rows p position = record { held = holding rows p; waiting = idle; position = position; is_trailing = false; stopped = None }

-- behind the name of an option
abbrev pub behind : Text → List Row → ℕ → Walk
behind n rows position = record { held = holding rows (Some (n, [])); waiting = option n; position = position; is_trailing = false; stopped = None }

-- what was said so far
abbrev pub so_far : List Rule → Held → Option Settings
so_far c h = when (settle_fault c false h) (settings_by (settled_rows c h.pending h.rows))

-- what the walk over these words comes to
abbrev pub comes_to : Text → List Rule → Walk → List Text → Option Settings
comes_to name c w words = when (walk_fault (leaf name c) [] w words) (so_far c (fold (walked c []) w words).held)

pub one_more : (name : Text) (c : List Rule) (w : Walk) (word : Text) (words : List Text) →
    comes_to name c w (word ∷ words) ≡ when (turn_fault (leaf name c) [] w word) (comes_to name c (walked c [] w word) words)
unfolding walk_fault
one_more name c w word words = when_or (turn_fault (leaf name c) [] w word) (walk_fault (leaf name c) [] (walked c [] w word) words) (so_far c (fold (walked c []) (walked c [] w word) words).held)

-- flags that are none

abbrev pub IsBundle : List Rule → Text → Held → Type 0
IsBundle c flags h = (bundle_fault c false flags h ≡ UnknownArgument ∷ []) ⊎ ((bundle_fault c false flags h ≡ []) × (bundle c flags h ≡ (h, plain)))

pub bundle_by : (c : List Rule) → HasNoShort c → (x : Option ℕ) (flags : Text) (h : Held)
    (next : Text → ℕ → Held → Kinds) (more : Text → ℕ → Outcome → Held → Held × Outcome) →
    (bundle_step_fault c false x flags 0 h next ≡ UnknownArgument ∷ [])
    ⊎ ((bundle_step_fault c false x flags 0 h next ≡ []) × (bundle_step c x flags 0 plain h more ≡ (h, plain)))
bundle_by c none None flags h next more = inr (refl, refl)
bundle_by c none (Some x) flags h next more = inl (rw (none x) refl)

pub bundle_is : (c : List Rule) → HasNoShort c → (b : ℕ) (flags : Text) (rows : List Row) (p : Option (Text × List Text)) → IsBundle c (b ∷ flags) (holding rows p)
unfolding flags_fault bundle_met
bundle_is c none b flags rows p = bundle_by c none (slice_get (chars (b ∷ flags)) 0) (b ∷ flags) (holding rows p) _ _

-- one word, between two things said

abbrev pub IsNoEnd : Text → Type 0
IsNoEnd x = bytes_eq x (45 ∷ 45 ∷ []) ≡ false

pub unknown_fault : (name : Text) (c : List Rule) (n x : Text) (v : Option Text) (rows : List Row) (p : Option (Text × List Text)) (k : ℕ) →
    IsNoEnd x → long_of x ≡ Some (n, v) → arg_by_long c n ≡ None → turn_fault (leaf name c) [] (between rows p k) x ≡ UnknownArgument ∷ []
unknown_fault name c n x v rows p k no_end is none = rw (no_end, is, none) refl

pub whole_walked : (c : List Rule) (n x v : Text) (rows : List Row) (p : Option (Text × List Text)) (k : ℕ) →
    IsNoEnd x → long_of x ≡ Some (n, Some v) → arg_by_long c n ≡ Some (option_rule n) →
    walked c [] (between rows p k) x ≡ between (used (option_rule n) (v ∷ []) (settled_rows c p rows)) None k
unfolding walked
whole_walked c n x v rows p k no_end is rule = rw (no_end, is, rule) refl

pub whole_fault : (name : Text) (c : List Rule) (n x v : Text) (rows : List Row) (p : Option (Text × List Text)) (k : ℕ) →
    IsNoEnd x → long_of x ≡ Some (n, Some v) → arg_by_long c n ≡ Some (option_rule n) →
    turn_fault (leaf name c) [] (between rows p k) x
    ≡ or_else (or_else (settle_fault c false (holding rows p)) (use_fault false (option_rule n) (v ∷ []) (settled_rows c p rows))) []
whole_fault name c n x v rows p k no_end is rule = rw (no_end, is, rule) refl

pub open_walked : (c : List Rule) (n x : Text) (rows : List Row) (p : Option (Text × List Text)) (k : ℕ) →
    IsNoEnd x → long_of x ≡ Some (n, None) → arg_by_long c n ≡ Some (option_rule n) →
    walked c [] (between rows p k) x ≡ behind n (settled_rows c p rows) k
unfolding walked
open_walked c n x rows p k no_end is rule = rw (no_end, is, rule) refl

pub open_fault : (name : Text) (c : List Rule) (n x : Text) (rows : List Row) (p : Option (Text × List Text)) (k : ℕ) →
    IsNoEnd x → long_of x ≡ Some (n, None) → arg_by_long c n ≡ Some (option_rule n) →
    turn_fault (leaf name c) [] (between rows p k) x ≡ or_else (settle_fault c false (holding rows p)) []
open_fault name c n x rows p k no_end is rule = rw (no_end, is, rule) refl

pub and_false : (b : Bool) → (b && false) ≡ false
and_false true = refl
and_false false = refl

-- a plain word is the problem, or one too many

pub named_walked : (c : List Rule) → AreRules c → (x : Text) (rows : List Row) (p : Option (Text × List Text)) →
    IsNoEnd x → long_of x ≡ None → short_of x ≡ None →
    walked c [] (between rows p 1) x ≡ between (settled_rows c p rows) (Some (codes "kind", x ∷ [])) 2
unfolding walked
named_walked c rules x rows p no_end none short = rw (no_end, none, short, rules.first, and_false (is_pending kind_rule p)) refl

pub named_fault : (name : Text) (c : List Rule) → AreRules c → (x : Text) (rows : List Row) (p : Option (Text × List Text)) →
    IsNoEnd x → long_of x ≡ None → short_of x ≡ None →
    turn_fault (leaf name c) [] (between rows p 1) x ≡ settle_fault c false (holding rows p)
named_fault name c rules x rows p no_end none short = rw (no_end, none, short, rules.first, and_false (is_pending kind_rule p)) refl

pub stray : (name : Text) (c : List Rule) → AreRules c → (x : Text) (rows : List Row) (p : Option (Text × List Text)) →
    IsNoEnd x → long_of x ≡ None → short_of x ≡ None →
    turn_fault (leaf name c) [] (between rows p 2) x ≡ UnknownArgument ∷ []
stray name c rules x rows p no_end none short = rw (no_end, none, short, rules.second) refl

-- the same of a word with a dash in front

pub dashed_walked : (c : List Rule) → AreRules c → (x : Text) (b : ℕ) (flags : Text) (rows : List Row) (p : Option (Text × List Text)) →
    IsNoEnd x → long_of x ≡ None → short_of x ≡ Some (b ∷ flags) → bundle c (b ∷ flags) (holding rows p) ≡ (holding rows p, plain) →
    walked c [] (between rows p 1) x ≡ between (settled_rows c p rows) (Some (codes "kind", x ∷ [])) 2
unfolding walked
dashed_walked c rules x b flags rows p no_end none short is = rw (no_end, none, short, is, rules.first, and_false (is_pending kind_rule p)) refl

pub dashed_fault : (name : Text) (c : List Rule) → AreRules c → (x : Text) (b : ℕ) (flags : Text) (rows : List Row) (p : Option (Text × List Text)) →
    IsNoEnd x → long_of x ≡ None → short_of x ≡ Some (b ∷ flags) → bundle_fault c false (b ∷ flags) (holding rows p) ≡ [] → bundle c (b ∷ flags) (holding rows p) ≡ (holding rows p, plain) →
    turn_fault (leaf name c) [] (between rows p 1) x ≡ settle_fault c false (holding rows p)
dashed_fault name c rules x b flags rows p no_end none short no_fault is = rw (no_end, none, short, no_fault, is, rules.first, and_false (is_pending kind_rule p)) refl

pub dashed_stray : (name : Text) (c : List Rule) → AreRules c → (x : Text) (b : ℕ) (flags : Text) (rows : List Row) (p : Option (Text × List Text)) →
    IsNoEnd x → long_of x ≡ None → short_of x ≡ Some (b ∷ flags) → bundle_fault c false (b ∷ flags) (holding rows p) ≡ [] → bundle c (b ∷ flags) (holding rows p) ≡ (holding rows p, plain) →
    turn_fault (leaf name c) [] (between rows p 2) x ≡ UnknownArgument ∷ []
dashed_stray name c rules x b flags rows p no_end none short no_fault is = rw (no_end, none, short, no_fault, is, rules.second) refl

pub unknown_flags : (name : Text) (c : List Rule) (x : Text) (b : ℕ) (flags : Text) (rows : List Row) (p : Option (Text × List Text)) (k : ℕ) →
    IsNoEnd x → long_of x ≡ None → short_of x ≡ Some (b ∷ flags) → bundle_fault c false (b ∷ flags) (holding rows p) ≡ UnknownArgument ∷ [] →
    turn_fault (leaf name c) [] (between rows p k) x ≡ UnknownArgument ∷ []
unknown_flags name c x b flags rows p k no_end none short fault = rw (no_end, none, short, fault) refl

-- What a word without two dashes comes to: it is refused, and no problem; or it waits to be used as the problem.
abbrev pub NameStep : Text → List Rule → Text → List Row → Option (Text × List Text) → Type 0
NameStep name c x rows p =
    ((turn_fault (leaf name c) [] (between rows p 1) x ≡ UnknownArgument ∷ []) × ((s : Settings) → with_kind s x ≡ None))
    ⊎ ((walked c [] (between rows p 1) x ≡ between (settled_rows c p rows) (Some (codes "kind", x ∷ [])) 2)
    × (turn_fault (leaf name c) [] (between rows p 1) x ≡ settle_fault c false (holding rows p)))

pub name_step : (name : Text) (c : List Rule) → AreRules c → (x : Text) (rows : List Row) (p : Option (Text × List Text)) →
    IsNoEnd x → behind_dashes x ≡ None → NameStep name c x rows p
name_step name c rules x rows p no_end none =
    let long = not_long x none in
    elim (short_cases x) [
      | inl short ↦ inr (named_walked c rules x rows p no_end long short, named_fault name c rules x rows p no_end long short)
      | inr d ↦ elim (bundle_is c rules.short d.0 d.1 rows p) [
        | inl fault ↦ inl (unknown_flags name c x d.0 d.1 rows p 1 no_end long d.3 fault, λ s. ap (with_kind s) d.2 ∙ dash_kind s (d.0 ∷ d.1))
        | inr is ↦ inr (
          dashed_walked c rules x d.0 d.1 rows p no_end long d.3 is.1,
          dashed_fault name c rules x d.0 d.1 rows p no_end long d.3 is.0 is.1,
        )
      ]
    ]

pub second_name : (name : Text) (c : List Rule) → AreRules c → (x : Text) (rows : List Row) (p : Option (Text × List Text)) →
    IsNoEnd x → behind_dashes x ≡ None → turn_fault (leaf name c) [] (between rows p 2) x ≡ UnknownArgument ∷ []
second_name name c rules x rows p no_end none =
    let long = not_long x none in
    elim (short_cases x) [
      | inl short ↦ stray name c rules x rows p no_end long short
      | inr d ↦ elim (bundle_is c rules.short d.0 d.1 rows p) [
        | inl fault ↦ unknown_flags name c x d.0 d.1 rows p 2 no_end long d.3 fault
        | inr is ↦ dashed_stray name c rules x d.0 d.1 rows p no_end long d.3 is.0 is.1
      ]
    ]

-- one word, behind the name of an option

pub value_walked : (c : List Rule) → AreRules c → (n v : Text) (rows : List Row) (k : ℕ) → IsOptionName n →
    IsNoEnd v → long_of v ≡ None → short_of v ≡ None →
    walked c [] (behind n rows k) v ≡ between rows (Some (n, v ∷ [])) k
unfolding walked
value_walked c rules n v rows k known no_end none short = rw (no_end, none, short, rules.id n known, bytes_self n) refl

pub value_fault : (name : Text) (c : List Rule) → AreRules c → (n v : Text) (rows : List Row) (k : ℕ) → IsOptionName n →
    IsNoEnd v → long_of v ≡ None → short_of v ≡ None → turn_fault (leaf name c) [] (behind n rows k) v ≡ []
value_fault name c rules n v rows k known no_end none short = rw (no_end, none, short) refl

pub dashed_value : (c : List Rule) → AreRules c → (n v : Text) (b : ℕ) (flags : Text) (rows : List Row) (k : ℕ) → IsOptionName n →
    IsNoEnd v → long_of v ≡ None → short_of v ≡ Some (b ∷ flags) → bundle c (b ∷ flags) (holding rows (Some (n, []))) ≡ (holding rows (Some (n, [])), plain) →
    walked c [] (behind n rows k) v ≡ between rows (Some (n, v ∷ [])) k
unfolding walked
dashed_value c rules n v b flags rows k known no_end none short is = rw (no_end, none, short, is, rules.id n known, bytes_self n) refl

pub dashed_value_fault : (name : Text) (c : List Rule) → AreRules c → (n v : Text) (b : ℕ) (flags : Text) (rows : List Row) (k : ℕ) → IsOptionName n →
    IsNoEnd v → long_of v ≡ None → short_of v ≡ Some (b ∷ flags) → bundle_fault c false (b ∷ flags) (holding rows (Some (n, []))) ≡ [] → bundle c (b ∷ flags) (holding rows (Some (n, []))) ≡ (holding rows (Some (n, [])), plain) →
    turn_fault (leaf name c) [] (behind n rows k) v ≡ []
dashed_value_fault name c rules n v b flags rows k known no_end none short no_fault is = rw (no_end, none, short, no_fault, is) refl

pub unknown_value_flags : (name : Text) (c : List Rule) (n v : Text) (b : ℕ) (flags : Text) (rows : List Row) (k : ℕ) →
    IsNoEnd v → long_of v ≡ None → short_of v ≡ Some (b ∷ flags) → bundle_fault c false (b ∷ flags) (holding rows (Some (n, []))) ≡ UnknownArgument ∷ [] →
    turn_fault (leaf name c) [] (behind n rows k) v ≡ UnknownArgument ∷ []
unknown_value_flags name c n v b flags rows k no_end none short fault = rw (no_end, none, short, fault) refl

-- an option where a value is wanted

pub unknown_behind : (name : Text) (c : List Rule) (n m v : Text) (value : Option Text) (rows : List Row) (k : ℕ) →
    IsNoEnd v → long_of v ≡ Some (m, value) → arg_by_long c m ≡ None → turn_fault (leaf name c) [] (behind n rows k) v ≡ UnknownArgument ∷ []
unknown_behind name c n m v value rows k no_end is none = rw (no_end, is, none) refl

pub open_behind : (name : Text) (c : List Rule) → AreRules c → (n m v : Text) (rows : List Row) (k : ℕ) → IsOptionName n →
    IsNoEnd v → long_of v ≡ Some (m, None) → arg_by_long c m ≡ Some (option_rule m) → turn_fault (leaf name c) [] (behind n rows k) v ≡ InvalidValue ∷ []
open_behind name c rules n m v rows k known no_end is rule = rw (no_end, is, rule, rules.id n known) refl

pub whole_behind : (name : Text) (c : List Rule) → AreRules c → (n m v w : Text) (rows : List Row) (k : ℕ) → IsOptionName n →
    IsNoEnd v → long_of v ≡ Some (m, Some w) → arg_by_long c m ≡ Some (option_rule m) → turn_fault (leaf name c) [] (behind n rows k) v ≡ InvalidValue ∷ []
whole_behind name c rules n m v w rows k known no_end is rule = rw (no_end, is, rule, rules.id n known) refl

-- What a word behind the name of an option comes to: it is refused, and no value; or it waits to be used as the value.
abbrev pub ValueStep : Text → List Rule → Text → Text → List Row → ℕ → Type 0
ValueStep name c n v rows k =
    ((fault : ErrorKind) × (turn_fault (leaf name c) [] (behind n rows k) v ≡ fault ∷ []) × ((s : Settings) → with_option s n v ≡ None))
    ⊎ ((walked c [] (behind n rows k) v ≡ between rows (Some (n, v ∷ [])) k) × (turn_fault (leaf name c) [] (behind n rows k) v ≡ []))

pub option_behind : (name : Text) (c : List Rule) → AreRules c → (n m v : Text) (value : Option Text) (rows : List Row) (k : ℕ) → IsOptionName n →
    IsNoEnd v → long_of v ≡ Some (m, value) → (fault : ErrorKind) × (turn_fault (leaf name c) [] (behind n rows k) v ≡ fault ∷ [])
option_behind name c rules n m v None rows k known no_end is = elim (rules.long m) [
  | inl h ↦ (InvalidValue, open_behind name c rules n m v rows k known no_end is h.1)
  | inr h ↦ (UnknownArgument, unknown_behind name c n m v None rows k no_end is h.0)
]
option_behind name c rules n m v (Some w) rows k known no_end is = elim (rules.long m) [
  | inl h ↦ (InvalidValue, whole_behind name c rules n m v w rows k known no_end is h.1)
  | inr h ↦ (UnknownArgument, unknown_behind name c n m v (Some w) rows k no_end is h.0)
]

pub plain_behind : (name : Text) (c : List Rule) → AreRules c → (n v : Text) (rows : List Row) (k : ℕ) → IsOptionName n →
    IsNoEnd v → behind_dashes v ≡ None → ValueStep name c n v rows k
plain_behind name c rules n v rows k known no_end none =
    let long = not_long v none in
    elim (short_cases v) [
      | inl short ↦ inr (value_walked c rules n v rows k known no_end long short, value_fault name c rules n v rows k known no_end long short)
      | inr d ↦ elim (bundle_is c rules.short d.0 d.1 rows (Some (n, []))) [
        | inl fault ↦ inl (UnknownArgument, unknown_value_flags name c n v d.0 d.1 rows k no_end long d.3 fault, λ s. ap (with_option s n) d.2 ∙ dash_option s n (d.0 ∷ d.1))
        | inr is ↦ inr (
          dashed_value c rules n v d.0 d.1 rows k known no_end long d.3 is.1,
          dashed_value_fault name c rules n v d.0 d.1 rows k known no_end long d.3 is.0 is.1,
        )
      ]
    ]

pub value_step : (name : Text) (c : List Rule) → AreRules c → (n v : Text) (rows : List Row) (k : ℕ) → IsOptionName n →
    IsNoEnd v → WordIs v → ValueStep name c n v rows k
value_step name c rules n v rows k known no_end (IsName none) = plain_behind name c rules n v rows k known no_end none
value_step name c rules n v rows k known no_end (IsOpen m e free) =
    let long = ap long_of e ∙ open_long m free (subst IsNoEnd e no_end) in
    let f = option_behind name c rules n m v None rows k known no_end long in
    inl (f.0, f.1, λ s. ap (with_option s n) e ∙ dash_option s n (45 ∷ m))
value_step name c rules n v rows k known no_end (IsWhole m w e free) =
    let long = ap long_of e ∙ whole_long m w free in
    let f = option_behind name c rules n m v (Some w) rows k known no_end long in
    inl (f.0, f.1, λ s. ap (with_option s n) e ∙ dash_option s n (45 ∷ (m ++ 61 ∷ w)))
