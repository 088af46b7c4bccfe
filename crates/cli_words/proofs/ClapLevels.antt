-- What clap answers for the command line as a whole: the name of a command, and what is said behind it.
use Rattle.std.proofs.Common.{◌≡◌, ◌∙◌, ◌⊎◌, inl, inr, refl, sym, ap, subst, Bool, true, false, ◌||◌, List, [], ◌∷◌, if◌then◌else◌, None, Some}
use Rattle.std.specs.Prelude.{codes, fold}
use Rattle.std.specs.List.{AllByRecursion}
use Rattle.std.specs.Str.{bytes_eq}
use Rattle.clap.specs.Kinds.{Kinds, or_else}
use Rattle.clap.specs.Faults.{settle_fault, walk_fault, default_fault, defaults_fault, level_fault}
use Rattle.clap.specs.Walk.{Row, Rule, Text, Held, walked, with_default, nothing_held, rows_after, settled_rows, has_row, arg_by_long, arg_by_id}
use Rattle.clap.specs.declared.error.kind.ErrorKind.{ErrorKind}
use Rattle.cli_words.specs.declared.settings.Settings.{Settings}
use Rattle.cli_words.specs.Words.{settings_from, with_option}
use Rattle.cli_words.specs.Sayings.{IsOptionName}
use Rattle.cli_words.specs.CommandWords.{nothing}
use Rattle.cli_words.specs.Parser.{settings_in}
use Rattle.cli_words.proofs.Options.{by_name}
use Rattle.cli_words.proofs.ClapRows.{same_bytes, differs, when, when_or, settings_by, AreGood}
use Rattle.cli_words.proofs.ClapSteps.{option_rule, kind_rule, AreRules, leaf, between}
use Rattle.cli_words.proofs.ClapWalk.{AreNoEnds, or_nil, walk_is_read}
use Rattle.cli_words.proofs.ClapGood.{empty_parts, rows_are_good}
use Rattle.cli_words.proofs.ClapFound.{found_is_said}

-- the rules of the words behind a command's name, as clap builds them
abbrev pub rules : List Rule
rules = kind_rule ∷ option_rule (codes "branching") ∷ option_rule (codes "queue") ∷ option_rule (codes "workers") ∷ option_rule (codes "nodes")
    ∷ option_rule (codes "capacity") ∷ option_rule (codes "seed") ∷ option_rule (codes "size") ∷ []

abbrev IsLong : Text → Type 0
IsLong n = (IsOptionName n × (arg_by_long rules n ≡ Some (option_rule n))) ⊎ ((arg_by_long rules n ≡ None) × ((s : Settings) (v : Text) → with_option s n v ≡ None))

long_by : (n : Text) (q w d c b e z : Bool) → bytes_eq n (codes "queue") ≡ q → bytes_eq n (codes "workers") ≡ w → bytes_eq n (codes "nodes") ≡ d → bytes_eq n (codes "capacity") ≡ c →
    bytes_eq n (codes "branching") ≡ b → bytes_eq n (codes "seed") ≡ e → bytes_eq n (codes "size") ≡ z → IsLong n
unfolding with_option
long_by n true w d c b e z hq hw hd hc hb he hz = subst IsLong (sym (same_bytes n (codes "queue") hq)) (inl (inl refl, refl))
long_by n false true d c b e z hq hw hd hc hb he hz = subst IsLong (sym (same_bytes n (codes "workers") hw)) (inl (inr (inl refl), refl))
long_by n false false true c b e z hq hw hd hc hb he hz = subst IsLong (sym (same_bytes n (codes "nodes") hd)) (inl (inr (inr (inl refl)), refl))
long_by n false false false true b e z hq hw hd hc hb he hz = subst IsLong (sym (same_bytes n (codes "capacity") hc)) (inl (inr (inr (inr (inl refl))), refl))
long_by n false false false false true e z hq hw hd hc hb he hz = subst IsLong (sym (same_bytes n (codes "branching") hb)) (inl (inr (inr (inr (inr (inl refl)))), refl))
long_by n false false false false false true z hq hw hd hc hb he hz = subst IsLong (sym (same_bytes n (codes "seed") he)) (inl (inr (inr (inr (inr (inr (inl refl))))), refl))
long_by n false false false false false false true hq hw hd hc hb he hz = subst IsLong (sym (same_bytes n (codes "size") hz)) (inl (inr (inr (inr (inr (inr (inr refl))))), refl))
long_by n false false false false false false false hq hw hd hc hb he hz = inr (
  rw (
    differs n (codes "queue") hq,
    differs n (codes "workers") hw,
    differs n (codes "nodes") hd,
    differs n (codes "capacity") hc,
    differs n (codes "branching") hb,
    differs n (codes "seed") he,
    differs n (codes "size") hz,
  ) refl,
  λ s v. rw (hq, hw, hd, hc, hb, he, hz) refl,
)

by_id : (n : Text) → IsOptionName n → arg_by_id rules n ≡ Some (option_rule n)
by_id = by_name (λ t. arg_by_id rules t ≡ Some (option_rule t)) refl refl refl refl refl refl refl

no_kind : (n : Text) → IsOptionName n → bytes_eq n (codes "kind") ≡ false
no_kind = by_name (λ t. bytes_eq t (codes "kind") ≡ false) refl refl refl refl refl refl refl

are_rules : AreRules rules
are_rules = record {
  long = λ n. long_by n _ _ _ _ _ _ _ refl refl refl refl refl refl refl;
  id = by_id;
  other = no_kind;
  kind = refl;
  short = λ x. refl;
  first = refl;
  second = refl;
}

same_either : (b : Bool) (rows : List Row) → (if b then rows else rows) ≡ rows
same_either true rows = refl
same_either false rows = refl

or_true : (b : Bool) → (b || true) ≡ true
or_true true = refl
or_true false = refl

-- no rule has a default
kept_rows : (a : Rule) (rows : List Row) → a.defaults ≡ [] → with_default rows a ≡ rows
kept_rows a rows none = rw none (same_either (has_row a.id rows) rows)

no_default : (a : Rule) (rows : List Row) → a.defaults ≡ [] → default_fault rows a ≡ []
no_default a rows none = rw none (rw (or_true (has_row a.id rows)) refl)

abbrev HaveNone : List Rule → Type 0
HaveNone c = AllByRecursion (λ (a : Rule). a.defaults ≡ []) c

no_defaults : (c : List Rule) (rows : List Row) → HaveNone c → defaults_fault rows c ≡ []
unfolding defaults_fault
no_defaults [] rows h = refl
no_defaults (a ∷ c) rows h = rw (no_default a rows h.0) (ap (λ rs. defaults_fault rs c) (kept_rows a rows h.0) ∙ no_defaults c rows h.1)

none_added : (c : List Rule) (rows : List Row) → HaveNone c → fold with_default rows c ≡ rows
none_added [] rows h = refl
none_added (a ∷ c) rows h = ap (λ rs. fold with_default rs c) (kept_rows a rows h.0) ∙ none_added c rows h.1

rules_have_none : HaveNone rules
rules_have_none = (refl, (refl, (refl, (refl, (refl, (refl, (refl, (refl, tt))))))))

-- one command

abbrev pub leaf_fault : Text → List Text → Kinds
leaf_fault name words = level_fault (leaf name rules) [] nothing_held words false []

abbrev pub leaf_rows : List Text → List Row
leaf_rows words = rows_after rules [] words

abbrev last_held : List Text → Held
last_held words = (fold (walked rules []) (between [] None 1) words).held

leaf_fault_is : (name : Text) (words : List Text) →
    leaf_fault name words ≡ or_else (walk_fault (leaf name rules) [] (between [] None 1) words) (settle_fault rules false (last_held words))
leaf_fault_is name words = ap (or_else (walk_fault (leaf name rules) [] (between [] None 1) words))
    (rw (no_defaults rules (settled_rows rules (last_held words).pending (last_held words).rows) rules_have_none) (or_nil (settle_fault rules false (last_held words))))

leaf_rows_are : (words : List Text) → leaf_rows words ≡ settled_rows rules (last_held words).pending (last_held words).rows
leaf_rows_are words = none_added rules (settled_rows rules (last_held words).pending (last_held words).rows) rules_have_none

-- what it reads
leaf_reads : (name : Text) (words : List Text) → AreNoEnds words → when (leaf_fault name words) (settings_by (leaf_rows words)) ≡ settings_from nothing words
leaf_reads name words no_ends =
    let W = walk_fault (leaf name rules) [] (between [] None 1) words in
    let S = settle_fault rules false (last_held words) in
    ap (λ k. when k (settings_by (leaf_rows words))) (leaf_fault_is name words)
    ∙ ap (λ rs. when (or_else W S) (settings_by rs)) (leaf_rows_are words)
    ∙ when_or W S (settings_by (settled_rows rules (last_held words).pending (last_held words).rows))
    ∙ walk_is_read name rules are_rules words no_ends

leaf_good : (name : Text) (words : List Text) → AreNoEnds words → leaf_fault name words ≡ [] → AreGood (leaf_rows words)
leaf_good name words no_ends none =
    let W = walk_fault (leaf name rules) [] (between [] None 1) words in
    let S = settle_fault rules false (last_held words) in
    let parts = empty_parts W S (sym (leaf_fault_is name words) ∙ none) in
    subst AreGood (sym (leaf_rows_are words)) (rows_are_good name rules are_rules words no_ends parts.0 parts.1)

pub taken_words : (name : Text) (words : List Text) → AreNoEnds words → leaf_fault name words ≡ [] → settings_from nothing words ≡ settings_in (leaf_rows words)
taken_words name words no_ends none =
    sym (leaf_reads name words no_ends) ∙ ap (λ k. when k (settings_by (leaf_rows words))) none ∙ sym (found_is_said (leaf_rows words) (leaf_good name words no_ends none))

pub refused_words : (name : Text) (words : List Text) (k : ErrorKind) (ks : Kinds) → AreNoEnds words → leaf_fault name words ≡ k ∷ ks → settings_from nothing words ≡ None
refused_words name words k ks no_ends is = sym (leaf_reads name words no_ends) ∙ ap (λ t. when t (settings_by (leaf_rows words))) is
