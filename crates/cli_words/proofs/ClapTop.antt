-- The first word names a command, and clap goes on with those behind it; or it does not, and clap refuses the words.
use Rattle.std.proofs.Common.{◌≡◌, ◌∙◌, ◌⊎◌, inl, inr, refl, sym, ap, ℕ, Bool, true, false, List, [], ◌∷◌, ◌++◌, map, Option, None, Some}
use Rattle.std.specs.Prelude.{codes, find, fold, is_some}
use Rattle.std.specs.List.{AllByRecursion}
use Rattle.std.specs.Str.{bytes_eq}
use Rattle.clap.specs.Lexer.{long_of, short_of}
use Rattle.clap.specs.Kinds.{Kinds, or_else}
use Rattle.clap.specs.Faults.{settle_fault, walk_fault, turn_fault, defaults_fault, built_fault, entered_fault, fault_of, check_fault, is_simple_and_free}
use Rattle.clap.specs.Simple.{App, Shape, built, entered, is_simple, label_of, names_of, subcommand_of}
use Rattle.clap.specs.Walk.{Names, Text, Walk, idle, finished, settled, walk, walk_from, walked, nothing_held, answers_to}
use Rattle.clap.specs.declared.error.kind.ErrorKind.{ErrorKind}
use Rattle.clap.specs.declared.error.kind.ErrorKind.TheVariants.{UnknownArgument, InvalidSubcommand, MissingSubcommand}
use Rattle.clap.proofs.FaultLemmas.{stopped_fault}
use Rattle.cli_words.specs.Words.{settings_from}
use Rattle.cli_words.specs.CommandWords.{nothing, command_names}
use Rattle.cli_words.specs.Parser.{parser_app, settings_in}
use Rattle.cli_words.proofs.ClapRows.{same_bytes, differs, nothing_more}
use Rattle.cli_words.proofs.ClapWords.{short_cases}
use Rattle.cli_words.proofs.ClapSteps.{leaf, and_false, bundle_is, IsNoEnd}
use Rattle.cli_words.proofs.ClapWalk.{AreNoEnds, or_nil}
use Rattle.cli_words.proofs.ClapLevels.{rules, leaf_fault, leaf_rows, taken_words, refused_words}

abbrev top : Shape
top = record {
  name = codes "vogbare";
  aliases = [];
  rules = [];
  is_plain = true;
  is_leaf = false;
  no_binary_name = true;
  disable_help_flag = true;
  disable_help_subcommand = true;
  disable_version_flag = false;
  propagate_version = false;
  has_version = false;
  has_long_version = false;
  args_override_self = false;
  arg_required_else_help = false;
  subcommand_required = true;
  subcommand_negates_reqs = false;
  is_built = true;
}

abbrev leaves : List Text → List Shape
leaves names = map (λ n. leaf n rules) names

abbrev parser : App
parser = record { top = top; subs = leaves command_names }

built_is : built parser_app ≡ parser
built_is = refl

pub is_simple_parser : is_simple parser_app ≡ true
is_simple_parser = refl

pub is_free_parser : is_simple_and_free parser_app ≡ true
is_free_parser = refl

-- the command of a name

abbrev pub IsAmong : Text → List Text → Type 0
IsAmong x [] = ⊥
IsAmong x (n ∷ ns) = (x ≡ n) ⊎ IsAmong x ns

abbrev pub AreOther : Text → List Text → Type 0
AreOther x names = AllByRecursion (λ n. bytes_eq x n ≡ false) names

record IsCommand (x : Text) (names : List Text) : Type 0 where
  pub shape : find (λ s. answers_to x (label_of s)) (leaves names) ≡ Some (leaf x rules)
  pub label : find (answers_to x) (map label_of (leaves names)) ≡ Some (x, [])

record IsNone (x : Text) (names : List Text) : Type 0 where
  pub label : find (answers_to x) (map label_of (leaves names)) ≡ None
  pub other : AreOther x names

leaf_by : (x n : Text) (names : List Text) (b : Bool) → bytes_eq n x ≡ b → IsCommand x names ⊎ IsNone x names → IsCommand x (n ∷ names) ⊎ IsNone x (n ∷ names)
leaf_by x n names true e h =
    let same = same_bytes n x e in
    inl (record { shape = rw e (ap (λ t. Some (leaf t rules)) same); label = rw e (ap (λ t. Some (t, [])) same) })
leaf_by x n names false e (inl h) = inl (record { shape = rw e h.shape; label = rw e h.label })
leaf_by x n names false e (inr h) = inr (record { label = rw e h.label; other = (differs n x e, h.other) })

find_leaf : (x : Text) (names : List Text) → IsCommand x names ⊎ IsNone x names
find_leaf x [] = inr (record { label = refl; other = tt })
find_leaf x (n ∷ names) = leaf_by x n names (bytes_eq n x) refl (find_leaf x names)

-- the walk over the words, where the first one names a command

abbrev names : Names
names = names_of parser

abbrev stopped_at : Text → List Text → Walk
stopped_at x words = record { held = nothing_held; waiting = idle; position = 1; is_trailing = false; stopped = Some (x, words) }

joined_lists : (xs : List Text) (y : Text) (ys : List Text) → (xs ++ y ∷ []) ++ ys ≡ xs ++ y ∷ ys
joined_lists [] y ys = refl
joined_lists (x ∷ xs) y ys = ap (λ zs. x ∷ zs) (joined_lists xs y ys)

walked_more : (x : Text) (words more : List Text) → fold (walked [] names) (stopped_at x words) more ≡ stopped_at x (words ++ more)
unfolding walked
walked_more x words [] = ap (stopped_at x) (sym (nothing_more words))
walked_more x words (w ∷ more) = walked_more x (words ++ w ∷ []) more ∙ ap (stopped_at x) (joined_lists words w more)

first_walked : (x : Text) → IsCommand x command_names → walked [] names (walk_from nothing_held) x ≡ stopped_at x []
unfolding walked
first_walked x is = rw is.label refl

whole_walk : (x : Text) (words : List Text) → IsCommand x command_names → walk [] names nothing_held (x ∷ words) ≡ stopped_at x words
whole_walk x words is = ap (λ w. fold (walked [] names) w words) (first_walked x is) ∙ walked_more x [] words

first_fault : (x : Text) → IsCommand x command_names → turn_fault top names (walk_from nothing_held) x ≡ []
first_fault x is = rw (is.label, and_false (bytes_eq x (codes "help"))) refl

walk_passes : (x : Text) (words : List Text) → IsCommand x command_names → walk_fault top names (walk_from nothing_held) (x ∷ words) ≡ []
unfolding walk_fault
walk_passes x words is =
    ap (λ t. or_else t (walk_fault top names (walked [] names (walk_from nothing_held) x) words)) (first_fault x is)
    ∙ ap (λ w. walk_fault top names w words) (first_walked x is)
    ∙ stopped_fault top names (stopped_at x []) (x, []) words

-- the faults of a walk that ended so
abbrev faults_at : Kinds → Walk → Kinds
faults_at before w = or_else before (or_else (entered_fault parser w.stopped) (or_else (settle_fault [] false w.held)
    (or_else (defaults_fault (settled [] w.held).rows []) (check_fault top (finished [] w.held) (is_some (entered parser w.stopped))))))

named_fault : (x : Text) (words : List Text) → IsCommand x command_names → built_fault parser nothing_held (x ∷ words) ≡ leaf_fault x words
unfolding defaults_fault
named_fault x words is =
    ap (λ k. faults_at k (walk [] names nothing_held (x ∷ words))) (walk_passes x words is)
    ∙ ap (faults_at []) (whole_walk x words is)
    ∙ rw is.shape (or_nil (leaf_fault x words))

named_rows : (x : Text) (words : List Text) → IsCommand x command_names → subcommand_of parser_app (x ∷ words) ≡ Some (x, leaf_rows words)
named_rows x words is = ap (λ (w : Walk). entered parser w.stopped) (whole_walk x words is) ∙ rw is.shape refl

-- a first word that names none

record IsStray (x : Text) : Type 0 where
  pub kind : ErrorKind
  pub more : Kinds
  pub fault : turn_fault top names (walk_from nothing_held) x ≡ kind ∷ more

stray_long : (x : Text) (p : Text × Option Text) → IsNone x command_names → IsNoEnd x → long_of x ≡ Some p → IsStray x
stray_long x p is no_end long = record { kind = UnknownArgument; more = []; fault = rw (is.label, no_end, long) refl }

stray_plain : (x : Text) → IsNone x command_names → IsNoEnd x → long_of x ≡ None → short_of x ≡ None → IsStray x
stray_plain x is no_end long short = record { kind = UnknownArgument; more = InvalidSubcommand ∷ []; fault = rw (is.label, no_end, long, short) refl }

stray_flags : (x : Text) (b : ℕ) (flags : Text) → IsNone x command_names → IsNoEnd x → long_of x ≡ None → short_of x ≡ Some (b ∷ flags) → IsStray x
stray_flags x b flags is no_end long short = elim (bundle_is [] (λ c. refl) b flags [] None) [
  | inl fault ↦ record { kind = UnknownArgument; more = []; fault = rw (is.label, no_end, long, short, fault) refl }
  | inr fine ↦ record { kind = UnknownArgument; more = InvalidSubcommand ∷ []; fault = rw (is.label, no_end, long, short, fine.0, fine.1) refl }
]

stray_by : (x : Text) (o : Option (Text × Option Text)) → IsNone x command_names → IsNoEnd x → long_of x ≡ o → IsStray x
stray_by x (Some p) is no_end long = stray_long x p is no_end long
stray_by x None is no_end long = elim (short_cases x) [
  | inl short ↦ stray_plain x is no_end long short
  | inr d ↦ stray_flags x d.0 d.1 is no_end long d.3
]

stray_refused : (x : Text) (words : List Text) → IsNone x command_names → IsNoEnd x → built_fault parser nothing_held (x ∷ words) ≡ [] → ⊥
unfolding walk_fault
stray_refused x words is no_end none =
    let s = stray_by x (long_of x) is no_end refl in
    let w = walk [] names nothing_held (x ∷ words) in
    let rest = walk_fault top names (walked [] names (walk_from nothing_held) x) words in
    let bad : faults_at (or_else (s.kind ∷ s.more) rest) w ≡ [] = sym (ap (λ t. faults_at (or_else t rest) w) s.fault) ∙ none in
    absurd (cc)

no_words : fault_of parser_app [] ≡ MissingSubcommand ∷ []
unfolding walk_fault defaults_fault
no_words = refl

-- Words that clap takes: the name of a command, and the settings that are read of what it found behind it.
pub record IsTaken (words : List Text) : Type 0 where
  pub name : Text
  pub behind : List Text
  pub are : words ≡ name ∷ behind
  pub found : subcommand_of parser_app words ≡ Some (name, leaf_rows behind)
  pub read : settings_from nothing behind ≡ settings_in (leaf_rows behind)

-- Words that clap refuses: none, or no name of a command, or no settings behind it.
pub record IsRefused (words : List Text) : Type 0 where
  pub cause : (words ≡ []) ⊎ ((name : Text) × (behind : List Text) × (words ≡ name ∷ behind) × (AreOther name command_names ⊎ (settings_from nothing behind ≡ None)))

taken_first : (x : Text) (words : List Text) → AreNoEnds (x ∷ words) → fault_of parser_app (x ∷ words) ≡ [] → IsCommand x command_names ⊎ IsNone x command_names → IsTaken (x ∷ words)
taken_first x words no_ends none (inl is) = record {
  name = x;
  behind = words;
  are = refl;
  found = named_rows x words is;
  read = taken_words x words no_ends.1 (sym (named_fault x words is) ∙ none);
}
taken_first x words no_ends none (inr is) = absurd (stray_refused x words is no_ends.0 none)

pub takes_words : (words : List Text) → AreNoEnds words → fault_of parser_app words ≡ [] → IsTaken words
takes_words [] no_ends none = let bad : MissingSubcommand ∷ [] ≡ [] = sym no_words ∙ none in absurd (cc)
takes_words (x ∷ words) no_ends none = taken_first x words no_ends none (find_leaf x command_names)

refused_first : (x : Text) (words : List Text) (k : ErrorKind) (ks : Kinds) → AreNoEnds (x ∷ words) → fault_of parser_app (x ∷ words) ≡ k ∷ ks →
    IsCommand x command_names ⊎ IsNone x command_names → IsRefused (x ∷ words)
refused_first x words k ks no_ends is (inl command) =
    record { cause = inr (x, words, refl, inr (refused_words x words k ks no_ends.1 (sym (named_fault x words command) ∙ is))) }
refused_first x words k ks no_ends is (inr other) = record { cause = inr (x, words, refl, inl other.other) }

pub refuses_words : (words : List Text) (k : ErrorKind) (ks : Kinds) → AreNoEnds words → fault_of parser_app words ≡ k ∷ ks → IsRefused words
refuses_words [] k ks no_ends is = record { cause = inl refl }
refuses_words (x ∷ words) k ks no_ends is = refused_first x words k ks no_ends is (find_leaf x command_names)
