-- What clap is told, step by step.
use Rattle.std.proofs.Common.{Bor, List, ◌≡◌, ◌∙◌, ◌<◌, ◌+◌, ℕ, refl, sym, ap, ap₂, subst, map, true, false, ◌||◌, [], length, drop, fold, get_or, codes}
use Rattle.std.proofs.lemmas.List.{drop_more, get_or-map, length-map}
use Rattle.clap.specs.Words.{AddsArg, AddsSubcommand, App, Rule, Text, app_of, new_app, rule_of, with_rule, with_subcommand}
use Rattle.clap.specs.Simple.{app_of_fields, on_top}
use Rattle.clap.specs.declared.builder.arg.Arg.{Arg}
use Rattle.clap.specs.declared.builder.command.Command.{Command}
use Rattle.clap.specs.declared.builder.command.Command.TheViews.{out-Command}
use Rattle.cli_words.specs.CommandWords.{command_names}
use Rattle.cli_words.specs.Parser.{bare_app, parser_app, with_command, worded_app}

-- one argument more
pub adds : (old : Command) (a : Arg) (new : Command) (app : App) (rule : Rule) → AddsArg old a new → app_of old ≡ app → (out-Command old).has_globals ≡ false →
    rule_of a ≡ rule → a.global ≡ false → (app_of new ≡ with_rule app rule) × ((out-Command new).has_globals ≡ false)
adds old a new app rule h is local rule_is own = (h.shape own ∙ ap₂ with_rule is rule_is, h.globals ∙ ap₂ (λ x y. x || y) local own)

-- one command more
pub adds_command : (old sub new : Command) (app : App) (name : Text) → AddsSubcommand old sub new → app_of old ≡ app → app_of sub ≡ worded_app name →
    (out-Command sub).has_globals ≡ false → app_of new ≡ with_command app name
adds_command old sub new app name h is sub_is local = h.shape local ∙ ap₂ with_subcommand is (ap (λ (a : App). a.top) sub_is)

-- the settings of the whole
pub bare_is : (a b c d e : Command) → app_of a ≡ new_app (codes "vogbare") → out-Command b ≡ record (out-Command a) { no_binary_name = true } →
    out-Command c ≡ record (out-Command b) { disable_help_flag = true } → out-Command d ≡ record (out-Command c) { disable_help_subcommand = true } →
    out-Command e ≡ record (out-Command d) { subcommand_required = true } → app_of e ≡ bare_app
bare_is a b c d e new hb hc hd he =
    ap app_of_fields he
    ∙ ap (on_top (λ s. record s { subcommand_required = true })) (ap app_of_fields hd
    ∙ ap (on_top (λ s. record s { disable_help_subcommand = true })) (ap app_of_fields hc
    ∙ ap (on_top (λ s. record s { disable_help_flag = true })) (ap app_of_fields hb
    ∙ ap (on_top (λ s. record s { no_binary_name = true })) new)))

-- these are the names of the commands
pub record AreNames (items : List (Bor Text)) : Type 0 where
  pub are : map (λ r. r.now) items ≡ command_names

-- the command of the next name
pub next_command : (items : List (Bor Text)) (i : ℕ) (old sub new : Command) → AreNames items → i < length items →
    fold with_command (app_of old) (drop i command_names) ≡ parser_app → AddsSubcommand old sub new →
    app_of sub ≡ worded_app (get_or items i (record { ref_ptr = (0, 0); now = [] })).now →
    (out-Command sub).has_globals ≡ false → fold with_command (app_of new) (drop (i + 1) command_names) ≡ parser_app
next_command items i old sub new names lt so_far h sub_is local =
    let d : Bor Text = record { ref_ptr = (0, 0); now = [] } in
    let same = sym (get_or-map (λ (r : Bor Text). r.now) items i d [] lt) ∙ ap (λ xs. get_or xs i []) names.are in
    let more = adds_command old sub new (app_of old) (get_or items i d).now h refl sub_is local ∙ ap (with_command (app_of old)) same in
    let count : length items ≡ length command_names = sym (length-map items (λ (r : Bor Text). r.now)) ∙ ap length names.are in
    ap (λ a. fold with_command a (drop (i + 1) command_names)) more
    ∙ sym (ap (fold with_command (app_of old)) (drop_more command_names i [] (subst (λ n. i < n) count lt)))
    ∙ so_far
