-- What clap answers, as a command, is what the words say.
use Rattle.std.proofs.Common.{◌≡◌, ◌∙◌, inl, inr, refl, sym, ap, Bool, true, false, ◌||◌, List, [], ◌∷◌, map, option_map, Option, None, Some, Result, Ok, Err, IfOk}
use Rattle.std.specs.Prelude.{codes, Box}
use Rattle.std.specs.Option.{ok_or}
use Rattle.std.specs.Str.{bytes_eq}
use Rattle.clap.specs.Kinds.{Kinds, FailsBy, HasKind}
use Rattle.std.specs.Box.{box_value}
use Rattle.clap.specs.Words.{Row, Text, kind_of, subcommand_name_of, subcommand_rows, subcommand_rows_of, HasMatchesOf}
use Rattle.clap.specs.declared.parser.matches.SubCommand.{SubCommand}
use Rattle.clap.specs.declared.parser.matches.ArgMatches.TheViews.{out-ArgMatches, out-SubCommand}
use Rattle.clap.specs.Faults.{fault_of}
use Rattle.clap.specs.declared.error.Error.{Error}
use Rattle.clap.specs.declared.error.kind.ErrorKind.{ErrorKind}
use Rattle.clap.specs.declared.error.kind.ErrorKind.TheVariants as kinds
use Rattle.clap.specs.declared.parser.matches.ArgMatches.{ArgMatches}
use Rattle.cli_words.specs.declared.command.Command.{Command}
use Rattle.cli_words.specs.declared.settings.Settings.{Settings}
use Rattle.cli_words.specs.declared.reading.WordsRefusal.{WordsRefusal}
use Rattle.cli_words.specs.declared.reading.WordsRefusal.TheVariants.{BadWords, NoMemory}
use Rattle.cli_words.specs.Words.{◌>>=◌, settings_from}
use Rattle.cli_words.specs.CommandWords.{nothing, among, commands, command_names, command_from, command_of, IsReadAs}
use Rattle.cli_words.specs.Parser.{parser_app, settings_in, has_end, command_found, refusal_of, answer_in}
use Rattle.cli_words.proofs.ClapRows.{bind_none, same_bytes}
use Rattle.cli_words.proofs.ClapLevels.{leaf_rows}
use Rattle.cli_words.proofs.ClapTop.{AreOther, IsTaken, IsRefused, takes_words, refuses_words, is_simple_parser}
use Rattle.cli_words.proofs.ClapEnd.{no_ends_are, end_leaves_none}

-- a name of no command
none_among : (name : Text) (said : Settings) (cs : List (Text × (Settings → Option Command))) → AreOther name (map (λ c. c.0) cs) → among cs name said ≡ None
none_among name said [] o = refl
none_among name said (c ∷ cs) o = rw o.0 (none_among name said cs o.1)

no_command : (name : Text) (said : Settings) → AreOther name command_names → command_from name said ≡ None
no_command name said o = none_among name said commands o

first_end : (x : Text) (words : List Text) → bytes_eq x (codes "--") ≡ true → command_of (x ∷ words) ≡ None
unfolding command_of
first_end x words e =
    bind_none (settings_from nothing words) (command_from x) (λ s. ap (λ n. command_from n s) (same_bytes x (codes "--") e))

later_end : (x : Text) (words : List Text) → has_end words ≡ true → command_of (x ∷ words) ≡ None
unfolding command_of
later_end x words h = ap (λ o. o >>= command_from x) (end_leaves_none words h nothing)

end_by : (x : Text) (words : List Text) (b : Bool) → bytes_eq x (codes "--") ≡ b → (b || has_end words) ≡ true → command_of (x ∷ words) ≡ None
end_by x words true e h = first_end x words e
end_by x words false e h = later_end x words h

-- words with the end of the options are no command's
pub end_is_unread : (words : List Text) → has_end words ≡ true → IsReadAs (command_of words) (Err BadWords)
end_is_unread [] h = absurd (cc)
end_is_unread (x ∷ words) h = end_by x words (bytes_eq x (codes "--")) refl h

taken_command : (words : List Text) → (t : IsTaken words) → command_of words ≡ command_found (Some (t.name, leaf_rows t.behind))
unfolding command_of
taken_command words t = ap command_of t.are ∙ ap (λ o. o >>= command_from t.name) t.read

refused_command : (words : List Text) → IsRefused words → command_of words ≡ None
unfolding command_of
refused_command words r = elim r.cause [
  | inl e ↦ ap command_of e
  | inr (name, behind, e, inl other) ↦ ap command_of e ∙ bind_none (settings_from nothing behind) (command_from name) (λ s. no_command name s other)
  | inr (name, behind, e, inr none) ↦ ap command_of e ∙ ap (λ o. o >>= command_from name) none
]

read_as : (said found : Option Command) → said ≡ found → IsReadAs said (ok_or found BadWords)
read_as said None h = h
read_as said (Some c) h = h

no_memory : (said : Option Command) (kind : ErrorKind) → kind ≡ kinds.OutOfMemory → IsReadAs said (Err (refusal_of kind))
no_memory said kind h = rw h tt

bad_by : (said : Option Command) (refusal : WordsRefusal) → said ≡ None → IsReadAs said (Err refusal)
bad_by said BadWords h = h
bad_by said NoMemory h = tt

bad_words : (said : Option Command) (kind : ErrorKind) → said ≡ None → IsReadAs said (Err (refusal_of kind))
bad_words said kind h = bad_by said (refusal_of kind) h

failed_by : (words : List Text) (error : Error) (faults : Kinds) → has_end words ≡ false → fault_of parser_app words ≡ faults → HasKind faults error → IsReadAs (command_of words) (Err (refusal_of (kind_of error)))
failed_by words error faults ends is (inl memory) = no_memory (command_of words) (kind_of error) memory
failed_by words error [] ends is (inr among) = absurd among
failed_by words error (k ∷ ks) ends is (inr among) = bad_words (command_of words) (kind_of error) (refused_command words (refuses_words words k ks (no_ends_are words ends) is))

-- what clap answers to words without the end of the options
pub clap_reads : (words : List Text) (parsed : Result ArgMatches Error) → has_end words ≡ false → FailsBy (fault_of parser_app words) parsed → IfOk parsed (HasMatchesOf parser_app words) →
    IsReadAs (command_of words) (answer_in parsed)
clap_reads words (Ok matches) ends fails has =
    let t = takes_words words (no_ends_are words ends) fails in
    read_as (command_of words) (command_found (subcommand_rows_of matches)) (taken_command words t ∙ ap command_found (sym ((has is_simple_parser).1 ∙ t.found)))
clap_reads words (Err error) ends fails has = failed_by words error (fault_of parser_app words) ends refl fails

-- the subcommand that was found, by its name and its rows

rows_by : (n name : Text) (r rows : List Row) → ◌≡◌ {A = Option Text} (Some n) (Some name) → ◌≡◌ {A = Option (List Row)} (Some r) (Some rows) → ◌≡◌ {A = Option (Text × List Row)} (Some (n, r)) (Some (name, rows))
rows_by n name r rows e f = let a : n ≡ name = cc in let b : r ≡ rows = cc in ap (λ x. Some (x, r)) a ∙ ap (λ y. Some (name, y)) b

rows_are : {Z : Type 0} (o : Option (Box SubCommand Z)) (name : Text) (rows : List Row) → option_map (λ b. (out-SubCommand (box_value b)).name.now) o ≡ Some name →
    option_map (λ p. p.1) (subcommand_rows o) ≡ Some rows → subcommand_rows o ≡ Some (name, rows)
rows_are None name rows e f = absurd (cc)
rows_are (Some b) name rows e f = rows_by _ name _ rows e f

no_rows : {Z : Type 0} (o : Option (Box SubCommand Z)) → option_map (λ b. (out-SubCommand (box_value b)).name.now) o ≡ None → subcommand_rows o ≡ None
no_rows None e = refl
no_rows (Some b) e = absurd (cc)

pub found_is : (m : ArgMatches) (name : Text) (rows : List Row) → Some name ≡ subcommand_name_of m → Some rows ≡ option_map (λ p. p.1) (subcommand_rows (out-ArgMatches m).subcommand) →
    command_found (subcommand_rows_of m) ≡ (settings_in rows >>= command_from name)
found_is m name rows e f = ap command_found (rows_are (out-ArgMatches m).subcommand name rows (sym e) (sym f))

pub none_found : (m : ArgMatches) → None ≡ subcommand_name_of m → command_found (subcommand_rows_of m) ≡ None
none_found m e = ap command_found (no_rows (out-ArgMatches m).subcommand (sym e))
