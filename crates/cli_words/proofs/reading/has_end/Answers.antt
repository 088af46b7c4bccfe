use Rattle.std.proofs.Common.{rules, tests, ◌≡◌, ◌∙◌, ◌||◌, refl, sym, ap, List, [], ◌∷◌, codes}
use Rattle.std.proofs.lemmas.Iterator.{YieldsList-from_slice}
use Rattle.std.proofs.lemmas.Iterator.Search.{any_from_yields_List}
use Rattle.std.specs.List.{list_any}
use Rattle.std.specs.Prelude.{String, string_bytes}
use Rattle.std.specs.Str.{bytes_eq}
use Rattle.std.specs.declared.alloc.Global.{Global}
use Rattle.cli_words.specs.CommandWords.{texts}
use Rattle.cli_words.specs.Parser.{has_end}
use Rattle.cli_words.proofs.reading.has_end.Goals as goal

any_of_texts : (words : List (String Global)) → has_end (texts words) ≡ list_any (λ (w : String Global). bytes_eq (string_bytes w) (codes "--")) words
any_of_texts [] = refl
any_of_texts (w ∷ words) = ap (λ b. bytes_eq (string_bytes w) (codes "--") || b) (any_of_texts words)

pub returns : goal.returns
returns c =
    any_from_yields_List (λ (w : String Global). bytes_eq (string_bytes w) (codes "--")) _ _ _ c.any.ensures.ran
    (YieldsList-from_slice c.args.words.now c.iter.ensures.rest) (λ x b q k. search (rules, tests))
    ∙ sym (any_of_texts c.args.words.now)
