-- One step of reading the words behind a command's name.
use Rattle.std.proofs.Common.{◌≡◌, ◌∙◌, ap, ℕ, List, [], ◌∷◌, None, Some}
use Rattle.cli_words.specs.declared.settings.Settings.{Settings}
use Rattle.cli_words.specs.Words.{◌>>=◌, settings_from, pair_name, with_lone, with_option, with_last, after_two}

-- a word that says something by itself
pub lone_step : (said s : Settings) (w : List ℕ) (ws : List (List ℕ)) → pair_name w ≡ None → with_lone said w ≡ Some s → settings_from said (w ∷ ws) ≡ settings_from s ws
unfolding settings_from
lone_step said s w [] e f = ap (with_last said w) e ∙ ap (λ o. o >>= λ t. Some t) f
lone_step said s w (v ∷ vs) e f =
    ap (λ name. after_two name (with_lone said w >>= λ t. settings_from t (v ∷ vs)) (λ n. with_option said n v >>= λ t. settings_from t vs)) e
    ∙ ap (λ o. o >>= λ t. settings_from t (v ∷ vs)) f

-- two words, of which the second is the value of the first
pub pair_step : (said s : Settings) (w v name : List ℕ) (vs : List (List ℕ)) → pair_name w ≡ Some name → with_option said name v ≡ Some s → settings_from said (w ∷ v ∷ vs) ≡ settings_from s vs
unfolding settings_from
pair_step said s w v name vs e f =
    ap (λ n. after_two n (with_lone said w >>= λ t. settings_from t (v ∷ vs)) (λ m. with_option said m v >>= λ t. settings_from t vs)) e
    ∙ ap (λ o. o >>= λ t. settings_from t vs) f
