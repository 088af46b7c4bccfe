-- How the words behind a command's name are read: the problem and the options, each at most once, in any order.
use Rattle.std.specs.Prelude.{ℕ, ◌+◌, Bool, ◌==◌, ◌&&◌, if◌then◌else◌, List, [], ◌∷◌, take, drop, position, codes}
use Rattle.std.specs.Prelude.{Option, Some, None, is_none, Result, Ok, Err}
use Rattle.std.specs.Str.{bytes_eq}
use Rattle.pq_io.specs.declared.text.fault.Cause.{Cause}
use Rattle.pq_io.specs.Reading.{number_of}
use Rattle.cli_words.specs.declared.command.Kind.{Kind}
use Rattle.cli_words.specs.declared.command.Kind.TheVariants.{Knapsack, Shop}
use Rattle.cli_words.specs.declared.command.Branching.{Branching}
use Rattle.cli_words.specs.declared.command.Branching.TheVariants.{Dispatch, Active}
use Rattle.cli_words.specs.declared.settings.Settings.{Settings}
use Rattle.cli_words.specs.Queues.{which_of}

infixl 10 ◌>>=◌
-- go on with the value, where there is one
abbrev pub ◌>>=◌ : {A B : Type 0} → Option A → (A → Option B) → Option B
(Some x) >>= f = f x
None >>= f = None

-- a value that was not said before
abbrev pub once : {A : Type 0} → Option A → A → Option (Option A)
once None new = Some (Some new)
once (Some old) new = None

-- the problem of this name
abbrev pub kind_of : List ℕ → Option Kind
kind_of word =
    if bytes_eq word (codes "knapsack") then Some Knapsack
    else if bytes_eq word (codes "shop") then Some Shop
    else None

-- the branching of this name
abbrev pub branching_of : List ℕ → Option Branching
branching_of word =
    if bytes_eq word (codes "dispatch") then Some Dispatch
    else if bytes_eq word (codes "active") then Some Active
    else None

abbrev pub ok_of : Result ℕ Cause → Option ℕ
ok_of (Ok n) = Some n
ok_of (Err cause) = None

-- the greatest number that the word of an option may spell; no option takes a greater one
abbrev pub option_limit : ℕ
option_limit = 4294967295

-- the number that the word spells
abbrev pub number_in : List ℕ → Option ℕ
number_in word = ok_of (number_of 0 option_limit word)

-- The settings with what the word says; none where it says nothing, or where that was said before. `read` says how the
-- word is read, `said` what was said before, and `with` gives the settings with something else in its place.
abbrev pub set_once : {A : Type 0} → (List ℕ → Option A) → Option A → (Option A → Settings) → List ℕ → Option Settings
set_once read said with word = do
  new ← read word
  now ← once said new
  Some (with now)

-- the settings with this problem
unfoldable pub with_kind : Settings → List ℕ → Option Settings
with_kind said word = set_once kind_of said.kind (λ kind. record said { kind = kind }) word

unfoldable pub with_branching : Settings → List ℕ → Option Settings
with_branching said value =
    set_once branching_of said.branching (λ branching. record said { branching = branching }) value

unfoldable pub with_queue : Settings → List ℕ → Option Settings
with_queue said value = set_once which_of said.queue (λ queue. record said { queue = queue }) value

unfoldable pub with_workers : Settings → List ℕ → Option Settings
with_workers said value = set_once number_in said.workers (λ number. record said { workers = number }) value

unfoldable pub with_nodes : Settings → List ℕ → Option Settings
with_nodes said value = set_once number_in said.nodes (λ number. record said { nodes = number }) value

unfoldable pub with_capacity : Settings → List ℕ → Option Settings
with_capacity said value = set_once number_in said.capacity (λ number. record said { capacity = number }) value

unfoldable pub with_seed : Settings → List ℕ → Option Settings
with_seed said value = set_once number_in said.seed (λ number. record said { seed = number }) value

unfoldable pub with_size : Settings → List ℕ → Option Settings
with_size said value = set_once number_in said.size (λ number. record said { size = number }) value

-- the settings with this option
unfoldable pub with_option : Settings → List ℕ → List ℕ → Option Settings
with_option said name value =
    if bytes_eq name (codes "queue") then with_queue said value
    else if bytes_eq name (codes "workers") then with_workers said value
    else if bytes_eq name (codes "nodes") then with_nodes said value
    else if bytes_eq name (codes "capacity") then with_capacity said value
    else if bytes_eq name (codes "branching") then with_branching said value
    else if bytes_eq name (codes "seed") then with_seed said value
    else if bytes_eq name (codes "size") then with_size said value
    else None

-- what stands behind two dashes; none where a word does not begin with them
abbrev pub behind_dashes : List ℕ → Option (List ℕ)
behind_dashes [] = None
behind_dashes (a ∷ []) = None
behind_dashes (a ∷ b ∷ bs) = if (a == 45) && (b == 45) then Some bs else None

-- a name, and the value behind the first `=`; none where there is no `=`
abbrev pub split_at_equals : List ℕ → Option (List ℕ × List ℕ)
split_at_equals body = position (λ b. b == 61) body >>= λ at. Some (take at body, drop (at + 1) body)

-- the word is no option that is whole by itself
abbrev pub unless_split : List ℕ → Option (List ℕ × List ℕ) → Option (List ℕ)
unless_split body None = Some body
unless_split body (Some split) = None

-- the name of an option whose value is the next word
unfoldable pub pair_name : List ℕ → Option (List ℕ)
pair_name word = behind_dashes word >>= λ body. unless_split body (split_at_equals body)

abbrev pub with_split : Settings → Option (List ℕ × List ℕ) → Option Settings
with_split said split = split >>= λ p. with_option said p.0 p.1

abbrev pub with_body : Settings → List ℕ → Option (List ℕ) → Option Settings
with_body said word None = with_kind said word
with_body said word (Some body) = with_split said (split_at_equals body)

-- the settings with what one word says by itself: a problem, or an option with its value
unfoldable pub with_lone : Settings → List ℕ → Option Settings
with_lone said word = with_body said word (behind_dashes word)

-- what the last word says
abbrev pub with_last : Settings → List ℕ → Option (List ℕ) → Option Settings
with_last said word None = with_lone said word >>= λ s. Some s
with_last said word (Some name) = None

-- by whether the second of two words is the value of the first
abbrev pub after_two : {A : Type 0} → Option (List ℕ) → A → (List ℕ → A) → A
after_two None lone pair = lone
after_two (Some name) lone pair = pair name

-- what the words say beside what was said before them
unfoldable pub settings_from : Settings → List (List ℕ) → Option Settings
settings_from said [] = Some said
settings_from said (word ∷ []) = with_last said word (pair_name word)
settings_from said (word ∷ value ∷ words) = after_two (pair_name word)
    (with_lone said word >>= λ s. settings_from s (value ∷ words))
    (λ name. with_option said name value >>= λ s. settings_from s words)

-- no option of a search was said
abbrev pub is_unlimited : Settings → Bool
is_unlimited said = is_none said.queue && (is_none said.workers && (is_none said.nodes && is_none said.capacity))

-- no option of what is made was said
abbrev pub is_unmade : Settings → Bool
is_unmade said = is_none said.seed && is_none said.size

-- no option was said
abbrev pub is_silent : Settings → Bool
is_silent said = is_none said.branching && (is_unlimited said && is_unmade said)
