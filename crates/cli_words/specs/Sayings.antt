-- What the words behind a command's name say, each thing at most once, in any order.
use Rattle.std.specs.Prelude.{ℕ, ◌≡◌, ◌==◌, ◌⊎◌, false, List, [], ◌∷◌, ◌++◌, codes, Option, Some, None, if◌then◌else◌}
use Rattle.std.specs.List.{AllByRecursion}
use Rattle.std.specs.Str.{bytes_eq}
use Rattle.cli_words.specs.declared.settings.Settings.{Settings}
use Rattle.cli_words.specs.Queues.{which_of}
use Rattle.cli_words.specs.Words.{kind_of, number_in, branching_of, behind_dashes}

-- a problem's name, or an option's name and its value
pub data Saying : Type 0 where
  Named : List ℕ → Saying
  Valued : List ℕ → List ℕ → Saying

-- no `=` stands in the word
abbrev pub HasNoEquals : List ℕ → Type 0
HasNoEquals word = AllByRecursion (λ b. (b == 61) ≡ false) word

-- An option stands in front of these further words: as one word `--name=value`, or as two, `--name` and the value.
abbrev pub IsOption : List ℕ → List ℕ → List (List ℕ) → List (List ℕ) → Type 0
IsOption name value words more = HasNoEquals name
    × ((words ≡ (45 ∷ 45 ∷ (name ++ 61 ∷ value)) ∷ more) ⊎ (words ≡ (45 ∷ 45 ∷ name) ∷ value ∷ more))

-- The words say these things one after the other.
abbrev pub Say : List (List ℕ) → List Saying → Type 0
Say words [] = words ≡ []
Say words (Named word ∷ sayings) =
    (more : List (List ℕ)) × (words ≡ word ∷ more) × (behind_dashes word ≡ None) × Say more sayings
Say words (Valued name value ∷ sayings) = (more : List (List ℕ)) × IsOption name value words more × Say more sayings

-- the names among these, in order
abbrev pub named : List Saying → List (List ℕ)
named [] = []
named (Named word ∷ sayings) = word ∷ named sayings
named (Valued name value ∷ sayings) = named sayings

-- the values of this option among these, in order
abbrev pub values_of : List ℕ → List Saying → List (List ℕ)
values_of option [] = []
values_of option (Named word ∷ sayings) = values_of option sayings
values_of option (Valued name value ∷ sayings) =
    if bytes_eq name option then value ∷ values_of option sayings else values_of option sayings

-- A setting that was so before is so once these words gave it a value: there is none of them, or there is one, which
-- reads as the value, and the setting had none.
abbrev pub Becomes : {A : Type 0} → (List ℕ → Option A) → List (List ℕ) → Option A → Option A → Type 0
Becomes read [] before after = after ≡ before
Becomes read (word ∷ []) None (Some value) = read word ≡ Some value
Becomes read words before after = ⊥

-- the options that there are
abbrev pub IsOptionName : List ℕ → Type 0
IsOptionName name =
    (name ≡ codes "queue") ⊎ ((name ≡ codes "workers") ⊎ ((name ≡ codes "nodes") ⊎ ((name ≡ codes "capacity")
    ⊎ ((name ≡ codes "branching") ⊎ ((name ≡ codes "seed") ⊎ (name ≡ codes "size"))))))

-- each option among these is one that there is
abbrev pub AreKnown : List Saying → Type 0
AreKnown [] = Unit {0}
AreKnown (Named word ∷ sayings) = AreKnown sayings
AreKnown (Valued name value ∷ sayings) = IsOptionName name × AreKnown sayings

-- The settings that were so before are so once these things are said.
pub record AreSettings (sayings : List Saying) (before after : Settings) : Type 0 where
  pub kind : Becomes kind_of (named sayings) before.kind after.kind
  pub queue : Becomes which_of (values_of (codes "queue") sayings) before.queue after.queue
  pub workers : Becomes number_in (values_of (codes "workers") sayings) before.workers after.workers
  pub nodes : Becomes number_in (values_of (codes "nodes") sayings) before.nodes after.nodes
  pub capacity : Becomes number_in (values_of (codes "capacity") sayings) before.capacity after.capacity
  pub branching : Becomes branching_of (values_of (codes "branching") sayings) before.branching after.branching
  pub seed : Becomes number_in (values_of (codes "seed") sayings) before.seed after.seed
  pub size : Becomes number_in (values_of (codes "size") sayings) before.size after.size
  pub known : AreKnown sayings

-- The words say something, after which the settings are so.
pub record AreSaid (words : List (List ℕ)) (before after : Settings) : Type 0 where
  pub sayings : List Saying
  pub said : Say words sayings
  pub settings : AreSettings sayings before after
