-- The text of a proof behind an instance and a plan.
use Rattle.std.specs.Prelude.{ℕ, ◌≤◌, ◌≡◌, Bool, true, false, if◌then◌else◌}
use Rattle.std.specs.Prelude.{List, [], ◌∷◌, ◌++◌, length, map, codes, Result, Ok, Err}
use Rattle.std.specs.Str.{bytes_eq}
use Rattle.std.specs.Fmt.{decimal}
use Rattle.pq_io.specs.declared.text.fault.Cause.{Cause}
use Rattle.pq_io.specs.declared.text.fault.Cause.TheVariants.{Word}
use Rattle.pq_io.specs.declared.text.fault.BadInput.{BadInput}
use Rattle.pq_io.specs.Inputs.{longest_input}
use Rattle.pq_io.specs.Lines.{Line, Text, text_of}
use Rattle.pq_io.specs.Reading.{◌>>=◌, Read, word_at, number_at, after_word, at_line_end, line_at}
use Rattle.pq_io.specs.Writing.{lines_text}
use Rattle.inst_text.specs.Limits.{max_stated}
use Rattle.inst_text.specs.declared.plan.Claimed.{Claimed}
use Rattle.inst_text.specs.Several.{several, EachLine, Follow}
pub use Rattle.inst_text.specs.Several.{both, whole}
use Rattle.inst_text.specs.Knapsack.{Instance, IsInstance, AreNumbers, SpellKnapsack, instance_at, choice_lines}
use Rattle.inst_text.specs.Plans.{SpellsStated, SpellChoice, choice_at}
use Rattle.bb_proof.specs.Tokens.{proof_limit}

-- The line `proof K`, of how many tokens there are.
unfoldable pub count_of : List (List ℕ) → Result ℕ Cause
count_of words = do
  rest ← after_word (codes "proof") words
  count ← number_at 1 proof_limit rest
  end ← at_line_end count.rest
  Ok count.value

-- the token that the word is: `b` to branch, `c` to close
abbrev pub token_in : List ℕ → Result Bool Cause
token_in word =
    if bytes_eq word (codes "b") then Ok true
    else if bytes_eq word (codes "c") then Ok false
    else Err Word

-- The line of a token.
unfoldable pub token_of : List (List ℕ) → Result Bool Cause
token_of words = do
  word ← word_at words
  token ← token_in word.value
  end ← at_line_end word.rest
  Ok token

-- The lines of n tokens.
abbrev pub tokens_at : ℕ → Text → Result (Read (List Bool) Text) BadInput
tokens_at n text = several (λ (s : Unit {0}). line_at token_of) (λ s token. s) n tt text

-- A proof, and what is left behind it.
unfoldable pub proof_at : Text → Result (Read (List Bool) Text) BadInput
proof_at text = do
  count ← line_at count_of text
  tokens_at count.value count.rest

-- A plan of a knapsack of n items with a proof, and what is left behind them.
abbrev pub proved_at : ℕ → Text → Result (Read (Claimed (List ℕ) × List Bool) Text) BadInput
proved_at n = both (choice_at n) (λ c. proof_at)

-- the instance, the plan and the proof that these bytes read as, or their first fault
unfoldable pub proof_of : List ℕ → Result (Instance × (Claimed (List ℕ) × List Bool)) BadInput
proof_of bytes = whole (both instance_at (λ i. proved_at (length i.items))) bytes

-- The line is the word of the token.
abbrev pub SpellsToken : List (List ℕ) → Bool → Type 0
SpellsToken (word ∷ []) true = word ≡ codes "b"
SpellsToken (word ∷ []) false = word ≡ codes "c"
SpellsToken words token = ⊥

-- The first line is `proof K`, where there are K tokens, and each further line spells a token.
abbrev pub SpellProof : List Line → List Bool → Type 0
SpellProof [] tokens = ⊥
SpellProof (l ∷ ls) tokens = SpellsStated (codes "proof") l.words (length tokens) × EachLine SpellsToken ls tokens

-- Some lines spell the plan, and the lines behind them the proof.
abbrev pub SpellProved : List Line → Claimed (List ℕ) × List Bool → Type 0
SpellProved lines p = Follow SpellChoice SpellProof lines p.0 p.1

-- A text of this instance with this plan, a choice of its items, and this proof behind it.
pub record IsProofText (bytes : List ℕ) (i : Instance) (c : Claimed (List ℕ)) (tokens : List Bool) : Type 0 where
  pub size : length bytes ≤ longest_input
  pub lines : Follow SpellKnapsack SpellProved (text_of bytes).lines i (c, tokens)
  pub limits : IsInstance i
  pub stated : c.stated ≤ max_stated
  pub shape : AreNumbers 0 (length i.items) c.plan
  pub some : 1 ≤ length tokens
  pub few : length tokens ≤ proof_limit

-- the word of a token
abbrev pub token_words : Bool → List (List ℕ)
token_words token = (if token then codes "b" else codes "c") ∷ []

abbrev pub proof_lines : List Bool → List (List (List ℕ))
proof_lines tokens = (codes "proof" ∷ decimal (length tokens) ∷ []) ∷ map token_words tokens

-- the text of a plan, its stated value and a proof
abbrev pub proof_text : Claimed (List ℕ) → List Bool → List ℕ
proof_text c tokens = lines_text (choice_lines c.stated c.plan ++ proof_lines tokens)
