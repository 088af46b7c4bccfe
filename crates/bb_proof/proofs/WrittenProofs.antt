-- The text of an instance with the text of a plan and a proof behind it is a text of the three.
use Rattle.std.proofs.Common.{◌≡◌, ℕ, ◌+◌, ◌<◌, ◌≤◌, Bool, true, false, List, [], ◌∷◌, ◌++◌, length, map, codes, decimal, Ok, refl, ap, arith}
use Rattle.std.specs.List.{AllByRecursion}
use Rattle.std.proofs.lemmas.List.{length-append}
use Rattle.pq_io.specs.Inputs.{longest_input}
use Rattle.pq_io.specs.Writing.{words_text, lines_text, lines_from, IsPlainWord, IsPlainLine}
use Rattle.pq_io.proofs.Plain.{decimal_plain, decimal_digits}
use Rattle.inst_text.specs.Limits.{max_stated}
use Rattle.inst_text.specs.declared.plan.Claimed.{Claimed}
use Rattle.inst_text.specs.Knapsack.{Instance, IsInstance, AreNumbers, SpellKnapsack, IsKnapsackText, knapsack_lines, knapsack_text, choice_lines}
use Rattle.inst_text.specs.Plans.{SpellChoice}
use Rattle.inst_text.proofs.Written.{digits_at_most, word_length, line_length, Writes, WritesEach, each_plain, each_means, each_short, lines_text-append, lines_from-append, plain-append, two_texts, two_short}
use Rattle.inst_text.proofs.LinesBehind.{text_behind}
use Rattle.inst_text.proofs.WrittenKnapsack.{instance_written}
use Rattle.inst_text.proofs.WrittenPlans.{choice_written}
use Rattle.bb_proof.specs.Tokens.{proof_limit}
use Rattle.bb_proof.specs.Texts.{proof_of, SpellsToken, SpellProof, SpellProved, token_words, proof_lines, proof_text}
use Rattle.bb_proof.proofs.ProofTexts.{proof_is_read}

proof_plain : IsPlainWord (codes "proof")
proof_plain = (refl, (refl, (refl, (refl, (refl, tt)))))

-- tokens

abbrev AnyToken : Bool → Type 0
AnyToken token = Unit {0}

any_tokens : (tokens : List Bool) → AllByRecursion AnyToken tokens
any_tokens [] = tt
any_tokens (t ∷ ts) = (tt, any_tokens ts)

token_plain : (token : Bool) → AnyToken token → IsPlainLine (token_words token)
token_plain true any = (((refl, tt), tt), refl)
token_plain false any = (((refl, tt), tt), refl)

token_means : (token : Bool) → AnyToken token → SpellsToken (token_words token) token
token_means true any = refl
token_means false any = refl

token_short : (token : Bool) → AnyToken token → length (words_text (token_words token)) < 2
token_short true any = omega arith
token_short false any = omega arith

tokens_written : WritesEach AnyToken SpellsToken token_words 2
tokens_written = record { plain = token_plain; means = token_means; short = token_short }

-- a proof

proof_written : (tokens : List Bool) → length tokens ≤ proof_limit → Writes SpellProof (proof_lines tokens) tokens 4194320
proof_written tokens few =
    let within = any_tokens tokens in
    let count = decimal_plain (length tokens) (omega (arith, few)) in
    let digits : length (decimal (length tokens)) ≤ 7 = digits_at_most 7 (length tokens) (omega arith) (omega (arith, few)) (omega (arith, few)) in
    record {
      plain = (((proof_plain, (count.0, tt)), refl), each_plain AnyToken SpellsToken token_words 2 tokens_written tokens within);
      means = λ n. ((refl, decimal_digits (length tokens) (omega (arith, few))), each_means AnyToken SpellsToken token_words 2 tokens_written (n + 1) tokens within);
      short =
          omega (
            arith,
            line_length (codes "proof" ∷ decimal (length tokens) ∷ []) (map token_words tokens),
            word_length (codes "proof") (decimal (length tokens) ∷ []),
            digits,
            each_short AnyToken SpellsToken token_words 2 tokens_written tokens within,
            few,
          );
    }

-- a plan and a proof

proved_written : (n : ℕ) (c : Claimed (List ℕ)) (tokens : List Bool) → Writes SpellChoice (choice_lines c.stated c.plan) c 10000 → Writes SpellProof (proof_lines tokens) tokens 4194320
    → Writes SpellProved (choice_lines c.stated c.plan ++ proof_lines tokens) (c, tokens) 4204320
proved_written n c tokens v w =
    let ls = choice_lines c.stated c.plan in
    let ks = proof_lines tokens in
    record {
      plain = plain-append ls ks v.plain w.plain;
      means = λ k. record { prefix = lines_from k ls; suffix = lines_from (k + length ls) ks; lines_are = lines_from-append k ls ks; first = v.means k; second = w.means (k + length ls) };
      short = omega (arith, ap length (lines_text-append ls ks), length-append (lines_text ls) (lines_text ks), v.short, w.short);
    }

pub proof_text_is_read : (i : Instance) (c : Claimed (List ℕ)) (tokens : List Bool) → IsInstance i → c.stated ≤ max_stated → AreNumbers 0 (length i.items) c.plan
    → 1 ≤ length tokens → length tokens ≤ proof_limit → proof_of (knapsack_text i ++ proof_text c tokens) ≡ Ok (i, (c, tokens))
proof_text_is_read i c tokens limits stated are some few =
    let v = instance_written i limits in
    let w = proved_written (length i.items) c tokens (choice_written (length i.items) c limits.count stated are) (proof_written tokens few) in
    proof_is_read (knapsack_text i ++ proof_text c tokens) i c tokens
    (record {
      size = two_short SpellKnapsack SpellProved (knapsack_lines i) (choice_lines c.stated c.plan ++ proof_lines tokens) i (c, tokens) 20500 4204320 v w (omega arith);
      lines = two_texts SpellKnapsack SpellProved (knapsack_lines i) (choice_lines c.stated c.plan ++ proof_lines tokens) i (c, tokens) 20500 4204320 v w;
      limits = limits;
      stated = stated;
      shape = are;
      some = some;
      few = few;
    })

-- behind any text of the instance
pub proof_behind_is_read : (bytes : List ℕ) (i : Instance) (c : Claimed (List ℕ)) (tokens : List Bool) → IsKnapsackText (bytes ++ 10 ∷ []) i → c.stated ≤ max_stated → AreNumbers 0 (length i.items) c.plan
    → 1 ≤ length tokens → length tokens ≤ proof_limit → length (bytes ++ 10 ∷ proof_text c tokens) ≤ longest_input → proof_of (bytes ++ 10 ∷ proof_text c tokens) ≡ Ok (i, (c, tokens))
proof_behind_is_read bytes i c tokens text stated are some few size =
    let w = proved_written (length i.items) c tokens (choice_written (length i.items) c text.limits.count stated are) (proof_written tokens few) in
    proof_is_read (bytes ++ 10 ∷ proof_text c tokens) i c tokens
    (record {
      size = size;
      lines = text_behind SpellKnapsack SpellProved bytes (choice_lines c.stated c.plan ++ proof_lines tokens) i (c, tokens) 4204320 text.lines w;
      limits = text.limits;
      stated = stated;
      shape = are;
      some = some;
      few = few;
    })
