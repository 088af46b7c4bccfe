use Rattle.std.proofs.Common.{◌≡◌, ◌++◌, ◌∷◌, [], length, take, map, codes, decimal}
use Rattle.pq_io.specs.Writing.{lines_text}
use Rattle.inst_text.specs.Knapsack.{choice_lines}
use Rattle.bb_proof.specs.Texts.{token_words}
use Rattle.bb_proof.proofs.text.writing.write_proof.Given as goal

-- the plan and the first tokens
abbrev pub invariant-loop-token : goal.invariant-loop-token
invariant-loop-token l =
    l.text.items ≡ lines_text (choice_lines l.claimed.stated l.claimed.plan ++ (codes "proof" ∷ decimal (length l.proof) ∷ []) ∷ map token_words (take l.token-index l.token-items))
