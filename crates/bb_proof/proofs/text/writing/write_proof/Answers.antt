use Rattle.std.proofs.Common.{◌≡◌, ℕ, ◌+◌, ◌<◌, Bool, true, false, cond, List, [], ◌∷◌, ◌++◌, length, take, map, get_or, codes, decimal, refl, sym, ap, ◌∙◌}
use Rattle.std.proofs.lemmas.List.{take_more, map-append, append_assoc}
use Rattle.pq_io.specs.Writing.{lines_text}
use Rattle.inst_text.specs.Knapsack.{choice_lines}
use Rattle.inst_text.proofs.Written.{lines_text-append}
use Rattle.bb_proof.specs.Texts.{token_words}
use Rattle.bb_proof.proofs.text.writing.write_proof.Goals as goal
use Rattle.bb_proof.proofs.text.writing.write_proof.Goals.{then-token, else-token}

token_line : (token : Bool) → lines_text (token_words token ∷ []) ≡ cond token 98 99 ∷ 10 ∷ []
token_line true = refl
token_line false = refl

-- the line of one token more
one_more : (ls : List (List (List ℕ))) (tokens : List Bool) (k : ℕ) → k < length tokens
    → lines_text (ls ++ map token_words (take (k + 1) tokens)) ≡ (lines_text (ls ++ map token_words (take k tokens)) ++ cond (get_or tokens k false) 98 99 ∷ []) ++ 10 ∷ []
one_more ls tokens k inside =
    let before = map token_words (take k tokens) in
    let token = get_or tokens k false in
    ap (λ ts. lines_text (ls ++ map token_words ts)) (take_more tokens k false inside)
    ∙ ap (λ ms. lines_text (ls ++ ms)) (map-append token_words (take k tokens) (token ∷ []))
    ∙ ap lines_text (sym (append_assoc ls before (token_words token ∷ [])))
    ∙ lines_text-append (ls ++ before) (token_words token ∷ [])
    ∙ ap (λ bs. lines_text (ls ++ before) ++ bs) (token_line token)
    ∙ sym (append_assoc (lines_text (ls ++ before)) (cond token 98 99 ∷ []) (10 ∷ []))

pub loop-token-preserved : goal.loop-token-preserved
loop-token-preserved c =
    let ls = choice_lines c.args.claimed.now.stated c.args.claimed.now.plan ++ (codes "proof" ∷ decimal (length c.args.proof.now) ∷ []) ∷ [] in
    let tokens = c.deref-token-items.result.now in
    let k = c.loop-token.token-index in
    let byte : c.if-token.push ≡ cond (get_or tokens k false) 98 99 = elim c.if-token.branch [
      | then-token w ↦ w.push-is ∙ ap (λ b. cond b 98 99) (sym w.if-token.true)
      | else-token w ↦ w.push-is ∙ ap (λ b. cond b 98 99) (sym w.if-token.false)
    ] in
    c.in_ok-push-3.ensures.items
    ∙ ap (λ bs. bs ++ 10 ∷ []) (c.in_ok-push-2.ensures.items ∙ ap (λ b. c.loop-token.text.items ++ b ∷ []) byte
    ∙ ap (λ bs. bs ++ cond (get_or tokens k false) 98 99 ∷ []) c.loop-token.invariant)
    ∙ sym (one_more ls tokens k c.loop-token-test.true)
