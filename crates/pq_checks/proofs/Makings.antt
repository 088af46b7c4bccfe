-- Calls made one after another, each as it is wanted.
use Rattle.std.proofs.Common.{◌≡◌, ℕ, zero, suc, ◌+◌, ◌<◌, List, [], ◌∷◌, ◌++◌, length, take, refl, ◌∙◌, ap, sym, subst, append_assoc, length-append, arith}
use Rattle.std.specs.Prelude.{Result, IfOk, Ok, Err}
use Rattle.pq_model.specs.declared.marks.Act.{Act}
use Rattle.pq_model.specs.declared.marks.Reply.{Reply}
use Rattle.pq_model.specs.declared.passes.Call.{Call}
use Rattle.pq_model.specs.declared.passes.Known.{Known}
use Rattle.pq_model.specs.Passes.{call}
use Rattle.pq_checks.specs.declared.wanted.Wanted.{Wanted}
use Rattle.pq_checks.specs.Checks.{asked, answered_from, IsWanted, AreWanted, HasMade}

-- the calls made first, and those made then
pub made_more : (before mid now : Known) (xs ys : List Call) → HasMade before xs mid → HasMade mid ys now → HasMade before (xs ++ ys) now
made_more before mid now xs ys h i = record {
  number = i.number ∙ h.number;
  joined = i.joined ∙ h.joined;
  calls = i.calls ∙ (ap (λ (cs : List Call). cs ++ ys) h.calls ∙ append_assoc before.calls xs ys);
}

pub wanted_append : (ws vs : List Wanted) (xs ys : List Call) → AreWanted ws xs → AreWanted vs ys → AreWanted (ws ++ vs) (xs ++ ys)
wanted_append [] vs [] ys h i = i
wanted_append [] vs (x ∷ xs) ys h i = absurd h
wanted_append (w ∷ ws) vs [] ys h i = absurd h
wanted_append (w ∷ ws) vs (x ∷ xs) ys h i = (h.0, wanted_append ws vs xs ys h.1 i)

pub answered_push : (n : ℕ) (acts : List Act) (replies : List Reply) (act : Act) (reply : Reply) → length acts ≡ length replies
    → answered_from n (acts ++ act ∷ []) (replies ++ reply ∷ []) ≡ answered_from n acts replies ++ call (n + length acts) (asked act) reply ∷ []
answered_push n [] [] act reply same = let z : n ≡ n + 0 = omega arith in ap (λ (m : ℕ). call m (asked act) reply ∷ []) z
answered_push n [] (r ∷ rs) act reply same = absurd (omega arith)
answered_push n (a ∷ acts) [] act reply same = absurd (omega arith)
answered_push n (a ∷ acts) (r ∷ rs) act reply same =
    let next : n + 1 + length acts ≡ n + suc (length acts) = omega arith in
    ap (λ (cs : List Call). call n (asked a) r ∷ cs) (answered_push (n + 1) acts rs act reply (omega arith)
    ∙ ap (λ (m : ℕ). answered_from (n + 1) acts rs ++ call m (asked act) reply ∷ []) next)

pub wanted_length : (ws : List Wanted) (cs : List Call) → AreWanted ws cs → length cs ≡ length ws
wanted_length [] [] h = refl
wanted_length [] (c ∷ cs) h = absurd h
wanted_length (w ∷ ws) [] h = absurd h
wanted_length (w ∷ ws) (c ∷ cs) h = ap suc (wanted_length ws cs h.1)

-- how many calls a pass has made
pub made_length : (before now : Known) (made : List Call) → HasMade before made now → length now.calls ≡ length before.calls + length made
made_length before now made h = ap length h.calls ∙ length-append before.calls made

-- one call more, at its place, of the acts and replies
pub answered_more : (before now : Known) (acts : List Act) (replies : List Reply) (act : Act) (reply : Reply) (i : ℕ) (c : Call)
    → HasMade before (c ∷ []) now → before.calls ≡ answered_from 0 acts replies → length acts ≡ i → length replies ≡ i
    → c.place ≡ i → c.act ≡ asked act → c.reply ≡ reply → now.calls ≡ answered_from 0 (acts ++ act ∷ []) (replies ++ reply ∷ [])
answered_more before now acts replies act reply i c made so_far count other place is_act is_reply =
    let at : c.place ≡ 0 + length acts = omega arith in
    let same : c ≡ call (0 + length acts) (asked act) reply =
    ap (λ (p : ℕ). call p c.act c.reply) at ∙ (ap (λ (a : Act). call (0 + length acts) a c.reply) is_act ∙ ap (λ (r : Reply). call (0 + length acts) (asked act) r) is_reply) in
    made.calls ∙ (ap (λ (cs : List Call). cs ++ c ∷ []) so_far ∙ (ap (λ (x : Call). answered_from 0 acts replies ++ x ∷ []) same
    ∙ sym (answered_push 0 acts replies act reply (count ∙ sym other))))

-- what holds of a success, where another fact does
pub if_ok : {X E : Type 0} (r : Result X E) (P Q : X → Type 0) → ((x : X) → P x → Q x) → IfOk r P → IfOk r Q
if_ok (Ok x) P Q f h = f x h
if_ok (Err e) P Q f h = tt
