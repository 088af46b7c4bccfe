-- Where all calls are one pass's, the place of a call is the number of calls before it.
use Rattle.std.proofs.Common.{◌≡◌, ℕ, ◌+◌, List, [], ◌∷◌, ◌++◌, length, map, sym, ap, ◌∙◌, subst, arith}
use Rattle.std.proofs.lemmas.List.Elements.{All-head}
use Rattle.pq_model.specs.declared.marks.Act.{Act}
use Rattle.pq_model.specs.declared.marks.Reply.{Reply}
use Rattle.pq_model.specs.declared.marks.Mark.{Mark}
use Rattle.pq_model.specs.declared.passes.Call.{Call}
use Rattle.pq_model.specs.declared.passes.Lane.{Lane}
use Rattle.pq_model.specs.declared.passes.Known.{Known}
use Rattle.pq_model.specs.History.{mark}
use Rattle.pq_model.specs.Passes.{call, calls_from, calls_of, lane, Knows, with_call}
use Rattle.pq_model.proofs.Lanes.{calls_from-own}
use Rattle.pq_api.specs.Plain.{marks_of}
use Rattle.pq_api.specs.Laws.{OneSeatHasMadeAll}

-- the marks made of calls give the calls back only where the last has its place
last_place : (n from : ℕ) (before : List Call) (c : Call) → calls_from n from (map (λ (d : Call). mark n d.act d.reply) (before ++ c ∷ [])) ≡ before ++ c ∷ [] → c.place ≡ from + length before
last_place n from [] c same = let own = calls_from-own from (mark n c.act c.reply) [] in
    let first : call from c.act c.reply ∷ [] ≡ c ∷ [] = sym own ∙ same in
    let is : call from c.act c.reply ≡ c = cc in let place = ap (λ (d : Call). d.place) is in omega arith
last_place n from (b ∷ before) c same = let rest : List Mark = map (λ (d : Call). mark n d.act d.reply) (before ++ c ∷ []) in
    let own = calls_from-own from (mark n b.act b.reply) rest in
    let first : call from b.act b.reply ∷ calls_from n (from + 1) rest ≡ b ∷ (before ++ c ∷ []) = sym own ∙ same in
    let tail : calls_from n (from + 1) rest ≡ before ++ c ∷ [] = cc in
    let place = last_place n (from + 1) before c tail in omega arith

-- the place of the call that a pass has just made
pub place_made : (capacity place : ℕ) (before now : Known) (act : Act) (reply : Reply) → OneSeatHasMadeAll → before.number ≡ 1 → now ≡ with_call before place act reply → Knows 1 capacity now → place ≡ length before.calls
place_made capacity place before now act reply alone one is (history, w) =
    let number : now.number ≡ 1 = ap (λ (k : Known). k.number) is ∙ one in
    let whole : history ≡ marks_of now = alone capacity now history w.legal w.holds number in
    let mine : calls_of now.number history ≡ now.calls = All-head (λ (l : Lane). calls_of l.number history ≡ l.calls) (lane now.number now.calls) now.joined w.holds in
    let own : calls_of now.number (marks_of now) ≡ now.calls = subst (λ (h : List Mark). calls_of now.number h ≡ now.calls) whole mine in
    let made : calls_of before.number (marks_of (with_call before place act reply)) ≡ (with_call before place act reply).calls = subst (λ (k : Known). calls_of k.number (marks_of k) ≡ k.calls) is own in
    let there = last_place before.number 0 before.calls (call place act reply) made in omega arith
