-- What a check of a queue has made on it: its calls, and how each was answered.
use Rattle.std.specs.Prelude.{◌≡◌, ℕ, ◌+◌, ◌<◌, List, [], ◌∷◌, ◌++◌, length, All, min, IfSome}
use Rattle.pq_words.specs.Limits.{key_limit}
use Rattle.pq_model.specs.declared.marks.Act.{Act}
use Rattle.pq_model.specs.declared.marks.Act.TheVariants.{Insert, Remove, RemoveBelow}
use Rattle.pq_model.specs.declared.marks.Reply.{Reply}
use Rattle.pq_model.specs.declared.passes.Call.{Call}
use Rattle.pq_model.specs.declared.passes.Lane.{Lane}
use Rattle.pq_model.specs.declared.passes.Known.{Known}
use Rattle.pq_model.specs.Passes.{call, lane}
use Rattle.pq_checks.specs.declared.wanted.Wanted.{Wanted}

-- what a queue is asked: a limit above that of a key is taken as that
abbrev pub asked : Act → Act
asked (Insert e) = Insert e
asked Remove = Remove
asked (RemoveBelow limit) = RemoveBelow (min limit key_limit)

-- the call was asked so, and has the place and the reply that are wanted of it, where they are
pub record IsWanted (w : Wanted) (c : Call) : Type 0 where
  pub act : c.act ≡ asked w.act
  pub place : IfSome w.place (λ (place : ℕ). c.place ≡ place)
  pub reply : IfSome w.reply (λ (reply : Reply). c.reply ≡ reply)

-- the calls are these, each as it is wanted
abbrev pub AreWanted : List Wanted → List Call → Type 0
AreWanted [] [] = Unit {0}
AreWanted [] (c ∷ cs) = ⊥
AreWanted (w ∷ ws) [] = ⊥
AreWanted (w ∷ ws) (c ∷ cs) = IsWanted w c × AreWanted ws cs

-- the calls that are asked these acts and answered so, each with its number as its place, from this number on
abbrev pub answered_from : ℕ → List Act → List Reply → List Call
answered_from number [] replies = []
answered_from number (act ∷ acts) [] = []
answered_from number (act ∷ acts) (reply ∷ replies) =
    call number (asked act) reply ∷ answered_from (number + 1) acts replies

-- The calls of a seat of which the last is held: it is as wanted, and those before it were asked the same.
pub record AreHeld (most : ℕ) (w : Wanted) (calls : List Call) : Type 0 where
  pub early : List Call
  pub held : Call
  pub are : calls ≡ early ++ held ∷ []
  pub same : All (λ (c : Call). c.act ≡ asked w.act) early
  pub few : length early < most
  pub wanted : IsWanted w held

-- the pass has made these calls more, and no others
pub record HasMade (before : Known) (made : List Call) (now : Known) : Type 0 where
  pub number : now.number ≡ before.number
  pub joined : now.joined ≡ before.joined
  pub calls : now.calls ≡ before.calls ++ made

-- the first pass of a queue, into which none is joined
pub record IsAlone (k : Known) : Type 0 where
  pub number : k.number ≡ 1
  pub joined : k.joined ≡ []

-- no pass is joined into this one, and the tape has its calls
pub record IsTaped (k : Known) (tape : Lane) : Type 0 where
  pub alone : k.joined ≡ []
  pub same : tape ≡ lane k.number k.calls
