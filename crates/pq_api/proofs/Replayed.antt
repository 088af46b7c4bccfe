-- What the replay of a legal history says of its sizes and its marks.
use Rattle.std.proofs.Common.{◌≡◌, ℕ, ◌≤◌, List, [], ◌∷◌, length, take, Some, refl, sym, ap, ◌∙◌, subst, arith}
use Rattle.std.proofs.Math.Seq.{take-length}
use Rattle.std.specs.Prelude.{◌↔◌, slice_get}
use Rattle.std.proofs.lemmas.Option.{slice_get_within}
use Rattle.pq_words.specs.declared.entries.Entry.{Entry}
use Rattle.pq_model.specs.declared.marks.Act.{Act}
use Rattle.pq_model.specs.declared.marks.Act.TheVariants.{Insert, Remove, RemoveBelow}
use Rattle.pq_model.specs.declared.marks.Reply.{Reply}
use Rattle.pq_model.specs.declared.marks.Reply.TheVariants.{Done, Got, Empty, Full, Above}
use Rattle.pq_model.specs.declared.marks.Mark.{Mark}
use Rattle.pq_model.specs.Multiset.{without_least}
use Rattle.pq_model.specs.History.{IsStep, after, IsLegalFrom, left_from, left, IsLegal}
use Rattle.pq_api.specs.Laws.{IsAnsweredBelow}
use Rattle.pq_model.proofs.Multisets.{length-add}
use Rattle.pq_model.proofs.Replays.{step_at}

length-without_least : (m : List Entry) → length (without_least m) ≤ length m
length-without_least [] = omega arith
length-without_least (x ∷ xs) = omega arith

size_after : (s c : ℕ) (m : List Entry) (act : Act) (reply : Reply) → length m ≤ c → IsStep s c m act reply → length (after m act reply) ≤ c
size_after s c m (Insert e) Done le step = omega (arith, length-add e m)
size_after s c m (Insert e) Full le step = le
size_after s c m (Insert e) (Got x) le step = absurd step
size_after s c m (Insert e) Empty le step = absurd step
size_after s c m (Insert e) Above le step = absurd step
size_after s c m Remove (Got e) le step = omega (arith, length-without_least m)
size_after s c m Remove Empty le step = le
size_after s c m Remove Done le step = absurd step
size_after s c m Remove Full le step = absurd step
size_after s c m Remove Above le step = absurd step
size_after s c m (RemoveBelow limit) (Got e) le step = omega (arith, length-without_least m)
size_after s c m (RemoveBelow limit) Empty le step = le
size_after s c m (RemoveBelow limit) Above le step = le
size_after s c m (RemoveBelow limit) Done le step = absurd step
size_after s c m (RemoveBelow limit) Full le step = absurd step

size_left : (s c : ℕ) (m : List Entry) (history : List Mark) → length m ≤ c → IsLegalFrom s c m history → length (left_from m history) ≤ c
size_left s c m [] le legal = le
size_left s c m (x ∷ xs) le legal = size_left s c (after m x.act x.reply) xs (size_after s c m x.act x.reply le legal.0) legal.1

-- a legal history never leaves more than the capacity
pub size_bounded : (s c : ℕ) (history : List Mark) → IsLegal s c history → length (left history) ≤ c
size_bounded s c history legal = size_left s c [] history (omega arith) legal.steps

-- the mark at a place is a step from what those before it leave
pub step_there : (s c place : ℕ) (history : List Mark) (x : Mark) → IsLegal s c history → slice_get history place ≡ Some x → IsStep s c (left (take place history)) x.act x.reply
step_there s c place history x legal is = step_at s c [] history place (length history) x (slice_get_within history place x is) is
    (subst (λ (h : List Mark). IsLegalFrom s c [] h) (sym (take-length history)) legal.steps)

pub full_exactly : (c : ℕ) (m : List Entry) (e : Entry) (reply : Reply) → length m ≤ c → IsStep 1 c m (Insert e) reply → (reply ≡ Full) ↔ (length m ≡ c)
full_exactly c m e Done le step = (λ is. absurd (cc), λ is. absurd (omega arith))
full_exactly c m e Full le step = (λ is. omega arith, λ is. refl)
full_exactly c m e (Got x) le step = absurd step
full_exactly c m e Empty le step = absurd step
full_exactly c m e Above le step = absurd step

pub empty_exactly : (s c : ℕ) (m : List Entry) (reply : Reply) → IsStep s c m Remove reply → (reply ≡ Empty) ↔ (m ≡ [])
empty_exactly s c [] (Got x) step = absurd (cc)
empty_exactly s c (y ∷ m) (Got x) step = (λ is. absurd (cc), λ is. absurd (cc))
empty_exactly s c m Empty step = (λ is. step, λ is. refl)
empty_exactly s c m Done step = absurd step
empty_exactly s c m Full step = absurd step
empty_exactly s c m Above step = absurd step

pub below_exactly : (s c limit : ℕ) (m : List Entry) (reply : Reply) → IsStep s c m (RemoveBelow limit) reply → IsAnsweredBelow limit m reply
below_exactly s c limit [] (Got x) step = absurd (let is = step.0 in cc)
below_exactly s c limit (y ∷ m) (Got x) step = let same : y ≡ x = (let is = step.0 in cc) in let keys = ap (λ (e : Entry). e.key) same in let key = step.1 in record {
  empty = (λ is. absurd (cc), λ is. absurd (cc));
  above = (λ is. absurd (cc), λ over. absurd (omega arith));
  got = λ e. (λ is. let one : x ≡ e = cc in (ap Some (same ∙ one), let ones = ap (λ (z : Entry). z.key) one in omega arith), λ is. let first : Some y ≡ Some e = is.0 in cc);
}
below_exactly s c limit [] Empty step = record {
  empty = (λ is. step, λ is. refl);
  above = (λ is. absurd (cc), λ none. absurd none);
  got = λ e. (λ is. absurd (cc), λ is. absurd (let first = is.0 in cc));
}
below_exactly s c limit (y ∷ m) Empty step = absurd (cc)
below_exactly s c limit [] Above step = absurd step
below_exactly s c limit (y ∷ m) Above step = record {
  empty = (λ is. absurd (cc), λ is. absurd (cc));
  above = (λ is. step, λ is. refl);
  got = λ e. (λ is. absurd (cc), λ is. let first : Some y ≡ Some e = is.0 in let same : y ≡ e = cc in let keys = ap (λ (z : Entry). z.key) same in let key = is.1 in absurd (omega arith));
}
below_exactly s c limit m Done step = absurd step
below_exactly s c limit m Full step = absurd step
