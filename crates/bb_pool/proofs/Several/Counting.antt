-- What is counted of a worker, by each step that it makes.
use Rattle.std.proofs.Common.{◌≡◌, ℕ, ◌+◌, ◌≤◌, List, [], ◌∷◌, ◌++◌, Option, refl, sym, ap, ◌∙◌, subst, arith, length-append}
use Rattle.pq_words.specs.declared.entries.Entry.{Entry}
use Rattle.pq_model.specs.declared.marks.Act.{Act}
use Rattle.pq_model.specs.declared.marks.Act.TheVariants.{Insert, Remove, RemoveBelow}
use Rattle.pq_model.specs.declared.marks.Reply.{Reply}
use Rattle.pq_model.specs.declared.marks.Reply.TheVariants as replies
use Rattle.pq_model.specs.declared.passes.Call.{Call}
use Rattle.pq_model.specs.declared.passes.Known.{Known}
use Rattle.pq_model.specs.Passes.{call, lanes, with_call, joined_with}
use Rattle.bb_problem.specs.Tree.{total}
use Rattle.bb_shared.specs.declared.store.stored.Numbered.{Numbered}
use Rattle.pq_numbers.specs.declared.draws.Draw.{Draw}
use Rattle.bb_shared.specs.declared.store.stored.Stored.{Stored}
use Rattle.bb_shared.specs.declared.control.told.Told.{Told}
use Rattle.bb_shared.specs.Stores.{KnowsStore, with_draw, with_put, with_take}
use Rattle.bb_shared.specs.Controls.{IsRead}
use Rattle.bb_pool.specs.declared.found.Found.{Found}
use Rattle.bb_pool.specs.Room.{done, inserts_of, all_inserts}
use Rattle.bb_pool.specs.Together.{Doing, IsCounted, CanGoOn, GoesOn}
use Rattle.bb_pool.proofs.Members.{Contains-left}
use Rattle.bb_pool.proofs.Several.Turning.{call_grows}

pub total-append : {X : Type 0} (f : X → ℕ) (xs ys : List X) → total f (xs ++ ys) ≡ total f xs + total f ys
total-append f [] ys = omega arith
total-append f (x ∷ xs) ys = let rest = total-append f xs ys in omega arith

-- a call adds what it inserted
pub inserts_call : (k : Known) (place : ℕ) (act : Act) (reply : Reply) → all_inserts (with_call k place act reply) ≡ all_inserts k + done act reply
inserts_call k place act reply = let more = total-append (λ (c : Call). done c.act c.reply) k.calls (call place act reply ∷ []) in omega arith

pub inserts_joined : (k other : Known) → all_inserts (joined_with k other) ≡ all_inserts k + all_inserts other
inserts_joined k other = let more = total-append inserts_of k.joined (lanes other) in omega arith

pub one_at_most : (act : Act) (reply : Reply) → done act reply ≤ 1
one_at_most (Insert e) replies.Done = omega arith
one_at_most (Insert e) (replies.Got x) = omega arith
one_at_most (Insert e) replies.Full = omega arith
one_at_most (Insert e) replies.Empty = omega arith
one_at_most (Insert e) replies.Above = omega arith
one_at_most Remove replies.Done = omega arith
one_at_most Remove (replies.Got x) = omega arith
one_at_most Remove replies.Full = omega arith
one_at_most Remove replies.Empty = omega arith
one_at_most Remove replies.Above = omega arith
one_at_most (RemoveBelow k) replies.Done = omega arith
one_at_most (RemoveBelow k) (replies.Got x) = omega arith
one_at_most (RemoveBelow k) replies.Full = omega arith
one_at_most (RemoveBelow k) replies.Empty = omega arith
one_at_most (RemoveBelow k) replies.Above = omega arith

-- What steps on the control leave as it was.
pub record IsSame (c d : Told) : Type 0 where
  pub seats : d.seats ≡ c.seats
  pub parts : d.parts ≡ c.parts
  pub stops : d.stops ≡ c.stops
  pub turns : c.opened + d.closed ≤ d.opened + c.closed

pub same_read : (c d : Told) (r : Option ℕ) → IsRead c r d → IsSame c d
same_read c d r is = record {
  seats = ap (λ (z : Told). z.seats) is.is;
  parts = ap (λ (z : Told). z.parts) is.is;
  stops = ap (λ (z : Told). z.stops) is.is;
  turns = let a = ap (λ (z : Told). z.opened) is.is in let b = ap (λ (z : Told). z.closed) is.is in omega arith;
}

module _ {N L : Type 0} where
  abbrev pub state : Known → Stored N → Told → Option (Found L) → ℕ → Doing N L
  state k s c found made = record { known = k; stored = s; told = c; found = found; made = made }

  -- the same by equal values
  pub moved : (P : Doing N L → Type 0) {k now : Known} {s t : Stored N} {c d : Told} {found : Option (Found L)} {made : ℕ} → now ≡ k → t ≡ s → d ≡ c → P (state k s c found made) → P (state now t d found made)
  moved P {found} {made} a b e p = subst P (λ i. state (sym a i) (sym b i) (sym e i) found made) p

  -- and of a state that has these values
  pub reached : (P : Doing N L → Type 0) {w : Doing N L} {k : Known} {s : Stored N} {c : Told} {found : Option (Found L)} {made : ℕ} → w.known ≡ k → w.stored ≡ s → w.told ≡ c → w.found ≡ found → w.made ≡ made → P (state k s c found made) → P w
  reached P a b d e f p = subst P (λ i. state (sym a i) (sym b i) (sym d i) (sym e i) (sym f i)) p

  pub can_go_on : (nodes : ℕ) (v w : Doing N L) → GoesOn nodes 0 v w → CanGoOn nodes v → CanGoOn nodes w
  can_go_on nodes v w g (idle, le, c) = (idle, le, g.counted idle idle (omega arith) c)

  pub goes_nowhere : (nodes : ℕ) (v : Doing N L) → GoesOn nodes 0 v v
  goes_nowhere nodes v = record {
    follows = record {
      numbers_are = refl;
      calls = λ a r x. x;
      puts = λ p x. x;
      seats = refl;
      parts = refl;
      control_seats = refl;
      control_parts = refl;
      stops = refl;
      turns = omega arith;
    };
    counted = λ idle after is c. subst (λ (n : ℕ). IsCounted nodes n v) (let e : idle ≡ after = omega arith in e) c;
  }

  -- one step after another, of which the last may be a call that found nothing
  pub goes_further : {nodes more : ℕ} {u v w : Doing N L} → GoesOn nodes 0 u v → GoesOn nodes more v w → GoesOn nodes more u w
  goes_further a b = record {
    follows = record {
      numbers_are = b.follows.numbers_are ∙ a.follows.numbers_are;
      calls = λ x r made. b.follows.calls x r (a.follows.calls x r made);
      puts = λ p there. b.follows.puts p (a.follows.puts p there);
      seats = b.follows.seats ∙ a.follows.seats;
      parts = b.follows.parts ∙ a.follows.parts;
      control_seats = b.follows.control_seats ∙ a.follows.control_seats;
      control_parts = b.follows.control_parts ∙ a.follows.control_parts;
      stops = b.follows.stops ∙ a.follows.stops;
      turns = let x = a.follows.turns in let y = b.follows.turns in omega arith;
    };
    counted = λ idle after is c. b.counted idle after is (a.counted idle idle (omega arith) c);
  }

  -- a step on the control
  pub goes_told : (nodes : ℕ) (k : Known) (s : Stored N) (c d : Told) (found best : Option (Found L)) (made : ℕ) → IsSame c d → GoesOn nodes 0 (state k s c found made) (state k s d best made)
  goes_told nodes k s c d found best made same = record {
    follows = record {
      numbers_are = refl;
      calls = λ a r x. x;
      puts = λ p x. x;
      seats = refl;
      parts = refl;
      control_seats = same.seats;
      control_parts = same.parts;
      stops = same.stops;
      turns = same.turns;
    };
    counted = λ idle after is x. record {
      knows = x.knows;
      made_is = x.made_is;
      few = let few = x.few in omega arith;
      inserts = x.inserts;
      turns = let a = x.turns in let b = same.turns in omega arith;
    };
  }

  -- numbers are drawn
  pub goes_drawn : (nodes : ℕ) (k : Known) (s : Stored N) (c : Told) (found : Option (Found L)) (made : ℕ) (d : Draw) → KnowsStore nodes (with_draw s d) → GoesOn nodes 0 (state k s c found made) (state k (with_draw s d) c found made)
  goes_drawn nodes k s c found made d knows = record {
    follows = record {
      numbers_are = refl;
      calls = λ a r x. x;
      puts = λ p x. x;
      seats = refl;
      parts = refl;
      control_seats = refl;
      control_parts = refl;
      stops = refl;
      turns = omega arith;
    };
    counted = λ idle after is x. record { knows = knows; made_is = x.made_is; few = let few = x.few in omega arith; inserts = x.inserts; turns = x.turns };
  }

  -- a call is made, for a node that was put
  pub goes_put : (nodes : ℕ) (k : Known) (s : Stored N) (c : Told) (found : Option (Found L)) (made place : ℕ) (act : Act) (reply : Reply) (p : Numbered N) → KnowsStore nodes (with_put s p)
      → GoesOn nodes 0 (state k s c found made) (state (with_call k place act reply) (with_put s p) c found (made + 1))
  goes_put nodes k s c found made place act reply p knows = record {
    follows = record {
      numbers_are = refl;
      calls = call_grows k place act reply;
      puts = λ q there. Contains-left q s.puts (p ∷ []) there;
      seats = refl;
      parts = refl;
      control_seats = refl;
      control_parts = refl;
      stops = refl;
      turns = omega arith;
    };
    counted = λ idle after is x. let long = length-append s.puts (p ∷ []) in let calls = length-append k.calls (call place act reply ∷ []) in record {
      knows = knows;
      made_is = let counted = x.made_is in omega arith;
      few = let few = x.few in omega arith;
      inserts = let before = x.inserts in let more = inserts_call k place act reply in let one = one_at_most act reply in omega arith;
      turns = x.turns;
    };
  }

  -- a call is made, and the node taken
  pub goes_taken : (nodes : ℕ) (k : Known) (s : Stored N) (c d : Told) (found : Option (Found L)) (made place limit : ℕ) (e : Entry) (p : Numbered N) → IsSame c d → KnowsStore nodes (with_take s p)
      → GoesOn nodes 0 (state k s c found made) (state (with_call k place (RemoveBelow limit) (replies.Got e)) (with_take s p) d found (made + 1))
  goes_taken nodes k s c d found made place limit e p same knows = record {
    follows = record {
      numbers_are = refl;
      calls = call_grows k place (RemoveBelow limit) (replies.Got e);
      puts = λ q there. there;
      seats = refl;
      parts = refl;
      control_seats = same.seats;
      control_parts = same.parts;
      stops = same.stops;
      turns = same.turns;
    };
    counted = λ idle after is x. let long = length-append s.takes (p ∷ []) in let calls = length-append k.calls (call place (RemoveBelow limit) (replies.Got e) ∷ []) in record {
      knows = knows;
      made_is = let counted = x.made_is in omega arith;
      few = let few = x.few in omega arith;
      inserts = let before = x.inserts in let more = inserts_call k place (RemoveBelow limit) (replies.Got e) in omega arith;
      turns = let a = x.turns in let b = same.turns in omega arith;
    };
  }

  -- a call is made that found nothing
  pub goes_idle : (nodes : ℕ) (k : Known) (s : Stored N) (c d : Told) (found : Option (Found L)) (made place limit : ℕ) (reply : Reply) → IsSame c d
      → GoesOn nodes 1 (state k s c found made) (state (with_call k place (RemoveBelow limit) reply) s d found (made + 1))
  goes_idle nodes k s c d found made place limit reply same = record {
    follows = record {
      numbers_are = refl;
      calls = call_grows k place (RemoveBelow limit) reply;
      puts = λ q there. there;
      seats = refl;
      parts = refl;
      control_seats = same.seats;
      control_parts = same.parts;
      stops = same.stops;
      turns = same.turns;
    };
    counted = λ idle after is x. let calls = length-append k.calls (call place (RemoveBelow limit) reply ∷ []) in record {
      knows = x.knows;
      made_is = let counted = x.made_is in omega arith;
      few = let few = x.few in omega arith;
      inserts = let before = x.inserts in let more = inserts_call k place (RemoveBelow limit) reply in omega arith;
      turns = let a = x.turns in let b = same.turns in omega arith;
    };
  }
