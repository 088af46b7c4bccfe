-- What a worker's run keeps of what it is together with, and what two have that are joined.
use Rattle.std.proofs.Common.{◌≡◌, ◌≢◌, ℕ, ◌+◌, ◌<◌, ◌≤◌, true, List, [], ◌∷◌, ◌++◌, length, length-append, map, Option, Some, None, refl, sym, ap, ◌∙◌, subst, inl, inr, arith}
use Rattle.std.specs.Prelude.{Contains, ◌⊎◌, nat_lt, if◌then◌else◌}
use Rattle.std.proofs.lemmas.Bool.{cases_lt}
use Rattle.std.proofs.lemmas.Bool.Decides.{nat_tests}
use Rattle.std.proofs.lemmas.List.Elements.{All-weaker, All-contains_itself}
use Rattle.pq_model.specs.declared.passes.Lane.{Lane}
use Rattle.pq_model.specs.declared.passes.Known.{Known}
use Rattle.pq_model.specs.Passes.{lanes, numbers, fresh, joined_with, Knows, IsApart}
use Rattle.pq_model.proofs.Fronts.{Witnesses-fresh}
use Rattle.bb_problem.specs.Meaning.{Meaning}
use Rattle.pq_numbers.specs.declared.draws.Draw.{Draw}
use Rattle.bb_shared.specs.declared.store.stored.Stored.{Stored}
use Rattle.bb_shared.specs.declared.control.told.Told.{Told}
use Rattle.bb_shared.specs.declared.control.stop.Stop.{Stop}
use Rattle.bb_shared.specs.declared.control.stop.Stop.TheVariants as stops
use Rattle.bb_shared.specs.Stores.{KnowsStore, numbered, with_draw, stores_joined, new_stored, new_store_seat}
use Rattle.pq_numbers.specs.Draws.{draw_of}
use Rattle.bb_shared.specs.Controls.{IsStopSet, IsStopRead, or_else, controls_joined, new_told, new_control_seat}
use Rattle.pq_model.specs.declared.marks.Act.TheVariants.{Insert}
use Rattle.pq_model.specs.declared.marks.Reply.TheVariants.{Done}
use Rattle.bb_pool.specs.declared.child.Child.{Child}
use Rattle.bb_pool.specs.Room.{all_inserts}
use Rattle.bb_pool.specs.Limits.{idle_calls}
use Rattle.bb_pool.specs.Working.{HasMade, IsRooted}
use Rattle.bb_pool.specs.Together.{Doing, AtWork, IsCounted, Follows, GoesOn, IsCause, IsNumbered, IsNew, HasBegun, IsTogether, doing, IsOneOf}
use Rattle.bb_pool.specs.declared.workers.shared.Worker.{Worker}
use Rattle.bb_pool.specs.declared.workers.shared.Shared.{Shared}
use Rattle.bb_pool.specs.Origins.{HasOrigins, HasOriginsFrom}
use Rattle.bb_pool.specs.Turns.{IsHalt, IsPut}
use Rattle.bb_pool.specs.Runs.{HasRun, HasStopped, IsStill, IsJoinedOf}
use Rattle.bb_pool.proofs.Members.{none_in_empty, Contains-here, Contains-cases, Contains-left, Contains-right, Contains-either}
use Rattle.bb_pool.proofs.Several.Turning.{rooted_more, call_made, joined_grows}
use Rattle.bb_pool.proofs.Several.Working.{cut_lowered, same_cut, work_drew, root_put, new_working, workers_joined}
use Rattle.bb_pool.proofs.Several.Origins.{traced_new, traced_joined}
use Rattle.bb_pool.proofs.Several.Counting.{reached, goes_further, inserts_joined}

module _ {N L : Type 0} where
  pub counted_more : {nodes idle more : ℕ} {w : Doing N L} → idle ≤ more → IsCounted nodes idle w → IsCounted nodes more w
  counted_more le c = record { knows = c.knows; made_is = c.made_is; few = let few = c.few in omega arith; inserts = c.inserts; turns = c.turns }

  -- a worker that found nothing, and whose pass has made few calls, is as one that has found little
  pub counted_again : {nodes idle : ℕ} {w : Doing N L} → w.made < idle_calls → IsCounted nodes idle w → IsCounted nodes idle_calls w
  counted_again lt c = record { knows = c.knows; made_is = c.made_is; few = omega arith; inserts = c.inserts; turns = c.turns }

  pub follows_itself : (v : Doing N L) → Follows v v
  follows_itself v = record {
    numbers_are = refl;
    calls = λ a r x. x;
    puts = λ p x. x;
    seats = refl;
    parts = refl;
    control_seats = refl;
    control_parts = refl;
    stops = refl;
    turns = omega arith;
  }

  pub follows_further : {u v w : Doing N L} → Follows u v → Follows v w → Follows u w
  follows_further a b = record {
    numbers_are = b.numbers_are ∙ a.numbers_are;
    calls = λ x r made. b.calls x r (a.calls x r made);
    puts = λ p there. b.puts p (a.puts p there);
    seats = b.seats ∙ a.seats;
    parts = b.parts ∙ a.parts;
    control_seats = b.control_seats ∙ a.control_seats;
    control_parts = b.control_parts ∙ a.control_parts;
    stops = b.stops ∙ a.stops;
    turns = let x = a.turns in let y = b.turns in omega arith;
  }

  -- a turn more
  pub turn_more : {m : Meaning N L} {nodes idle : ℕ} {u v w : Doing N L} → HasRun m nodes idle u v → GoesOn nodes 0 v w → AtWork m w → HasRun m nodes idle u w
  turn_more {idle = idle} r on work = record { follows = follows_further r.follows on.follows; counted = on.counted idle idle (omega arith) r.counted; working = work }

  pub idle_more : {m : Meaning N L} {nodes idle : ℕ} {u v w : Doing N L} → HasRun m nodes idle u v → GoesOn nodes 1 v w → AtWork m w → HasRun m nodes (idle + 1) u w
  idle_more {idle = idle} r on work = record { follows = follows_further r.follows on.follows; counted = on.counted idle (idle + 1) refl r.counted; working = work }

  -- the control was looked at
  pub still_run : {m : Meaning N L} {nodes idle : ℕ} {u w x : Doing N L} → HasRun m nodes idle u w → IsStill w.told x.told → x.known ≡ w.known → x.stored ≡ w.stored → x.found ≡ w.found → x.made ≡ w.made → HasRun m nodes idle u x
  still_run {m} {nodes} {idle} {u} {w} {x} r still known stored found made = reached (λ (y : Doing N L). HasRun m nodes idle u y) known stored refl found made (record {
    follows = let f = r.follows in record {
      numbers_are = f.numbers_are;
      calls = f.calls;
      puts = f.puts;
      seats = f.seats;
      parts = f.parts;
      control_seats = still.seats ∙ f.control_seats;
      control_parts = still.parts ∙ f.control_parts;
      stops = still.stops ∙ f.stops;
      turns = let t = f.turns in let a = still.opened in let b = still.closed in omega arith;
    };
    counted = let c = r.counted in record { knows = c.knows; made_is = c.made_is; few = c.few; inserts = c.inserts; turns = let t = c.turns in let a = still.opened in let b = still.closed in omega arith };
    working = cut_lowered m w.known w.stored w.told x.told w.found still.own (same_cut w.told x.told still.own still.read) r.working;
  })

  -- its pass has made few calls
  pub run_again : {m : Meaning N L} {nodes idle : ℕ} {u w : Doing N L} → w.made < idle_calls → HasRun m nodes idle u w → HasRun m nodes idle_calls u w
  run_again few r = record { follows = r.follows; counted = counted_again few r.counted; working = r.working }

  pub halted : {m : Meaning N L} {nodes idle : ℕ} {u v w : Doing N L} {stop : Stop} → idle ≤ idle_calls + 1 → HasRun m nodes idle u v → IsHalt nodes v w stop → HasStopped nodes u w stop
  halted {idle = idle} le r h = record {
    follows = follows_further r.follows h.0.follows;
    counted = counted_more le (h.0.counted idle idle (omega arith) r.counted);
    cause = h.1;
    tellable = h.2;
  }

  pub run_begun : {m : Meaning N L} {nodes idle : ℕ} {v : Doing N L} → IsCounted nodes idle v → AtWork m v → HasRun m nodes idle v v
  run_begun {v} counted work = record { follows = follows_itself v; counted = counted; working = work }

  -- it keeps its number
  pub numbered_more : {seats from to : ℕ} {v w : Doing N L} → Follows v w → IsNumbered seats from to v → IsNumbered seats from to w
  numbered_more f t = record {
    each = λ n le more. subst (λ (l : List ℕ). Contains l n) (sym f.numbers_are) (t.each n le more);
    only = λ n there. t.only n (subst (λ (l : List ℕ). Contains l n) f.numbers_are there);
    seats_are = f.seats ∙ t.seats_are;
    parts = let a = f.parts in let b = t.parts in omega arith;
    control_seats = f.control_seats ∙ t.control_seats;
    control_parts = let a = f.control_parts in let b = t.control_parts in omega arith;
  }

  -- a run has ended, without a stop
  pub run_ended : {m : Meaning N L} {nodes seats capacity idle from to : ℕ} {v w : Doing N L} → v.told.stops ≡ [] → HasRun m nodes (idle_calls + 1) v w → Knows seats capacity w.known → HasOriginsFrom m from w.stored → IsTogether m nodes seats capacity idle from to v → IsTogether m nodes seats capacity (idle_calls + 1) from to w
  run_ended {m} {nodes} {from} {to} {v} {w} none r knows traced t = let f = r.follows in record {
    numbered = numbered_more f t.numbered;
    counted = r.counted;
    causes = λ stop there. absurd (none_in_empty stop (subst (λ (l : List Stop). Contains l stop) (f.stops ∙ none) there));
    working = λ _. r.working;
    knows = knows;
    rooted = λ first _. rooted_more m v.known w.known v.stored.puts w.stored.puts f.calls f.puts (t.rooted first none);
    traced = traced;
    first = λ _. f.stops ∙ none;
  }

  -- a run has ended, and the stop is set
  pub run_stopped : {m : Meaning N L} {nodes seats capacity from to : ℕ} {v w x : Doing N L} {stop : Stop} → v.told.stops ≡ [] → HasStopped nodes v w stop → IsStopSet w.told stop x.told → x.known ≡ w.known → x.stored ≡ w.stored → x.made ≡ w.made → Knows seats capacity x.known
      → HasOriginsFrom m from w.stored → IsNumbered seats from to v → IsTogether m nodes seats capacity (idle_calls + 1) from to x
  run_stopped {m} {nodes} {v} {w} {x} {stop} none r set known stored made knows traced t = let f = r.follows in
      let listed : x.told.stops ≡ w.told.stops ++ stop ∷ [] = ap (λ (z : Told). z.stops) set.is in
      let alone : x.told.stops ≡ stop ∷ [] = listed ∙ ap (λ (l : List Stop). l ++ stop ∷ []) (f.stops ∙ none) in record {
        numbered = record {
          each = λ n le more. subst (λ (l : List ℕ). Contains l n) (sym (ap numbers known ∙ f.numbers_are)) (t.each n le more);
          only = λ n there. t.only n (subst (λ (l : List ℕ). Contains l n) (ap numbers known ∙ f.numbers_are) there);
          seats_are = ap (λ (s : Stored N). s.seats) stored ∙ (f.seats ∙ t.seats_are);
          parts = let e = ap (λ (s : Stored N). s.parts) stored in let a = f.parts in let b = t.parts in omega arith;
          control_seats = ap (λ (z : Told). z.seats) set.is ∙ (f.control_seats ∙ t.control_seats);
          control_parts = let e = ap (λ (z : Told). z.parts) set.is in let a = f.control_parts in let b = t.control_parts in omega arith;
        };
        counted = let c = r.counted in record {
          knows = subst (λ (s : Stored N). KnowsStore nodes s) (sym stored) c.knows;
          made_is = made ∙ (c.made_is ∙ ap (λ (k : Known). length k.calls) (sym known));
          few = let few = c.few in let a = ap (λ (s : Stored N). length s.takes) stored in let b = ap (λ (s : Stored N). length s.puts) stored in omega arith;
          inserts = let i = c.inserts in let a = ap all_inserts known in let b = ap (λ (s : Stored N). length s.puts) stored in omega arith;
          turns = let i = c.turns in let a = ap (λ (z : Told). z.opened) set.is in let b = ap (λ (z : Told). z.closed) set.is in omega arith;
        };
        causes = λ y there. elim (Contains-cases stop y [] (subst (λ (l : List Stop). Contains l y) alone there)) [
          | inl same ↦ subst (λ (z : Stop). IsCause nodes x.known x.stored.draws z) same (subst (λ (k : Known). IsCause nodes k x.stored.draws stop) (sym known) (subst (λ (s : Stored N). IsCause nodes w.known s.draws stop) (sym stored) r.cause))
          | inr nil ↦ absurd (none_in_empty y nil)
        ];
        working = λ nil. absurd (let e : stop ∷ [] ≡ [] = sym alone ∙ nil in cc);
        knows = knows;
        rooted = λ _ nil. absurd (let e : stop ∷ [] ≡ [] = sym alone ∙ nil in cc);
        traced = (traced.0, traced.1, subst (λ (s : Stored N). HasOrigins m traced.0 [] s) (sym stored) traced.2);
        first = λ nil. absurd (let e : Some set.first ≡ None = sym (ap (λ (z : Told). z.first) set.is) ∙ nil in cc);
      }

  -- a worker that has begun, and is not the first
  pub begun_together : {m : Meaning N L} {nodes seats capacity n : ℕ} {w : Doing N L} → n ≢ 1 → HasBegun m nodes seats capacity n w → IsTogether m nodes seats capacity idle_calls n n w
  begun_together other b = record {
    numbered = b.numbered;
    counted = b.counted;
    causes = λ stop there. absurd (none_in_empty stop (subst (λ (l : List Stop). Contains l stop) b.none there));
    working = λ _. b.working;
    knows = b.knows;
    rooted = λ first _. absurd (other first);
    traced = (None, λ _. refl, b.traced);
    first = λ _. b.none;
  }

  -- the first, which has put the root
  pub root_together : {m : Meaning N L} {nodes seats capacity : ℕ} {v w : Doing N L} → HasRun m nodes idle_calls v w → Knows seats capacity w.known → IsRooted m w.known w.stored.puts → HasOriginsFrom m 1 w.stored → HasBegun m nodes seats capacity 1 v → IsTogether m nodes seats capacity idle_calls 1 1 w
  root_together r knows rooted traced b = record {
    numbered = numbered_more r.follows b.numbered;
    counted = r.counted;
    causes = λ stop there. absurd (none_in_empty stop (subst (λ (l : List Stop). Contains l stop) (r.follows.stops ∙ b.none) there));
    working = λ _. r.working;
    knows = knows;
    rooted = λ _ _. rooted;
    traced = traced;
    first = λ _. r.follows.stops ∙ b.none;
  }

  pub together_more : {m : Meaning N L} {nodes seats capacity idle more from to : ℕ} {w : Doing N L} → idle ≤ more → IsTogether m nodes seats capacity idle from to w → IsTogether m nodes seats capacity more from to w
  together_more le t = record { numbered = t.numbered; counted = counted_more le t.counted; causes = t.causes; working = t.working; knows = t.knows; rooted = t.rooted; traced = t.traced; first = t.first }

-- a first stop is known, or none is
known_first : (first : Option Stop) → (first ≡ None) ⊎ ((stop : Stop) × (first ≡ Some stop))
known_first None = inl refl
known_first (Some stop) = inr (stop, refl)

none_first : (a b : Option Stop) → or_else a b ≡ None → (a ≡ None) × (b ≡ None)
none_first None b is = (refl, is)
none_first (Some stop) b is = absurd (cc)

-- the stop was read
pub stop_read_together : {N L : Type 0} {m : Meaning N L} {nodes seats capacity idle from to : ℕ} {w x : Doing N L} {r : Option Stop} → IsStopRead w.told r x.told → x.known ≡ w.known → x.stored ≡ w.stored → x.found ≡ w.found → x.made ≡ w.made
    → IsTogether m nodes seats capacity idle from to w → IsTogether m nodes seats capacity idle from to x
stop_read_together {N} {L} {m} {nodes} {seats} {capacity} {idle} {from} {to} {w} {x} is known stored found made t =
    let same_stops : x.told.stops ≡ w.told.stops = ap (λ (z : Told). z.stops) is.is in
    reached (IsTogether m nodes seats capacity idle from to) known stored refl found made (record {
      numbered = let n = t.numbered in record {
        each = n.each;
        only = n.only;
        seats_are = n.seats_are;
        parts = n.parts;
        control_seats = ap (λ (z : Told). z.seats) is.is ∙ n.control_seats;
        control_parts = let e = ap (λ (z : Told). z.parts) is.is in let p = n.control_parts in omega arith;
      };
      counted = let c = t.counted in record { knows = c.knows; made_is = c.made_is; few = c.few; inserts = c.inserts; turns = let i = c.turns in let a = ap (λ (z : Told). z.opened) is.is in let b = ap (λ (z : Told). z.closed) is.is in omega arith };
      causes = λ stop there. t.causes stop (subst (λ (l : List Stop). Contains l stop) same_stops there);
      working = λ nil. cut_lowered m w.known w.stored w.told x.told w.found (ap (λ (z : Told). z.own) is.is) (same_cut w.told x.told (ap (λ (z : Told). z.own) is.is) (ap (λ (z : Told). z.read) is.is)) (t.working (sym same_stops ∙ nil));
      knows = t.knows;
      rooted = λ first nil. t.rooted first (sym same_stops ∙ nil);
      traced = t.traced;
      first = λ nil. elim (known_first w.told.first) [
        | inl none ↦ same_stops ∙ t.first none
        | inr knows ↦ absurd (let e : Some knows.0 ≡ None = sym (is.same knows.0 knows.1) ∙ (sym (ap (λ (z : Told). z.first) is.is) ∙ nil) in cc)
      ];
    })

-- what the numbers of two passes are that are joined
numbers_joined : (k other : Known) → numbers (joined_with k other) ≡ numbers k ++ numbers other
numbers_joined k other = mapped (lanes k) (lanes other)
  where
    mapped : (xs ys : List Lane) → map (λ (l : Lane). l.number) (xs ++ ys) ≡ map (λ (l : Lane). l.number) xs ++ map (λ (l : Lane). l.number) ys
    mapped [] ys = refl
    mapped (x ∷ xs) ys = ap (λ (l : List ℕ). x.number ∷ l) (mapped xs ys)

cause_more : (nodes : ℕ) (k now : Known) (draws more : List Draw) (stop : Stop) → ((l : Lane) → Contains (lanes k) l → Contains (lanes now) l) → ((d : Draw) → Contains draws d → Contains more d) → IsCause nodes k draws stop → IsCause nodes now more stop
cause_more nodes k now draws more (stops.NodeLimit asked) within drawn (over, d, has, low, is) = (over, d, drawn d has, low, is)
cause_more nodes k now draws more (stops.Full place) within drawn (e, l, has, there) = (e, l, within l has, there)
cause_more nodes k now draws more stops.NoMemory within drawn c = tt

none_left : {X : Type 0} (xs ys : List X) → xs ++ ys ≡ [] → (xs ≡ []) × (ys ≡ [])
none_left [] ys is = (refl, is)
none_left (x ∷ xs) ys is = absurd (cc)

pub are_apart : {N L : Type 0} {seats from to next last : ℕ} {v o : Doing N L} → to < next → IsNumbered seats from to v → IsNumbered seats next last o → IsApart v.known o.known
are_apart {to} {next} {v} {o} lt a b = All-weaker (Contains (numbers v.known)) (λ (n : ℕ). Contains (numbers o.known) n → ⊥)
    (λ n here there. let low = (a.only n here).1 in let high = (b.only n there).0 in omega arith) (numbers v.known) (All-contains_itself (numbers v.known))

-- the workers of the numbers after these are joined into them
pub together_joined : {N L : Type 0} {m : Meaning N L} {nodes seats capacity idle from to next last : ℕ} {v o w : Doing N L} → next ≡ to + 1 → 1 ≤ from → from ≤ to → IsJoinedOf nodes seats capacity v o w
    → IsTogether m nodes seats capacity idle from to v → IsTogether m nodes seats capacity idle next last o → IsTogether m nodes seats capacity idle from last w
together_joined {N} {L} {m} {nodes} {seats} {capacity} {idle} {from} {to} {next} {last} {v} {o} {w} after some up j a b =
    let names : numbers w.known ≡ numbers v.known ++ numbers o.known = ap numbers j.known ∙ numbers_joined v.known o.known in
    let stored : w.stored ≡ stores_joined v.stored o.stored = j.stored in
    let told : w.told ≡ controls_joined v.told o.told = j.told in
    let stopped : w.told.stops ≡ v.told.stops ++ o.told.stops = ap (λ (z : Told). z.stops) told in
    record {
      numbered = record {
        each = λ n le more. subst (λ (l : List ℕ). Contains l n) (sym names) (elim (cases_lt to n) [
          | inl lt ↦ Contains-right n (numbers v.known) (numbers o.known) (b.numbered.each n (omega arith) more)
          | inr low ↦ Contains-left n (numbers v.known) (numbers o.known) (a.numbered.each n le low)
        ]);
        only = λ n there. elim (Contains-either n (numbers v.known) (numbers o.known) (subst (λ (l : List ℕ). Contains l n) names there)) [
          | inl mine ↦ let x = a.numbered.only n mine in (x.0, (let low = x.1 in let y = b.numbered.parts in omega arith))
          | inr theirs ↦ let x = b.numbered.only n theirs in ((let high = x.0 in omega arith), x.1)
        ];
        seats_are = ap (λ (s : _). s.seats) stored ∙ a.numbered.seats_are;
        parts = let e = ap (λ (s : _). s.parts) stored in let x = a.numbered.parts in let y = b.numbered.parts in omega arith;
        control_seats = ap (λ (z : Told). z.seats) told ∙ a.numbered.control_seats;
        control_parts = let e = ap (λ (z : Told). z.parts) told in let x = a.numbered.control_parts in let y = b.numbered.control_parts in omega arith;
      };
      counted = let c = a.counted in let d = b.counted in record {
        knows = j.knows_store;
        made_is = j.made ∙ (c.made_is ∙ ap (λ (k : Known). length k.calls) (sym j.known));
        few = let few = c.few in let made = j.made in let x = ap (λ (s : _). length s.takes) stored in let y = ap (λ (s : _). length s.puts) stored in
            let p = length-append v.stored.takes o.stored.takes in let q = length-append v.stored.puts o.stored.puts in omega arith;
        inserts = let i = c.inserts in let k = d.inserts in let x = ap all_inserts j.known in let y = inserts_joined v.known o.known in let z = ap (λ (s : _). length s.puts) stored in
            let q = length-append v.stored.puts o.stored.puts in omega arith;
        turns = let i = c.turns in let k = d.turns in let x = ap (λ (z : Told). z.opened) told in let y = ap (λ (z : Told). z.closed) told in omega arith;
      };
      causes = λ stop there. subst (λ (k : Known). IsCause nodes k w.stored.draws stop) (sym j.known) (subst (λ (s : Stored N). IsCause nodes (joined_with v.known o.known) s.draws stop) (sym stored) (elim (Contains-either stop v.told.stops o.told.stops (subst (λ (l : List Stop). Contains l stop) stopped there)) [
        | inl mine ↦ cause_more nodes v.known (joined_with v.known o.known) v.stored.draws (v.stored.draws ++ o.stored.draws) stop (λ l has. Contains-left l (lanes v.known) (lanes o.known) has) (λ d has. Contains-left d v.stored.draws o.stored.draws has) (a.causes stop mine)
        | inr theirs ↦ cause_more nodes o.known (joined_with v.known o.known) o.stored.draws (v.stored.draws ++ o.stored.draws) stop (λ l has. Contains-right l (lanes v.known) (lanes o.known) has) (λ d has. Contains-right d v.stored.draws o.stored.draws has) (b.causes stop theirs)
      ]));
      working = λ nil. let both = none_left v.told.stops o.told.stops (sym stopped ∙ nil) in
          reached (AtWork m) j.known stored told j.found j.made (workers_joined m v.known o.known v.stored o.stored v.told o.told v.found o.found (a.working both.0) (b.working both.1));
      knows = j.knows;
      rooted = λ first nil. let both = none_left v.told.stops o.told.stops (sym stopped ∙ nil) in
          subst (λ (l : _). IsRooted m w.known l) (sym (ap (λ (s : _). s.puts) stored)) (subst (λ (k : Known). IsRooted m k (v.stored.puts ++ o.stored.puts)) (sym j.known)
          (rooted_more m v.known (joined_with v.known o.known) v.stored.puts (v.stored.puts ++ o.stored.puts) (joined_grows v.known o.known) (λ p. Contains-left p v.stored.puts o.stored.puts) (a.rooted first both.0)));
      traced = let x = a.traced in let y = b.traced in let none : y.0 ≡ None = y.1 (λ (one : next ≡ 1). omega arith) in
          (x.0, x.1, subst (λ (s : Stored N). HasOrigins m x.0 [] s) (sym stored) (traced_joined x.2 (subst (λ (r : Option ℕ). HasOrigins m r [] o.stored) none y.2)));
      first = λ nil. let both = none_first v.told.first o.told.first (sym (ap (λ (z : Told). z.first) told) ∙ nil) in
          stopped ∙ (λ i. a.first both.0 i ++ b.first both.1 i);
    }

none_below : (x : ℕ) → ◌≡◌ {A = ℕ} 0 (if nat_lt x 0 then 1 else 0)
none_below x = grind (arith, nat_tests)

-- a worker that was made of a new pass and new seats
pub made_new : {Q A N L : Type 0} (belongs : Q → A → Type 0) (known : A → Known) (shared : Shared Q N) (count n : ℕ) (w : Worker A N L) → belongs shared.queue w.pass → known w.pass ≡ fresh n → w.seat ≡ new_store_seat shared.store count → w.control ≡ new_control_seat shared.control count
    → w.found ≡ None → w.made ≡ 0 → IsOneOf belongs shared w × IsNew count n (doing known w)
made_new belongs known shared count n w own new seat control found made = (
  (own, ap (λ s. s.store) seat, ap (λ c. c.control) control),
  record { known_is = new; stored_is = ap (λ s. s.kept) seat; told_is = ap (λ c. c.kept) control; none = found; made_is = made },
)

-- a worker that has done nothing
pub new_together : {N L : Type 0} (m : Meaning N L) (nodes seats capacity n : ℕ) (v : Doing N L) → IsNew seats n v → HasBegun m nodes seats capacity n v
new_together m nodes seats capacity n v new = reached (HasBegun m nodes seats capacity n) new.known_is new.stored_is new.told_is new.none new.made_is (record {
  numbered = record {
    each = λ i le more. (0, omega arith, (let e : n ≡ i = omega arith in e));
    only = λ i there. elim (Contains-cases n i [] there) [ inl same ↦ (omega arith, omega arith) | inr nil ↦ absurd (none_in_empty i nil) ];
    seats_are = refl;
    parts = omega arith;
    control_seats = refl;
    control_parts = omega arith;
  };
  counted = record {
    knows = record {
      puts_once = λ x. omega arith;
      takes_once = λ x. omega arith;
      few_puts = omega arith;
      few_takes = omega arith;
      matched = λ all. record { from_puts = λ t there. absurd (none_in_empty t there); put_once = λ p q there. absurd (none_in_empty p there) };
      tiled = λ all x. none_below x;
    };
    made_is = refl;
    few = omega arith;
    inserts = omega arith;
    turns = omega arith;
  };
  knows = ([], Witnesses-fresh seats capacity n);
  none = refl;
  working = new_working m n (new_stored seats) (new_told seats) refl refl refl refl;
  traced = traced_new seats;
})

-- the root was put, under a number that was drawn
pub root_run : {N L : Type 0} {m : Meaning N L} {nodes seats capacity : ℕ} (v u w : Doing N L) (child : Child N) (o : ℕ) → HasBegun m nodes seats capacity 1 v → GoesOn nodes 0 v u → v.stored.front ≤ o
    → u.known ≡ v.known → u.stored ≡ with_draw v.stored (draw_of o 1 true) → u.told ≡ v.told → u.found ≡ v.found → GoesOn nodes 0 u w → IsPut u w child o → m.stands child.node [] → child.key ≡ m.tree.bound []
    → HasRun m nodes idle_calls v w × IsRooted m w.known w.stored.puts
root_run {N} {L} {m} {nodes} v u w child o begun first front known stored told found on put stands key =
    let drawn : AtWork m u = reached (AtWork m) {made = u.made} known stored told found refl (work_drew m v.known v.stored o 1 v.told v.found front begun.working) in
    let both = goes_further first on in (
      record {
        follows = both.follows;
        counted = both.counted idle_calls idle_calls (omega arith) begun.counted;
        working = reached (AtWork m) {made = w.made} put.inserted put.stored put.told put.found refl (root_put m u.known put.place u.stored u.told u.found put.entry o child.node stands drawn);
      },
      record {
        root = numbered o child.node;
        put = subst (λ (s : Stored N). Contains s.puts (numbered o child.node)) (sym put.stored) (Contains-right (numbered o child.node) u.stored.puts (numbered o child.node ∷ []) (Contains-here (numbered o child.node) []));
        standing = stands;
        inserted = record { entry = put.entry; id = put.id; key_is = put.key ∙ key; made = subst (λ (k : Known). HasMade k (Insert put.entry) Done) (sym put.inserted) (call_made u.known put.place (Insert put.entry) Done) };
      },
    )

pub root_halted : {N L : Type 0} {m : Meaning N L} {nodes seats capacity : ℕ} {v u w : Doing N L} (stop : Stop) → HasBegun m nodes seats capacity 1 v → GoesOn nodes 0 v u → IsHalt nodes u w stop → HasStopped nodes v w stop
root_halted stop begun first h = record {
  follows = (goes_further first h.0).follows;
  counted = counted_more (omega arith) ((goes_further first h.0).counted idle_calls idle_calls (omega arith) begun.counted);
  cause = h.1;
  tellable = h.2;
}
