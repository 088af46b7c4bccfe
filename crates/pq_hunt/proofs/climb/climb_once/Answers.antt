use Rattle.std.proofs.Common.{◌≡◌, ◌≢◌, ◌/◌, ℕ, ap, sym, refl, ◌∙◌, subst, arith}
use Rattle.pq_seats.specs.declared.views.View.{View}
use Rattle.pq_seats.specs.declared.views.Post.{Post}
use Rattle.pq_words.specs.declared.entries.Entry.{Entry}
use Rattle.pq_words.specs.Entries.{raw_of}
use Rattle.pq_hunt.specs.declared.views.HuntPart.{HuntPart}
use Rattle.std.specs.Prelude.{Contains, ◌≤◌}
use Rattle.pq_hunt.specs.Climbing.{IsPaired}
use Rattle.pq_hunt.specs.Steps.{busy_number}
use Rattle.pq_hunt.proofs.Calls.Sitting.{within}
use Rattle.pq_hunt.proofs.Calls.Turning as turning
use Rattle.pq_hunt.proofs.climb.climb_once.Goals as goal

pub find-requires-clause-find : goal.find-requires-clause-find
find-requires-clause-find g c = turning.can_find c.args.pass.now.number (c.args.child / 2) c.args.child c.args.e c.args.pass.now.seat.me.0 c.take_pair.new.pass.seat.me.0 c.take_pair.ensures.took

pub free_two-requires-clause-held : goal.free_two-requires-clause-held
free_two-requires-clause-held g c = let t = c.take_pair.ensures.took in let n = c.args.pass.now.number in let low = c.requires.child.0 in
    let flies = ap (λ (p : Post HuntPart). p.flight) t.holds.post in
    let is = (c.find.ensures.found c.args.e flies).1 (λ q. c.if-find-mine.true (q ∙ (ap (λ (z : ℕ). busy_number z c.args.e) c.take_pair.ensures.stays.same.0 ∙ sym c.requires.mine))) in
    turning.looked_held n (c.args.child / 2) c.args.child c.args.e c.args.pass.now.seat.me.0 c.take_pair.new.pass.seat.me.0 t c.find.new.pass.seat.me.0 is (λ q. omega arith)

pub unpack-word-requires : goal.unpack-word-requires
unpack-word-requires g c =
    let t = c.take_pair.ensures.took in let n = c.args.pass.now.number in let e = c.args.e in let up = c.args.child / 2 in let down = c.args.child in
    let v0 = c.args.pass.now.seat.me.0 in let v1 = c.take_pair.new.pass.seat.me.0 in let v2 = c.find.new.pass.seat.me.0 in let v3 = c.look-above.new.pass.seat.me.0 in
    let low = c.requires.child.0 in let differ : up ≢ down = (λ q. omega arith) in
    let found = c.find.ensures.found e (ap (λ (p : Post HuntPart). p.flight) t.holds.post) in
    let here : c.find.result ≡ c.args.mine = c.if-find-mine.false in
    let same2 : v2 ≡ v1 = found.0 (here ∙ (c.requires.mine ∙ ap (λ (z : ℕ). busy_number z e) (sym c.take_pair.ensures.stays.same.0))) in
    let upper = turning.upper_guard n up down e v0 v1 t in let lower = turning.lower_guard n up down e v0 v1 t in
    let above_is : c.look-above.result ≡ t.above = c.look-above.ensures.word upper (subst (λ (z : View HuntPart). Contains z.post.own.guards upper) (sym same2) (turning.has_upper n up down e v0 v1 t)) refl in
    let below_is : c.args.mine ≡ t.below = sym here ∙ c.find.ensures.word lower (turning.has_lower n up down e v0 v1 t) refl in
    let same3 : v3 ≡ v1 = c.look-above.ensures.view ∙ same2 in
    record { packed = (t.upper_means.packed, t.upper_means.fits, t.upper_means.number ∙ sym above_is) }

pub rise-requires-clause-pair : goal.rise-requires-clause-pair
rise-requires-clause-pair g c =
    let t = c.take_pair.ensures.took in let n = c.args.pass.now.number in let e = c.args.e in let up = c.args.child / 2 in let down = c.args.child in
    let v0 = c.args.pass.now.seat.me.0 in let v1 = c.take_pair.new.pass.seat.me.0 in let v2 = c.find.new.pass.seat.me.0 in let v3 = c.look-above.new.pass.seat.me.0 in
    let low = c.requires.child.0 in let differ : up ≢ down = (λ q. omega arith) in
    let found = c.find.ensures.found e (ap (λ (p : Post HuntPart). p.flight) t.holds.post) in
    let here : c.find.result ≡ c.args.mine = c.if-find-mine.false in
    let same2 : v2 ≡ v1 = found.0 (here ∙ (c.requires.mine ∙ ap (λ (z : ℕ). busy_number z e) (sym c.take_pair.ensures.stays.same.0))) in
    let upper = turning.upper_guard n up down e v0 v1 t in let lower = turning.lower_guard n up down e v0 v1 t in
    let above_is : c.look-above.result ≡ t.above = c.look-above.ensures.word upper (subst (λ (z : View HuntPart). Contains z.post.own.guards upper) (sym same2) (turning.has_upper n up down e v0 v1 t)) refl in
    let below_is : c.args.mine ≡ t.below = sym here ∙ c.find.ensures.word lower (turning.has_lower n up down e v0 v1 t) refl in
    let same3 : v3 ≡ v1 = c.look-above.ensures.view ∙ same2 in
    let own = c.requires.own in let positive = own.seated.0 in let word = c.unpack-word.result in
    let pair = turning.pair_is n up down e v0 v1 t v3 c.look-above.result c.args.mine word same3 positive (within c.args.table.now n own) c.requires.mine below_is above_is c.unpack-word.ensures.fits c.unpack-word.ensures.number c.in-Available.is in
    let number : c.look-above.new.pass.number ≡ n = c.look-above.ensures.stays.same.0 ∙ (c.find.ensures.stays.same.0 ∙ c.take_pair.ensures.stays.same.0) in
    subst (λ (z : ℕ). (x : IsPaired v3 z e up down c.look-above.result c.args.mine) × (raw_of e ≤ raw_of x.other)) (sym number)
    (pair.0, subst (λ (z : Entry). raw_of e ≤ raw_of z) (sym pair.1) (omega (arith, c.if-raw.true, c.raw.ensures.number, c.raw-in-Available.ensures.number)))

pub settle-requires-clause-pair : goal.settle-requires-clause-pair
settle-requires-clause-pair g c =
    let t = c.take_pair.ensures.took in let n = c.args.pass.now.number in let e = c.args.e in let up = c.args.child / 2 in let down = c.args.child in
    let v0 = c.args.pass.now.seat.me.0 in let v1 = c.take_pair.new.pass.seat.me.0 in let v2 = c.find.new.pass.seat.me.0 in let v3 = c.look-above.new.pass.seat.me.0 in
    let low = c.requires.child.0 in let differ : up ≢ down = (λ q. omega arith) in
    let found = c.find.ensures.found e (ap (λ (p : Post HuntPart). p.flight) t.holds.post) in
    let here : c.find.result ≡ c.args.mine = c.if-find-mine.false in
    let same2 : v2 ≡ v1 = found.0 (here ∙ (c.requires.mine ∙ ap (λ (z : ℕ). busy_number z e) (sym c.take_pair.ensures.stays.same.0))) in
    let upper = turning.upper_guard n up down e v0 v1 t in let lower = turning.lower_guard n up down e v0 v1 t in
    let above_is : c.look-above.result ≡ t.above = c.look-above.ensures.word upper (subst (λ (z : View HuntPart). Contains z.post.own.guards upper) (sym same2) (turning.has_upper n up down e v0 v1 t)) refl in
    let below_is : c.args.mine ≡ t.below = sym here ∙ c.find.ensures.word lower (turning.has_lower n up down e v0 v1 t) refl in
    let same3 : v3 ≡ v1 = c.look-above.ensures.view ∙ same2 in
    let own = c.requires.own in let positive = own.seated.0 in let word = c.unpack-word.result in
    let pair = turning.pair_is n up down e v0 v1 t v3 c.look-above.result c.args.mine word same3 positive (within c.args.table.now n own) c.requires.mine below_is above_is c.unpack-word.ensures.fits c.unpack-word.ensures.number c.in-Available.is in
    let number : c.look-above.new.pass.number ≡ n = c.look-above.ensures.stays.same.0 ∙ (c.find.ensures.stays.same.0 ∙ c.take_pair.ensures.stays.same.0) in
    let inner : (x : IsPaired v3 n e up down c.look-above.result (busy_number n e)) × (raw_of x.other ≤ raw_of e) = subst (λ (m : ℕ). (x : IsPaired v3 n e up down c.look-above.result m) × (raw_of x.other ≤ raw_of e)) c.requires.mine
    (pair.0, subst (λ (z : Entry). raw_of z ≤ raw_of e) (sym pair.1) (omega (arith, c.if-raw.false, c.raw.ensures.number, c.raw-in-Available.ensures.number))) in
    subst (λ (z : ℕ). (a : ℕ) × (x : IsPaired v3 z e up down a (busy_number z e)) × (raw_of x.other ≤ raw_of e)) (sym number) (c.look-above.result, inner.0, inner.1)

pub free_two-requires-in-Empty : goal.free_two-requires-in-Empty
free_two-requires-in-Empty g c =
    let t = c.take_pair.ensures.took in let n = c.args.pass.now.number in let e = c.args.e in let up = c.args.child / 2 in let down = c.args.child in
    let v0 = c.args.pass.now.seat.me.0 in let v1 = c.take_pair.new.pass.seat.me.0 in let v2 = c.find.new.pass.seat.me.0 in let v3 = c.look-above.new.pass.seat.me.0 in
    let low = c.requires.child.0 in let differ : up ≢ down = (λ q. omega arith) in
    let found = c.find.ensures.found e (ap (λ (p : Post HuntPart). p.flight) t.holds.post) in
    let here : c.find.result ≡ c.args.mine = c.if-find-mine.false in
    let same2 : v2 ≡ v1 = found.0 (here ∙ (c.requires.mine ∙ ap (λ (z : ℕ). busy_number z e) (sym c.take_pair.ensures.stays.same.0))) in
    let upper = turning.upper_guard n up down e v0 v1 t in let lower = turning.lower_guard n up down e v0 v1 t in
    let above_is : c.look-above.result ≡ t.above = c.look-above.ensures.word upper (subst (λ (z : View HuntPart). Contains z.post.own.guards upper) (sym same2) (turning.has_upper n up down e v0 v1 t)) refl in
    let below_is : c.args.mine ≡ t.below = sym here ∙ c.find.ensures.word lower (turning.has_lower n up down e v0 v1 t) refl in
    let same3 : v3 ≡ v1 = c.look-above.ensures.view ∙ same2 in
    let words = c.requires.table.words in let few = c.requires.table.few in let high = c.requires.child.1 in
    record {
      own = c.look-above.ensures.stays.own;
      nodes = ((omega arith, omega arith, omega arith, omega arith), (omega arith, high, omega arith, omega arith));
      held = turning.taken_held n up down e v0 v1 t v3 same3 differ;
    }
