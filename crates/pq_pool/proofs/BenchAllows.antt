-- On the bench the other conditions of each call are enough, and a fresh one begins with words of 0.
use Rattle.std.proofs.Common.{◌≡◌, ◌≢◌, ℕ, zero, suc, ◌+◌, ◌*◌, ◌<◌, ◌≤◌, Bool, true, false, List, [], ◌∷◌, map, replicate, length, get_or, set, sym, refl, ap, ◌∙◌, subst, arith, Contains, get_or-set_other}
use Rattle.std.proofs.lemmas.List.{length-replicate}
use Rattle.std.specs.Prelude.{MatchBool}
use mathlib.Core.Option.{some, some-injective, some-ne-none}
use lib.ListN.{get_elem?}
use Rattle.atomic_table.specs.Seated.{TableId}
use Rattle.atomic_table.specs.declared.shared.Seat.{Seat}
use Rattle.atomic_table.proofs.Lists.{at_map}
use Rattle.pq_model.specs.Limits.{max_seats}
use Rattle.pq_model.specs.History.{IsSeat}
use Rattle.pq_seats.specs.declared.views.Limits.{Limits}
use Rattle.pq_seats.specs.declared.views.Post.{Post}
use Rattle.pq_seats.specs.declared.views.View.{View}
use Rattle.pq_seats.specs.Views.{post_of, empty_post}
use Rattle.pq_seats.specs.Posts.{with_lock, without_lock}
use Rattle.pq_seats.specs.Allowed.{MayTake, MayFree}
use Rattle.pq_seats.specs.Steps.{Took, Missed, freed_view}
use Rattle.pq_seats.specs.Seats.{Sits, Begins, newcomer}
use Rattle.pq_seats.proofs.Keeps.{number_in, limits_of}
use Rattle.pq_seats.proofs.Lists.{not_in, in_first, less_has}
use Rattle.pq_pool.specs.declared.views.PoolState.{PoolState}
use Rattle.pq_pool.specs.declared.views.PoolView.{PoolView}
use Rattle.pq_pool.specs.Limits.{max_chunks}
use Rattle.pq_pool.specs.Layout.{builder_word}
use Rattle.pq_pool.specs.States.{live_state, young_state, Agrees}
use Rattle.pq_pool.specs.Views.{pool_state, unpinned, moved, with_state}
use Rattle.pq_pool.specs.Parts.{with_pool_post}
use Rattle.pq_pool.specs.PoolLaws.{NamesAll, NamesWords, MayUnpin, MayMove}
use Rattle.pq_pool.specs.Passes.{SeatBuilds}
use Rattle.pq_pool.specs.Bench.{SeatIsLoose, bench_rule, bench_pool}
use Rattle.pq_pool.specs.BenchLawsHold.{unowed_still}
use Rattle.pq_pool.specs.FactsStay.Seats.{one_seat, alone, nobody_has}
use Rattle.pq_pool.specs.FactsStay.Moving.{moved_stays}
use Rattle.pq_pool.specs.FactsStay.Pinning.{unpin_stays}
use Rattle.pq_pool.specs.FactsStay.Holding.{take_stays, free_stays}

module _ (k : Limits) where
  -- any seat without a pin may take the builder's word
  pub may_take : (id : ℕ) (v : View PoolView) → v.post.number ≢ 0 → v.post.own.pinned ≡ false → MayTake bench_rule k id v builder_word
  may_take id v numbered loose w same s h at zero_word =
      let b = h.tied in let t = b.pool in let ps = map post_of s.views in let there = at_map post_of s.views id w at in
      let number : w.post.number ≡ v.post.number = ap (λ (z : Post PoolView). z.number) same.post in
      let ne : w.post.number ≢ 0 = λ z. numbered (sym number ∙ z) in
      let seat = number_in bench_rule k s h id w at ne in
      let no_pin : w.post.own.pinned ≡ false = ap (λ (z : Post PoolView). z.own.pinned) same.post ∙ loose in
      let own : PoolView = record { pinned = false; stands = []; looks = 0; stored = t.counted; counted = t.counted; loaded = [] } in
      let p' = with_lock w.post builder_word own in
      let other : (j : ℕ) → j ≢ 17 → get_or (set s.words 17 w.post.number) j 0 ≡ get_or s.words j 0 = λ j ne'. get_or-set_other s.words 17 j w.post.number 0 ne' in (
        own,
        subst (λ (z : Limits). NamesWords z own) (sym (limits_of bench_rule k s h id w at ne)) (record {
          all = record { chunks = t.chunks; stored = t.sized; counted = t.sized };
          agrees = record { states = λ c. refl; grace = λ n seat'. refl };
          unpinned = refl;
          nowhere = refl;
          unlooked = refl;
          unloaded = refl;
        }),
        record {
          pool = take_stays bench_pool.view_of k s.words ps t id w.post there seat no_pin p' refl refl zero_word refl refl (one_seat bench_rule k s h id w at ne) (nobody_has bench_rule k s h builder_word zero_word);
          unwritten = λ n range. let high = range.1 in other n (λ z. omega arith) ∙ b.unwritten n range;
          unowed = unowed_still ps id w.post p' there refl b.unowed;
          unlinked = λ c. other (115 + 69 * c) (λ z. omega arith) ∙ b.unlinked c;
        },
      )

  -- and its holder may free it where the words are as they count
  pub may_free : (id : ℕ) (v : View PoolView) → v.post.number ≢ 0 → Contains v.post.locks builder_word → Agrees k.seats v.post.own.stored v.post.own.counted → MayFree bench_rule k id v builder_word
  may_free id v numbered has agrees s h at =
      let b = h.tied in let t = b.pool in let ps = map post_of s.views in let there = at_map post_of s.views id v at in
      let held = t.held id v.post there has in
      let p' = without_lock v.post builder_word bench_rule.idle in
      let other : (j : ℕ) → j ≢ 17 → get_or (set s.words 17 0) j 0 ≡ get_or s.words j 0 = λ j ne. get_or-set_other s.words 17 j 0 0 ne in record {
        pool = free_stays bench_pool.view_of k s.words ps t id v.post there (number_in bench_rule k s h id v at numbered) held.unpinned p' refl refl has agrees (λ more. (less_has builder_word v.post.locks builder_word more).1 refl) (alone bench_rule k s h id v at builder_word has);
        unwritten = λ n range. let high = range.1 in other n (λ z. omega arith) ∙ b.unwritten n range;
        unowed = unowed_still ps id v.post p' there refl b.unowed;
        unlinked = λ c. other (115 + 69 * c) (λ z. omega arith) ∙ b.unlinked c;
      }

  pub may_unpin : (id : ℕ) (v : View PoolView) → v.post.number ≢ 0 → ¬ Contains v.post.locks builder_word → MayUnpin bench_rule bench_pool k id v
  may_unpin id v numbered no_lock s h at =
      let b = h.tied in let t = b.pool in let ps = map post_of s.views in let there = at_map post_of s.views id v at in
      let seat = number_in bench_rule k s h id v at numbered in let low = seat.0 in
      let i : ℕ = 17 + v.post.number in
      let p' = with_pool_post bench_pool v.post (unpinned v.post.own) in
      let few = t.few_seats in let high = seat.1 in
      let other : (j : ℕ) → j ≢ i → get_or (set s.words i 0) j 0 ≡ get_or s.words j 0 = λ j ne. get_or-set_other s.words i j 0 0 ne in record {
        pool = unpin_stays bench_pool.view_of k s.words ps t id v.post there seat (one_seat bench_rule k s h id v at numbered) no_lock p' refl refl refl;
        unwritten = λ n range. let most = range.1 in other n (λ z. omega arith) ∙ b.unwritten n range;
        unowed = unowed_still ps id v.post p' there refl b.unowed;
        unlinked = λ c. other (115 + 69 * c) (λ z. omega arith) ∙ b.unlinked c;
      }

  -- a chunk of the table may become live or young
  pub may_move : (id : ℕ) (v : View PoolView) (c x : ℕ) → Contains v.post.locks builder_word → (a : NamesAll k v.post.own) → c < a.chunks.count → live_state ≤ x → x ≤ young_state → MayMove bench_rule bench_pool k id v c x
  may_move id v c x has a within x_low x_high s h at =
      let b = h.tied in let t = b.pool in let ps = map post_of s.views in let there = at_map post_of s.views id v at in
      let room = t.chunks.room in let less = t.chunks.less in let room' = a.chunks.room in let less' = a.chunks.less in
      let builder = t.held id v.post there has in
      let p' = with_pool_post bench_pool v.post (moved v.post.own c x) in
      let i : ℕ = 118 + 69 * c in
      let other : (j : ℕ) → j ≢ i → get_or (set s.words i x) j 0 ≡ get_or s.words j 0 = λ j ne. get_or-set_other s.words i j x 0 ne in record {
        pool = moved_stays bench_pool.view_of k s.words ps t id v.post there has (alone bench_rule k s h id v at builder_word has) p' refl c x (omega arith) x_low x_high refl
            (ap (λ (z : PoolState). with_state z c x) builder.names) builder.unpinned
            (λ u link. let z = b.unlinked c in absurd (omega arith))
            (λ e lt in_use link ne. let z = b.unlinked e in absurd (omega arith));
        unwritten = λ n range. let high = range.1 in other n (λ z. omega arith) ∙ b.unwritten n range;
        unowed = unowed_still ps id v.post p' there refl b.unowed;
        unlinked = λ e. other (115 + 69 * e) (λ z. omega arith) ∙ b.unlinked e;
      }

module _ (z : TableId) (k : Limits) (n l n' l' : ℕ) (s s' : Seat (Unit {0}) (View PoolView)) where
  -- who has taken the builder's word
  pub took_is_builder : SeatIsLoose z k n l s → Sits z k n' l' s' → Took bench_rule s.me.0 s'.me.0 builder_word → SeatBuilds bench_pool z k n' l' s' × Agrees k.seats s'.me.0.post.own.stored s'.me.0.post.own.counted
  took_is_builder loose sits t =
      let own : s'.me.0.post.own ≡ t.own = ap (λ (p : Post PoolView). p.own) t.post in
      let names : NamesWords k t.own = subst (λ (y : Limits). NamesWords y t.own) loose.sits.limits t.taken in (
        record {
          sits = sits;
          holds = subst (λ (p : Post PoolView). Contains p.locks builder_word) (sym t.post) (in_first builder_word s.me.0.post.locks);
          all = subst (λ (d : PoolView). NamesAll k d) (sym own) names.all;
        },
        subst (λ (d : PoolView). Agrees k.seats d.stored d.counted) (sym own) names.agrees,
      )

  -- who has not is as it was
  pub missed_is_loose : SeatIsLoose z k n l s → Sits z k n' l' s' → Missed bench_rule s.me.0 s'.me.0 → SeatIsLoose z k n' l' s'
  missed_is_loose loose sits m = record {
    sits = sits;
    unpinned = ap (λ (p : Post PoolView). p.own.pinned) m.same.post ∙ loose.unpinned;
    no_lock = λ has. loose.no_lock (subst (λ (p : Post PoolView). Contains p.locks builder_word) m.same.post has);
  }

  pub tried_is : SeatIsLoose z k n l s → Sits z k n' l' s' → (b : Bool) → MatchBool b (Took bench_rule s.me.0 s'.me.0 builder_word) (Missed bench_rule s.me.0 s'.me.0)
      → MatchBool b (SeatBuilds bench_pool z k n' l' s' × Agrees k.seats s'.me.0.post.own.stored s'.me.0.post.own.counted) (SeatIsLoose z k n' l' s')
  tried_is loose sits true t = took_is_builder loose sits t
  tried_is loose sits false m = missed_is_loose loose sits m

  pub freed_is_loose : Sits z k n' l' s' → s'.me.0 ≡ freed_view bench_rule s.me.0 builder_word → SeatIsLoose z k n' l' s'
  freed_is_loose sits view = record {
    sits = sits;
    unpinned = ap (λ (v : View PoolView). v.post.own.pinned) view;
    no_lock = λ has. (less_has builder_word s.me.0.post.locks builder_word (subst (λ (v : View PoolView). Contains v.post.locks builder_word) view has)).1 refl;
  }

-- a new pass has no pin and no lock
pub newcomer_is_loose : (z : TableId) (k : Limits) (n l number : ℕ) (s : Seat (Unit {0}) (View PoolView)) → Sits z k n l s → s.me.0 ≡ newcomer bench_rule k number → SeatIsLoose z k n l s
newcomer_is_loose z k n l number s sits view = record {
  sits = sits;
  unpinned = ap (λ (v : View PoolView). v.post.own.pinned) view;
  no_lock = λ has. not_in builder_word (subst (λ (v : View PoolView). Contains v.post.locks builder_word) view has);
}

-- Words of 0
zeros_at : (n i : ℕ) → get_or {A = ℕ} (replicate n 0) i 0 ≡ 0
zeros_at zero i = refl
zeros_at (suc n) zero = refl
zeros_at (suc n) (suc i) = zeros_at n i

pub bench_begins : (k : Limits) (words : List ℕ) (chunks : ℕ) → IsSeat max_seats k.seats → chunks ≤ max_chunks → k.words ≡ 50 + 69 * chunks → length words ≡ k.words → ((i : ℕ) → get_or words i 0 ≡ 0) → Begins bench_rule k words
bench_begins k words chunks seat few room long all =
    let f = empty_post bench_rule.idle 0 in
    let only : (j : ℕ) (p : Post PoolView) → get_elem? (f ∷ []) j ≡ some p → f ≡ p = first_only f in record {
      seats = seat;
      letters = omega arith;
      width = omega arith;
      empty = all 0;
      zeros = λ n range. all n;
      unlocked = λ i is. all i;
      tied = record {
        pool = record {
          few_seats = seat.1;
          long = long;
          chunks = record { count = chunks; more = 0; room = omega arith; less = omega arith; few = few };
          counted = pool_state (replicate chunks 0) (replicate (suc k.seats) 0);
          sized = record { states = length-replicate chunks 0; grace = length-replicate (suc k.seats) 0 };
          kinds = λ c. let z = zeros_at chunks c in omega arith;
          links = λ c next lt link in_use. let z = zeros_at chunks c in absurd (omega arith);
          free = λ e. record { states = λ c lt. all (118 + 69 * c) ∙ sym (zeros_at chunks c); grace = λ n range. all (33 + n) ∙ sym (zeros_at (suc k.seats) n) };
          held = λ j p at has. absurd (not_in builder_word (subst (λ (q : Post PoolView). Contains q.locks builder_word) (sym (only j p at)) has));
          pinned = λ j p at positive is. let z : 0 ≡ p.number = ap (λ (y : Post PoolView). y.number) (only j p at) in absurd (omega arith);
          loose = λ n range word. absurd (word (all (17 + n)));
        };
        unwritten = λ n range. all n;
        unowed = λ j p at. ap (λ (q : Post PoolView). q.owed) (sym (only j p at));
        unlinked = λ c. all (115 + 69 * c);
      };
    }
  where
    first_only : (f : Post PoolView) (j : ℕ) (p : Post PoolView) → get_elem? (f ∷ []) j ≡ some p → f ≡ p
    first_only f zero p at = some-injective f p at
    first_only f (suc j) p at = absurd (some-ne-none p (sym at))
