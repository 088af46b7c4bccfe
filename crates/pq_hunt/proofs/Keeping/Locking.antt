-- Taking and freeing the lock over the size keeps the heap's facts.
use Rattle.std.proofs.Common.{◌≡◌, ℕ, ◌<◌, List, get_or, set, inl, inr, ⊎_elim, refl, ap, ◌∙◌, arith, get_or-set_other, get_or-set_same, length-set}
use Rattle.std.specs.Prelude.{Contains}
use Rattle.pq_model.specs.History.{left}
use Rattle.pq_seats.specs.declared.views.Limits.{Limits}
use Rattle.pq_seats.specs.declared.views.Post.{Post}
use Rattle.pq_seats.specs.declared.views.View.{View}
use Rattle.pq_seats.specs.Posts.{with_lock, without_lock}
use Rattle.pq_seats.specs.Allowed.{MayTake, MayFree}
use Rattle.pq_seats.proofs.Lists.{in_later, in_cases, less_has, has_less}
use Rattle.pq_seats.proofs.Keeps.{limits_of}
use Rattle.pq_hunt.specs.declared.views.HuntPart.{HuntPart}
use Rattle.pq_nodes.specs.Layout.{lock_of}
use Rattle.pq_hunt.specs.Layout.{size_word, heap_lock}
use Rattle.pq_hunt.specs.Views.{with_size}
use Rattle.pq_hunt.specs.Rules.{hunt_rule}
use Rattle.pq_nodes.proofs.Keeping.{frame_keeps}
use Rattle.pq_hunt.specs.NodeParts.{hunt_nodes}
use Rattle.pq_nodes.proofs.Tables.{same_locks, same_words}
use Rattle.pq_hunt.specs.LawsHold.Changes.{ps, pat, changed, IsSteady, steady_inserts, steady_letters}
use Rattle.pq_hunt.specs.NodeParts.{hunt_nodes}

module _ (k : Limits) (id : ℕ) (v : View HuntPart) where
  -- any seat with a number may take the heap's lock
  pub may_take_heap : 0 < v.post.number → MayTake hunt_rule k id v heap_lock
  may_take_heap positive w alike s h at zero_word =
      let t = h.tied in
      let size = t.size in
      let number : w.post.number ≡ v.post.number = ap (λ (z : Post HuntPart). z.number) alike.post in
      let own : HuntPart = with_size w.post.own size size in
      let p' : Post HuntPart = with_lock w.post heap_lock own in
      let ws : List ℕ = set s.words heap_lock w.post.number in
      let long = t.long in
      let here : get_or ws heap_lock 0 ≡ w.post.number = get_or-set_same s.words heap_lock w.post.number 0 (omega arith) in
      let there : get_or ws size_word 0 ≡ get_or s.words size_word 0 = get_or-set_other s.words heap_lock size_word w.post.number 0 (omega arith) in
      let is_size = t.free zero_word in
      let steady : IsSteady k s h id w at p' = record { number = refl; flight = refl; owed = refl; place = refl; climbing = refl; lettered = refl } in (
        own,
        record { heap = λ e. (size, (let within = t.facts.shape.within in let long_nodes = t.facts.long in let limits = ap (λ (z : Limits). z.capacity) (limits_of hunt_rule k s h id w at (λ z. omega arith)) in omega arith), refl); node = λ i e. absurd (omega arith) },
        changed k s h id w at p' ws (left h.history) (record {
          number = refl;
          long = length-set s.words heap_lock w.post.number;
          size = size;
          of = t.of;
          nodes = t.nodes;
          tree = frame_keeps hunt_nodes s.words (ps k s h id w at) t.nodes t.tree id w.post (pat k s h id w at) ws p'
              (same_locks s.words heap_lock w.post.number (omega arith)) (same_words s.words heap_lock w.post.number (omega arith)) refl
              (λ i has. in_later heap_lock (lock_of i) w.post.locks has)
              (λ i has. ⊎_elim (λ e. absurd (omega arith)) (λ a. a) (in_cases heap_lock (lock_of i) w.post.locks has));
          facts = t.facts;
          sizes = record {
            free = λ e. absurd (omega arith);
            mine = λ has. (refl, there ∙ is_size);
            theirs = inl (refl, there);
          };
          inserts = steady_inserts k s h id w at p' heap_lock w.post.number (omega arith) steady;
          letters = steady_letters k s h id w at p' heap_lock w.post.number (omega arith) steady (λ g has is. inr (g, has, is));
        }),
      )

  -- The heap's lock may be freed where the size is stored as it counts
  pub may_free_heap : Contains v.post.locks heap_lock → v.post.own.size_stored ≡ v.post.own.size_counted → MayFree hunt_rule k id v heap_lock
  may_free_heap held same s h at =
      let t = h.tied in let qs = ps k s h id v at in
      let own : HuntPart = with_size v.post.own 0 0 in
      let p' : Post HuntPart = without_lock v.post heap_lock own in
      let ws : List ℕ = set s.words heap_lock 0 in
      let there : get_or ws size_word 0 ≡ get_or s.words size_word 0 = get_or-set_other s.words heap_lock size_word 0 0 (omega arith) in
      let old = t.held id v.post (pat k s h id v at) held in
      let steady : IsSteady k s h id v at p' = record { number = refl; flight = refl; owed = refl; place = refl; climbing = refl; lettered = refl } in
      changed k s h id v at p' ws (left h.history) (record {
        number = refl;
        long = length-set s.words heap_lock 0;
        size = t.size;
        of = t.of;
        nodes = t.nodes;
        tree = frame_keeps hunt_nodes s.words qs t.nodes t.tree id v.post (pat k s h id v at) ws p'
            (same_locks s.words heap_lock 0 (omega arith)) (same_words s.words heap_lock 0 (omega arith)) refl
            (λ i has. has_less heap_lock v.post.locks (lock_of i) has (λ e. omega arith))
            (λ i has. (less_has heap_lock v.post.locks (lock_of i) has).0);
        facts = t.facts;
        sizes = record {
          free = λ e. there ∙ (old.1 ∙ (same ∙ old.0));
          mine = λ has. absurd ((less_has heap_lock v.post.locks heap_lock has).1 refl);
          theirs = inl (refl, there);
        };
        inserts = steady_inserts k s h id v at p' heap_lock 0 (omega arith) steady;
        letters = steady_letters k s h id v at p' heap_lock 0 (omega arith) steady (λ g has is. inr (g, has, is));
      })
