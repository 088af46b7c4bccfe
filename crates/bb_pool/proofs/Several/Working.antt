-- What each call of a worker does to what it has done, and what two workers have done together.
use Rattle.std.proofs.Common.{◌≡◌, ℕ, ◌<◌, ◌≤◌, true, false, List, [], ◌∷◌, ◌++◌, length, nat_lt, Option, Some, None, refl, sym, ap, ◌∙◌, subst, inl, inr, arith}
use Rattle.std.specs.Prelude.{Contains, IsTrue}
use Rattle.pq_words.specs.declared.entries.Entry.{Entry}
use Rattle.pq_model.specs.declared.marks.Act.{Act}
use Rattle.pq_model.specs.declared.marks.Act.TheVariants.{Insert}
use Rattle.pq_model.specs.declared.marks.Reply.{Reply}
use Rattle.pq_model.specs.declared.marks.Reply.TheVariants.{Done, Got}
use Rattle.pq_model.specs.declared.passes.Known.{Known}
use Rattle.pq_model.specs.Passes.{fresh, with_call, joined_with}
use Rattle.pq_model.proofs.Choices.{by_test}
use Rattle.bb_problem.specs.Meaning.{Meaning, IsLawful}
use Rattle.bb_problem.specs.declared.step.Step.TheVariants.{Leaf}
use Rattle.bb_problem.specs.Expanding.{StandBelow, IsExpanded}
use Rattle.bb_shared.specs.Costs.{IsLower, lesser}
use Rattle.bb_shared.specs.declared.store.stored.Numbered.{Numbered}
use Rattle.pq_numbers.specs.declared.draws.Draw.{Draw}
use Rattle.bb_shared.specs.declared.store.stored.Stored.{Stored}
use Rattle.bb_shared.specs.Stores.{numbered, with_draw, with_put, with_take, stores_joined, HasNoOver}
use Rattle.pq_numbers.specs.Draws.{draw_of}
use Rattle.bb_shared.specs.declared.control.told.Told.{Told}
use Rattle.bb_shared.specs.Controls.{cut_of, with_cost, IsRead, controls_joined}
use Rattle.bb_pool.specs.declared.found.Found.{Found}
use Rattle.bb_pool.specs.Costs.{is_better}
use Rattle.bb_pool.specs.Children.{AreBounds}
use Rattle.bb_pool.specs.Underway.{cost_so_far}
use Rattle.bb_pool.specs.Working.{HasParent, IsFoundBy, lesser_found, Waiting, kept_of, IsPassedOn, IsWorking, IsHolding, IsInTurn}
use Rattle.bb_pool.proofs.Members.{none_in_empty, Contains-here, Contains-there, Contains-cases, Contains-left, Contains-right, Contains-either}
use Rattle.bb_pool.proofs.Costs.{not_below_itself}
use Rattle.bb_pool.proofs.Several.Turning.{Within, call_cases, call_grows, call_made, joined_grows, joined_has, removed_more, fresh_searched, called, passed_more, handled_more, joined, lower_cut}
use Rattle.bb_pool.proofs.Several.Expanded.{branched, dropped, leaf_above, kept_from, named}
use Rattle.bb_pool.proofs.Several.Lesser.{lesser_first, lesser_second, lesser_both, lesser_new, lesser_told}

-- what was read is below what was told before, and below the whole cut
pub read_low : (c now : Told) (r : Option ℕ) → IsRead c r now → IsLower (cut_of now) (cut_of c)
read_low c now r is = subst (λ (z : Told). IsLower (cut_of z) (cut_of c)) (sym is.is) (λ v better. is.low v (lesser_second c.own r v better))

pub read_own : (c now : Told) (r : Option ℕ) → IsRead c r now → now.own ≡ c.own
read_own c now r is = ap (λ (z : Told). z.own) is.is

pub same_cut : (c now : Told) → now.own ≡ c.own → now.read ≡ c.read → IsLower (cut_of now) (cut_of c)
same_cut c now own reading v better = subst (λ (o : Option ℕ). IsTrue (is_better v o)) (λ i. lesser (own i) (reading i)) better

no_over_more : {N : Type 0} (s : Stored N) (d : Draw) → d.within ≡ true → HasNoOver s → HasNoOver (with_draw s d)
no_over_more s d good under x there = elim (Contains-either x s.draws (d ∷ []) there) [
  | inl old ↦ under x old
  | inr new ↦ elim (Contains-cases d x [] new) [ inl same ↦ subst (λ (z : Draw). z.within ≡ true) same good | inr nil ↦ absurd (none_in_empty x nil) ]
]

module _ {N L : Type 0} (m : Meaning N L) where
  found_more : (takes more : List (Numbered N)) (found : Option (Found L)) → Within takes more → IsFoundBy m takes found → IsFoundBy m more found
  found_more takes more None within is = tt
  found_more takes more (Some f) within is = (record { from = is.0.from; taken = within is.0.from is.0.taken; follows = is.0.follows }, is.1)

  parent_more : (takes more : List (Numbered N)) (p : Numbered N) → Within takes more → HasParent m takes p → HasParent m more p
  parent_more takes more p within h = record { parent = h.parent; taken = within h.parent h.taken; before = h.before; follows = h.follows }

  -- a worker that has done nothing
  pub new_working : (n : ℕ) (s : Stored N) (c : Told) → s.puts ≡ [] → s.takes ≡ [] → s.draws ≡ [] → c.own ≡ None → IsWorking m (fresh n) s c None
  new_working n s c puts takes draws own = record {
    searched = fresh_searched m n s.puts s.takes (cut_of c);
    grown = λ p there. absurd (none_in_empty p (subst (λ (l : List (Numbered N)). Contains l p) puts there));
    below = λ p there. absurd (none_in_empty p (subst (λ (l : List (Numbered N)). Contains l p) takes there));
    removed = λ p there. absurd (none_in_empty p (subst (λ (l : List (Numbered N)). Contains l p) takes there));
    found_is = tt;
    told = own;
    under = λ d there. absurd (none_in_empty d (subst (λ (l : List Draw). Contains l d) draws there));
  }

  -- the cut falls, and the same was told
  pub cut_lowered : (k : Known) (s : Stored N) (c now : Told) (found : Option (Found L)) → now.own ≡ c.own → IsLower (cut_of now) (cut_of c) → IsWorking m k s c found → IsWorking m k s now found
  cut_lowered k s c now found own low w = record {
    searched = lower_cut m k s.puts s.takes (cut_of c) (cut_of now) low w.searched;
    grown = w.grown;
    below = w.below;
    removed = w.removed;
    found_is = w.found_is;
    told = own ∙ w.told;
    under = w.under;
  }

  -- and so while a node is held
  pub held_lowered : (k : Known) (s : Stored N) (c now : Told) (found : Option (Found L)) (e : Entry) (node : N) → now.own ≡ c.own → IsLower (cut_of now) (cut_of c) → IsHolding m k s c found e node → IsHolding m k s now found e node
  held_lowered k s c now found e node own low h = record {
    each = λ f act made. elim (h.each f act made) [
      | inl same ↦ inl same
      | inr is ↦ inr (handled_more m k k s.puts s.puts s.takes s.takes (cut_of c) (cut_of now) f (λ a r x. x) (λ x there. there) (λ x there. there) low is)
    ];
    taken = h.taken;
    grown = h.grown;
    below = h.below;
    removed = h.removed;
    found_is = h.found_is;
    told = own ∙ h.told;
    under = h.under;
  }

  -- a call that removes nothing
  pub call_more : (k : Known) (place : ℕ) (act : Act) (reply : Reply) (s : Stored N) (c : Told) (found : Option (Found L)) → ((e : Entry) → reply ≡ Got e → ⊥) → IsWorking m k s c found
      → IsWorking m (with_call k place act reply) s c found
  call_more k place act reply s c found none w = record {
    searched = called m k place act reply s.puts s.puts s.takes s.takes (cut_of c) (cut_of c) none (λ x there. there) (λ x there. there) (λ v b. b) w.searched;
    grown = w.grown;
    below = w.below;
    removed = removed_more k (with_call k place act reply) s.takes (call_grows k place act reply) w.removed;
    found_is = w.found_is;
    told = w.told;
    under = w.under;
  }

  -- an entry is removed and its node taken
  pub node_taken : (k : Known) (place : ℕ) (act : Act) (e : Entry) (node : N) (s : Stored N) (c : Told) (found : Option (Found L)) → IsWorking m k s c found
      → IsHolding m (with_call k place act (Got e)) (with_take s (numbered e.id node)) c found e node
  node_taken k place act e node s c found w = let put : Numbered N = numbered e.id node in let within : Within s.takes (s.takes ++ put ∷ []) = λ t. Contains-left t s.takes (put ∷ []) in record {
    each = λ f a made. elim (call_cases k place act a (Got e) (Got f) made) [
      | inl new ↦ inl (let is = new.1 in cc)
      | inr old ↦ inr (handled_more m k (with_call k place act (Got e)) s.puts s.puts s.takes (s.takes ++ put ∷ []) (cut_of c) (cut_of c) f (call_grows k place act (Got e)) (λ x there. there) within (λ v b. b) (w.searched.each f a old))
    ];
    taken = Contains-right put s.takes (put ∷ []) (Contains-here put []);
    grown = λ p there. elim (w.grown p there) [ inl root ↦ inl root | inr h ↦ inr (parent_more s.takes (s.takes ++ put ∷ []) p within h) ];
    below = λ p there. elim (Contains-either p s.takes (put ∷ []) there) [
      | inl old ↦ (let lt = w.below p old in omega arith)
      | inr new ↦ elim (Contains-cases put p [] new) [ inl same ↦ (let n : e.id ≡ p.number = ap (λ (z : Numbered N). z.number) same in omega arith) | inr nil ↦ absurd (none_in_empty p nil) ]
    ];
    removed = λ p there. elim (Contains-either p s.takes (put ∷ []) there) [
      | inl old ↦ removed_more k (with_call k place act (Got e)) s.takes (call_grows k place act (Got e)) w.removed p old
      | inr new ↦ elim (Contains-cases put p [] new) [ inl same ↦ (e, act, ap (λ (z : Numbered N). z.number) same, call_made k place act (Got e)) | inr nil ↦ absurd (none_in_empty p nil) ]
    ];
    found_is = found_more s.takes (s.takes ++ put ∷ []) found within w.found_is;
    told = w.told;
    under = w.under;
  }

  -- What is reached from the node that is held and is below the cut was passed on: the turn is over.
  turn_over : (k : Known) (s : Stored N) (c now : Told) (found best : Option (Found L)) (e : Entry) (node : N) → IsHolding m k s c found e node → IsLower (cut_of now) (cut_of c) → IsFoundBy m s.takes best → now.own ≡ cost_so_far best
      → ((name : List ℕ) (v : ℕ) → m.stands node name → e.key ≡ m.tree.bound name → m.reaches name v → IsTrue (is_better v (cut_of now)) → IsPassedOn m k s.puts name v)
      → IsWorking m k s now best
  turn_over k s c now found best e node h low best_is told passes = record {
    searched = record {
      each = λ f act made. elim (h.each f act made) [
        | inl same ↦ record {
          found = numbered e.id node;
          number = ap (λ (z : Entry). z.id) (sym same);
          taken = h.taken;
          exhausted = λ name v st key r better. passes name v st (ap (λ (z : Entry). z.key) (sym same) ∙ key) r better;
        }
        | inr is ↦ handled_more m k k s.puts s.puts s.takes s.takes (cut_of c) (cut_of now) f (λ a r x. x) (λ x there. there) (λ x there. there) low is
      ];
    };
    grown = h.grown;
    below = h.below;
    removed = h.removed;
    found_is = best_is;
    told = told;
    under = h.under;
  }

  -- The node is dropped, since its key is not below the best cost read.
  pub node_dropped : (k : Known) (s : Stored N) (c : Told) (found : Option (Found L)) (e : Entry) (node : N) (best : Option ℕ) → IsLawful m → c.read ≡ best → is_better e.key best ≡ false → IsHolding m k s c found e node → IsWorking m k s c found
  node_dropped k s c found e node best laws reading bad h = turn_over k s c c found found e node h (λ v b. b) h.found_is h.told
      (λ name v st key r better. absurd (dropped m laws best e.key name v bad key r (subst (λ (o : Option ℕ). IsTrue (is_better v o)) reading (lesser_second c.own c.read v better))))

  -- The node is a leaf, and its plan costs no less than the best cost read.
  pub leaf_left : (k : Known) (s : Stored N) (c : Told) (found : Option (Found L)) (e : Entry) (node : N) (plan : L) (best : Option ℕ) → c.read ≡ best
      → ((name : List ℕ) → m.stands node name → IsExpanded m name (Leaf plan)) → is_better (m.cost_of plan) best ≡ false → IsHolding m k s c found e node → IsWorking m k s c found
  leaf_left k s c found e node plan best reading expanded bad h = turn_over k s c c found found e node h (λ v b. b) h.found_is h.told
      (λ name v st key r better. absurd (leaf_above best (m.cost_of plan) v bad ((expanded name st).2 v r) (subst (λ (o : Option ℕ). IsTrue (is_better v o)) reading (lesser_second c.own c.read v better))))

  -- The node is a leaf, and its plan is kept and its cost told.
  pub leaf_kept : (k : Known) (s : Stored N) (c : Told) (found : Option (Found L)) (e : Entry) (node : N) (f : Found L) (best : Option ℕ) → c.read ≡ best → IsLower best c.own
      → ((name : List ℕ) → m.stands node name → IsExpanded m name (Leaf f.plan)) → f.cost ≡ m.cost_of f.plan → is_better f.cost best ≡ true → IsHolding m k s c found e node
      → IsWorking m k s (with_cost c f.cost) (Some f)
  leaf_kept k s c found e node f best reading low expanded same good h = let cost : ℕ = f.cost in let told : Told = with_cost c cost in
      let new : told.own ≡ Some cost = lesser_new c.own cost (low cost good) in
      let below_cost : IsLower (cut_of told) (Some cost) = λ v better. subst (λ (o : Option ℕ). IsTrue (is_better v o)) new (lesser_first told.own told.read v better) in
      let cut : IsLower (cut_of told) (cut_of c) = lesser_both (cut_of told) c.own c.read
      (λ v better. lesser_first c.own (Some cost) v (lesser_first told.own told.read v better)) (lesser_second told.own told.read) in
      turn_over k s c told found (Some f) e node h cut
      (record { from = numbered e.id node; taken = h.taken; follows = expanded }, same) new
      (λ name v st key r better. absurd (let le = (expanded name st).2 v r in not_below_itself cost v (omega arith) (below_cost v better)))

  -- The node is a branch, and the children whose bounds are below the best cost read wait.
  pub branch_waits : (k : Known) (s : Stored N) (c : Told) (found : Option (Found L)) (e : Entry) (node : N) (nodes : List N) (keys : List ℕ) (best : Option ℕ) → IsLawful m → c.read ≡ best
      → ((name : List ℕ) → m.stands node name → StandBelow m.stands name nodes (m.tree.children name)) → 1 ≤ length nodes → AreBounds m nodes keys
      → IsHolding m k s c found e node → IsInTurn m k s c found e node (kept_of best nodes keys)
  branch_waits k s c found e node nodes keys best laws reading expanded some bounds h = record {
    holding = h;
    passes = λ name v st key r better. inr (branched m laws best nodes keys name v some (expanded name st) bounds r (subst (λ (o : Option ℕ). IsTrue (is_better v o)) reading (lesser_second c.own c.read v better)));
    follows = λ w there name st. named m.stands name nodes (m.tree.children name) w.node (expanded name st) (kept_from best nodes keys w there);
  }

  -- numbers are drawn
  pub drew : (k : Known) (s : Stored N) (o count : ℕ) (c : Told) (found : Option (Found L)) (e : Entry) (node : N) (waiting : List (Waiting N)) → s.front ≤ o → IsInTurn m k s c found e node waiting
      → IsInTurn m k (with_draw s (draw_of o count true)) c found e node waiting
  drew k s o count c found e node waiting le t = let h = t.holding in record {
    holding = record {
      each = h.each;
      taken = h.taken;
      grown = h.grown;
      below = λ p there. (let lt = h.below p there in omega arith);
      removed = h.removed;
      found_is = h.found_is;
      told = h.told;
      under = no_over_more s (draw_of o count true) refl h.under;
    };
    passes = t.passes;
    follows = t.follows;
  }

  pub work_drew : (k : Known) (s : Stored N) (o count : ℕ) (c : Told) (found : Option (Found L)) → s.front ≤ o → IsWorking m k s c found → IsWorking m k (with_draw s (draw_of o count true)) c found
  work_drew k s o count c found le w = record {
    searched = w.searched;
    grown = w.grown;
    below = λ p there. (let lt = w.below p there in omega arith);
    removed = w.removed;
    found_is = w.found_is;
    told = w.told;
    under = no_over_more s (draw_of o count true) refl w.under;
  }

  -- the root is put, and an entry for it inserted
  pub root_put : (k : Known) (place : ℕ) (s : Stored N) (c : Told) (found : Option (Found L)) (f : Entry) (number : ℕ) (node : N) → m.stands node [] → IsWorking m k s c found
      → IsWorking m (with_call k place (Insert f) Done) (with_put s (numbered number node)) c found
  root_put k place s c found f number node root w = let put : Numbered N = numbered number node in record {
    searched = called m k place (Insert f) Done s.puts (s.puts ++ put ∷ []) s.takes s.takes (cut_of c) (cut_of c) (λ e is. cc) (λ x. Contains-left x s.puts (put ∷ [])) (λ x there. there) (λ v b. b) w.searched;
    grown = λ p there. elim (Contains-either p s.puts (put ∷ []) there) [
      | inl old ↦ w.grown p old
      | inr new ↦ elim (Contains-cases put p [] new) [ inl same ↦ inl (subst (λ (z : Numbered N). m.stands z.node []) same root) | inr nil ↦ absurd (none_in_empty p nil) ]
    ];
    below = w.below;
    removed = removed_more k (with_call k place (Insert f) Done) s.takes (call_grows k place (Insert f) Done) w.removed;
    found_is = w.found_is;
    told = w.told;
    under = w.under;
  }

  -- the first child is put under a number above the node's, and an entry for it inserted
  pub put_first : (k : Known) (place : ℕ) (s : Stored N) (c : Told) (found : Option (Found L)) (e f : Entry) (node : N) (child : Waiting N) (waiting : List (Waiting N)) (number : ℕ) → f.id ≡ number → f.key ≡ child.key → e.id < number
      → IsInTurn m k s c found e node (child ∷ waiting) → IsInTurn m (with_call k place (Insert f) Done) (with_put s (numbered number child.node)) c found e node waiting
  put_first k place s c found e f node child waiting number id key lt t = let h = t.holding in let now = with_call k place (Insert f) Done in let put : Numbered N = numbered number child.node in
      let more : List (Numbered N) = s.puts ++ put ∷ [] in let within : Within s.puts more = λ x. Contains-left x s.puts (put ∷ []) in record {
        holding = record {
          each = λ g a made. elim (call_cases k place (Insert f) a Done (Got g) made) [
            | inl new ↦ absurd (let is = new.1 in cc)
            | inr old ↦ elim (h.each g a old) [ inl same ↦ inl same | inr is ↦ inr (handled_more m k now s.puts more s.takes s.takes (cut_of c) (cut_of c) g (call_grows k place (Insert f) Done) within (λ x there. there) (λ v b. b) is) ]
          ];
          taken = h.taken;
          grown = λ p there. elim (Contains-either p s.puts (put ∷ []) there) [
            | inl old ↦ h.grown p old
            | inr new ↦ elim (Contains-cases put p [] new) [
              | inl same ↦ inr (subst (HasParent m s.takes) same (record { parent = numbered e.id node; taken = h.taken; before = lt; follows = t.follows child (Contains-here child waiting) }))
              | inr nil ↦ absurd (none_in_empty p nil)
            ]
          ];
          below = h.below;
          removed = removed_more k now s.takes (call_grows k place (Insert f) Done) h.removed;
          found_is = h.found_is;
          told = h.told;
          under = h.under;
        };
        passes = λ name v st is r better. elim (t.passes name v st is r better) [
          | inl p ↦ inl (passed_more m k now s.puts more name v (call_grows k place (Insert f) Done) within p)
          | inr w ↦ elim (Contains-cases child w.child waiting w.waits) [
            | inl same ↦ inl (record {
              within = w.within;
              next = w.next;
              longer = w.longer;
              child = put;
              put = Contains-right put s.puts (put ∷ []) (Contains-here put []);
              standing = subst (λ (z : Waiting N). m.stands z.node w.next) (sym same) w.standing;
              reached = w.reached;
              inserted = record { entry = f; id = id; key_is = key ∙ (ap (λ (z : Waiting N). z.key) same ∙ w.keyed); made = call_made k place (Insert f) Done };
            })
            | inr rest ↦ inr (record { within = w.within; next = w.next; longer = w.longer; child = w.child; waits = rest; standing = w.standing; keyed = w.keyed; reached = w.reached })
          ]
        ];
        follows = λ w there. t.follows w (Contains-there child w waiting there);
      }

  -- nothing waits any more
  pub turn_ended : (k : Known) (s : Stored N) (c : Told) (found : Option (Found L)) (e : Entry) (node : N) → IsInTurn m k s c found e node [] → IsWorking m k s c found
  turn_ended k s c found e node t = turn_over k s c c found found e node t.holding (λ v b. b) t.holding.found_is t.holding.told
      (λ name v st key r better. elim (t.passes name v st key r better) [ inl p ↦ p | inr w ↦ absurd (none_in_empty w.child w.waits) ])

  either_found : (takes : List (Numbered N)) (f g : Option (Found L)) → IsFoundBy m takes f → IsFoundBy m takes g → IsFoundBy m takes (lesser_found f g)
  either_found takes None g a b = b
  either_found takes (Some f) None a b = a
  either_found takes (Some f) (Some g) a b = by_test (λ (o : Option (Found L)). IsFoundBy m takes o) (nat_lt g.cost f.cost) (Some g) (Some f) (λ _. b) (λ _. a)

  -- two workers are joined: their passes, their seats, and the cheaper of their plans
  pub workers_joined : (k other : Known) (s t : Stored N) (c d : Told) (found best : Option (Found L)) → IsWorking m k s c found → IsWorking m other t d best
      → IsWorking m (joined_with k other) (stores_joined s t) (controls_joined c d) (lesser_found found best)
  workers_joined k other s t c d found best mine theirs = let low : Option ℕ = cut_of (controls_joined c d) in
      let own : IsLower low (lesser c.own d.own) = lesser_first (lesser c.own d.own) (lesser c.read d.read) in let reading : IsLower low (lesser c.read d.read) = lesser_second (lesser c.own d.own) (lesser c.read d.read) in
      let first : IsLower low (cut_of c) = lesser_both low c.own c.read (λ v b. lesser_first c.own d.own v (own v b)) (λ v b. lesser_first c.read d.read v (reading v b)) in
      let second : IsLower low (cut_of d) = lesser_both low d.own d.read (λ v b. lesser_second c.own d.own v (own v b)) (λ v b. lesser_second c.read d.read v (reading v b)) in
      let all : List (Numbered N) = s.takes ++ t.takes in record {
        searched = joined m k other s.puts t.puts s.takes t.takes (cut_of c) (cut_of d) low first second mine.searched theirs.searched;
        grown = λ p there. elim (Contains-either p s.puts t.puts there) [
          | inl a ↦ elim (mine.grown p a) [ inl root ↦ inl root | inr h ↦ inr (parent_more s.takes all p (λ x. Contains-left x s.takes t.takes) h) ]
          | inr b ↦ elim (theirs.grown p b) [ inl root ↦ inl root | inr h ↦ inr (parent_more t.takes all p (λ x. Contains-right x s.takes t.takes) h) ]
        ];
        below = λ p there. elim (Contains-either p s.takes t.takes there) [ inl a ↦ (let lt = mine.below p a in omega arith) | inr b ↦ (let lt = theirs.below p b in omega arith) ];
        removed = λ p there. elim (Contains-either p s.takes t.takes there) [
          | inl a ↦ removed_more k (joined_with k other) s.takes (joined_grows k other) mine.removed p a
          | inr b ↦ removed_more other (joined_with k other) t.takes (joined_has k other) theirs.removed p b
        ];
        found_is = either_found all found best (found_more s.takes all found (λ x. Contains-left x s.takes t.takes) mine.found_is) (found_more t.takes all best (λ x. Contains-right x s.takes t.takes) theirs.found_is);
        told = (λ i. lesser (mine.told i) (theirs.told i)) ∙ sym (lesser_told found best);
        under = λ x there. elim (Contains-either x s.draws t.draws there) [ inl a ↦ mine.under x a | inr b ↦ theirs.under x b ];
      }
