-- What a remover that sifts holds, step by step.
use Rattle.std.proofs.Common.{◌≡◌, ◌≢◌, None, ℕ, ◌<◌, ◌≤◌, List, [], ◌∷◌, inl, inr, ⊎_elim, refl, sym, ap, ◌∙◌, subst, arith}
use Rattle.std.specs.Prelude.{Contains}
use Rattle.pq_words.specs.declared.entries.Entry.{Entry}
use Rattle.pq_words.specs.Entries.{raw_of}
use Rattle.pq_words.specs.Limits.{raw_limit}
use Rattle.pq_seats.specs.declared.views.Post.{Post}
use Rattle.pq_seats.specs.declared.views.View.{View}
use Rattle.pq_seats.specs.Views.{with_post}
use Rattle.pq_seats.specs.Posts.{less}
use Rattle.pq_hunt.specs.declared.nodes.Node.{Node}
use Rattle.pq_hunt.specs.declared.nodes.Node.TheVariants.{Empty, Available, Busy, Hole}
use Rattle.pq_hunt.specs.Order.{HasWord, MayStandOver}
use Rattle.pq_hunt.specs.Guards.{Guard}
use Rattle.pq_hunt.specs.declared.views.HuntPart.{HuntPart}
use Rattle.pq_nodes.specs.Layout.{lock_of}
use Rattle.pq_hunt.specs.Words.{Means}
use Rattle.pq_nodes.specs.Views.{guard, without_guard, exchanged, exchanged_third}
use Rattle.pq_hunt.specs.Views.{idle, with_guards}
use Rattle.pq_nodes.specs.Parts.{guarding}
use Rattle.pq_nodes.specs.Passes.{ComesTo, TookNode}
use Rattle.pq_nodes.specs.Parts.{with_node, without_node, IsFreeable}
use Rattle.pq_nodes.specs.Views.{AreOthers}
use Rattle.pq_nodes.specs.Views.{locks_of}
use Rattle.pq_hunt.specs.HeldPosts.{filled, sifting, IsHolding, Leaves}
use Rattle.pq_hunt.specs.Sifting.{MayStand, IsRank, IsLeast, Sifted}
use Rattle.pq_nodes.proofs.Freed.{first_locks, first_guards, second_locks, second_guards, lock_has}
use Rattle.pq_hunt.specs.NodeParts.{hunt_nodes}

-- what is left where a node's lock is freed
freed_is : (n i : ℕ) (gs gs' : List Guard) → less (lock_of i) (locks_of gs []) ≡ locks_of gs' [] → without_guard (lock_of i) gs ≡ gs' → without_node hunt_nodes (sifting n gs) i ≡ sifting n gs'
freed_is n i gs gs' locks guards = λ j. record { number = n; locks = locks j; flight = None; owed = []; own = with_guards idle (guards j) }

pub freed_first : (n i : ℕ) (g : Guard) (gs : List Guard) → g.node ≡ i → AreOthers i gs → without_node hunt_nodes (sifting n (g ∷ gs)) i ≡ sifting n gs
freed_first n i g gs is apart = freed_is n i (g ∷ gs) gs (first_locks i g gs is apart) (first_guards i g gs is apart)

pub freed_second : (n i : ℕ) (f g : Guard) (gs : List Guard) → g.node ≡ i → f.node ≢ i → AreOthers i gs → without_node hunt_nodes (sifting n (f ∷ g ∷ gs)) i ≡ sifting n (f ∷ gs)
freed_second n i f g gs is ne apart = freed_is n i (f ∷ g ∷ gs) (f ∷ gs) (second_locks i f g gs is ne apart) (second_guards i f g gs is ne apart)

pub starts : (v : View HuntPart) (gs : List Guard) → IsHolding v gs → Leaves v v gs
starts v gs is = record { post = is; lanes = refl; front = refl }

pub number_stays : (v w : View HuntPart) (gs : List Guard) → Leaves v w gs → w.post.number ≡ v.post.number
number_stays v w gs a = ap (λ (p : Post HuntPart). p.number) a.post

pub holds_then : (v w : View HuntPart) (gs : List Guard) → Leaves v w gs → IsHolding w gs
holds_then v w gs a = a.post ∙ ap (λ (n : ℕ). sifting n gs) (sym (number_stays v w gs a))

-- a step changes the post that a part before it left
pub steps_on : (v w x : View HuntPart) (f : Post HuntPart → Post HuntPart) (gs gs' : List Guard) → Leaves v w gs → ComesTo w x (f w.post)
    → f (sifting v.post.number gs) ≡ sifting v.post.number gs' → Leaves v x gs'
steps_on v w x f gs gs' a b e = record { post = b.post ∙ (ap f a.post ∙ e); lanes = b.lanes ∙ a.lanes; front = b.front ∙ a.front }

pub goes_on : (v w x : View HuntPart) (gs gs' : List Guard) → Leaves v w gs → Leaves w x gs' → Leaves v x gs'
goes_on v w x gs gs' a b = record { post = b.post ∙ ap (λ (n : ℕ). sifting n gs') (number_stays v w gs a); lanes = b.lanes ∙ a.lanes; front = b.front ∙ a.front }

pub stored_post : (w x : View HuntPart) (p : Post HuntPart) → x ≡ with_post w p → ComesTo w x p
stored_post w x p e = record { post = ap (λ (z : View HuntPart). z.post) e; lanes = ap (λ (z : View HuntPart). z.lanes) e; front = ap (λ (z : View HuntPart). z.front) e }

pub seen : (v w x : View HuntPart) (gs : List Guard) → Leaves v w gs → x ≡ w → Leaves v x gs
seen v w x gs a e = subst (λ (z : View HuntPart). Leaves v z gs) (sym e) a

pub frees_first : (v w x : View HuntPart) (i : ℕ) (g : Guard) (gs : List Guard) → Leaves v w (g ∷ gs) → ComesTo w x (without_node hunt_nodes w.post i) → g.node ≡ i → AreOthers i gs → Leaves v x gs
frees_first v w x i g gs a b is apart = steps_on v w x (λ p. without_node hunt_nodes p i) (g ∷ gs) gs a b (freed_first v.post.number i g gs is apart)

pub frees_second : (v w x : View HuntPart) (i : ℕ) (f g : Guard) (gs : List Guard) → Leaves v w (f ∷ g ∷ gs) → ComesTo w x (without_node hunt_nodes w.post i) → g.node ≡ i → f.node ≢ i → AreOthers i gs → Leaves v x (f ∷ gs)
frees_second v w x i f g gs a b is ne apart = steps_on v w x (λ p. without_node hunt_nodes p i) (f ∷ g ∷ gs) (f ∷ gs) a b (freed_second v.post.number i f g gs is ne apart)

pub held_lock : (v w : View HuntPart) (gs : List Guard) → Leaves v w gs → (g : Guard) → Contains gs g → Contains w.post.locks (lock_of g.node)
held_lock v w gs a g has = subst (λ (p : Post HuntPart). Contains p.locks (lock_of g.node)) (sym a.post) (lock_has gs [] g has)

pub freeable : (v w : View HuntPart) (gs : List Guard) → Leaves v w gs → (g : Guard) → Contains gs g → Means g.counted g.stored → IsFreeable hunt_nodes w g.node
freeable v w gs a g has means = record {
  guard = g;
  has = subst (λ (p : Post HuntPart). Contains p.own.guards g) (sym a.post) has;
  is = refl;
  means = means;
  allowed = λ e. ap (λ (p : Post HuntPart). p.owed) a.post;
}

pub guards_are : (v : View HuntPart) (gs : List Guard) → IsHolding v gs → v.post.own.guards ≡ gs
guards_are v gs a = ap (λ (p : Post HuntPart). p.own.guards) a

-- what may stand over a guarded node
pub may_stand : (c : ℕ) (v : View HuntPart) (gs : List Guard) → IsHolding v gs → (g : Guard) → Contains gs g → (e : Entry) → MayStandOver e g.counted → MayStand c v.post.own g.node e
may_stand c v gs a g has e over = inr (g, subst (λ (p : Post HuntPart). Contains p.own.guards g) (sym a) has, refl, over)

-- ranks
pub may_rank : (e : Entry) (v : Node) (r : ℕ) → IsRank v r → raw_of e ≤ r → MayStandOver e v
may_rank e Empty r is le = tt
may_rank e (Available x) r is le = omega arith
may_rank e (Busy o x) r is le = omega arith
may_rank e (Hole x) r is le = absurd is

pub has_rank : (v : Node) (r : ℕ) → IsRank v r → r < raw_limit → (e : Entry) × HasWord v e × (raw_of e ≡ r)
has_rank Empty r is lt = absurd (omega arith)
has_rank (Available x) r is lt = (x, inl refl, sym is)
has_rank (Busy o x) r is lt = (x, inr (o, refl), sym is)
has_rank (Hole x) r is lt = absurd is

-- the child of least rank goes up
pub least : (hand : Entry) (child other : Node) (r s : ℕ) → IsRank child r → IsRank other s → r ≤ s → r < raw_of hand → raw_of hand < raw_limit → IsLeast hand child other
least hand child other r s is also le lt fits = let w = has_rank child r is (omega arith) in let e = w.2 in
    record { entry = w.0; has = w.1; under = omega arith; over = may_rank w.0 other s also (omega arith) }

-- the stores
pub fills_hole : (v x : View HuntPart) (hole old word : ℕ) (hand : Entry) (others : List Guard) → IsHolding v (guard hole old (Hole hand) ∷ others)
    → x ≡ with_post v (filled v.post word) → Leaves v x (guard hole word (Available hand) ∷ others)
fills_hole v x hole old word hand others is e = steps_on v v x (λ p. filled p word) (guard hole old (Hole hand) ∷ others) (guard hole word (Available hand) ∷ others)
    (starts v (guard hole old (Hole hand) ∷ others) is) (stored_post v x (filled v.post word) e) refl

pub sifts_left : (v x : View HuntPart) (g h : Guard) (others : List Guard) → IsHolding v (g ∷ h ∷ others)
    → x ≡ with_post v (guarding hunt_nodes v.post (exchanged v.post.own.guards)) → Leaves v x (guard g.node h.stored h.counted ∷ guard h.node h.stored g.counted ∷ others)
sifts_left v x g h others is e = steps_on v v x (λ p. guarding hunt_nodes p (exchanged p.own.guards)) (g ∷ h ∷ others) (exchanged (g ∷ h ∷ others))
    (starts v (g ∷ h ∷ others) is) (stored_post v x (guarding hunt_nodes v.post (exchanged v.post.own.guards)) e) refl

pub sifts_right : (v x : View HuntPart) (g f h : Guard) (others : List Guard) → IsHolding v (g ∷ f ∷ h ∷ others)
    → x ≡ with_post v (guarding hunt_nodes v.post (exchanged_third v.post.own.guards)) → Leaves v x (guard g.node h.stored h.counted ∷ f ∷ guard h.node h.stored g.counted ∷ others)
sifts_right v x g f h others is e = steps_on v v x (λ p. guarding hunt_nodes p (exchanged_third p.own.guards)) (g ∷ f ∷ h ∷ others) (exchanged_third (g ∷ f ∷ h ∷ others))
    (starts v (g ∷ f ∷ h ∷ others) is) (stored_post v x (guarding hunt_nodes v.post (exchanged_third v.post.own.guards)) e) refl

-- a lock was taken
pub takes_second : (v w x : View HuntPart) (g : Guard) (i : ℕ) → Leaves v w (g ∷ []) → (t : TookNode hunt_nodes w x i) → Leaves v x (g ∷ guard i t.0 t.1 ∷ [])
takes_second v w x g i a t = steps_on v w x (λ p. with_node hunt_nodes p (guard i t.0 t.1)) (g ∷ []) (g ∷ guard i t.0 t.1 ∷ []) a t.3 refl

pub takes_third : (v w x : View HuntPart) (g f : Guard) (i : ℕ) → Leaves v w (g ∷ f ∷ []) → (t : TookNode hunt_nodes w x i) → Leaves v x (g ∷ f ∷ guard i t.0 t.1 ∷ [])
takes_third v w x g f i a t = steps_on v w x (λ p. with_node hunt_nodes p (guard i t.0 t.1)) (g ∷ f ∷ []) (g ∷ f ∷ guard i t.0 t.1 ∷ []) a t.3 refl

pub guard_in : (v w : View HuntPart) (gs : List Guard) → Leaves v w gs → (g : Guard) → Contains gs g → Contains w.post.own.guards g
guard_in v w gs a g has = subst (λ (p : Post HuntPart). Contains p.own.guards g) (sym a.post) has

-- a turn goes on behind a part of it
pub turns_on : (k : ℕ) (v w x : View HuntPart) (gs : List Guard) (hole : ℕ) (hand : Entry) (next : ℕ) → Leaves v w gs → Sifted k w x hole hand next → Sifted k v x hole hand next
turns_on k v w x gs hole hand next a s = ⊎_elim
    (λ t. inl (t.0, goes_on v w x gs [] a t.1))
    (λ t. inr (t.0, t.1, (t.2.0, goes_on v w x gs (guard next t.2.0 (Hole hand) ∷ []) a t.2.1)))
    s
