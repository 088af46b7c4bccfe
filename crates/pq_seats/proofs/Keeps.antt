-- What steps leave of the rule, and what a seat knows by it.
use Rattle.std.proofs.Common.{◌≡◌, ◌≢◌, ◌⊎◌, None, ℕ, ◌+◌, ◌<◌, ◌≤◌, true, List, ◌∷◌, map, length, get_or, set, min, sym, ap, ◌∙◌, subst, inl, ⊎_elim, arith, length-set, get_or-set_other, All, Contains, Option, IsSome}
use Rattle.std.proofs.lemmas.List.{set-get_or}
use mathlib.Core.Option.{some}
use lib.ListN.{get_elem?}
use lib.Seq.{map-set}
use native.Mathlib.Decide.{ℕ_discrete}
use mathlib.Core.Logic.{dite}
use Rattle.atomic_table.proofs.Lists.{at_set, at_map, set_again, set_else}
use Rattle.pq_words.specs.declared.entries.Entry.{Entry}
use Rattle.pq_model.specs.declared.marks.Mark.{Mark}
use Rattle.pq_model.specs.declared.passes.Call.{Call}
use Rattle.pq_model.specs.declared.passes.Lane.{Lane}
use Rattle.pq_model.specs.History.{left, IsSeat}
use Rattle.pq_model.specs.Passes.{lane, calls_of, Witnesses, Knows}
use Rattle.pq_seats.specs.declared.views.Limits.{Limits}
use Rattle.pq_seats.specs.declared.views.Post.{Post}
use Rattle.pq_seats.specs.declared.views.View.{View}
use Rattle.pq_seats.specs.Views.{HasFirst, lanes_of, known_of, post_of}
use Rattle.pq_seats.specs.Letters.{owed_count, owed_sum, letter_count, letter_sum}
use Rattle.pq_seats.specs.Rules.{Table, Rule, Holds, Fits, IsAccounted, Stands}
use Rattle.pq_seats.proofs.Lists.{sum_kept, sum_one, sum_two, put_here, same_at, first_in, all_in, lanes_known, lanes_of_has, numbered_once, later_other}

-- Of a lane, with a seat's number n, insert in flight o and front f: with no insert in flight all calls are kept
pub settled : (n f : ℕ) (o : Option Entry) (x : Lane) (made : List Call) (c w : ℕ) → IsAccounted n o f x made c w → o ≡ None → (made ≡ x.calls) × (c ≡ 0)
settled n f o x made c w a quiet = ⊎_elim
    (λ t. (t.all, t.none))
    (⊎_elim (λ t. let none_waits : IsSome {T = Entry} None = subst (λ (z : Option Entry). IsSome z) quiet t.waits in absurd (cc)) (λ t. let e = t.waits in absurd (cc)))
    a

pub quietly : (n f m g : ℕ) (o q : Option Entry) (x : Lane) (made : List Call) (c w : ℕ) → IsAccounted n o f x made c w → o ≡ None → IsAccounted m q g x made c w
quietly n f m g o q x made c w a quiet = let s = settled n f o x made c w a quiet in inl (record { all = s.0; none = s.1 })

-- what is kept under another number than the seat's own does not hang on the seat
pub not_mine : (n f m g : ℕ) (o q : Option Entry) (x : Lane) (made : List Call) (c w : ℕ) → x.number ≢ n → IsAccounted n o f x made c w → IsAccounted m q g x made c w
not_mine n f m g o q x made c w ne a = ⊎_elim (λ t. inl t) (⊎_elim (λ t. absurd (ne (sym t.own))) (λ t. absurd (ne (sym t.own)))) a

-- where there is no letter
pub unlettered : (n f : ℕ) (o : Option Entry) (x : Lane) (made : List Call) (c w : ℕ) → IsAccounted n o f x made c w → c ≡ 0 → made ≡ x.calls
unlettered n f o x made c w a none = ⊎_elim (λ t. t.all) (⊎_elim (λ t. let one = t.one in absurd (omega arith)) (λ t. let one = t.one in absurd (omega arith))) a

-- the same number and the same insert in flight
pub alike : (n m f : ℕ) (o q : Option Entry) (x : Lane) (made : List Call) (c w : ℕ) → m ≡ n → q ≡ o → IsAccounted n o f x made c w → IsAccounted m q f x made c w
alike n m f o q x made c w number flight a = subst (λ (z : ℕ). IsAccounted z q f x made c w) (sym number) (subst (λ (z : Option Entry). IsAccounted n z f x made c w) (sym flight) a)

-- the same letters
pub recount : (n f : ℕ) (o : Option Entry) (x : Lane) (made : List Call) (c c' w w' : ℕ) → c' ≡ c → w' ≡ w → IsAccounted n o f x made c w → IsAccounted n o f x made c' w'
recount n f o x made c c' w w' count sum a = subst (λ (z : ℕ). IsAccounted n o f x made c' z) (sym sum) (subst (λ (z : ℕ). IsAccounted n o f x made z w) (sym count) a)

-- the letters of the seats stay as they are
abbrev pub AreKept : {O : Type 0} → ℕ → List ℕ → List (Post O) → List ℕ → List (Post O) → Type 0
AreKept seats ws ps ws' ps' = (n : ℕ) → IsSeat seats n → (letter_count n ws' ps' ≡ letter_count n ws ps) × (letter_sum n ws' ps' ≡ letter_sum n ws ps)

module _ {O : Type 0} (R : Rule O) (k : Limits) where
  -- two seats have different numbers
  pub apart : (s : Table O) (h : Holds R k s) (i j : ℕ) (v w : View O) (x y : Lane) → Stands R s i v → Stands R s j w
      → Contains v.lanes x → Contains w.lanes y → x.number ≡ y.number → j ≡ i
  apart s h i j v w x y at to hx hy e = dite (ℕ_discrete j i) (λ same. same) (λ n.
      let a = lanes_of_has v.lanes x hx in
      let b : 0 < lanes_of x.number w.lanes = subst (λ (z : ℕ). 0 < lanes_of z w.lanes) (sym e) (lanes_of_has w.lanes y hy) in
      let t = sum_two (λ (u : View O). lanes_of x.number u.lanes) s.views i j v w at to n in
      let one = h.once x.number in
      let most = numbered_once x.number 1 k.seats in
      absurd (omega arith))

  -- the seat's own lane
  pub own_lane : (v : View O) (f : HasFirst v.post.number v.lanes) → Contains v.lanes (lane v.post.number f.0)
  own_lane v f = first_in v.post.number v.lanes f

  -- who has a number, has it alone
  pub one_number : (s : Table O) (h : Holds R k s) (i j : ℕ) (v w : View O) → Stands R s i v → Stands R s j w
      → v.post.number ≢ 0 → v.post.number ≡ w.post.number → j ≡ i
  one_number s h i j v w at to n e =
      let a = (h.each i v at).first n in
      let b = (h.each j w to).first (λ z. n (e ∙ z)) in
      apart s h i j v w (lane v.post.number a.0) (lane w.post.number b.0) at to (own_lane v a) (own_lane w b) e

  -- each other lane of the seat has another number
  pub other_lane : (s : Table O) (h : Holds R k s) (id : ℕ) (v : View O) (f : HasFirst v.post.number v.lanes) (y : Lane) → Stands R s id v
      → Contains f.1 y → y.number ≢ v.post.number
  other_lane s h id v f y at has =
      let n = v.post.number in
      let one = sum_one (λ (u : View O). lanes_of n u.lanes) s.views id v at in let once = h.once n in let most = numbered_once n 1 k.seats in
      let alone : lanes_of n (lane n f.0 ∷ f.1) ≤ 1 = subst (λ (z : List Lane). lanes_of n z ≤ 1) f.2 (omega arith) in
      later_other (lane n f.0) y f.1 alone has

  pub number_low : (s : Table O) (h : Holds R k s) (j : ℕ) (v : View O) → Stands R s j v → 0 < v.post.number → IsSeat 16 v.post.number
  number_low s h j v at positive = let few = h.few in let g = h.each j v at in let f = g.first (λ e. omega arith) in let r = g.ranged (lane v.post.number f.0) (own_lane v f) in let high = r.1 in (positive, omega arith)

  pub number_in : (s : Table O) (h : Holds R k s) (j : ℕ) (v : View O) → Stands R s j v → v.post.number ≢ 0 → IsSeat k.seats v.post.number
  number_in s h j v at ne = let g = h.each j v at in let f = g.first ne in g.ranged (lane v.post.number f.0) (own_lane v f)

  -- the facts about a seat last where its letters and its locks do
  pub fits_on : (history : List Mark) (ws ws' : List ℕ) (ps ps' : List (Post O)) (v : View O) → Fits R k history ws ps v
      → AreKept k.seats ws ps ws' ps'
      → ((i : ℕ) → Contains v.post.locks i → get_or ws' i 0 ≡ get_or ws i 0)
      → Fits R k history ws' ps' v
  fits_on history ws ws' ps ps' v f letters same = record {
    limits = f.limits;
    front = f.front;
    behind = f.behind;
    ranged = f.ranged;
    calls = λ x has. let l = letters x.number (f.ranged x has) in recount v.post.number v.front v.post.flight x (calls_of x.number history) _ _ _ _ l.0 l.1 (f.calls x has);
    first = f.first;
    empty = f.empty;
    owes = f.owes;
    room = f.room;
    held = λ i has. let r = f.held i has in (r.0, same i has ∙ r.1, r.2);
  }

  -- a word that is no letter, and a seat that owes what it owed
  pub letters_on : (ws : List ℕ) (ps : List (Post O)) (i x id : ℕ) (p q : Post O) → (i ≡ 0) ⊎ (16 < i) → k.seats ≤ 16 → get_elem? ps id ≡ some p → q.owed ≡ p.owed
      → AreKept k.seats ws ps (set ws i x) (set ps id q)
  letters_on ws ps i x id p q out few at owed n seat =
      let low = seat.0 in let high = seat.1 in
      let word : get_or (set ws i x) n 0 ≡ get_or ws n 0 = get_or-set_other ws i n x 0 (λ e. ⊎_elim (λ z. omega arith) (λ z. omega arith) out) in
      let a = sum_kept (λ (u : Post O). owed_count n u.owed) ps id p q at (ap (owed_count n) owed) in
      let b = sum_kept (λ (u : Post O). owed_sum n u.owed) ps id p q at (ap (owed_sum n) owed) in
      ((λ j. min (word j) 1 + a j), (λ j. word j + b j))

  -- a step that leaves the history, each seat's letters, and the lanes
  pub stays_at : (s : Table O) (h : Holds R k s) (id : ℕ) (v w : View O) (i x : ℕ) (homes : _) → Stands R s id v
      → AreKept k.seats s.words (map post_of s.views) (set s.words i x) (set (map post_of s.views) id w.post)
      → w.lanes ≡ v.lanes → R.length_of (get_or (set s.words i x) 0 0) ≡ length h.history
      → Fits R k h.history (set s.words i x) (set (map post_of s.views) id w.post) w
      → ((j : ℕ) (u : View O) → j ≢ id → Stands R s j u → Contains u.post.locks i → get_or (set s.words i x) i 0 ≡ get_or s.words i 0)
      → ((l : ℕ) → R.locks k l ≡ true → get_or (set s.words i x) l 0 ≢ 0 → (j : ℕ) × (u : View O) × (get_elem? (set s.views id w) j ≡ some u) × Contains u.post.locks l)
      → R.ties k (set s.words i x) (set (map post_of s.views) id w.post) (left h.history)
      → Holds R k record { words = set s.words i x; homes = homes; views = set s.views id w }
  stays_at s h id v w i x homes at letters lanes counted fits others holder tied =
      let ps = map post_of s.views in
      let posts : map post_of (set s.views id w) ≡ set ps id w.post = map-set post_of s.views id w in
      let size = length-set s.words i x in
      record {
        history = h.history;
        legal = h.legal;
        counted = counted;
        few = h.few;
        few_calls = h.few_calls;
        long = size ∙ h.long;
        letters = let l = h.letters in omega arith;
        width = let l = h.width in omega arith;
        once = λ n. sum_kept (λ (u : View O). lanes_of n u.lanes) s.views id v w at (ap (lanes_of n) lanes) ∙ h.once n;
        lanes = sum_kept (λ (u : View O). length u.lanes) s.views id v w at (ap (λ (l : List Lane). length l) lanes) ∙ h.lanes;
        each = λ j u to. subst (λ (z : List (Post O)). Fits R k h.history (set s.words i x) z u) (sym posts)
            (⊎_elim
            (λ t. subst (λ (z : View O). Fits R k h.history (set s.words i x) (set ps id w.post) z) t.1 fits)
            (λ t. fits_on h.history s.words (set s.words i x) ps (set ps id w.post) u (h.each j u t.1)
            letters
            (λ l has. dite (ℕ_discrete l i)
            (λ e. subst (λ (z : ℕ). get_or (set s.words i x) z 0 ≡ get_or s.words z 0) (sym e) (others j u t.0 t.1 (subst (λ (z : ℕ). Contains u.post.locks z) e has)))
            (λ n. get_or-set_other s.words i l x 0 n)))
            (at_set s.views id j w u to));
        holder = holder;
        tied = subst (λ (z : List (Post O)). R.ties k (set s.words i x) z (left h.history)) (sym posts) tied;
      }

  pub stays : (s : Table O) (h : Holds R k s) (id : ℕ) (v w : View O) (i x : ℕ) (homes : _) → Stands R s id v
      → (i ≡ 0) ⊎ (16 < i) → w.lanes ≡ v.lanes → w.post.owed ≡ v.post.owed → R.length_of (get_or (set s.words i x) 0 0) ≡ length h.history
      → Fits R k h.history (set s.words i x) (set (map post_of s.views) id w.post) w
      → ((j : ℕ) (u : View O) → j ≢ id → Stands R s j u → Contains u.post.locks i → get_or (set s.words i x) i 0 ≡ get_or s.words i 0)
      → ((l : ℕ) → R.locks k l ≡ true → get_or (set s.words i x) l 0 ≢ 0 → (j : ℕ) × (u : View O) × (get_elem? (set s.views id w) j ≡ some u) × Contains u.post.locks l)
      → R.ties k (set s.words i x) (set (map post_of s.views) id w.post) (left h.history)
      → Holds R k record { words = set s.words i x; homes = homes; views = set s.views id w }
  stays s h id v w i x homes at out lanes owed counted fits others holder tied =
      stays_at s h id v w i x homes at (letters_on s.words (map post_of s.views) i x id v.post w.post out h.few (at_map post_of s.views id v at) owed) lanes counted fits others holder tied

  pub holder_keep : (s : Table O) (h : Holds R k s) (id : ℕ) (v w : View O) → Stands R s id v → ((i : ℕ) → Contains v.post.locks i → Contains w.post.locks i)
      → (l : ℕ) → R.locks k l ≡ true → get_or s.words l 0 ≢ 0 → (j : ℕ) × (u : View O) × (get_elem? (set s.views id w) j ≡ some u) × Contains u.post.locks l
  holder_keep s h id v w at keep l is ne = let r = h.holder l is ne in dite (ℕ_discrete r.0 id)
      (λ e. (id, w, put_here s.views id v w at, keep l (subst (λ (u : View O). Contains u.post.locks l) (same_at s.views id r.1 v (subst (λ (z : ℕ). get_elem? s.views z ≡ some r.1) e r.2) at) r.3)))
      (λ n. (r.0, r.1, set_else s.views id r.0 w n ∙ r.2, r.3))

  -- a step that changes no word and no view
  pub untouched : (s : Table O) (h : Holds R k s) (id : ℕ) (v : View O) (i : ℕ) → Stands R s id v → Holds R k record { words = set s.words i (get_or s.words i 0); homes = s.homes; views = set s.views id v }
  untouched s h id v i at = subst (λ (ws : List ℕ). Holds R k record { words = ws; homes = s.homes; views = set s.views id v }) (sym (set-get_or s.words i 0))
      (subst (λ (vs : List (View O)). Holds R k record { words = s.words; homes = s.homes; views = vs }) (sym (set_again s.views id v at)) h)

  -- the limits that a seat knows are the table's
  pub limits_of : (s : Table O) (h : Holds R k s) (id : ℕ) (v : View O) → Stands R s id v → v.post.number ≢ 0 → v.limits ≡ k
  limits_of s h id v at ne = let f = h.each id v at in let x = f.first ne in f.limits (lane v.post.number x.0) (own_lane v x)

  -- the history is one that the seat's pass may know
  pub witnessed : (s : Table O) (h : Holds R k s) (id : ℕ) (v : View O) → Stands R s id v → v.post.flight ≡ None → v.post.number ≢ 0
      → Witnesses v.limits.seats v.limits.capacity (known_of v) h.history
  witnessed s h id v at quiet ne =
      let f = h.each id v at in
      let P : Lane → Type 0 = λ l. calls_of l.number h.history ≡ l.calls in
      let all : All P v.lanes = all_in P v.lanes (λ l has. (settled v.post.number v.front v.post.flight l (calls_of l.number h.history) _ _ (f.calls l has) quiet).0) in
      subst (λ (z : Limits). Witnesses z.seats z.capacity (known_of v) h.history) (sym (limits_of s h id v at ne)) (record {
        legal = h.legal;
        holds = subst (All P) (sym (lanes_known v.post.number v.lanes (f.first ne))) all;
        behind = f.behind;
        long = f.front;
      })

  pub informs : (s : Table O) (h : Holds R k s) (id : ℕ) (v : View O) → Stands R s id v → v.post.flight ≡ None → v.post.number ≢ 0
      → Knows v.limits.seats v.limits.capacity (known_of v)
  informs s h id v at quiet ne = (h.history, witnessed s h id v at quiet ne)

  -- a seat has no more lanes than there are numbers
  pub few_lanes : (s : Table O) (h : Holds R k s) (id : ℕ) (v : View O) → Stands R s id v → length v.lanes ≤ k.seats
  few_lanes s h id v at = let a = sum_one (λ (u : View O). length u.lanes) s.views id v at in let b = h.lanes in omega arith
