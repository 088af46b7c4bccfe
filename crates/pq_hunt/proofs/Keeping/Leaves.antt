-- Leaving a letter keeps the heap's facts.
use Rattle.std.proofs.Common.{◌≡◌, ◌≢◌, ◌⊎◌, ℕ, ◌+◌, Bool, true, false, cond, eqb, List, [], ◌∷◌, get_or, set, min, inl, inr, ⊎_elim, refl, sym, ap, ◌∙◌, subst, arith, get_or-set_other, get_or-set_same, length-set}
use Rattle.std.specs.Prelude.{Contains}
use Rattle.std.specs.List.{sum_by}
use Rattle.std.proofs.lemmas.Bool.Decides.{eqb_tells}
use native.Mathlib.Decide.{ℕ_discrete}
use mathlib.Core.Logic.{dite}
use Rattle.pq_model.specs.History.{left}
use Rattle.pq_seats.specs.declared.views.Limits.{Limits}
use Rattle.pq_seats.specs.declared.views.Post.{Post}
use Rattle.pq_seats.specs.declared.views.View.{View}
use Rattle.pq_seats.specs.Letters.{owed_count, without, letter_count}
use Rattle.pq_seats.specs.Posts.{without_letter}
use Rattle.pq_seats.specs.Allowed.{MayLeave}
use Rattle.pq_seats.proofs.Lists.{in_cases, in_later, not_in, test_same, test_other, sum_set}
use Rattle.pq_seats.proofs.Marks.{owed_count-cons}
use Rattle.pq_seats.proofs.Leaving.{one_letter, sum_of_one}
use Rattle.pq_hunt.specs.declared.views.HuntPart.{HuntPart}
use Rattle.pq_hunt.specs.Rules.{hunt_rule}
use Rattle.pq_nodes.proofs.Keeping.{frame_keeps}
use Rattle.pq_nodes.proofs.Tables.{same_locks, same_words}
use Rattle.pq_hunt.specs.LawsHold.Changes.{ps, pat, changed}
use Rattle.pq_hunt.specs.NodeParts.{hunt_nodes}
use Rattle.pq_hunt.specs.Layout.{size_word, heap_lock}

-- what is left where the letters for one owner are gone
without_if : (b : Bool) (x : ℕ × ℕ) (rest : List (ℕ × ℕ)) (y : ℕ × ℕ) → Contains (cond b rest (x ∷ rest)) y → (x ≡ y) ⊎ Contains rest y
without_if true x rest y has = inr has
without_if false x rest y has = in_cases x y rest has

without_has : (n : ℕ) (xs : List (ℕ × ℕ)) (y : ℕ × ℕ) → Contains (without n xs) y → Contains xs y
without_has n [] y has = absurd (not_in y has)
without_has n (x ∷ xs) y has = ⊎_elim (λ e. (0, omega arith, e)) (λ r. in_later x y xs (without_has n xs y r)) (without_if (eqb x.0 n) x (without n xs) y has)

count_if : (b : Bool) (m : ℕ) (x : ℕ × ℕ) (rest : List (ℕ × ℕ)) → owed_count m (cond b rest (x ∷ rest)) ≡ cond b (owed_count m rest) (owed_count m (x ∷ rest))
count_if true m x rest = refl
count_if false m x rest = refl

none_without : (n : ℕ) (xs : List (ℕ × ℕ)) → owed_count n (without n xs) ≡ 0
none_without n [] = refl
none_without n (x ∷ xs) = let r = none_without n xs in let i = count_if (eqb x.0 n) n x (without n xs) in let c = owed_count-cons n x (without n xs) in ⊎_elim
    (λ t. let a = test_same x.0 n (owed_count n (without n xs)) (owed_count n (x ∷ without n xs)) t.1 in omega arith)
    (λ t. let a = test_other x.0 n (owed_count n (without n xs)) (owed_count n (x ∷ without n xs)) t.1 in let b = test_other x.0 n 1 0 t.1 in omega arith)
    (eqb_tells x.0 n)

others_without : (n m : ℕ) (xs : List (ℕ × ℕ)) → m ≢ n → owed_count m (without n xs) ≡ owed_count m xs
others_without n m [] ne = refl
others_without n m (x ∷ xs) ne = let r = others_without n m xs ne in let i = count_if (eqb x.0 n) m x (without n xs) in let c = owed_count-cons m x (without n xs) in let d = owed_count-cons m x xs in ⊎_elim
    (λ t. let a = test_same x.0 n (owed_count m (without n xs)) (owed_count m (x ∷ without n xs)) t.1 in let e = t.1 in let b = test_other x.0 m 1 0 (λ q. ne (omega arith)) in omega arith)
    (λ t. let a = test_other x.0 n (owed_count m (without n xs)) (owed_count m (x ∷ without n xs)) t.1 in omega arith)
    (eqb_tells x.0 n)

pub may_leave : (k : Limits) (id : ℕ) (v : View HuntPart) (owner letter : ℕ) → Contains v.post.owed (owner, letter) → MayLeave hunt_rule k id v owner letter
may_leave k id v owner letter has s h at empty =
    let t = h.tied in let qs = ps k s h id v at in let here = pat k s h id v at in
    let range = (h.each id v at).owes (owner, letter) has in
    let low = range.0.0 in let high = range.0.1 in let positive = range.1 in let few = h.few in
    let p' : Post HuntPart = without_letter v.post owner in
    let ws : List ℕ = set s.words owner letter in
    let long = t.long in
    let written : get_or ws owner 0 ≡ letter = get_or-set_same s.words owner letter 0 (omega arith) in
    let word : (m : ℕ) → m ≢ owner → get_or ws m 0 ≡ get_or s.words m 0 = (λ m ne. get_or-set_other s.words owner m letter 0 ne) in
    let one = one_letter hunt_rule k s h owner range.0 in
    let there = (sum_of_one owner letter v.post.owed has).0 in
    let lock = word heap_lock (λ e. omega arith) in let size = word size_word (λ e. omega arith) in
    let sums : (m : ℕ) → sum_by (λ (p : Post HuntPart). owed_count m p.owed) (set qs id p') + owed_count m v.post.owed ≡ sum_by (λ (p : Post HuntPart). owed_count m p.owed) qs + owed_count m p'.owed =
    (λ m. sum_set (λ (p : Post HuntPart). owed_count m p.owed) qs id v.post p' here) in
    let same : (m : ℕ) → letter_count m ws (set qs id p') ≡ letter_count m s.words qs = (λ m. dite (ℕ_discrete m owner)
    (λ e. subst (λ (z : ℕ). letter_count z ws (set qs id p') ≡ letter_count z s.words qs) (sym e)
    (let q = sums owner in let gone = none_without owner v.post.owed in let a : min (get_or ws owner 0) 1 ≡ min letter 1 = ap (λ (z : ℕ). min z 1) written in
    let b : min (get_or s.words owner 0) 1 ≡ 0 = ap (λ (z : ℕ). min z 1) empty in omega arith))
    (λ ne. let q = sums m in let kept = others_without owner m v.post.owed ne in let a : min (get_or ws m 0) 1 ≡ min (get_or s.words m 0) 1 = ap (λ (z : ℕ). min z 1) (word m ne) in omega arith)) in
    changed k s h id v at p' ws (left h.history) (record {
      number = refl;
      long = length-set s.words owner letter;
      size = t.size;
      of = t.of;
      nodes = t.nodes;
      tree = frame_keeps hunt_nodes s.words qs t.nodes t.tree id v.post here ws p'
          (same_locks s.words owner letter (omega arith)) (same_words s.words owner letter (omega arith)) refl (λ i held. held)
          (λ i held. held);
      facts = t.facts;
      sizes = record {
        free = λ e. size ∙ t.free (sym lock ∙ e);
        mine = λ locked. let old = t.held id v.post here locked in (old.0, size ∙ old.1);
        theirs = inl (refl, size);
      };
      inserts = record {
        told = λ pos. let old = t.told id v.post here pos in record {
          told = record { most = old.told.most; told = ap (λ (z : ℕ). (t.of v.post.number).waiting + z) (same v.post.number) ∙ old.told.told };
          place = old.place;
          flies = old.flies;
          rests = old.rests;
        };
        others = λ m pos m_low ne. record { waits = ap (λ (z : ℕ). (t.of m).waiting + z) (same m); place = refl; entry = refl };
        borne = λ m w. inl w;
      };
      letters = record {
        owing = ⊎_elim (λ e. absurd (not_in (owner, letter) (subst (λ (z : List (ℕ × ℕ)). Contains z (owner, letter)) e has))) (λ g. inr g) (t.owing id v.post here);
        sent = λ m pos m_low. dite (ℕ_discrete m owner)
            (λ e. let z : get_or ws m 0 ≡ letter = ap (λ (q : ℕ). get_or ws q 0) e ∙ written in let below = t.owes id v.post (owner, letter) here has in omega arith)
            (λ ne. let z = word m ne in let old = t.sent m pos m_low in omega arith);
        owes = λ x has_x. t.owes id v.post x here (without_has owner v.post.owed x has_x);
        lettered = λ is z. let old = t.lettered id v.post here is in dite (ℕ_discrete v.post.number owner)
            (λ e. let w : letter ≡ 0 = sym written ∙ (ap (λ (q : ℕ). get_or ws q 0) (sym e) ∙ z) in omega arith)
            (λ ne. old (sym (word v.post.number ne) ∙ z));
        written = λ m pos m_low ne old z. dite (ℕ_discrete m owner)
            (λ e. let w : letter ≡ 0 = sym written ∙ (ap (λ (q : ℕ). get_or ws q 0) (sym e) ∙ z) in omega arith)
            (λ d. old (sym (word m d) ∙ z));
      };
    })
