-- Clap's walk over the words behind a command's name, beside the settings that these words are read as.
use Rattle.std.proofs.Common.{◌≡◌, ◌∙◌, ◌⊎◌, inl, inr, refl, sym, ap, subst, ℕ, false, List, [], ◌∷◌, Option, None, Some}
use Rattle.std.specs.Prelude.{codes}
use Rattle.std.specs.List.{AllByRecursion}
use Rattle.std.specs.Str.{bytes_eq}
use Rattle.clap.specs.Lexer.{long_of}
use Rattle.clap.specs.Kinds.{Kinds, or_else}
use Rattle.clap.specs.Faults.{use_fault, settle_fault, walk_fault, turn_fault}
use Rattle.clap.specs.Walk.{Row, Rule, Text, Walk, used, settled_rows, walked}
use Rattle.clap.specs.declared.error.kind.ErrorKind.{ErrorKind}
use Rattle.clap.specs.declared.error.kind.ErrorKind.TheVariants.{UnknownArgument}
use Rattle.cli_words.specs.declared.settings.Settings.{Settings}
use Rattle.cli_words.specs.declared.command.Kind.{Kind}
use Rattle.cli_words.specs.Words.{◌>>=◌, once, kind_of, behind_dashes, pair_name, with_kind, with_option, with_lone, settings_from}
use Rattle.cli_words.specs.CommandWords.{nothing}
use Rattle.cli_words.specs.Sayings.{IsOptionName}
use Rattle.cli_words.proofs.Options.{given, kind_kept}
use Rattle.cli_words.proofs.SayingsRead.{WordIs, IsName, IsOpen, IsWhole, word_is, named_word, open_word, whole_word}
use Rattle.cli_words.proofs.ClapRows.{bind_some, bind_bind, bind_same, bind_none, when, when_or, when_bind, when_none, settings_by, use_is}
use Rattle.cli_words.proofs.ClapWords.{open_long, whole_long}
use Rattle.cli_words.proofs.ClapSteps.{one_more, unknown_fault, whole_walked, whole_fault, open_walked, open_fault, name_step, second_name, value_step, option_rule, leaf, holding, between, behind, so_far, comes_to, IsNoEnd, AreRules}

-- the product's own reading, word by word

pub lone_from : (s : Settings) (x : Text) (words : List Text) → pair_name x ≡ None → settings_from s (x ∷ words) ≡ (with_lone s x >>= λ t. settings_from t words)
unfolding settings_from
lone_from s x [] alone = rw alone refl
lone_from s x (v ∷ words) alone = rw alone refl

pub pair_alone : (s : Settings) (n x : Text) → pair_name x ≡ Some n → settings_from s (x ∷ []) ≡ None
unfolding settings_from
pair_alone s n x pair = rw pair refl

pub pair_from : (s : Settings) (n x v : Text) (words : List Text) → pair_name x ≡ Some n → settings_from s (x ∷ v ∷ words) ≡ (with_option s n v >>= λ t. settings_from t words)
unfolding settings_from
pair_from s n x v words pair = rw pair refl

-- one thing more, in the settings so far

used_so_far : (c : List Rule) → AreRules c → (n v : Text) (rows : List Row) → IsOptionName n →
    when (use_fault false (option_rule n) (v ∷ []) rows) (settings_by (used (option_rule n) (v ∷ []) rows)) ≡ (settings_by rows >>= λ s. with_option s n v)
used_so_far c rules n v rows known = use_is n (Some n) None v rows (inl known) ∙ rw (rules.other n known) refl

pending_so_far : (c : List Rule) → AreRules c → (n v : Text) (rows : List Row) → IsOptionName n →
    so_far c (holding rows (Some (n, v ∷ []))) ≡ (settings_by rows >>= λ s. with_option s n v)
pending_so_far c rules n v rows known = rw (rules.id n known) (used_so_far c rules n v rows known)

named_so_far : (c : List Rule) → AreRules c → (x : Text) (rows : List Row) →
    so_far c (holding rows (Some (codes "kind", x ∷ []))) ≡ (settings_by rows >>= λ s. with_kind s x)
named_so_far c rules x rows = rw rules.kind (use_is (codes "kind") None (Some 1) x rows (inr refl))

-- No problem was said before; or one was, and no other can be.
abbrev IsAt : List Rule → List Row → Option (Text × List Text) → ℕ → Type 0
IsAt c rows p k = (k ≡ 1) ⊎ ((k ≡ 2) × ((v : Text) → (so_far c (holding rows p) >>= λ s. with_kind s v) ≡ None))

-- the walk agrees with the reading of these words
abbrev Agrees : Text → List Rule → List Text → Type 0
Agrees name c words = (rows : List Row) (p : Option (Text × List Text)) (k : ℕ) → IsAt c rows p k →
    comes_to name c (between rows p k) words ≡ (so_far c (holding rows p) >>= λ s. settings_from s words)

-- a word that is refused
refused_word : (name : Text) (c : List Rule) (w : Walk) (x : Text) (words : List Text) (fault : ErrorKind) →
    turn_fault (leaf name c) [] w x ≡ fault ∷ [] → comes_to name c w (x ∷ words) ≡ None
refused_word name c w x words fault is = one_more name c w x words ∙ ap (λ t. when t (comes_to name c (walked c [] w x) words)) is

when_only : {A : Type 0} (a : Kinds) (x y : Option A) → (a ≡ [] → x ≡ y) → when a x ≡ when a y
when_only [] x y h = h refl
when_only (k ∷ ks) x y h = refl

pub or_nil : (a : Kinds) → or_else a [] ≡ a
or_nil [] = refl
or_nil (k ∷ ks) = refl

-- a word that is taken, where the walk over the rest agrees
taken_word : (name : Text) (c : List Rule) (w : Walk) (x : Text) (words : List Text) (faults : Kinds) (rows : List Row) (p : Option (Text × List Text)) (k : ℕ) →
    walked c [] w x ≡ between rows p k → turn_fault (leaf name c) [] w x ≡ faults → Agrees name c words → (faults ≡ [] → IsAt c rows p k) →
    comes_to name c w (x ∷ words) ≡ (when faults (so_far c (holding rows p)) >>= λ s. settings_from s words)
taken_word name c w x words faults rows p k is fault rest at =
    one_more name c w x words
    ∙ ap (λ t. when t (comes_to name c (walked c [] w x) words)) fault
    ∙ ap (λ y. when faults (comes_to name c y words)) is
    ∙ when_only faults (comes_to name c (between rows p k) words) (so_far c (holding rows p) >>= λ s. settings_from s words) (λ e. rest rows p k (at e))
    ∙ when_bind faults (so_far c (holding rows p)) (λ s. settings_from s words)

-- where one more thing is said, what follows is read with it
bound_more : (o : Option Settings) (f g : Settings → Option Settings) (words : List Text) → ((s : Settings) → g s ≡ (f s >>= λ t. settings_from t words)) →
    ((o >>= f) >>= λ s. settings_from s words) ≡ (o >>= g)
bound_more o f g words h = bind_bind o f (λ s. settings_from s words) ∙ bind_same o (λ s. f s >>= λ t. settings_from t words) g (λ s. sym (h s))

once_by : (a b : Option Kind) (k : Kind) (s t : Settings) → b ≡ a → (once a k >>= λ f. Some (record s { kind = f })) ≡ None →
    (once b k >>= λ f. Some (record t { kind = f })) ≡ None
once_by None b k s t e h = absurd (cc)
once_by (Some x) b k s t e h = rw e refl

same_kind_by : (o : Option Kind) (s t : Settings) → t.kind ≡ s.kind → (o >>= λ k. once s.kind k >>= λ f. Some (record s { kind = f })) ≡ None →
    (o >>= λ k. once t.kind k >>= λ f. Some (record t { kind = f })) ≡ None
same_kind_by None s t e h = refl
same_kind_by (Some k) s t e h = once_by s.kind t.kind k s t e h

same_kind : (s t : Settings) (v : Text) → t.kind ≡ s.kind → with_kind s v ≡ None → with_kind t v ≡ None
unfolding with_kind
same_kind s t v e h = same_kind_by (kind_of v) s t e h

second_kind_by : (o : Option Kind) (t : Settings) (k : Kind) → t.kind ≡ Some k → (o >>= λ x. once t.kind x >>= λ f. Some (record t { kind = f })) ≡ None
second_kind_by None t k e = refl
second_kind_by (Some x) t k e = rw e refl

second_kind : (s t : Settings) (x v : Text) → with_kind s x ≡ Some t → with_kind t v ≡ None
unfolding with_kind
second_kind s t x v h = let g = given (kind_of x) s.kind (λ k. record s { kind = k }) t h in second_kind_by (kind_of v) t g.1 (ap (λ (u : Settings). u.kind) g.3)

bound_none_by : {B C : Type 0} (o : Option B) (g : B → Option C) → ((y : B) → o ≡ Some y → g y ≡ None) → (o >>= g) ≡ None
bound_none_by None g h = refl
bound_none_by (Some y) g h = h y refl

bound_none : {A B C : Type 0} (o : Option A) (f : A → Option B) (g : B → Option C) → ((x : A) (y : B) → f x ≡ Some y → g y ≡ None) → ((o >>= f) >>= g) ≡ None
bound_none None f g h = refl
bound_none (Some x) f g h = bound_none_by (f x) g (λ y e. h x y e)

-- after one more option the place is as good as before
after_option : (c : List Rule) (o : Option Settings) (n v : Text) → ((x : Text) → (o >>= λ s. with_kind s x) ≡ None) →
    (x : Text) → ((o >>= λ s. with_option s n v) >>= λ t. with_kind t x) ≡ None
after_option c None n v h x = refl
after_option c (Some s) n v h x = bound_none_by (with_option s n v) (λ t. with_kind t x) (λ t e. same_kind s t x (kind_kept s t n v e) (h x))

-- where the walk stands after an option
option_at : (c : List Rule) (rows : List Row) (p : Option (Text × List Text)) (k : ℕ) (n v : Text) (after : List Row) (q : Option (Text × List Text)) → IsAt c rows p k →
    so_far c (holding after q) ≡ (so_far c (holding rows p) >>= λ s. with_option s n v) → IsAt c after q k
option_at c rows p k n v after q (inl one) step = inl one
option_at c rows p k n v after q (inr two) step =
    inr (two.0, λ x. ap (λ o. o >>= λ s. with_kind s x) step ∙ after_option c (so_far c (holding rows p)) n v two.1 x)

-- a word that is taken, and what is read of it
walked_on : (name : Text) (c : List Rule) (w : Walk) (x : Text) (words : List Text) (faults : Kinds) (rows : List Row) (p : Option (Text × List Text)) (k : ℕ)
    (now : Option Settings) (f : Settings → Option Settings) →
    walked c [] w x ≡ between rows p k → turn_fault (leaf name c) [] w x ≡ faults → Agrees name c words →
    when faults (so_far c (holding rows p)) ≡ (now >>= f) → (faults ≡ [] → IsAt c rows p k) →
    ((s : Settings) → settings_from s (x ∷ words) ≡ (f s >>= λ t. settings_from t words)) →
    comes_to name c w (x ∷ words) ≡ (now >>= λ s. settings_from s (x ∷ words))
walked_on name c w x words faults rows p k now f is fault rest step at read =
    taken_word name c w x words faults rows p k is fault rest at
    ∙ ap (λ o. o >>= λ s. settings_from s words) step
    ∙ bound_more now f (λ s. settings_from s (x ∷ words)) words read

-- a whole option in front of more words
whole_agrees : (name : Text) (c : List Rule) → AreRules c → (n v x : Text) (words : List Text) → IsNoEnd x → long_of x ≡ Some (n, Some v) →
    pair_name x ≡ None → ((s : Settings) → with_lone s x ≡ with_option s n v) → Agrees name c words → Agrees name c (x ∷ words)
whole_agrees name c rules n v x words no_end is alone lone rest rows p k at =
    let now = so_far c (holding rows p) in
    let read : (s : Settings) → settings_from s (x ∷ words) ≡ (with_option s n v >>= λ t. settings_from t words) =
    λ s. lone_from s x words alone ∙ ap (λ o. o >>= λ t. settings_from t words) (lone s) in
    elim (rules.long n) [
      | inr h ↦
          refused_word name c (between rows p k) x words UnknownArgument (unknown_fault name c n x (Some v) rows p k no_end is h.0)
          ∙ sym (bind_none now (λ s. settings_from s (x ∷ words)) (λ s. read s ∙ ap (λ o. o >>= λ t. settings_from t words) (h.1 s v)))
      | inl h ↦
          let R = settled_rows c p rows in
          let S = settle_fault c false (holding rows p) in
          let U = use_fault false (option_rule n) (v ∷ []) R in
          let after = used (option_rule n) (v ∷ []) R in
          let next = so_far c (holding after None) in
          let step : when (or_else (or_else S U) []) next ≡ (now >>= λ s. with_option s n v) =
          when_or (or_else S U) [] next ∙ when_or S U next ∙ ap (when S) (used_so_far c rules n v R h.0) ∙ when_bind S (settings_by R) (λ s. with_option s n v) in
          walked_on name c (between rows p k) x words (or_else (or_else S U) []) after None k now (λ s. with_option s n v)
          (whole_walked c n x v rows p k no_end is h.1) (whole_fault name c n x v rows p k no_end is h.1) rest step
          (λ none. option_at c rows p k n v after None at (ap (λ t. when t next) (sym none) ∙ step)) read
    ]

-- the name of an option in front of more words

nothing_behind : (name : Text) (c : List Rule) → AreRules c → (n : Text) (rows : List Row) (k : ℕ) → IsOptionName n → comes_to name c (behind n rows k) [] ≡ None
unfolding walk_fault
nothing_behind name c rules n rows k known = rw (rules.id n known) refl

open_alone : (name : Text) (c : List Rule) → AreRules c → (n x : Text) → IsNoEnd x → long_of x ≡ Some (n, None) → pair_name x ≡ Some n → Agrees name c (x ∷ [])
open_alone name c rules n x no_end is pair rows p k at =
    let now = so_far c (holding rows p) in
    let none = bind_none now (λ s. settings_from s (x ∷ [])) (λ s. pair_alone s n x pair) in
    elim (rules.long n) [
      | inr h ↦ refused_word name c (between rows p k) x [] UnknownArgument (unknown_fault name c n x None rows p k no_end is h.0) ∙ sym none
      | inl h ↦
          let T = turn_fault (leaf name c) [] (between rows p k) x in
          one_more name c (between rows p k) x []
          ∙ ap (λ y. when T (comes_to name c y [])) (open_walked c n x rows p k no_end is h.1)
          ∙ ap (when T) (nothing_behind name c rules n (settled_rows c p rows) k h.0)
          ∙ when_none T ∙ sym none
    ]

open_agrees : (name : Text) (c : List Rule) → AreRules c → (n x v : Text) (words : List Text) → IsNoEnd x → IsNoEnd v → long_of x ≡ Some (n, None) →
    pair_name x ≡ Some n → Agrees name c words → Agrees name c (x ∷ v ∷ words)
open_agrees name c rules n x v words no_end no_end_v is pair rest rows p k at =
    let now = so_far c (holding rows p) in
    let R = settled_rows c p rows in
    let S = settle_fault c false (holding rows p) in
    let f : Settings → Option Settings = λ s. with_option s n v in
    let read : (s : Settings) → settings_from s (x ∷ v ∷ words) ≡ (f s >>= λ t. settings_from t words) = λ s. pair_from s n x v words pair in
    let none : ((s : Settings) → with_option s n v ≡ None) → None ≡ (now >>= λ s. settings_from s (x ∷ v ∷ words)) =
    λ h. sym (bind_none now (λ s. settings_from s (x ∷ v ∷ words)) (λ s. read s ∙ ap (λ o. o >>= λ t. settings_from t words) (h s))) in
    elim (rules.long n) [
      | inr h ↦
          refused_word name c (between rows p k) x (v ∷ words) UnknownArgument (unknown_fault name c n x None rows p k no_end is h.0) ∙ none (λ s. h.1 s v)
      | inl h ↦
          let to_behind : comes_to name c (between rows p k) (x ∷ v ∷ words) ≡ when S (comes_to name c (behind n R k) (v ∷ words)) =
          one_more name c (between rows p k) x (v ∷ words)
          ∙ ap (λ t. when t (comes_to name c (walked c [] (between rows p k) x) (v ∷ words))) (open_fault name c n x rows p k no_end is h.1 ∙ or_nil S)
          ∙ ap (λ y. when S (comes_to name c y (v ∷ words))) (open_walked c n x rows p k no_end is h.1) in
          elim (value_step name c rules n v R k h.0 no_end_v (word_is v)) [
            | inl bad ↦ to_behind ∙ ap (when S) (refused_word name c (behind n R k) v words bad.0 bad.1) ∙ when_none S ∙ none bad.2
            | inr good ↦
                let next = so_far c (holding R (Some (n, v ∷ []))) in
                let step : when S next ≡ (now >>= f) = ap (when S) (pending_so_far c rules n v R h.0) ∙ when_bind S (settings_by R) f in
                let taken : S ≡ [] → comes_to name c (behind n R k) (v ∷ words) ≡ (next >>= λ s. settings_from s words) = λ e.
                taken_word name c (behind n R k) v words [] R (Some (n, v ∷ [])) k good.0 good.1 rest
                (λ _. option_at c rows p k n v R (Some (n, v ∷ [])) at (ap (λ t. when t next) (sym e) ∙ step)) in
                to_behind
                ∙ when_only S (comes_to name c (behind n R k) (v ∷ words)) (next >>= λ s. settings_from s words) taken
                ∙ when_bind S next (λ s. settings_from s words)
                ∙ ap (λ o. o >>= λ s. settings_from s words) step
                ∙ bound_more now f (λ s. settings_from s (x ∷ v ∷ words)) words read
          ]
    ]

-- a word without two dashes in front of more words

first_named : (name : Text) (c : List Rule) → AreRules c → (x : Text) (words : List Text) → IsNoEnd x → behind_dashes x ≡ None → Agrees name c words →
    (rows : List Row) (p : Option (Text × List Text)) → comes_to name c (between rows p 1) (x ∷ words) ≡ (so_far c (holding rows p) >>= λ s. settings_from s (x ∷ words))
first_named name c rules x words no_end none rest rows p =
    let now = so_far c (holding rows p) in
    let R = settled_rows c p rows in
    let S = settle_fault c false (holding rows p) in
    let next = so_far c (holding R (Some (codes "kind", x ∷ []))) in
    let f : Settings → Option Settings = λ s. with_kind s x in
    let read : (s : Settings) → settings_from s (x ∷ words) ≡ (f s >>= λ t. settings_from t words) =
    λ s. let w = named_word s x none in lone_from s x words w.0 ∙ ap (λ o. o >>= λ t. settings_from t words) w.1 in
    elim (name_step name c rules x rows p no_end none) [
      | inl bad ↦
          refused_word name c (between rows p 1) x words UnknownArgument bad.0
          ∙ sym (bind_none now (λ s. settings_from s (x ∷ words)) (λ s. read s ∙ ap (λ o. o >>= λ t. settings_from t words) (bad.1 s)))
      | inr good ↦
          let step : when S next ≡ (now >>= f) = ap (when S) (named_so_far c rules x R) ∙ when_bind S (settings_by R) f in
          let two : (v : Text) → (next >>= λ s. with_kind s v) ≡ None =
          λ v. ap (λ o. o >>= λ s. with_kind s v) (named_so_far c rules x R) ∙ bound_none (settings_by R) f (λ s. with_kind s v) (λ s t e. second_kind s t x v e) in
          walked_on name c (between rows p 1) x words S R (Some (codes "kind", x ∷ [])) 2 now f good.0 good.1 rest step (λ _. inr (refl, two)) read
    ]

name_agrees : (name : Text) (c : List Rule) → AreRules c → (x : Text) (words : List Text) → IsNoEnd x → behind_dashes x ≡ None → Agrees name c words → Agrees name c (x ∷ words)
name_agrees name c rules x words no_end none rest rows p k (inl one) =
    subst (λ (n : ℕ). comes_to name c (between rows p n) (x ∷ words) ≡ (so_far c (holding rows p) >>= λ s. settings_from s (x ∷ words))) (sym one)
    (first_named name c rules x words no_end none rest rows p)
name_agrees name c rules x words no_end none rest rows p k (inr two) =
    let now = so_far c (holding rows p) in
    let f : Settings → Option Settings = λ s. with_kind s x in
    let read : (s : Settings) → settings_from s (x ∷ words) ≡ (f s >>= λ t. settings_from t words) =
    λ s. let w = named_word s x none in lone_from s x words w.0 ∙ ap (λ o. o >>= λ t. settings_from t words) w.1 in
    ap (λ (n : ℕ). comes_to name c (between rows p n) (x ∷ words)) two.0
    ∙ refused_word name c (between rows p 2) x words UnknownArgument (second_name name c rules x rows p no_end none)
    ∙ sym (sym (bound_more now f (λ s. settings_from s (x ∷ words)) words read) ∙ ap (λ o. o >>= λ s. settings_from s words) (two.1 x))

-- no word is the end of the options
abbrev pub AreNoEnds : List Text → Type 0
AreNoEnds words = AllByRecursion (λ x. bytes_eq x (45 ∷ 45 ∷ []) ≡ false) words

lone_agrees : (name : Text) (c : List Rule) → AreRules c → (x : Text) → WordIs x → IsNoEnd x → Agrees name c [] → Agrees name c (x ∷ [])
lone_agrees name c rules x (IsName none) no_end rest = name_agrees name c rules x [] no_end none rest
lone_agrees name c rules x (IsOpen n e free) no_end rest =
    open_alone name c rules n x no_end (ap long_of e ∙ open_long n free (subst IsNoEnd e no_end)) (ap pair_name e ∙ open_word n free)
lone_agrees name c rules x (IsWhole n v e free) no_end rest =
    whole_agrees name c rules n v x [] no_end (ap long_of e ∙ whole_long n v free) (ap pair_name e ∙ (whole_word nothing n v free).0)
    (λ s. ap (with_lone s) e ∙ (whole_word s n v free).1) rest

two_agree : (name : Text) (c : List Rule) → AreRules c → (x v : Text) (words : List Text) → WordIs x → IsNoEnd x → IsNoEnd v →
    Agrees name c (v ∷ words) → Agrees name c words → Agrees name c (x ∷ v ∷ words)
two_agree name c rules x v words (IsName none) no_end no_end_v after_one after_both = name_agrees name c rules x (v ∷ words) no_end none after_one
two_agree name c rules x v words (IsOpen n e free) no_end no_end_v after_one after_both =
    open_agrees name c rules n x v words no_end no_end_v (ap long_of e ∙ open_long n free (subst IsNoEnd e no_end)) (ap pair_name e ∙ open_word n free) after_both
two_agree name c rules x v words (IsWhole n w e free) no_end no_end_v after_one after_both =
    whole_agrees name c rules n w x (v ∷ words) no_end (ap long_of e ∙ whole_long n w free) (ap pair_name e ∙ (whole_word nothing n w free).0)
    (λ s. ap (with_lone s) e ∙ (whole_word s n w free).1) after_one

-- the walk over words agrees with the product's own reading of them
pub walk_agrees : (name : Text) (c : List Rule) → AreRules c → (words : List Text) → AreNoEnds words → Agrees name c words
unfolding settings_from walk_fault
walk_agrees name c rules [] no_ends = λ rows p k at. sym (bind_some (so_far c (holding rows p)))
walk_agrees name c rules (x ∷ []) no_ends = lone_agrees name c rules x (word_is x) no_ends.0 (walk_agrees name c rules [] tt)
walk_agrees name c rules (x ∷ v ∷ words) no_ends =
    two_agree name c rules x v words (word_is x) no_ends.0 no_ends.1.0 (walk_agrees name c rules (v ∷ words) no_ends.1) (walk_agrees name c rules words no_ends.1.1)

-- from the first word on
pub walk_is_read : (name : Text) (c : List Rule) → AreRules c → (words : List Text) → AreNoEnds words →
    comes_to name c (between [] None 1) words ≡ settings_from nothing words
walk_is_read name c rules words no_ends = walk_agrees name c rules words no_ends [] None 1 (inl refl)
