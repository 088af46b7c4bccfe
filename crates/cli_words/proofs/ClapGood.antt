-- The rows that clap's walk ends with: each of a word that there is, with one value, and no word twice.
use Rattle.std.proofs.Common.{◌≡◌, ◌∙◌, ◌⊎◌, inl, inr, refl, sym, ap, subst, ℕ, false, List, [], ◌∷◌, Option, None, Some}
use Rattle.std.specs.Prelude.{codes, fold}
use Rattle.clap.specs.Lexer.{long_of}
use Rattle.clap.specs.Kinds.{Kinds, or_else}
use Rattle.clap.specs.Faults.{use_fault, settle_fault, walk_fault, turn_fault}
use Rattle.clap.specs.Walk.{Row, Rule, Text, Held, Walk, used, settled_rows, walked}
use Rattle.clap.specs.declared.error.kind.ErrorKind.{ErrorKind}
use Rattle.clap.specs.declared.error.kind.ErrorKind.TheVariants.{UnknownArgument}
use Rattle.cli_words.specs.Words.{behind_dashes}
use Rattle.cli_words.specs.Sayings.{IsOptionName}
use Rattle.cli_words.proofs.SayingsRead.{WordIs, IsName, IsOpen, IsWhole, word_is}
use Rattle.cli_words.proofs.ClapRows.{used_good, AreGood}
use Rattle.cli_words.proofs.ClapWords.{open_long, whole_long}
use Rattle.cli_words.proofs.ClapSteps.{option_rule, AreRules, leaf, holding, between, behind, IsNoEnd, unknown_fault, whole_walked, whole_fault, open_walked, open_fault, name_step, second_name, value_step}
use Rattle.cli_words.proofs.ClapWalk.{AreNoEnds}

pub empty_parts : (a b : Kinds) → or_else a b ≡ [] → (a ≡ []) × (b ≡ [])
empty_parts [] b h = (refl, h)
empty_parts (k ∷ ks) b h = absurd (cc)

-- rows that are held, once what is pending is used
abbrev IsHeldWell : List Rule → Held → Type 0
IsHeldWell c h = settle_fault c false h ≡ [] → AreGood (settled_rows c h.pending h.rows)

abbrev EndsWell : Text → List Rule → Walk → List Text → Type 0
EndsWell name c w words = walk_fault (leaf name c) [] w words ≡ [] → IsHeldWell c (fold (walked c []) w words).held

abbrev GoesWell : Text → List Rule → List Text → Type 0
GoesWell name c words = (rows : List Row) (p : Option (Text × List Text)) (k : ℕ) → (k ≡ 1) ⊎ (k ≡ 2) → IsHeldWell c (holding rows p) →
    EndsWell name c (between rows p k) words

refused_well : (name : Text) (c : List Rule) (w : Walk) (x : Text) (words : List Text) (fault : ErrorKind) → turn_fault (leaf name c) [] w x ≡ fault ∷ [] → EndsWell name c w (x ∷ words)
unfolding walk_fault
refused_well name c w x words fault is = λ none.
    let t = empty_parts (turn_fault (leaf name c) [] w x) (walk_fault (leaf name c) [] (walked c [] w x) words) none in
    let bad : fault ∷ [] ≡ [] = sym is ∙ t.0 in
    absurd (cc)

-- a word that is taken, where what is held then is good
taken_well : (name : Text) (c : List Rule) (w y : Walk) (x : Text) (words : List Text) (faults : Kinds) →
    walked c [] w x ≡ y → turn_fault (leaf name c) [] w x ≡ faults → (faults ≡ [] → EndsWell name c y words) → EndsWell name c w (x ∷ words)
unfolding walk_fault
taken_well name c w y x words faults is fault rest = λ none.
    let t = empty_parts (turn_fault (leaf name c) [] w x) (walk_fault (leaf name c) [] (walked c [] w x) words) none in
    subst (λ z. EndsWell name c z words) (sym is) (rest (sym fault ∙ t.0)) t.1

whole_well : (name : Text) (c : List Rule) → AreRules c → (n v x : Text) (words : List Text) → IsNoEnd x → long_of x ≡ Some (n, Some v) → GoesWell name c words → GoesWell name c (x ∷ words)
whole_well name c rules n v x words no_end is rest rows p k at held = elim (rules.long n) [
  | inr h ↦ refused_well name c (between rows p k) x words UnknownArgument (unknown_fault name c n x (Some v) rows p k no_end is h.0)
  | inl h ↦
      let R = settled_rows c p rows in
      let S = settle_fault c false (holding rows p) in
      let U = use_fault false (option_rule n) (v ∷ []) R in
      let after = used (option_rule n) (v ∷ []) R in
      taken_well name c (between rows p k) (between after None k) x words (or_else (or_else S U) [])
      (whole_walked c n x v rows p k no_end is h.1) (whole_fault name c n x v rows p k no_end is h.1)
      (λ none.
      let outer = empty_parts (or_else S U) [] none in
      let inner = empty_parts S U outer.0 in
      rest after None k at (λ _. used_good n (Some n) None v R (inl h.0) (held inner.0) inner.1))
]

nothing_wanted : (name : Text) (c : List Rule) → AreRules c → (n : Text) (rows : List Row) (k : ℕ) → IsOptionName n → EndsWell name c (behind n rows k) []
nothing_wanted name c rules n rows k known = λ none bad.
    let refused : use_fault false (option_rule n) [] rows ≡ [] = rw (rules.id n known) at bad in
    absurd (cc)

waiting_well : (c : List Rule) → AreRules c → (n v : Text) (rows : List Row) → IsOptionName n → AreGood rows → IsHeldWell c (holding rows (Some (n, v ∷ [])))
waiting_well c rules n v rows known good = rw (rules.id n known) (λ none. used_good n (Some n) None v rows (inl known) good none)

naming_well : (c : List Rule) → AreRules c → (x : Text) (rows : List Row) → AreGood rows → IsHeldWell c (holding rows (Some (codes "kind", x ∷ [])))
naming_well c rules x rows good = rw rules.kind (λ none. used_good (codes "kind") None (Some 1) x rows (inr refl) good none)

open_alone_well : (name : Text) (c : List Rule) → AreRules c → (n x : Text) → IsNoEnd x → long_of x ≡ Some (n, None) → GoesWell name c (x ∷ [])
open_alone_well name c rules n x no_end is rows p k at held = elim (rules.long n) [
  | inr h ↦ refused_well name c (between rows p k) x [] UnknownArgument (unknown_fault name c n x None rows p k no_end is h.0)
  | inl h ↦
      let R = settled_rows c p rows in
      taken_well name c (between rows p k) (behind n R k) x [] (or_else (settle_fault c false (holding rows p)) [])
      (open_walked c n x rows p k no_end is h.1) (open_fault name c n x rows p k no_end is h.1) (λ _. nothing_wanted name c rules n R k h.0)
]

open_well : (name : Text) (c : List Rule) → AreRules c → (n x v : Text) (words : List Text) → IsNoEnd x → IsNoEnd v → long_of x ≡ Some (n, None) → GoesWell name c words → GoesWell name c (x ∷ v ∷ words)
open_well name c rules n x v words no_end no_end_v is rest rows p k at held = elim (rules.long n) [
  | inr h ↦ refused_well name c (between rows p k) x (v ∷ words) UnknownArgument (unknown_fault name c n x None rows p k no_end is h.0)
  | inl h ↦
      let R = settled_rows c p rows in
      let S = settle_fault c false (holding rows p) in
      let wanted : S ≡ [] → EndsWell name c (behind n R k) (v ∷ words) = λ none. elim (value_step name c rules n v R k h.0 no_end_v (word_is v)) [
        | inl bad ↦ refused_well name c (behind n R k) v words bad.0 bad.1
        | inr good ↦ taken_well name c (behind n R k) (between R (Some (n, v ∷ [])) k) v words [] good.0 good.1
            (λ _. rest R (Some (n, v ∷ [])) k at (waiting_well c rules n v R h.0 (held none)))
      ] in
      taken_well name c (between rows p k) (behind n R k) x (v ∷ words) (or_else S []) (open_walked c n x rows p k no_end is h.1) (open_fault name c n x rows p k no_end is h.1)
      (λ none. wanted (empty_parts S [] none).0)
]

name_well : (name : Text) (c : List Rule) → AreRules c → (x : Text) (words : List Text) → IsNoEnd x → behind_dashes x ≡ None → GoesWell name c words → GoesWell name c (x ∷ words)
name_well name c rules x words no_end none rest rows p k (inl one) held =
    subst (λ (n : ℕ). EndsWell name c (between rows p n) (x ∷ words)) (sym one)
    (elim (name_step name c rules x rows p no_end none) [
      | inl bad ↦ refused_well name c (between rows p 1) x words UnknownArgument bad.0
      | inr good ↦
          let R = settled_rows c p rows in
          taken_well name c (between rows p 1) (between R (Some (codes "kind", x ∷ [])) 2) x words (settle_fault c false (holding rows p)) good.0 good.1
          (λ fine. rest R (Some (codes "kind", x ∷ [])) 2 (inr refl) (naming_well c rules x R (held fine)))
    ])
name_well name c rules x words no_end none rest rows p k (inr two) held =
    subst (λ (n : ℕ). EndsWell name c (between rows p n) (x ∷ words)) (sym two)
    (refused_well name c (between rows p 2) x words UnknownArgument (second_name name c rules x rows p no_end none))

lone_well : (name : Text) (c : List Rule) → AreRules c → (x : Text) → WordIs x → IsNoEnd x → GoesWell name c [] → GoesWell name c (x ∷ [])
lone_well name c rules x (IsName none) no_end rest = name_well name c rules x [] no_end none rest
lone_well name c rules x (IsOpen n e free) no_end rest = open_alone_well name c rules n x no_end (ap long_of e ∙ open_long n free (subst IsNoEnd e no_end))
lone_well name c rules x (IsWhole n v e free) no_end rest = whole_well name c rules n v x [] no_end (ap long_of e ∙ whole_long n v free) rest

two_well : (name : Text) (c : List Rule) → AreRules c → (x v : Text) (words : List Text) → WordIs x → IsNoEnd x → IsNoEnd v →
    GoesWell name c (v ∷ words) → GoesWell name c words → GoesWell name c (x ∷ v ∷ words)
two_well name c rules x v words (IsName none) no_end no_end_v after_one after_both = name_well name c rules x (v ∷ words) no_end none after_one
two_well name c rules x v words (IsOpen n e free) no_end no_end_v after_one after_both =
    open_well name c rules n x v words no_end no_end_v (ap long_of e ∙ open_long n free (subst IsNoEnd e no_end)) after_both
two_well name c rules x v words (IsWhole n w e free) no_end no_end_v after_one after_both =
    whole_well name c rules n w x (v ∷ words) no_end (ap long_of e ∙ whole_long n w free) after_one

goes_well : (name : Text) (c : List Rule) → AreRules c → (words : List Text) → AreNoEnds words → GoesWell name c words
goes_well name c rules [] no_ends = λ rows p k at held _. held
goes_well name c rules (x ∷ []) no_ends = lone_well name c rules x (word_is x) no_ends.0 (goes_well name c rules [] tt)
goes_well name c rules (x ∷ v ∷ words) no_ends =
    two_well name c rules x v words (word_is x) no_ends.0 no_ends.1.0 (goes_well name c rules (v ∷ words) no_ends.1) (goes_well name c rules words no_ends.1.1)

-- from the first word on
pub rows_are_good : (name : Text) (c : List Rule) → AreRules c → (words : List Text) → AreNoEnds words → EndsWell name c (between [] None 1) words
rows_are_good name c rules words no_ends = goes_well name c rules words no_ends [] None 1 (inl refl) (λ _. tt)
