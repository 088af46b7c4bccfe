-- The first bad place, as a walk comes to it.
use Rattle.std.proofs.Common.{◌≡◌, ℕ, suc, ◌+◌, ◌<◌, ◌≤◌, Bool, true, false, List, [], ◌∷◌, Option, Some, None, refl, sym, ap, ◌∙◌, length, drop, get_or, add-one, arith}
use Rattle.std.proofs.Math.ListN.{drop_of_length-le}
use Rattle.std.proofs.Math.Seq.{drop-cons}
use Rattle.bb_problem.specs.Tree.{Tree}
use Rattle.bb_proof.specs.Tokens.{is_right, behind, later, bad_token, first_bad}
use Rattle.bb_proof.proofs.Accepted.{bad-right, bad-wrong, bad-past, bad-end, bad-short}

pub later-later : (n : ℕ) (bad : Option ℕ) → later n (later 1 bad) ≡ later (n + 1) bad
later-later n None = refl
later-later n (Some place) = ap Some (omega arith)

pub later-here : (n : ℕ) → later n (Some 0) ≡ Some n
later-here n = ap Some (omega arith)

later-now : (bad : Option ℕ) → later 0 bad ≡ bad
later-now None = refl
later-now (Some place) = ap Some (omega arith)

-- the first bad place, where so many tokens were accepted
pub IsBadFrom : Tree → ℕ → List Bool → ℕ → List (List ℕ) → Type 0
IsBadFrom tree cost tokens place pending = first_bad tree cost tokens ≡ later place (bad_token tree cost pending (drop place tokens))

pub bad-init : (tree : Tree) (cost : ℕ) (tokens : List Bool) → IsBadFrom tree cost tokens 0 ([] ∷ [])
unfolding IsBadFrom
bad-init tree cost tokens = sym (later-now (bad_token tree cost ([] ∷ []) tokens))

next_token : (tokens : List Bool) (place : ℕ) (token : Bool) → place < length tokens → token ≡ get_or tokens place false → drop place tokens ≡ token ∷ drop (place + 1) tokens
next_token tokens place token inside is = rw (add-one place) (drop-cons tokens place false inside ∙ ap (λ t. t ∷ drop (suc place) tokens) (sym is))

pub bad-next : (tree : Tree) (cost : ℕ) (tokens : List Bool) (place : ℕ) (name : List ℕ) (rest : List (List ℕ)) (token : Bool) → IsBadFrom tree cost tokens place (name ∷ rest)
    → place < length tokens → token ≡ get_or tokens place false → is_right tree cost name token ≡ true → IsBadFrom tree cost tokens (place + 1) (behind tree name token rest)
unfolding IsBadFrom
bad-next tree cost tokens place name rest token bad inside is right =
    bad ∙ ap (λ ts. later place (bad_token tree cost (name ∷ rest) ts)) (next_token tokens place token inside is)
    ∙ ap (later place) (bad-right tree cost name rest token (drop (place + 1) tokens) right)
    ∙ later-later place (bad_token tree cost (behind tree name token rest) (drop (place + 1) tokens))

pub bad-here : (tree : Tree) (cost : ℕ) (tokens : List Bool) (place : ℕ) (name : List ℕ) (rest : List (List ℕ)) (token : Bool) → IsBadFrom tree cost tokens place (name ∷ rest)
    → place < length tokens → token ≡ get_or tokens place false → is_right tree cost name token ≡ false → first_bad tree cost tokens ≡ Some place
unfolding IsBadFrom
bad-here tree cost tokens place name rest token bad inside is wrong =
    bad ∙ ap (λ ts. later place (bad_token tree cost (name ∷ rest) ts)) (next_token tokens place token inside is)
    ∙ ap (later place) (bad-wrong tree cost name rest token (drop (place + 1) tokens) wrong) ∙ later-here place

pub bad-over : (tree : Tree) (cost : ℕ) (tokens : List Bool) (place : ℕ) (token : Bool) → IsBadFrom tree cost tokens place []
    → place < length tokens → token ≡ get_or tokens place false → first_bad tree cost tokens ≡ Some place
unfolding IsBadFrom
bad-over tree cost tokens place token bad inside is =
    bad ∙ ap (λ ts. later place (bad_token tree cost [] ts)) (next_token tokens place token inside is)
    ∙ ap (later place) (bad-past tree cost token (drop (place + 1) tokens)) ∙ later-here place

pub bad-done : (tree : Tree) (cost : ℕ) (tokens : List Bool) (place : ℕ) → IsBadFrom tree cost tokens place [] → length tokens ≤ place → first_bad tree cost tokens ≡ None
unfolding IsBadFrom
bad-done tree cost tokens place bad end =
    bad ∙ ap (λ ts. later place (bad_token tree cost [] ts)) (drop_of_length-le tokens end) ∙ ap (later place) (bad-end tree cost)

pub bad-more : (tree : Tree) (cost : ℕ) (tokens : List Bool) (place : ℕ) (pending : List (List ℕ)) → IsBadFrom tree cost tokens place pending → (pending ≡ [] → ⊥) → length tokens ≤ place → first_bad tree cost tokens ≡ Some place
unfolding IsBadFrom
bad-more tree cost tokens place [] bad some end = absurd (some refl)
bad-more tree cost tokens place (name ∷ rest) bad some end =
    bad ∙ ap (λ ts. later place (bad_token tree cost (name ∷ rest) ts)) (drop_of_length-le tokens end) ∙ ap (later place) (bad-short tree cost name rest) ∙ later-here place

-- what is pending, where it is something
pub record IsSome (pending : List (List ℕ)) : Type 0 where
  pub name : List ℕ
  pub rest : List (List ℕ)
  pub is : pending ≡ name ∷ rest

pub some_of : (pending : List (List ℕ)) → (pending ≡ [] → ⊥) → IsSome pending
some_of [] some = absurd (some refl)
some_of (name ∷ rest) some = record { name = name; rest = rest; is = refl }
