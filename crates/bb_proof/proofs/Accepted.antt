-- Tokens that are accepted have no first bad place, and the other way round.
use Rattle.std.proofs.Common.{◌≡◌, ◌≢◌, ℕ, Bool, true, false, List, [], ◌∷◌, ◌++◌, Option, Some, None, refl, ap, ◌∙◌}
use Rattle.std.specs.Prelude.{◌↔◌, not}
use Rattle.std.proofs.lemmas.Bool.{leb-true, le-leb}
use Rattle.bb_problem.specs.Tree.{Tree}
use Rattle.bb_proof.specs.Tokens.{Accepts, IsAccepted, is_none, is_right, names_below, behind, later, bad_token, first_bad}

is_none-false : (xs : List ℕ) → xs ≢ [] → is_none xs ≡ false
is_none-false [] some = absurd (some refl)
is_none-false (x ∷ xs) some = refl

some_there : (xs : List ℕ) → not (is_none xs) ≡ true → xs ≢ []
some_there [] right e = absurd (cc)
some_there (x ∷ xs) right e = absurd (cc)

-- what a first bad place is where the token may stand, and where it may not
pub bad-right : (tree : Tree) (cost : ℕ) (name : List ℕ) (rest : List (List ℕ)) (token : Bool) (tokens : List Bool) → is_right tree cost name token ≡ true
    → bad_token tree cost (name ∷ rest) (token ∷ tokens) ≡ later 1 (bad_token tree cost (behind tree name token rest) tokens)
unfolding bad_token
bad-right tree cost name rest token tokens right = rw right refl

pub bad-wrong : (tree : Tree) (cost : ℕ) (name : List ℕ) (rest : List (List ℕ)) (token : Bool) (tokens : List Bool) → is_right tree cost name token ≡ false
    → bad_token tree cost (name ∷ rest) (token ∷ tokens) ≡ Some 0
unfolding bad_token
bad-wrong tree cost name rest token tokens wrong = rw wrong refl

pub bad-past : (tree : Tree) (cost : ℕ) (token : Bool) (tokens : List Bool) → bad_token tree cost [] (token ∷ tokens) ≡ Some 0
unfolding bad_token
bad-past tree cost token tokens = refl

pub bad-end : (tree : Tree) (cost : ℕ) → bad_token tree cost [] [] ≡ None
unfolding bad_token
bad-end tree cost = refl

pub bad-short : (tree : Tree) (cost : ℕ) (name : List ℕ) (rest : List (List ℕ)) → bad_token tree cost (name ∷ rest) [] ≡ Some 0
unfolding bad_token
bad-short tree cost name rest = refl

later-none : (n : ℕ) (bad : Option ℕ) → later n bad ≡ None → bad ≡ None
later-none n None e = refl
later-none n (Some place) e = absurd (cc)

pub none_of : (tree : Tree) (cost : ℕ) (pending : List (List ℕ)) (tokens : List Bool) → Accepts tree cost pending tokens → bad_token tree cost pending tokens ≡ None
none_of tree cost [] [] accepted = bad-end tree cost
none_of tree cost [] (token ∷ tokens) accepted = absurd accepted
none_of tree cost (name ∷ rest) [] accepted = absurd accepted
none_of tree cost (name ∷ rest) (false ∷ tokens) accepted =
    bad-right tree cost name rest false tokens (le-leb cost (tree.bound name) (accepted.0))
    ∙ ap (later 1) (none_of tree cost rest tokens (accepted.1))
none_of tree cost (name ∷ rest) (true ∷ tokens) accepted =
    bad-right tree cost name rest true tokens (ap not (is_none-false (tree.children name) (accepted.0)))
    ∙ ap (later 1) (none_of tree cost (names_below tree name ++ rest) tokens (accepted.1))

-- the token may stand there, since there is no bad place
right_of : (tree : Tree) (cost : ℕ) (name : List ℕ) (rest : List (List ℕ)) (token : Bool) (tokens : List Bool) (right : Bool) → is_right tree cost name token ≡ right
    → bad_token tree cost (name ∷ rest) (token ∷ tokens) ≡ None → right ≡ true
right_of tree cost name rest token tokens true is none = refl
right_of tree cost name rest token tokens false is none = let e = bad-wrong tree cost name rest token tokens is in absurd (cc)

right_there : (tree : Tree) (cost : ℕ) (name : List ℕ) (rest : List (List ℕ)) (token : Bool) (tokens : List Bool)
    → bad_token tree cost (name ∷ rest) (token ∷ tokens) ≡ None → is_right tree cost name token ≡ true
right_there tree cost name rest token tokens none = right_of tree cost name rest token tokens (is_right tree cost name token) refl none

none_behind : (tree : Tree) (cost : ℕ) (name : List ℕ) (rest : List (List ℕ)) (token : Bool) (tokens : List Bool)
    → bad_token tree cost (name ∷ rest) (token ∷ tokens) ≡ None → bad_token tree cost (behind tree name token rest) tokens ≡ None
none_behind tree cost name rest token tokens none =
    let right = right_there tree cost name rest token tokens none in
    let e = bad-right tree cost name rest token tokens right in
    later-none 1 (bad_token tree cost (behind tree name token rest) tokens) (cc)

pub accepts_of : (tree : Tree) (cost : ℕ) (pending : List (List ℕ)) (tokens : List Bool) → bad_token tree cost pending tokens ≡ None → Accepts tree cost pending tokens
accepts_of tree cost [] [] none = tt
accepts_of tree cost [] (token ∷ tokens) none = let e = bad-past tree cost token tokens in absurd (cc)
accepts_of tree cost (name ∷ rest) [] none = let e = bad-short tree cost name rest in absurd (cc)
accepts_of tree cost (name ∷ rest) (false ∷ tokens) none = (
  leb-true cost (tree.bound name) (right_there tree cost name rest false tokens none),
  accepts_of tree cost rest tokens (none_behind tree cost name rest false tokens none),
)
accepts_of tree cost (name ∷ rest) (true ∷ tokens) none = (
  some_there (tree.children name) (right_there tree cost name rest true tokens none),
  accepts_of tree cost (names_below tree name ++ rest) tokens (none_behind tree cost name rest true tokens none),
)

pub accepted_iff_none : (tree : Tree) (cost : ℕ) (tokens : List Bool) → IsAccepted tree cost tokens ↔ (first_bad tree cost tokens ≡ None)
accepted_iff_none tree cost tokens = (none_of tree cost ([] ∷ []) tokens, accepts_of tree cost ([] ∷ []) tokens)
