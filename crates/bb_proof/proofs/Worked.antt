-- Two items.
use Rattle.std.proofs.Common.{◌≡◌, [], ◌∷◌, true, false, Some, None, refl}
use Rattle.inst_text.specs.Knapsack.{Instance}
use Rattle.bb_knap.specs.Order.{is_denser, goes_before, inserted, order_below}
use Rattle.bb_knap.specs.Branching.{taken, dantzig, bound_of, choices_at, children_of, tree_of}
use Rattle.bb_proof.specs.Tokens.{canonical, bad_token, first_bad}

abbrev pub two : Instance
two = record { capacity = 5; items = record { weight = 3; value = 4 } ∷ record { weight = 4; value = 5 } ∷ [] }

pub worked : (canonical (tree_of two) 4 ≡ true ∷ true ∷ false ∷ false ∷ [])
    × (first_bad (tree_of two) 4 (true ∷ true ∷ false ∷ false ∷ []) ≡ None)
    × (first_bad (tree_of two) 4 (false ∷ []) ≡ Some 0)
    × (first_bad (tree_of two) 4 (true ∷ true ∷ true ∷ false ∷ []) ≡ Some 2)
    × (first_bad (tree_of two) 4 (true ∷ true ∷ false ∷ false ∷ false ∷ []) ≡ Some 4)
    × (first_bad (tree_of two) 4 (true ∷ true ∷ false ∷ []) ≡ Some 3)
unfolding is_denser goes_before inserted order_below taken dantzig bound_of choices_at children_of bad_token
worked = (refl, refl, refl, refl, refl, refl)
