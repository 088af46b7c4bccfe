-- A worked shop of three jobs and three machines. On machine 1 the first two jobs have head 5, time 5 and tail 5.
use Rattle.std.specs.Prelude.{[], ◌∷◌}
use Rattle.inst_text.specs.Shop.{JobShop}
use Rattle.bb_shop.specs.Worked.{on}

abbrev pub three_in_turn : JobShop
three_in_turn = record {
  machines = 3;
  rows = (on 0 5 ∷ on 1 5 ∷ on 2 5 ∷ []) ∷ (on 2 5 ∷ on 1 5 ∷ on 0 5 ∷ []) ∷ (on 1 1 ∷ on 0 0 ∷ on 2 0 ∷ []) ∷ [];
}
