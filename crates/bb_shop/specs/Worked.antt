-- Two worked shops: ft06 (H. Fisher and G. L. Thompson, 1963), and one of three jobs and three machines.
use Rattle.std.specs.Prelude.{ℕ, [], ◌∷◌}
use Rattle.inst_text.specs.declared.shop.Operation.{Operation}
use Rattle.inst_text.specs.Shop.{JobShop}

-- an operation on this machine that takes this time
abbrev pub on : ℕ → ℕ → Operation
on m t = record { machine = m; time = t }

abbrev pub ft06 : JobShop
ft06 = record {
  machines = 6;
  rows =
      (on 2 1 ∷ on 0 3 ∷ on 1 6 ∷ on 3 7 ∷ on 5 3 ∷ on 4 6 ∷ [])
      ∷ (on 1 8 ∷ on 2 5 ∷ on 4 10 ∷ on 5 10 ∷ on 0 10 ∷ on 3 4 ∷ [])
      ∷ (on 2 5 ∷ on 3 4 ∷ on 5 8 ∷ on 0 9 ∷ on 1 1 ∷ on 4 7 ∷ [])
      ∷ (on 1 5 ∷ on 0 5 ∷ on 2 5 ∷ on 3 3 ∷ on 4 8 ∷ on 5 9 ∷ [])
      ∷ (on 2 9 ∷ on 1 3 ∷ on 4 5 ∷ on 5 4 ∷ on 0 3 ∷ on 3 1 ∷ [])
      ∷ (on 1 3 ∷ on 3 3 ∷ on 5 9 ∷ on 0 10 ∷ on 4 4 ∷ on 2 1 ∷ [])
      ∷ [];
}

abbrev pub three_by_three : JobShop
three_by_three = record {
  machines = 3;
  rows =
      (on 0 3 ∷ on 1 2 ∷ on 2 2 ∷ [])
      ∷ (on 0 2 ∷ on 2 1 ∷ on 1 4 ∷ [])
      ∷ (on 1 4 ∷ on 2 3 ∷ on 0 0 ∷ [])
      ∷ [];
}
