-- No choice of items that all weigh 2 fills a room of 23.
use Rattle.std.proofs.Common.{◌≡◌, ℕ, zero, suc, ◌*◌, ◌+◌, List, [], ◌∷◌, replicate, refl, arith}
use Rattle.inst_text.specs.declared.knapsack.Item.{Item}
use Rattle.inst_text.specs.Knapsack.{total_value}
use Rattle.bb_knap.specs.Plans.{item_at, weight_of, value_of}
use Rattle.bb_proof.specs.Verdicts.{IsBelowAll}
use Rattle.bb_tests.specs.Alike.{alike}

-- the weight and the value are the same even number
record IsEven (weight value : ℕ) : Type 0 where
  pub half : ℕ
  pub weight_is : weight ≡ 2 * half
  pub value_is : value ≡ 2 * half

abbrev item : Item
item = record { weight = 2; value = 2 }

even_item : (n k : ℕ) → let i = item_at (replicate n item) k in IsEven i.weight i.value
even_item zero k = record { half = 0; weight_is = refl; value_is = refl }
even_item (suc n) zero = record { half = 1; weight_is = refl; value_is = refl }
even_item (suc n) (suc k) = even_item n k

even_choice : (n : ℕ) (choice : List ℕ) → IsEven (weight_of (replicate n item) choice) (value_of (replicate n item) choice)
even_choice n [] = record { half = 0; weight_is = refl; value_is = refl }
even_choice n (k ∷ ks) =
    let a = even_item n k in let b = even_choice n ks in let aw = a.weight_is in let av = a.value_is in let bw = b.weight_is in let bv = b.value_is in
    record { half = a.half + b.half; weight_is = omega arith; value_is = omega arith }

pub below_all : IsBelowAll alike 24
below_all choice feasible =
    let e = even_choice 23 choice in let w = e.weight_is in let v = e.value_is in let fits = feasible.fits in
    let all : total_value alike.items ≡ 46 = refl in omega arith
