-- What each step keeps of the letters.
use Rattle.std.proofs.Common.{arith}
use Rattle.pq_hunt.specs.Laws.{PlacedHaveLetters, DrawsTell, SettlesTell}

pub letter_is_there : PlacedHaveLetters
letter_is_there f climbing letters is climbs drawn = let t = is.told in omega arith

pub draws_tell : DrawsTell
draws_tell of of' less o climbing letters letters' w is more = let t = is.told in
    let a = w.waits o in record { most = is.most; told = omega arith }

pub settles_tell : SettlesTell
settles_tell of of' less o climbing climbing' letters w is fewer = let t = is.told in let m = is.most in
    let a = w.waits o in record { most = omega arith; told = omega arith }
