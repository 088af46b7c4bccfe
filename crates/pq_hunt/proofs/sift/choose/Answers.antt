use Rattle.std.proofs.Common.{◌<◌, arith}
use Rattle.pq_words.specs.Entries.{raw_of}
use Rattle.pq_hunt.specs.Sifting.{IsRank}
use Rattle.pq_hunt.proofs.Calls.Sifted as sifted
use Rattle.pq_hunt.proofs.sift.choose.Goals as goal
use Rattle.pq_hunt.proofs.sift.choose.Goals.{else-in_hand-left_rank-via-then-in_hand-left_rank+else-in_hand-right_rank, else-in_hand-left_rank-via-else-in_hand-left_rank}

pub fill_two-requires-clause-at : goal.fill_two-requires-clause-at
fill_two-requires-clause-at c = let hand = c.args.hand in let at = c.requires.at in
    let is_l : IsRank at.0 c.rank-left_rank.result = c.rank-left_rank.ensures at.0 at.2.left_means in
    let is_r : IsRank at.1 c.rank-right_rank.result = c.rank-right_rank.ensures at.1 at.2.right_means in
    let raw = c.raw-in_hand.ensures.number in let below = c.raw-in_hand.ensures.below in
    let one = c.if-in_hand-left_rank.true in let two = c.if-in_hand-right_rank.true in
    (c.args.left, at.0, c.args.right, at.1, at.2, sifted.may_rank hand at.0 c.rank-left_rank.result is_l (omega arith), sifted.may_rank hand at.1 c.rank-right_rank.result is_r (omega arith))

pub rise_left_of_two-requires-clause-at : goal.rise_left_of_two-requires-clause-at
rise_left_of_two-requires-clause-at c = let hand = c.args.hand in let at = c.requires.at in
    let is_l : IsRank at.0 c.rank-left_rank.result = c.rank-left_rank.ensures at.0 at.2.left_means in
    let is_r : IsRank at.1 c.rank-right_rank.result = c.rank-right_rank.ensures at.1 at.2.right_means in
    let raw = c.raw-in_hand.ensures.number in let below = c.raw-in_hand.ensures.below in
    let order = c.if-left_rank-right_rank.true in
    let under : c.rank-left_rank.result < raw_of hand = elim c.else-in_hand-left_rank.branch [
      | else-in_hand-left_rank-via-then-in_hand-left_rank+else-in_hand-right_rank w ↦ let p = w.if-in_hand-right_rank in omega arith
      | else-in_hand-left_rank-via-else-in_hand-left_rank w ↦ let p = w.if-in_hand-left_rank in omega arith
    ] in
    (at.0, c.args.right, at.1, at.2, sifted.least hand at.0 at.1 c.rank-left_rank.result c.rank-right_rank.result is_l is_r (omega arith) under (omega arith))

pub rise_right-requires-clause-at : goal.rise_right-requires-clause-at
rise_right-requires-clause-at c = let hand = c.args.hand in let at = c.requires.at in
    let is_l : IsRank at.0 c.rank-left_rank.result = c.rank-left_rank.ensures at.0 at.2.left_means in
    let is_r : IsRank at.1 c.rank-right_rank.result = c.rank-right_rank.ensures at.1 at.2.right_means in
    let raw = c.raw-in_hand.ensures.number in let below = c.raw-in_hand.ensures.below in
    let order = c.if-left_rank-right_rank.false in
    let under : c.rank-right_rank.result < raw_of hand = elim c.else-in_hand-left_rank.branch [
      | else-in_hand-left_rank-via-then-in_hand-left_rank+else-in_hand-right_rank w ↦ let p = w.if-in_hand-right_rank in omega arith
      | else-in_hand-left_rank-via-else-in_hand-left_rank w ↦ let p = w.if-in_hand-left_rank in omega arith
    ] in
    (c.args.left, at.0, at.1, at.2, sifted.least hand at.1 at.0 c.rank-right_rank.result c.rank-left_rank.result is_r is_l (omega arith) under (omega arith))
