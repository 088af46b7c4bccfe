use Rattle.std.proofs.Common.{◌+◌, List, subst, arith}
use Rattle.std.specs.Mem.Slots.{slots_items}
use Rattle.std.specs.List.Sorted.{IsPermutation}
use Rattle.pq_words.specs.declared.entries.Entry.{Entry}
use Rattle.pq_hunt.specs.Nodes.{node, standing}
use Rattle.pq_hunt.proofs.Ends.Ending.{next_kept, all_kept, word_says, sorted_left}
use Rattle.pq_hunt.proofs.queue.gather.Goals as goal

pub keep-requires-clause-packed : goal.keep-requires-clause-packed
keep-requires-clause-packed c = let s = c.requires.says in let more = c.loop-i-test.true in
    (node s.0 (c.loop-i.i + 1), word_says c.args.capacity (slots_items c.args.closed.now.words) s.0 (c.loop-i.i + 1) c.word_of.result c.word.result s.1 (omega arith) (omega arith) c.word_of.ensures c.word.ensures)

pub loop-i-preserved : goal.loop-i-preserved
loop-i-preserved c = let inv = c.loop-i.invariant in let more = c.loop-i-test.true in let count = inv.count in let room = inv.room in let e = c.keep.ensures in
    let same = e.room in let longer = e.count in record {
      kept = λ nodes says. let long = says.long in
          next_kept nodes c.loop-i.left.items c.keep.new.left.items (standing nodes) (c.loop-i.i + 1) (omega arith) (inv.kept nodes says)
          (e.kept (node nodes (c.loop-i.i + 1)) (word_says c.args.capacity (slots_items c.args.closed.now.words) nodes (c.loop-i.i + 1) c.word_of.result c.word.result says (omega arith) (omega arith) c.word_of.ensures c.word.ensures));
      count = omega arith;
      room = omega arith;
    }

pub returns : goal.returns
returns c = λ nodes says. let inv = c.loop-i.invariant in let over = c.loop-i-test.false in let most = c.loop-i.auto.i-end in let long = says.long in
    sorted_left (standing nodes) c.sort_unstable.new.self.items
    (subst (λ (xs : List Entry). IsPermutation xs c.sort_unstable.new.self.items)
    (all_kept nodes c.loop-i.left.items (standing nodes) (c.loop-i.i + 1) (omega arith) (inv.kept nodes says)) c.sort_unstable.ensures.permutation)
    c.sort_unstable.ensures.sorted
