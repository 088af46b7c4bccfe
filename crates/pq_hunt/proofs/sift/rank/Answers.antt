use Rattle.std.proofs.Common.{◌%◌, sym, subst}
use Rattle.pq_hunt.specs.declared.nodes.Node.{Node}
use Rattle.pq_hunt.specs.Sifting.{IsRank}
use Rattle.pq_hunt.proofs.Heap.Meanings.{unpacked_node, entry_in_word, ranked}
use Rattle.pq_hunt.proofs.sift.rank.Goals as goal

pub returns-in_default : goal.returns-in_default
returns-in_default c counted means = let w = c.unpack.result in let word = c.args.word in let e = c.unpack.ensures in
    subst (λ (v : Node). IsRank v (word % 281474976710656)) (unpacked_node w word counted e.fits e.number means)
    (ranked w.tag w.owner w.entry (word % 281474976710656) c.in_default.not-Empty (sym (entry_in_word w word e.fits e.number)))
