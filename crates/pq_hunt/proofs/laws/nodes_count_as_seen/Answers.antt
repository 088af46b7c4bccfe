-- A lock that is not free has a holder, whose view has a guard for the node.
use Rattle.std.proofs.Common.{◌∙◌, sym, ap, arith}
use Rattle.atomic_table.proofs.Lists.{at_map}
use Rattle.pq_seats.specs.Views.{post_of}
use Rattle.pq_nodes.specs.Layout.{lock_of}
use Rattle.pq_nodes.specs.Facts.{words_in}
use Rattle.pq_hunt.specs.Nodes.{node}
use Rattle.pq_hunt.proofs.Ends.Ending.{node_lock}
use Rattle.pq_hunt.proofs.laws.nodes_count_as_seen.Goals as goal

pub returns-clause-free : goal.returns-clause-free
returns-clause-free c = λ k s h i low high zero_word. let long = h.tied.facts.long in h.tied.tree.guarded.free i (omega arith) zero_word

pub returns-clause-locked : goal.returns-clause-locked
returns-clause-locked c = λ k s h i low high locked.
    let holder = h.holder (lock_of i) (node_lock k.capacity i low high) locked in let j = holder.0 in let v = holder.1 in
    let stands = holder.2 in let lock = holder.3 in
    let at = at_map post_of s.views j v stands in
    let named = (h.tied.tree.names j v.post at).named i lock in let g = named.0 in
    let is = h.tied.tree.guarded.held j v.post g at named.1 in (
      j,
      v,
      g,
      record {
        stands = stands;
        number = sym ((h.each j v stands).held (lock_of i) lock).1;
        lock = lock;
        has = named.1;
        is = named.2;
        stored = ap (words_in s.words) (sym named.2) ∙ is.stored;
        counted = ap (node h.tied.nodes) (sym named.2) ∙ is.counted;
      },
    )
