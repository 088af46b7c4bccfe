use Rattle.std.proofs.Common.{◌≡◌, ℕ, sym, subst}
use Rattle.std.proofs.lemmas.List.Elements.{All-get_or}
use Rattle.bb_shared.specs.Stores.{StoreSeated, HasNoOver}
use Rattle.bb_shared.proofs.tests.store.all_work.Goals as goal

pub for_each_mut-requires-clause-accepts : goal.for_each_mut-requires-clause-accepts
for_each_mut-requires-clause-accepts g c _ _ i p within is =
    let at = subst (λ (s : StoreSeated ℕ). (s.store ≡ c.args.store.now) × HasNoOver s.kept) (sym is) (All-get_or (λ (s : StoreSeated ℕ). (s.store ≡ c.args.store.now) × HasNoOver s.kept) c.args.seats.now i p.now within c.requires.own) in
    (at.0, at.1, c.requires.nodes)
