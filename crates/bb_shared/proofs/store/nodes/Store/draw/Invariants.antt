use Rattle.bb_shared.proofs.store.nodes.Store.draw.Given as goal

abbrev pub ghosts-draw_as : goal.ghosts-draw_as
ghosts-draw_as g a = record { limit = a.limit }
