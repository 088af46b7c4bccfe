use Rattle.pq_seats.proofs.shared.Shared.draw.Given as goal

abbrev pub ghosts-draw_as : goal.ghosts-draw_as
ghosts-draw_as g a = record { act = a.act }
