use Rattle.pq_api.proofs.plain.steps.draw.Given as goal

abbrev pub ghosts-draw_made : goal.ghosts-draw_made
ghosts-draw_made a = record { act = a.act; reply = a.reply }
