use Rattle.pq_timers.proofs.words.table.TimerTable.arm.Given as goal

abbrev pub ghosts-draw_as : goal.ghosts-draw_as
ghosts-draw_as a = record { moment = a.moment }
