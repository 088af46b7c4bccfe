use Rattle.pq_timers.proofs.words.table.TimerTable.fire.Given as goal

abbrev pub ghosts-fire_as : goal.ghosts-fire_as
ghosts-fire_as g a = record { moment = a.now }
