use Rattle.sup_desk.proofs.program.on_journaled_desk.Given as goal

-- the ground that was just made
abbrev pub ghosts-run_recorded : goal.ghosts-run_recorded
ghosts-run_recorded g a = record { press = a.ground.press; template = a.ground.template; sessions = a.ground.sessions }
