use Rattle.sup_desk.proofs.program.on_desk.Given as goal

-- the ground that was just made
abbrev pub ghosts-run_named : goal.ghosts-run_named
ghosts-run_named g a = record { press = a.ground.press; template = a.ground.template; sessions = a.ground.sessions }
