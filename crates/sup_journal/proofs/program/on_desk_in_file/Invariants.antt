use Rattle.sup_journal.proofs.program.on_desk_in_file.Given as goal

-- the ground that was just made, for this template
abbrev pub ghosts-run_named : goal.ghosts-run_named
ghosts-run_named g a = record { press = a.ground.press; template = a.template; sessions = a.ground.sessions }
