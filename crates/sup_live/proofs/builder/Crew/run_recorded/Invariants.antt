-- The desk is named after its ground.
use Rattle.sup_live.proofs.builder.Crew.run_recorded.Given as goal

abbrev pub ghosts-run_named : goal.ghosts-run_named
ghosts-run_named g a = record { press = a.ground.press; template = a.ground.template; sessions = a.ground.sessions }
