-- The desk is named after its ground.
use Rattle.sup_live.proofs.builder.Crew.run_in_file.Given as goal

abbrev pub ghosts-run_file : goal.ghosts-run_file
ghosts-run_file g a = record { press = a.ground.press; template = a.ground.template; sessions = a.ground.sessions }
