-- The desk is named after its ground.
use Rattle.sup_crew.proofs.pool.Pool.run.Given as goal

abbrev pub ghosts-run_named : goal.ghosts-run_named
ghosts-run_named g a = record { press = a.ground.press; template = a.ground.template; sessions = a.ground.sessions }
