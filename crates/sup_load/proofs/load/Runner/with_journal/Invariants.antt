-- The desk is named after its ground.
use Rattle.sup_load.proofs.load.Runner.with_journal.Given as goal

abbrev pub ghosts-on_ground : goal.ghosts-on_ground
ghosts-on_ground g a = record { press = a.ground.press; template = a.ground.template; sessions = a.ground.sessions }
