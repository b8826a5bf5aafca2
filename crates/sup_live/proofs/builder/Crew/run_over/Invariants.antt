-- The crew is named after its ledger, and its children may end as the behaviour allows.
use Rattle.sup_live.proofs.builder.Crew.run_over.Given as goal

abbrev pub ghosts-run_office : goal.ghosts-run_office
ghosts-run_office g a = record { ledger = a.ledger.id; may_end = g.B.Behaviour.may_end a.self.behaviour.now }
