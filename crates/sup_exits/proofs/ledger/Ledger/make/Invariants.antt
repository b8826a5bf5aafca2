use Rattle.sup_exits.proofs.ledger.Ledger.make.Given as goal

-- the child that is made
abbrev pub ghosts-make_by : goal.ghosts-make_by
ghosts-make_by a = record { child = a.child }
