use Rattle.sup_desk.proofs.book.Transaction.commit.Given as goal

-- what is pending
abbrev pub ghosts-enter : goal.ghosts-enter
ghosts-enter g a = record { entries = a.entries.now }
