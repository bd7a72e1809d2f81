use Rattle.store_tests.proofs.run.run_plan.Given as goal

-- the ledgers of both books are those of the blanks
abbrev pub ghosts-with_books-L-Ledger : goal.ghosts-with_books-L-Ledger
ghosts-with_books-L-Ledger g a = record { name = a.answers.name; parts = a.answers.parts }

abbrev pub ghosts-with_books-E-Ledger : goal.ghosts-with_books-E-Ledger
ghosts-with_books-E-Ledger g a = record { name = a.ends.name; parts = a.ends.parts }
