use Rattle.threads_run.proofs.threads.run_threads.Given as goal

abbrev pub ghosts-with_books-L-Ledger : goal.ghosts-with_books-L-Ledger
ghosts-with_books-L-Ledger g a = record { name = a.answers.name; parts = a.answers.parts }

abbrev pub ghosts-with_books-E-Ledger : goal.ghosts-with_books-E-Ledger
ghosts-with_books-E-Ledger g a = record { name = a.ends.name; parts = a.ends.parts }
