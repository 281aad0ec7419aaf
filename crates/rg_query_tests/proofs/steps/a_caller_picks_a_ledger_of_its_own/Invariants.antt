use Rattle.rg_query_tests.proofs.steps.a_caller_picks_a_ledger_of_its_own.Given as goal

-- the blank names the ledger
abbrev pub ghosts-uncounted : goal.ghosts-uncounted
ghosts-uncounted g a = record { name = a.blank.name; parts = a.blank.parts }
