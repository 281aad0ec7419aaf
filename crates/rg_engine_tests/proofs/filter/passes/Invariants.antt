use Rattle.rg_engine_tests.proofs.filter.passes.Given as goal

-- the blank names the ledger
abbrev pub ghosts-is_held : goal.ghosts-is_held
ghosts-is_held a = record { name = a.blank.name; parts = a.blank.parts }
