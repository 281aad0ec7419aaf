use Rattle.rg_engine_tests.proofs.engine.takes_values.Given as goal

-- the steps aren't told, so any ledger serves
abbrev pub ghosts-takes : goal.ghosts-takes
ghosts-takes a = record { name = a.blank.name; parts = a.blank.parts }
