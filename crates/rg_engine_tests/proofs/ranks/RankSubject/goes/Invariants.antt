use Rattle.rg_engine_tests.proofs.ranks.RankSubject.goes.Given as goal

abbrev pub ghosts-is_at : goal.ghosts-is_at
ghosts-is_at a = record { name = a.blank.name; parts = a.blank.parts }
