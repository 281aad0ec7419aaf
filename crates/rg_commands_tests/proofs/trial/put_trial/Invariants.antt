use Rattle.rg_commands_tests.proofs.trial.put_trial.Given as goal

abbrev pub ghosts-run_trial : goal.ghosts-run_trial
ghosts-run_trial a = record { name = a.blank.name; parts = a.blank.parts }
