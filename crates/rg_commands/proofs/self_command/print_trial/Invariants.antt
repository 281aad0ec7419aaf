use Rattle.rg_commands.proofs.self_command.print_trial.Given as goal

abbrev pub ghosts-run_trial : goal.ghosts-run_trial
ghosts-run_trial g a = record { name = a.blank.name; parts = a.blank.parts }
