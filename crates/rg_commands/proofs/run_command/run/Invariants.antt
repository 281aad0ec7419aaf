use Rattle.rg_commands.proofs.run_command.run.Given as goal

abbrev pub ghosts-run_by_plan : goal.ghosts-run_by_plan
ghosts-run_by_plan g a = record { name = a.blank.name; parts = a.blank.parts }
