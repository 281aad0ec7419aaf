use Rattle.rg_commands.proofs.replay_command.replay_by_plan.Given as goal

abbrev pub ghosts-replay_log : goal.ghosts-replay_log
ghosts-replay_log g a = record { name = a.blank.name; parts = a.blank.parts }
