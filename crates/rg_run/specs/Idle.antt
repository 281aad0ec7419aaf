-- When a row asks nothing of the disk.
use Rattle.std.specs.Prelude.{◌≡◌, ℕ, List, length}
use Rattle.rg_config.specs.Plans.{Planned}
use Rattle.rg_run_spec.specs.Verdicts.{accepted_after}
use Rattle.rg_task.specs.Terms.{verdict_on}
use Rattle.rg_task.specs.View.{View}
use Rattle.rg_run.specs.Due.{is_due}
use Rattle.rg_run.specs.declared.due.Due.TheVariants.{Nothing}

-- The task runs, its next event has room, and nothing is due once the row of this cleaned text is taken.
pub record IsIdle {K : Type 0} (view : View K) (plan : Planned) (offset : ℕ) (line : List ℕ) (t : K) : Type 0 where
  pub running : view.runs plan t
  pub room : view.roomy t
  pub none_due : is_due plan.settings.commit plan.settings.save (length (view.at t).events) (length (accepted_after (view.at t).events (verdict_on plan (view.at t).events offset line))) ≡ Nothing
