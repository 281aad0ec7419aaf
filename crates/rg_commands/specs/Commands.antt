-- What each command promises, a row each.
use Rattle.std.specs.Prelude.{◌≡◌, ℕ, List, Option, Some, None}
use Rattle.rg_messages.specs.Statuses.{last_line}
use Rattle.rg_messages.specs.declared.status.Status.{Status}
use Rattle.rg_messages.specs.declared.status.Status.TheVariants.{Usage}
use Rattle.rg_commands.specs.declared.command.Command.{Command}
use Rattle.rg_commands.specs.declared.command.Command.TheVariants.{Run, Replay, Verify, Check, Dump, Info, Trial}
use Rattle.rg_commands.specs.Outcome.{Outcome}
use Rattle.rg_commands.specs.Texts.{PutsLine}
use Rattle.rg_commands.specs.Runs.{RunPromises}
use Rattle.rg_commands.specs.Replays.{ReplayPromises}
use Rattle.rg_commands.specs.Verifies.{VerifyPromises}
use Rattle.rg_commands.specs.Checks.{CheckPromises}
use Rattle.rg_commands.specs.Dumps.{DumpPromises}
use Rattle.rg_commands.specs.Infos.{InfoPromises}
use Rattle.rg_commands.specs.SelfTests.{SelfPromises}

-- What a call promises whose words are no form of a command.
pub record UsagePromises (o : Outcome) (status : Status) : Type 0 where
  -- It is refused.
  pub usage : status ≡ Usage
  -- Nothing is put but the line that says so, whole unless a put failed.
  pub line : PutsLine (last_line Usage) o.host
  -- Neither the plan nor the input was touched.
  pub usage_first : o.plan.stays × o.input.stays

-- What a call promises, by what its words ask for.
abbrev pub Promises : Option Command → Outcome → Status → Type 0
Promises (Some (Run first)) o status = RunPromises first o status
Promises (Some (Replay first)) o status = ReplayPromises first o.plan o.host status
Promises (Some Verify) o status = VerifyPromises o.plan o.host status
Promises (Some Check) o status = CheckPromises o.plan o.host status
Promises (Some Dump) o status = DumpPromises o.host status
Promises (Some Info) o status = InfoPromises o.host status
Promises (Some (Trial lines seed)) o status = SelfPromises lines seed o.host status
Promises None o status = UsagePromises o status
