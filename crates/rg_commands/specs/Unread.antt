-- A command that reads its plan.
use Rattle.std.specs.Prelude.{◌≡◌, ◌⊎◌, ℕ, List, Option, IfSome}
use Rattle.rg_config.specs.Plans.{Planned}
use Rattle.rg_run.specs.Reading.{IsLonger}
use Rattle.rg_messages.specs.Statuses.{last_line}
use Rattle.rg_messages.specs.declared.refusal.Refusal.{Refusal}
use Rattle.rg_messages.specs.declared.status.Status.{Status}
use Rattle.rg_messages.specs.declared.status.Status.TheVariants.{Plan as BadPlan, Read, Limit, Memory}
use Rattle.rg_commands.specs.Plan.{IsPlan}
use Rattle.rg_commands.specs.Call.{TellsFault}
use Rattle.rg_commands.specs.Outcome.{SourceOutcome}

-- Why a plan was not taken, a row a status; want of memory alone has no cause.
abbrev pub UnreadFor : SourceOutcome → List ℕ → Option Refusal → Status → Type 0
UnreadFor plan last told BadPlan = TellsFault plan.told last told
UnreadFor plan last told Read = plan.failed × (last ≡ last_line Read)
UnreadFor plan last told Limit = IsLonger 65536 plan.told × (last ≡ last_line Limit)
UnreadFor plan last told Memory = last ≡ last_line Memory
UnreadFor plan last told other = ⊥

-- A command that reads its plan: the plan was not taken, and nothing else was done; or it is legal, and the command went so by it.
abbrev pub GoesBy : SourceOutcome → List ℕ → Option Refusal → Status → (nothing : Type 0) → (Planned → Type 0) → Type 0
GoesBy plan last told status nothing Goes = (UnreadFor plan last told status × nothing) ⊎ ((asks : Planned) × IfSome plan.told (λ bytes. IsPlan bytes asks) × Goes asks)
