-- A run over a new store.
use Rattle.std.specs.Prelude.{◌≡◌, ◌≤◌, ◌^◌, ℕ, List, [], length, Option, Some, ⊤}
use Rattle.rg_host.specs.Lines.{ended, lines_of}
use Rattle.rg_config.specs.Plans.{Planned}
use Rattle.rg_run_spec.specs.Accepted.{events_after}
use Rattle.rg_run_spec.specs.Output.{text_of_run}
use Rattle.rg_task.specs.Terms.{terms_of}
use Rattle.rg_run.specs.declared.fault.RunFault.{RunFault}
use Rattle.rg_run.specs.declared.fault.RunFault.TheVariants as run

-- It put the whole text of a run whose lines begin at offset 0 behind no event, the open line included, and the store has room for its events.
pub record HasRun (plan : Planned) (input : List ℕ) (said : Option (List ℕ)) : Type 0 where
  pub put : said ≡ Some (ended (text_of_run (terms_of plan) [] 0 0 (lines_of input)))
  pub few : length (events_after (terms_of plan).basis [] 0 (lines_of input)) ≤ 2 ^ 40

-- it may meet this fault: its store is neither damaged nor another plan's, and its input has no gap
abbrev pub MayMeet : RunFault → Type 0
MayMeet (run.Damaged place) = ⊥
MayMeet run.SchemaDiffers = ⊥
MayMeet (run.BadState node) = ⊥
MayMeet (run.Gap next) = ⊥
MayMeet fault = ⊤
