-- What a check promises.
use Rattle.std.specs.Prelude.{◌≡◌, ℕ, List, [], Option, Some, Result}
use Rattle.rg_config.specs.Plans.{Planned, Says}
use Rattle.rg_config.specs.declared.fault.ConfigFault.{ConfigFault}
use Rattle.rg_explain.specs.Listing.{check_text}
use Rattle.rg_messages.specs.Statuses.{last_line}
use Rattle.rg_messages.specs.declared.status.Status.{Status}
use Rattle.rg_messages.specs.declared.status.Status.TheVariants.{Ok, Write, Memory}
use Rattle.rg_commands.specs.Call.{plan_text}
use Rattle.rg_commands.specs.Outcome.{SourceOutcome, HostOutcome}
use Rattle.rg_commands.specs.Texts.{PutsUpTo, PutsByPlan}

-- Why a check of a legal plan ended, a row a status; want of memory alone has no cause, and `ok` is what has to hold where it came to its end.
abbrev pub CheckEnds : Type 0 → HostOutcome → List ℕ → Status → Type 0
CheckEnds ok h last Ok = ok
CheckEnds ok h last Memory = last ≡ last_line Memory
CheckEnds ok h last Write = h.put_failed × (last ≡ last_line Write)
CheckEnds ok h last other = ⊥

-- How a check of that plan went up to its last line, and why it ended.
pub record ChecksPlan (plan : Planned) (h : HostOutcome) (status : Status) (last : List ℕ) : Type 0 where
  pub put : PutsUpTo (check_text plan) h status
  pub why : CheckEnds (last ≡ []) h last status
  pub files : h.files_stay
  pub later : h.later

-- What a check promises, of its plan and its host.
pub record CheckPromises (plan : SourceOutcome) (h : HostOutcome) (status : Status) : Type 0 where
  -- Where the plan tells its bytes, the lines of what they say are put, none where they are refused, and then the status's last line; the status
  -- is the one that the bytes call for, or Memory, where no read and no put failed.
  pub put : (bytes : List ℕ) (asks : Result Planned ConfigFault) → plan.told ≡ Some bytes → Says bytes asks → PutsByPlan (plan_text asks) bytes asks plan h status
