-- What the bytes of a plan ask for, within their limit.
use Rattle.std.specs.Prelude.{◌≤◌, ℕ, List, length, Ok, Err}
use Rattle.rg_config.specs.Plans.{Planned, Says}
use Rattle.rg_config.specs.declared.fault.ConfigFault.{ConfigFault}

-- the bytes are at most 65,536, and say this plan
pub record IsPlan (bytes : List ℕ) (plan : Planned) : Type 0 where
  pub within : length bytes ≤ 65536
  pub says : Says bytes (Ok plan)

-- the bytes are at most 65,536, and are refused by this fault
pub record IsRefusal (bytes : List ℕ) (fault : ConfigFault) : Type 0 where
  pub within : length bytes ≤ 65536
  pub says : Says bytes (Err fault)
