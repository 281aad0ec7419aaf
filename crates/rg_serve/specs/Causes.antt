-- What became of the input of a serve, whatever its task is.
use Rattle.std.specs.Prelude.{◌≡◌, ℕ, ◌+◌, ◌<◌, ◌≤◌, ◌^◌, true, false, List, Bool, Option, IsErrOf, Result}
use Rattle.rg_bytes.specs.Counts.{Rose}
use Rattle.rg_bytes.specs.Known.{IsAtEnd}
use Rattle.rg_pipe.specs.State.{PipeState}
use Rattle.rg_serve.specs.Coming.{CanGoOn}
use Rattle.rg_serve.specs.Intaking.{Intaking}
use Rattle.rg_serve.specs.declared.fault.ServeFault.{ServeFault}
use Rattle.rg_serve.specs.declared.fault.ServeFault.TheVariants.{Read, Limit}

-- A read that failed was counted, no count of them fell, and Limit says that more than 2^50 bytes were taken.
pub record ReadsFor {A : Type 0} (was now taken : ℕ) (result : Result A ServeFault) : Type 0 where
  pub read : IsErrOf result Read → Rose was now
  pub limit : IsErrOf result Limit → 2 ^ 50 < taken
  pub later : was ≤ now

-- One request was answered, or bytes were read: the pipe goes on; or no byte is left.
pub record Continues (p p_then : PipeState) (f f_then : Intaking) (left_then : Option (List ℕ)) (more : Bool) : Type 0 where
  pub can : more ≡ true → CanGoOn f_then p_then
  pub further : more ≡ true → p.place + f.taken < p_then.place + f_then.taken
  pub at_end : more ≡ false → IsAtEnd left_then
  pub within : f_then.taken ≤ 2 ^ 50
