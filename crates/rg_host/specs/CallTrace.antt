-- The record of the calls on a host in memory.
use Rattle.std.specs.Prelude.{◌≡◌, ◌≤◌, ◌^◌, ℕ, Bool, IsTrue, List, ◌∷◌, length, map, reverse, Vec}
use Rattle.std.specs.List.{list_all}
use Rattle.std.specs.declared.alloc.Global.{Global}
use Rattle.rg_host.specs.Image.{Image}
use Rattle.rg_host.specs.Files.{files_of, image_of, bytes_at}
use Rattle.rg_host.specs.Effects.{Effect, nothing, wrote, failed_write, synced, put, now_after, said_after, names_file}
use Rattle.rg_host.specs.declared.call.Call.{Call}
use Rattle.rg_host.specs.declared.call.Call.TheVariants.{Nothing, Write, FailedWrite, Sync, Put}

-- The files before the first call, and what each noted call did, the last one first.
pub record Trace : Type 0 where
  pub first : List (List ℕ)
  pub effects : List Effect

-- the trace with one call more
abbrev pub with_effect : Effect → Trace → Trace
with_effect effect trace = record trace { effects = effect ∷ trace.effects }

-- the files as reads give them
abbrev pub now_of : Trace → Image
now_of trace = now_after (image_of trace.first) trace.effects

-- what a noted call did
abbrev pub effect_of : Call → Effect
effect_of Nothing = nothing
effect_of (Write file at bytes) = wrote file at bytes.items
effect_of (FailedWrite file at size) = failed_write file at size
effect_of (Sync file) = synced file
effect_of (Put bytes) = put bytes.items

-- a noted call named a file below 8, or none
abbrev pub is_named : Call → Bool
is_named call = names_file (effect_of call)

-- what these calls did, the last one first
abbrev pub effects_of : List Call → List Effect
effects_of calls = map effect_of (reverse calls)

-- What holds of the buffers of a trace: the files and the output are those that the calls leave.
pub record IsKept (first files : List (Vec ℕ Global)) (output : List ℕ) (calls : List Call) : Type 0 where
  pub few : length first ≤ 8
  pub eight : length files ≡ 8
  pub now : (file : ℕ) → bytes_at files file ≡ now_after (image_of (files_of first)) (effects_of calls) file
  pub small : (file : ℕ) → length (bytes_at files file) ≤ 2 ^ 62
  pub said : output ≡ said_after (effects_of calls)
  pub named : IsTrue (list_all is_named calls)
