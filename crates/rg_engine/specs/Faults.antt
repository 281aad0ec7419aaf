-- What the faults of a table and of a move are called.
use Rattle.std.specs.Prelude.{◌≡◌, ◌⊎◌, Result, Ok, Err, IsErrOf}
use Rattle.rg_past.specs.declared.past.PastFault.TheVariants as past
use Rattle.rg_state.specs.declared.table.TableFault.{TableFault}
use Rattle.rg_state.specs.declared.table.TableFault.TheVariants as table
use Rattle.rg_window.specs.declared.edges.MoveFault.{MoveFault}
use Rattle.rg_window.specs.declared.edges.MoveFault.TheVariants as move
use Rattle.rg_engine.specs.declared.fault.EngineFault.{EngineFault}
use Rattle.rg_engine.specs.declared.fault.EngineFault.TheVariants as fault

abbrev pub table_fault_of : TableFault → EngineFault
table_fault_of (table.BadState node) = fault.BadState node
table_fault_of table.Memory = fault.Memory
table_fault_of table.Disk = fault.Table

abbrev pub move_fault_of : MoveFault TableFault → EngineFault
move_fault_of (move.Past cause) = fault.Past cause
move_fault_of (move.Visit cause) = table_fault_of cause

-- memory ran out, of the past or besides
abbrev pub WantsMemory : {A : Type 0} → Result A EngineFault → Type 0
WantsMemory (Ok answer) = ⊥
WantsMemory (Err cause) = (cause ≡ fault.Memory) ⊎ (cause ≡ fault.Past past.Memory)

-- A past that had ended always refuses, and one that hadn't and is full too: each by its cause, or else for want of memory.
abbrev pub RefusesAlways : {A : Type 0} → Type 0 → Type 0 → Result A EngineFault → Type 0
RefusesAlways had_ended is_full result = (had_ended → IsErrOf result (fault.Past past.Ended) ⊎ WantsMemory result)
    × ((had_ended → ⊥) → is_full → IsErrOf result (fault.Past past.Full) ⊎ WantsMemory result)
