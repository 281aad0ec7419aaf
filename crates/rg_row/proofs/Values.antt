-- The values of the columns, read one by one.
use Rattle.std.proofs.Common.{List, ◌++◌, Result, Ok, Err}
use Rattle.rg_event.specs.declared.value.Value.{Value}
use Rattle.rg_row.specs.declared.fault.RowFault.{RowFault}

-- the values that were read, in front of those to come
abbrev pub ahead : List Value → Result (List Value) RowFault → Result (List Value) RowFault
ahead front (Ok values) = Ok (front ++ values)
ahead front (Err fault) = Err fault
