-- Why bytes are no chunk.
use Rattle.rg_event.specs.declared.codec.EventFault.{EventFault}
use Rattle.rg_event.specs.declared.codec.EventFault.TheVariants.{Short, BadValue, Memory}
use Rattle.rg_column.specs.declared.fault.ColumnFault.{ColumnFault}
use Rattle.rg_column.specs.declared.fault.ColumnFault.TheVariants.{Short as TooShort, BadColumn, Memory as RanOut}
use Rattle.rg_chunk.specs.declared.fault.ChunkFault.{ChunkFault}
use Rattle.rg_chunk.specs.declared.fault.ChunkFault.TheVariants.{BadChunk, Memory as NoMemory}

-- what a fault of columns is called in a chunk
abbrev pub event_fault : ColumnFault → EventFault
event_fault TooShort = Short
event_fault (BadColumn column) = BadValue column
event_fault RanOut = Memory

-- bytes that end too early or have a bad field are no chunk; or memory ran out
abbrev pub chunk_fault : EventFault → ChunkFault
chunk_fault Short = BadChunk
chunk_fault (BadValue field) = BadChunk
chunk_fault Memory = NoMemory
