-- Where the reading of a line stands, in the code and in the definition.
use Rattle.std.specs.Prelude.{ℕ, ◌==◌, Option, None, Some, if◌then◌else◌}
use Rattle.rg_row.specs.Fields.{Mode, start, in_bare, in_quotes, behind}
use Rattle.rg_row.specs.declared.quotes.Mode.{Mode as Stand}
use Rattle.rg_row.specs.declared.quotes.Mode.TheVariants as stand

abbrev pub mode_of : Stand → Mode
mode_of stand.Start = start
mode_of stand.Bare = in_bare
mode_of stand.Quoted = in_quotes
mode_of stand.Behind = behind

-- where a byte leaves the reading, if the line may go on so
abbrev pub next_mode : Mode → ℕ → Option Mode
next_mode start byte = if byte == 44 then Some start else if byte == 34 then Some in_quotes else Some in_bare
next_mode in_bare byte = if byte == 44 then Some start else if byte == 34 then None else Some in_bare
next_mode in_quotes byte = if byte == 34 then Some behind else Some in_quotes
next_mode behind byte = if byte == 34 then Some in_quotes else if byte == 44 then Some start else None
