-- What a dump promises, and with it an `info`.
use Rattle.std.specs.Prelude.{◌≡◌, ℕ, List, [], Option, Some}
use Rattle.rg_host.specs.Image.{Image}
use Rattle.rg_host.specs.Lines.{ended}
use Rattle.rg_dump.specs.Dump.{dump_text}
use Rattle.rg_messages.specs.Statuses.{last_line}
use Rattle.rg_messages.specs.declared.status.Status.{Status}
use Rattle.rg_messages.specs.declared.status.Status.TheVariants.{Ok, Store, Write, Disk, Memory}
use Rattle.rg_commands.specs.Call.{IsUndamaged, IsDamagedBy}
use Rattle.rg_commands.specs.Outcome.{HostOutcome}
use Rattle.rg_commands.specs.Texts.{PutsUpTo, ShowsImage}

-- Why a command ended that shows what the store has, a row a status; want of memory alone has no cause, and `ok` is what has to hold
-- where it came to its end.
abbrev pub ShowEnds : Type 0 → HostOutcome → List ℕ → Status → Type 0
ShowEnds ok h last Ok = ok
ShowEnds ok h last Store = IsDamagedBy h.image last
ShowEnds ok h last Disk = h.disk_failed × (last ≡ last_line Disk)
ShowEnds ok h last Memory = last ≡ last_line Memory
ShowEnds ok h last Write = h.put_failed × (last ≡ last_line Write)
ShowEnds ok h last other = ⊥

-- How such a command went up to its last line, which puts a text that `Text` admits, of a damaged log the lines `before`; and why it ended.
pub record ShowsStore (Text : Image → List (List ℕ) → Type 0) (before : Image → List (List ℕ)) (h : HostOutcome) (status : Status) (last : List ℕ) : Type 0 where
  pub put : (image : Image) → h.image ≡ Some image → (text : List (List ℕ)) × Text image text × PutsUpTo text h status
  pub damaged : status ≡ Store → (image : Image) → h.image ≡ Some image → h.puts (ended (before image))
  pub why : ShowEnds ((last ≡ []) × IsUndamaged h.image) h last status
  pub files : h.files_stay
  pub later : h.later

-- the lines of a dump of that image's log: the text of the schema in force at its end, and then each event as a row
abbrev pub rows_of : Image → List (List ℕ)
rows_of image = dump_text (image 2)

abbrev pub IsDumpOf : Image → List (List ℕ) → Type 0
IsDumpOf image text = text ≡ rows_of image

-- What a dump promises, of its host: the lines of the log are put, up to its first damaged place.
abbrev pub DumpPromises : HostOutcome → Status → Type 0
DumpPromises h status = ShowsImage IsDumpOf rows_of h status
