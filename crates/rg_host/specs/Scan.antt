-- How the lines of a source are found in what was read of it.
use Rattle.std.specs.Prelude.{◌≡◌, ℕ, ◌+◌, ◌-◌, ◌<◌, ◌≤◌, ◌^◌, nat_lt, Bool, true, false, List, [], ◌∷◌, ◌++◌, length, replicate, Option, Some, None, Result, Ok, Err, if◌then◌else◌}
use denote.Ref.{Bor}
use Rattle.rg_bytes.specs.Known.{before, IsAtEnd}
use Rattle.rg_host.specs.Lines.{lines_of, HasNoLf}
use Rattle.rg_host.specs.Reading.{Reading, Next}
use Rattle.rg_host.specs.declared.scanner.Found.{Found}
use Rattle.rg_host.specs.declared.scanner.Found.TheVariants as found
use Rattle.rg_host.specs.declared.lines.Line.TheVariants.{Text, Long, End}
use Rattle.rg_host.specs.declared.lines.LineFault.{LineFault}
use Rattle.rg_host.specs.declared.lines.LineFault.TheVariants.{Read, Limit}

-- Where a scan of lines stands.
pub record Scan : Type 0 where
  pub reading : Reading
  -- the line that was found last
  pub line : List ℕ

-- what stands for the first bytes of a line that is being read past
unfoldable pub skipped : List ℕ
skipped = replicate 65536 0

abbrev pub prefix : Bool → List ℕ
prefix true = skipped
prefix false = []

-- of a line that is being read past, one byte is kept back for its end
abbrev pub owed : Bool → ℕ
owed true = 1
owed false = 0

-- the reading of a scan that holds these bytes
abbrev pub reading_at : Bool → List ℕ → ℕ → Bool → Reading
reading_at skipping held taken ended = record {
  pending = prefix skipping ++ held;
  taken = taken;
  spent = taken - (length held + owed skipping);
  ended = ended;
}

-- What holds of the counts of a scan.
pub record IsCounted (pending : List ℕ) (skipping : Bool) (taken : ℕ) (ended : Bool) : Type 0 where
  pub counted : length pending + owed skipping ≤ taken
  pub within : taken ≤ 2 ^ 50 + 1
  pub past_limit : 2 ^ 50 < taken → HasNoLf pending
  pub at_end : ended ≡ true → (pending ≡ []) × (skipping ≡ false) × (taken ≤ 2 ^ 50)

-- which line it is, where n bytes of it are held
abbrev pub kind_of : Bool → ℕ → Found
kind_of true n = found.Long
kind_of false n = if nat_lt n 65536 then found.Text else found.Long

-- the line that was found, and nothing at the end
abbrev pub handed_by : Found → List ℕ → Option (Option (List ℕ))
handed_by found.Text line = Some (Some line)
handed_by found.Long line = Some None
handed_by found.End line = None

-- What is held of a line that is too long was dropped: the same lines are to come, and fewer bytes are held.
pub record Drops (skipping : Bool) (held : List ℕ) (still_skipping : Bool) (still_held : List ℕ) : Type 0 where
  pub short : length still_held < 65536
  pub same : HasNoLf (prefix skipping ++ held) → (rest : List ℕ) → lines_of ((prefix still_skipping ++ still_held) ++ rest) ≡ lines_of ((prefix skipping ++ held) ++ rest)
  pub no_lf : HasNoLf (prefix skipping ++ held) → HasNoLf (prefix still_skipping ++ still_held)
  pub fewer : length still_held + owed still_skipping ≤ length held + owed skipping

-- Bytes were taken from a source that had `left` and has `now`, and the same lines are to come.
pub record Takes (old new : Reading) (left now : Option (List ℕ)) : Type 0 where
  pub got : List ℕ
  pub took : left ≡ before got now
  pub count : new.taken ≡ old.taken + length got
  pub same : (rest : List ℕ) → lines_of (new.pending ++ rest) ≡ lines_of ((old.pending ++ got) ++ rest)
  pub spent : old.spent ≤ new.spent
  pub ended : new.ended ≡ old.ended

-- The first of the lines to come was cut off, whatever comes behind it.
pub record Cuts (old new : Reading) (item : Option (List ℕ)) : Type 0 where
  pub line : (rest : List ℕ) → lines_of (old.pending ++ rest) ≡ item ∷ lines_of (new.pending ++ rest)
  pub taken : new.taken ≡ old.taken
  pub spent : old.spent < new.spent
  pub within : new.spent ≤ new.taken
  pub ended : new.ended ≡ old.ended

-- All that was left was cut off as the last line.
pub record CutsLast (old new : Reading) (item : Option (List ℕ)) : Type 0 where
  pub line : lines_of old.pending ≡ item ∷ []
  pub nothing_left : new.pending ≡ []
  pub taken : new.taken ≡ old.taken
  pub spent : old.spent < new.spent
  pub within : new.spent ≤ new.taken
  pub ended : new.ended ≡ true

-- A byte past the limit came, and was dropped.
pub record Oversteps (old new : Reading) (left now : Option (List ℕ)) : Type 0 where
  pub past : List ℕ
  pub took : left ≡ before past now
  pub count : new.taken ≡ old.taken + length past
  pub one : length past ≤ 1
  pub over : 2 ^ 50 < new.taken
  pub pending : new.pending ≡ old.pending
  pub ended : new.ended ≡ old.ended

-- More lines may come: the end wasn't found, no more was taken than may be, and where nothing is held all of it was spent.
pub record MayHaveLines (reading : Reading) : Type 0 where
  pub limit : reading.taken ≤ 2 ^ 50
  pub not_ended : reading.ended ≡ false
  pub all_spent : reading.pending ≡ [] → reading.spent ≡ reading.taken

-- What a call that asks for more bytes does, and whether there were any.
abbrev pub Asks : Reading → Reading → Option (List ℕ) → Option (List ℕ) → Result Bool LineFault → Type 0
Asks old new left now (Ok true) = Takes old new left now × (old.taken < new.taken) × (new.taken ≤ 2 ^ 50)
Asks old new left now (Ok false) = Takes old new left now × (new.taken ≤ 2 ^ 50) × HasNoLf new.pending × IsAtEnd now
Asks old new left now (Err Read) = Takes old new left now × (new.taken ≤ 2 ^ 50) × HasNoLf new.pending
Asks old new left now (Err Limit) = Oversteps old new left now

-- What a call that looks for the next line does, which then holds this text: what `next` does, where it hands that out.
abbrev pub Loads : Reading → Reading → List ℕ → Option (List ℕ) → Option (List ℕ) → Result Found LineFault → Type 0
Loads old new line left now (Ok found.Text) = (text : Bor (List ℕ)) → text.now ≡ line → Next old new left now (Ok (Text text))
Loads old new line left now (Ok found.Long) = Next old new left now (Ok Long)
Loads old new line left now (Ok found.End) = Next old new left now (Ok End)
Loads old new line left now (Err fault) = Next old new left now (Err fault)
