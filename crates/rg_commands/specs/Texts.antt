-- What a call puts of a text, and its last line.
use Rattle.std.specs.Prelude.{◌≡◌, ◌⊎◌, ℕ, List, [], ◌++◌, Option, Some, Result}
use Rattle.std.specs.Option.{ForSome}
use Rattle.rg_bytes.specs.Known.{after}
use Rattle.rg_config.specs.Plans.{Planned, Says}
use Rattle.rg_config.specs.declared.fault.ConfigFault.{ConfigFault}
use Rattle.rg_host.specs.Image.{Image}
use Rattle.rg_host.specs.Lines.{ended}
use Rattle.rg_host.specs.Puts.{IsPrefix, IsPut, Puts, StopsWith}
use Rattle.rg_host.specs.Moments.{LeavesFiles}
use Rattle.rg_host.specs.declared.host.Host.{Ghosts as HostMembers}
use Rattle.rg_dump.specs.Dump.{damage_of}
use Rattle.rg_explain.specs.Stops.{StopsAt}
use Rattle.rg_messages.specs.Statuses.{last_line}
use Rattle.rg_messages.specs.declared.status.Status.{Status}
use Rattle.rg_messages.specs.declared.status.Status.TheVariants.{Ok, Plan as BadPlan, Store, Write, Memory, Gap}
use Rattle.rg_commands.specs.Call.{IsCarried, line_for, plan_status, damage_line, store_line, store_status}
use Rattle.rg_commands.specs.Outcome.{SourceOutcome, HostOutcome, Outcome, host_outcome}

-- What was put of a text up to the last line: all of it at status Ok, and else whole lines, or any prefix of it where a put failed.
pub record PutsUpTo (text : List (List ℕ)) (h : HostOutcome) (status : Status) : Type 0 where
  pub put : List ℕ
  pub puts : h.puts put
  pub all : status ≡ Ok → put ≡ ended text
  pub stops : StopsAt (status ≡ Write) text put

-- What a call puts that has this text and this last line.
pub record PutsText (text : List (List ℕ)) (last : List ℕ) (h : HostOutcome) (status : Status) : Type 0 where
  -- At status Ok just the text was put.
  pub complete : status ≡ Ok → h.puts (ended text)
  pub put : List ℕ
  pub puts : h.puts put
  -- At each status a prefix of the text was put, or whole lines of it and then a prefix of the last line.
  pub put_so_far : IsPut text last put
  -- Unless a put failed, the last line is whole.
  pub last_line_whole : StopsWith text last put ⊎ h.put_failed

-- Nothing was put but this last line, whole unless a put failed.
pub record PutsLine (last : List ℕ) (h : HostOutcome) : Type 0 where
  pub part : List ℕ
  pub front : IsPrefix part last
  pub whole : (part ≡ last) ⊎ h.put_failed
  pub puts : h.puts part

-- What a call puts whose plan tells these bytes, which say this; it isn't carried out over a store.
pub record PutsByPlan (text : List (List ℕ)) (bytes : List ℕ) (asks : Result Planned ConfigFault) (plan : SourceOutcome) (h : HostOutcome) (status : Status) : Type 0 where
  -- The text is put, and then the status's last line, which at a refused plan says the fault.
  pub put : PutsText text (line_for asks status) h status
  -- Where no read of the plan and no put failed, the status is the one that the plan's bytes call for, or Memory.
  pub completes : (plan.failed ⊎ h.put_failed → ⊥) → (status ≡ plan_status bytes asks) ⊎ (status ≡ Memory)

-- Where the plan tells bytes that are too long or say no plan, nothing is put but the last line.
abbrev pub RefusesPlan : SourceOutcome → HostOutcome → Status → Type 0
RefusesPlan plan h status = (bytes : List ℕ) (asks : Result Planned ConfigFault) → plan.told ≡ Some bytes → Says bytes asks → (IsCarried bytes asks → ⊥) → PutsByPlan [] bytes asks plan h status

-- What a command puts that shows what the store has: over the image that reads give a text that `Text` admits, and at a damaged log the lines
-- `before`, and then the line that says the place.
pub record ShowsImage (Text : Image → List (List ℕ) → Type 0) (before : Image → List (List ℕ)) (h : HostOutcome) (status : Status) : Type 0 where
  -- Where the host tells its image, the text is put, and then the status's last line.
  pub put : (image : Image) → h.image ≡ Some image → (text : List (List ℕ)) × Text image text × PutsText text (store_line image status) h status
  -- A damaged log is shown up to its first damaged place, which the last line says, unless a put failed.
  pub rows_before_damage : status ≡ Store → ForSome h.image (λ image. h.puts (ended (before image) ++ damage_line (damage_of (image 2)))) ⊎ h.put_failed
  -- Where no put and no call on a file failed, the status is the one that the store calls for, or Memory.
  pub completes : (image : Image) → h.image ≡ Some image → (h.put_failed ⊎ h.disk_failed → ⊥) → (status ≡ store_status (damage_of (image 2))) ⊎ (status ≡ Memory)

-- what was put ends with that line
abbrev pub EndsWith : Option (List ℕ) → List ℕ → Type 0
EndsWith said line = (before : Option (List ℕ)) × (said ≡ after before line)

-- the last line is the status's own, but where the plan, the store or the input was refused
abbrev pub IsOwnLine : Status → List ℕ → Type 0
IsOwnLine status last = (status ≡ BadPlan) ⊎ (status ≡ Store) ⊎ (status ≡ Gap) ⊎ (last ≡ last_line status)

-- How a call ended.
pub record Ended (h : HostOutcome) (status : Status) (Why : List ℕ → Type 0) : Type 0 where
  -- its last line, with which all that was put ends, unless a put failed
  pub last : List ℕ
  pub ends : EndsWith h.said_after last ⊎ h.put_failed
  pub line : IsOwnLine status last
  -- why it ended so
  pub why : Why last

-- From old to new the last line of a call was put, if it has one: no file was written, and no call on a file failed.
pub record PutsLast {H : Type 0} (g : HostMembers H) (last : List ℕ) (old new : H) : Type 0 where
  pub line : PutsLine last (host_outcome g old new)
  pub silent : last ≡ [] → new ≡ old
  pub leaves : LeavesFiles g.now g.may g.clock g.since old new
  pub disk : g.disk_faults new ≡ g.disk_faults old
  pub later : (host_outcome g old new).later
