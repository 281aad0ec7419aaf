-- A host in memory.
use Rattle.std.specs.Prelude.{◌≡◌, ◌⊎◌, ℕ, List, [], ◌∷◌, length, Contains, Option, Some}
use Rattle.rg_host.specs.CallCounts.{raised}
use Rattle.rg_host.specs.Image.{Image}
use Rattle.rg_host.specs.Files.{image_of}
use Rattle.rg_host.specs.Moments.{Moment}
use Rattle.rg_host.specs.Effects.{Effect, now_after, may_after, said_after, IsSince}

-- What the calls on a host in memory did, and how the next ones go.
pub record Ledger : Type 0 where
  -- the files that the host began with
  pub first : List (List ℕ)
  -- what each call did that was noted, the last one first
  pub effects : List Effect
  -- the numbers of the calls that fail
  pub fail : List ℕ
  -- the number of the next call
  pub next : ℕ
  -- how many calls on a file have failed
  pub disk_faults : ℕ
  -- how many calls of `put` have failed
  pub out_faults : ℕ
  -- how many calls of `read_at` were made
  pub reads : ℕ
  -- in how many calls a growth found no memory
  pub starved : ℕ

-- a host that begins with these files, and whose calls of these numbers are to fail
abbrev pub begun : List (List ℕ) → List ℕ → Ledger
begun first fail = record { first = first; effects = []; fail = fail; next = 0; disk_faults = 0; out_faults = 0; reads = 0; starved = 0 }

abbrev pub now_in : Ledger → Option Image
now_in host = Some (now_after (image_of host.first) host.effects)

abbrev pub may_in : Ledger → Image → Type 0
may_in host v = may_after (image_of host.first) host.effects v

abbrev pub clock_in : Ledger → ℕ
clock_in host = length host.effects

abbrev pub since_in : Ledger → ℕ → Moment → Type 0
since_in host t m = IsSince (image_of host.first) host.effects t m

abbrev pub said_in : Ledger → Option (List ℕ)
said_in host = Some (said_after host.effects)

-- the next call is one of those that are to fail
abbrev pub IsListed : Ledger → Type 0
IsListed host = Contains host.fail host.next

-- one call more, which was noted and had this effect
abbrev pub noted : Effect → Ledger → Ledger
noted effect old = record old { effects = effect ∷ old.effects; next = raised old.next }

-- one call more, in which a growth found no memory: it isn't noted and changed nothing
abbrev pub unnoted : Ledger → Ledger
unnoted old = record old { next = raised old.next; starved = raised old.starved }

-- one failed call on a file more
abbrev pub with_disk_fault : Ledger → Ledger
with_disk_fault old = record old { disk_faults = raised old.disk_faults }

-- one failed `put` more
abbrev pub with_out_fault : Ledger → Ledger
with_out_fault old = record old { out_faults = raised old.out_faults }

-- one `read_at` more
abbrev pub with_read : Ledger → Ledger
with_read old = record old { reads = raised old.reads }

-- One call more failed. Where there was memory, it was noted with this effect.
abbrev pub HasFailed : Effect → Ledger → Ledger → Type 0
HasFailed effect old new = (new ≡ noted effect old) ⊎ (new ≡ unnoted old)
