-- What calls on a host in memory did: what reads then give, what a crash may then leave, and what held at each moment of them.
-- A list of effects has the last one first. `first` is the image before the first call.
use Rattle.std.specs.Prelude.{◌≡◌, ◌⊎◌, ◌+◌, ◌≤◌, ◌==◌, nat_le, nat_lt, ℕ, Bool, true, List, [], ◌∷◌, ◌++◌, length, take, drop, if◌then◌else◌}
use Rattle.rg_host.specs.Image.{Image, InFile, Torn, IsAfter}
use Rattle.rg_host.specs.Moments.{Moment}
use Rattle.rg_host.specs.Puts.{IsPartWay}

-- what a call did: nothing, as one that only looked, or that failed and was no write;
-- it wrote these bytes into a file at a place; a write of so many bytes into a file at a place failed;
-- it settled a file; or it put these bytes
pub data Effect : Type 0 where
  nothing : Effect
  wrote : ℕ → ℕ → List ℕ → Effect
  failed_write : ℕ → ℕ → ℕ → Effect
  synced : ℕ → Effect
  put : List ℕ → Effect

-- the image with other bytes in one file
abbrev pub with_file : ℕ → List ℕ → Image → Image
with_file file bytes image other = if other == file then bytes else image other

-- a file after these bytes were written at that place, where it lies within the file
abbrev pub written : ℕ → List ℕ → List ℕ → List ℕ
written at bytes old = if nat_le at (length old) then take at old ++ bytes ++ drop (at + length bytes) old else old

-- what reads give
abbrev pub now_after : Image → List Effect → Image
now_after first [] = first
now_after first (nothing ∷ past) = now_after first past
now_after first (wrote file at bytes ∷ past) = with_file file (written at bytes (now_after first past file)) (now_after first past)
now_after first (failed_write file at n ∷ past) = now_after first past
now_after first (synced file ∷ past) = now_after first past
now_after first (put bytes ∷ past) = now_after first past

-- What a crash may leave: what the writes since the last sync of each file may leave, each of them torn anyhow, one after another.
-- A failed write counts as written. After a sync a crash leaves of its file what reads give.
abbrev pub may_after : Image → List Effect → Image → Type 0
may_after first [] v = v ≡ first
may_after first (nothing ∷ past) v = may_after first past v
may_after first (wrote file at bytes ∷ past) v = IsAfter (InFile file (Torn at (length bytes))) (may_after first past) v
may_after first (failed_write file at n ∷ past) v = IsAfter (InFile file (Torn at n)) (may_after first past) v
may_after first (synced file ∷ past) v = may_after first past v × (v file ≡ now_after first past file)
may_after first (put bytes ∷ past) v = may_after first past v

-- the bytes that a call put
abbrev pub put_by : Effect → List ℕ
put_by nothing = []
put_by (wrote file at bytes) = []
put_by (failed_write file at n) = []
put_by (synced file) = []
put_by (put bytes) = bytes

-- all bytes put
abbrev pub said_after : List Effect → List ℕ
said_after [] = []
said_after (effect ∷ past) = said_after past ++ put_by effect

-- within a call a crash may leave what it could leave before the call, or what it may leave after it, while a prefix of the bytes that the call puts is out
abbrev pub IsWithin : Image → Effect → List Effect → Moment → Type 0
IsWithin first effect past m = (may_after first past m.image ⊎ may_after first (effect ∷ past) m.image) × IsPartWay (said_after past) (put_by effect) m.said

-- That is a moment since there were that many calls: after the last call, within it, or a moment before it. There is no other moment.
abbrev pub IsSince : Image → List Effect → ℕ → Moment → Type 0
IsSince first [] t m = (t ≤ 0) × (m.image ≡ first) × (m.said ≡ [])
IsSince first (effect ∷ past) t m =
    ((t ≤ length (effect ∷ past)) × may_after first (effect ∷ past) m.image × (m.said ≡ said_after (effect ∷ past)))
    ⊎ (((t ≤ length past) × IsWithin first effect past m)
    ⊎ IsSince first past t m)

-- the call named a file below 8, or none
abbrev pub names_file : Effect → Bool
names_file nothing = true
names_file (wrote file at bytes) = nat_lt file 8
names_file (failed_write file at n) = nat_lt file 8
names_file (synced file) = nat_lt file 8
names_file (put bytes) = true
