-- Bytes that were read of an input.
use Rattle.std.specs.Prelude.{◌≡◌, ℕ, ◌+◌, ◌<◌, ◌≤◌, ◌^◌, Bool, true, false, List, [], length, Option, Result, Ok, Err}
use Rattle.rg_bytes.specs.Known.{before, IsAtEnd}
use Rattle.rg_host.specs.declared.lines.LineFault.{LineFault}
use Rattle.rg_host.specs.declared.lines.LineFault.TheVariants.{Read, Limit}

-- The bytes that are held, and how many were taken in all.
pub record Intaking : Type 0 where
  pub held : List ℕ
  pub taken : ℕ

-- How they lie in a buffer.
pub record IsLaid (bytes : List ℕ) (start end taken : ℕ) : Type 0 where
  pub size : length bytes ≡ 65536
  pub ordered : start ≤ end
  pub within : end ≤ 65536
  pub most : taken ≤ 2 ^ 50 + 1

-- These bytes were taken of an input that had `left` and has `now`.
pub record Takes (old new : Intaking) (left now : Option (List ℕ)) : Type 0 where
  pub took : left ≡ before new.held now
  pub count : new.taken ≡ old.taken + length new.held
  pub some : 0 < length new.held
  pub most : new.taken ≤ 2 ^ 50

-- At most a byte was taken of it, and dropped.
pub record Drops (old new : Intaking) (left now : Option (List ℕ)) : Type 0 where
  pub past : List ℕ
  pub took : left ≡ before past now
  pub one : length past ≡ 1
  pub held_stays : new.held ≡ old.held
  pub count : new.taken ≡ old.taken + length past
  pub too_many : 2 ^ 50 < new.taken

-- What a read does: more bytes came, or there are none; a byte past the limit is dropped.
abbrev pub Reads : Intaking → Intaking → Option (List ℕ) → Option (List ℕ) → Result Bool LineFault → Type 0
Reads old new left now (Ok true) = Takes old new left now
Reads old new left now (Ok false) = (new ≡ old) × IsAtEnd now × (left ≡ before [] now)
Reads old new left now (Err Read) = (new ≡ old) × (now ≡ left)
Reads old new left now (Err Limit) = Drops old new left now
