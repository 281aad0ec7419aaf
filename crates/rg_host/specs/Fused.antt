-- A host that passes so many calls on to another one, and then fails each.
use Rattle.std.specs.Prelude.{◌≡◌, ℕ, ◌+◌, ◌-◌, ◌^◌, min}
use Rattle.rg_host.specs.CallCounts.{raised}

-- What such a host stands for.
pub record Fused (H : Type 0) : Type 0 where
  -- the host to which the calls go
  pub inner : H
  -- how many calls are still passed on
  pub left : ℕ
  -- how many calls on a file, and of `put`, were failed here
  pub disk_faults : ℕ
  pub out_faults : ℕ
  -- how many calls of `read_at` were failed here
  pub reads : ℕ

-- what the other host has
abbrev pub of_inner {ℓ} : {H : Type 0} {A : Type ℓ} → (H → A) → Fused H → A
of_inner member fuse = member fuse.inner

-- the counts of the other host and of this one together, up to the greatest number
abbrev pub disk_count : {H : Type 0} → (H → ℕ) → Fused H → ℕ
disk_count faults fuse = min (faults fuse.inner + fuse.disk_faults) (2 ^ 64 - 1)

abbrev pub out_count : {H : Type 0} → (H → ℕ) → Fused H → ℕ
out_count faults fuse = min (faults fuse.inner + fuse.out_faults) (2 ^ 64 - 1)

abbrev pub read_count : {H : Type 0} → (H → ℕ) → Fused H → ℕ
read_count reads fuse = min (reads fuse.inner + fuse.reads) (2 ^ 64 - 1)

-- A call was passed on: only the other host changed, and one call less is left.
pub record HasPassed {H : Type 0} (old new : Fused H) : Type 0 where
  pub left : new.left + 1 ≡ old.left
  pub disk_faults : new.disk_faults ≡ old.disk_faults
  pub out_faults : new.out_faults ≡ old.out_faults
  pub reads : new.reads ≡ old.reads

-- one call on a file more was failed here
abbrev pub with_disk_fault : {H : Type 0} → Fused H → Fused H
with_disk_fault old = record old { disk_faults = raised old.disk_faults }

-- one `put` more was failed here
abbrev pub with_out_fault : {H : Type 0} → Fused H → Fused H
with_out_fault old = record old { out_faults = raised old.out_faults }

-- one `read_at` more was failed here
abbrev pub with_read : {H : Type 0} → Fused H → Fused H
with_read old = record old { reads = raised old.reads }
