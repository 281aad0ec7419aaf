-- The image that is picked of those that a crash might leave.
use Rattle.std.specs.Prelude.{ℕ, List, [], ◌∷◌, length, replicate, ◌-◌, drop}
use Rattle.rg_host.specs.Image.{Image}
use Rattle.rg_host.specs.Effects.{Effect, nothing, wrote, failed_write, synced, put, with_file, written, now_after}
use Rattle.rg_host.specs.declared.pick.Pick.{Pick}
use Rattle.rg_host.specs.declared.pick.Pick.TheVariants.{Old, New, Torn}

-- what is left of a file after these bytes were written
abbrev pub left_of_write : Pick → ℕ → List ℕ → List ℕ → List ℕ
left_of_write Old at bytes old = old
left_of_write New at bytes old = written at bytes old
left_of_write (Torn fill) at bytes old = written at (replicate (length bytes) fill) old

-- what is left of a file after a write of n bytes failed
abbrev pub left_of_failed : Pick → ℕ → ℕ → List ℕ → List ℕ
left_of_failed Old at n old = old
left_of_failed New at n old = old
left_of_failed (Torn fill) at n old = written at (replicate n fill) old

-- what is left after a call, where reads gave `now` before it and a crash before it left `left`
abbrev pub left_after_call : Pick → Effect → Image → Image → Image
left_after_call pick nothing now left = left
left_after_call pick (wrote file at bytes) now left = with_file file (left_of_write pick at bytes (left file)) left
left_after_call pick (failed_write file at n) now left = with_file file (left_of_failed pick at n (left file)) left
left_after_call pick (synced file) now left = with_file file (now file) left
left_after_call pick (put bytes) now left = left

-- What is left after these calls, the last one first. Old: the bytes and lengths of the last sync of each file. New: what was written.
-- Torn: the greatest lengths since that sync, with this byte in each place that was written since.
abbrev pub left_after : Pick → Image → List Effect → Image
left_after pick first [] = first
left_after pick first (effect ∷ past) = left_after_call pick effect (now_after first past) (left_after pick first past)

-- the first so many of these effects, of which the last one stands first
abbrev pub first_effects : ℕ → List Effect → List Effect
first_effects count effects = drop (length effects - count) effects
