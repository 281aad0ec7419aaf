use Rattle.std.proofs.Common.{◌≡◌, ℕ, length, take}
use Rattle.rg_host.specs.CallTrace.{effects_of}
use Rattle.rg_host.specs.Effects.{now_after}
use Rattle.rg_host.specs.Files.{bytes_at, files_of, image_of}
use Rattle.rg_host.specs.Picks.{left_after}
use Rattle.rg_host.proofs.replay.replay.Given as goal

abbrev pub invariant-replayed : goal.invariant-replayed
invariant-replayed l = record {
  eight_now : length l.now.items ≡ 8;
  eight_left : length l.left.items ≡ 8;
  now : (file : ℕ) → bytes_at l.now.items file ≡ now_after (image_of (files_of l.first)) (effects_of (take l.call-index l.calls)) file;
  left : (file : ℕ) → bytes_at l.left.items file ≡ left_after l.pick (image_of (files_of l.first)) (effects_of (take l.call-index l.calls)) file;
}
