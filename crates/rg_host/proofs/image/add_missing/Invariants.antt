use Rattle.std.proofs.Common.{◌≡◌, ◌≤◌, ◌-◌, ◌+◌, length}
use Rattle.rg_host.specs.Files.{files_of}
use Rattle.rg_host.proofs.image.add_missing.Given as goal

abbrev pub invariant-missing : goal.invariant-missing
invariant-missing l = record {
  same : files_of l.files.items ≡ files_of l.fn.files.items;
  few : length l.files.items ≤ 8;
}

abbrev pub decreases-missing : goal.decreases-missing
decreases-missing l = l.file + 1 - length l.files.items
