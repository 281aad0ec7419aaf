use Rattle.std.proofs.Common.{◌≡◌, ◌<◌, ◌≤◌, ◌^◌, ℕ, length}
use Rattle.rg_host.specs.Files.{bytes_at}
use Rattle.rg_host.proofs.file_list.copy_files.Given as goal

abbrev pub invariant-each_file : goal.invariant-each_file
invariant-each_file l = record {
  size : length l.copies.items ≡ l.i;
  same : (f : ℕ) → f < l.i → bytes_at l.copies.items f ≡ bytes_at l.files f;
  small : (f : ℕ) → length (bytes_at l.copies.items f) ≤ 2 ^ 62;
}
