-- Ranges of a buffer.
use Rattle.std.proofs.Common.{◌≡◌, ℕ, ◌+◌, ◌-◌, ◌<◌, ◌≤◌, ◌^◌, List, length, take, drop, slice_range, ap, sym, ◌∙◌, arith}
use Rattle.std.proofs.lemmas.List.{drop-drop, drop-take}
use Rattle.std.specs.Prelude.{Option}
use Rattle.rg_bytes.specs.Known.{before}
use Rattle.rg_host.specs.Buffered.{ReadsPart}
use Rattle.rg_host.proofs.Laws.{length-slice_range}
use Rattle.rg_serve.specs.Intaking.{Takes}

pub drop_range : (bytes : List ℕ) (start end n : ℕ) → end ≤ length bytes → n ≤ length (slice_range bytes start end) → drop n (slice_range bytes start end) ≡ slice_range bytes (start + n) end
drop_range bytes start end n within few =
    let size : end - start ≡ n + (end - start - n) = omega (arith, few, length-slice_range bytes start end within) in
    let rest : end - start - n ≡ end - (start + n) = omega arith in
    ap (λ m. drop n (take m (drop start bytes))) size ∙ drop-take n (end - start - n) (drop start bytes) ∙ ap (take (end - start - n)) (drop-drop n start bytes) ∙ ap (λ m. take m (drop (start + n) bytes)) rest

pub front_taken : (bytes : List ℕ) (room count taken : ℕ) (held : List ℕ) (left now : Option (List ℕ)) → length bytes ≡ 65536 → room ≤ 65536 → taken + room ≤ 2 ^ 50 → 0 < count → ReadsPart bytes 0 room left now count
    → Takes (record { held = held; taken = taken }) (record { held = slice_range bytes 0 count; taken = taken + count }) left now
front_taken bytes room count taken held left now size few low some reads =
    let n : length (slice_range bytes 0 count) ≡ count = length-slice_range bytes 0 count (omega (arith, size, few, reads.count)) ∙ omega arith in
    record {
      took = reads.took ∙ ap (λ m. before (slice_range bytes 0 m) now) (let same : 0 + count ≡ count = omega arith in same);
      count = ap (λ m. taken + m) (sym n);
      some = omega (arith, n, some);
      most = omega (arith, low, reads.count);
    }
