use Rattle.std.proofs.Common.{arith}
use Rattle.rg_host.proofs.Asking.{drops_long, long_skipped}
use Rattle.rg_host.proofs.scanner.drop_long.Goals as goal
use Rattle.rg_host.proofs.scanner.drop_long.Goals.{then-skipping-via-then-skipping, then-skipping-via-else-skipping+then-len-ge-LONG}

pub returns-then-skipping : goal.returns-then-skipping
returns-then-skipping c = elim c.then-skipping.branch [
  | then-skipping-via-then-skipping w ↦ rw (c.clear.ensures, w.if-skipping.true) (drops_long _ _ (long_skipped _) (omega arith))
  | then-skipping-via-else-skipping+then-len-ge-LONG w ↦ rw (c.clear.ensures, w.if-skipping.false) (drops_long _ _ (omega (arith, w.if-len-ge-LONG.true, w.len.ensures)) (omega (arith, w.if-len-ge-LONG.true, w.len.ensures)))
]
