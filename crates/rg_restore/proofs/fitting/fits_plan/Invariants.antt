use Rattle.std.proofs.Common.{take}
use Rattle.rg_checkpoint.specs.Entries.{entries_of}
use Rattle.rg_restore.specs.Fit.{AreRowsOf}
use Rattle.rg_restore.proofs.fitting.fits_plan.Given as goal

abbrev pub invariant-rows : goal.invariant-rows
invariant-rows l = AreRowsOf l.fields l.plan (entries_of (take l.row-index l.rows))
