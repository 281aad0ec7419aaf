use Rattle.std.proofs.Common.{take}
use Rattle.std.specs.Prelude.{IfNone}
use Rattle.std.proofs.lemmas.Result.{IfOk-weaker}
use Rattle.rg_restore.specs.Truthful.{AreRowsFor}
use Rattle.rg_row_audit.specs.Rows.{AreAllRight}
use Rattle.rg_row_audit.proofs.Judged.{none_found}
use Rattle.rg_row_audit.proofs.check.check_rows.Goals as goal

pub returns-clause-right : goal.returns-clause-right
returns-clause-right c = λ served.
    let rows = c.args.checkpoint.now.rows in
    let first = take c.args.checkpoint.now.count c.args.events.now in
    IfOk-weaker c.least_wrong.result (λ found. IfNone found (AreAllRight rows c.args.plan.now first)) (λ found. IfNone found (AreRowsFor rows c.args.plan.now first))
    (λ found right. none_found rows c.args.plan.now first found c.least_wrong.ensures.rising right) (c.least_wrong.ensures.right served)
