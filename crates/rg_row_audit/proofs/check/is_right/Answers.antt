use Rattle.std.proofs.Common.{ℕ, List, rules}
use Rattle.std.specs.Prelude.{◌↔◌, IsTrue}
use Rattle.std.proofs.lemmas.Result.{IfOk-weaker}
use Rattle.rg_event.specs.declared.event.Event.{Event}
use Rattle.rg_plan.specs.Named.{Node}
use Rattle.rg_checkpoint.specs.Entries.{entries_of}
use Rattle.rg_row_audit.specs.Gathering.{node_of, AreGathered}
use Rattle.rg_row_audit.specs.Keeping.{AreSuited, AreKept}
use Rattle.rg_row_audit.specs.Rows.{AreRight}
use Rattle.rg_row_audit.proofs.Judged.{never_none, is_right}
use Rattle.rg_row_audit.proofs.check.is_right.Goals as goal

pub returns-in-None : goal.returns-in-None
returns-in-None c = λ served. absurd (never_none c.args.plan.now c.args.node c.requires.whole c.requires.there (search (rules, c.asking_of.ensures)))

pub returns-in_ok-gathered-in-Some : goal.returns-in_ok-gathered-in-Some
returns-in_ok-gathered-in-Some c = λ served.
    let rows = entries_of c.args.rows.now in
    IfOk-weaker c.are_kept.result
    (λ are. (at : Node) (time : ℕ) (events : List Event) → AreSuited at time events → AreGathered at time events c.in_ok-gathered-in-Some.gathered → IsTrue are ↔ AreKept rows c.args.node at time events)
    (λ are. IsTrue are ↔ AreRight rows c.args.plan.now c.args.events.now c.args.node)
    (λ are told. is_right rows c.args.plan.now c.args.events.now c.args.node (node_of c.in-Some.asking) c.time_of.result c.in_ok-gathered-in-Some.gathered are (search (rules, c.asking_of.ensures)) c.time_of.ensures served c.in_ok-gathered-in-Some.ensures told)
    c.are_kept.ensures
