use Rattle.std.proofs.Common.{arith, rules, subst}
use Rattle.std.specs.Prelude.{IsTrue}
use Rattle.std.proofs.lemmas.List.{take_all}
use Rattle.rg_checkpoint.specs.Entries.{entries_of}
use Rattle.rg_row_audit.specs.Keeping.{AreLeft}
use Rattle.rg_row_audit.proofs.Keeps.{left_over}
use Rattle.rg_row_audit.proofs.Rowwise.{filled_at, pass_other, pass_own, refuse}
use Rattle.rg_row_audit.proofs.keeping.are_kept.Goals as goal

pub rows-preserved-then-row-node : goal.rows-preserved-then-row-node
rows-preserved-then-row-node c = λ at time events suited gathered.
    let f = c.if-row-node.true in
    pass_other c.args.node c.args.rows.now c.rows.row-index c.row-item.result c.rows-test.true c.row-item.is at time events c.rows.left (λ same. omega (arith, f, same)) (c.rows.invariant at time events suited gathered)

pub is_kept-requires : goal.is_kept-requires
is_kept-requires c = record { filled = filled_at c.args.rows.now c.rows.row-index c.row-item.result c.rows-test.true c.row-item.is c.requires.filled }

pub returns-then-not-branch : goal.returns-then-not-branch
returns-then-not-branch c = λ at time events suited gathered.
    let f : IsTrue c.in_ok-is_kept.field-0 → ⊥ = search rules in
    let no_row = refuse c.args.node c.args.rows.now c.rows.row-index c.row-item.result c.rows-test.true c.row-item.is at time events c.requires.rising (omega (arith, c.if-row-node.false)) c.rows.left (c.rows.invariant at time events suited gathered) suited
    c.in_ok-is_kept.field-0 c.in_ok-is_kept.ensures.kept f in
    (λ wrong. cc, λ all. absurd (no_row all))

pub rows-preserved : goal.rows-preserved
rows-preserved c = λ at time events suited gathered.
    pass_own c.args.node c.args.rows.now c.rows.row-index c.row-item.result c.rows-test.true c.row-item.is at time events c.requires.rising (omega (arith, c.if-row-node.false)) c.rows.left (c.rows.invariant at time events suited gathered) suited
    c.in_ok-is_kept.field-0 c.in_ok-is_kept.ensures.kept c.is_kept.new.left (search rules) c.is_kept.ensures.gone c.is_kept.ensures.others

pub returns : goal.returns
returns c = λ at time events suited gathered.
    left_over c.args.node at time events (entries_of c.args.rows.now) c.rows.left c.is_empty.result c.is_empty.ensures
    (subst (λ rows. AreLeft (entries_of rows) c.args.node at time events c.rows.left) (take_all c.rows.row-index c.args.rows.now c.rows-test.false) (c.rows.invariant at time events suited gathered))
