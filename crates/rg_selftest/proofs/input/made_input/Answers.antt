use Rattle.std.proofs.Common.{◌≡◌, ◌∙◌, ap, arith}
use Rattle.rg_host.specs.Lines.{ended}
use Rattle.rg_selftest.specs.Trials.{made_lines}
use Rattle.rg_selftest.proofs.Inputs.{next_line}
use Rattle.rg_selftest.proofs.input.made_input.Goals as goal

pub lines-preserved : goal.lines-preserved
lines-preserved c = next_line c.args.seed c.lines.i c.lines.input.items c.put_made.new.input.items c.lines.invariant c.in_ok-put_made.ensures

pub returns : goal.returns
returns c =
    let all : c.lines.i ≡ c.args.lines = omega (arith, c.lines-test.false, c.lines.auto.i-end) in
    c.lines.invariant ∙ ap (λ n. ended (made_lines c.args.seed n)) all
