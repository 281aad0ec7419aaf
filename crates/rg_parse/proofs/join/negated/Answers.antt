use Rattle.std.proofs.Common.{◌-◌, ap, sym, subst, ◌∙◌, arith}
use Rattle.rg_grammar.specs.Machine.{nots}
use Rattle.rg_parse.specs.declared.syntax.Expr.{Expr}
use Rattle.rg_parse.specs.Views.{tree}
use Rattle.rg_parse.specs.Parts.{IsCondition}
use Rattle.rg_parse.proofs.Nots.{nots_next}
use Rattle.rg_parse.proofs.join.negated.Goals as goal

pub loop-preserved : goal.loop-preserved
loop-preserved c = record {
  means = λ text. nots_next c.args.times c.loop.counter (tree text c.in_ok-new.field-0.value) (omega arith) ∙ ap (λ (expr : Expr). nots (c.args.times - c.loop.counter) (tree text expr)) c.in_ok-new.ensures.ok ∙ c.loop.invariant.means text;
  made = λ text h. subst (λ (expr : Expr). IsCondition text expr) (sym c.in_ok-new.ensures.ok) (c.loop.invariant.made text h);
}
