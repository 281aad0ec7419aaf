use Rattle.std.proofs.Common.{◌∙◌, ◌+◌, ◌≡◌, sym, ap, ◌++◌, ◌∷◌, [], take, get_or, arith}
use Rattle.std.specs.Prelude.{fold}
use Rattle.std.proofs.lemmas.List.Sums.{fold-append}
use Rattle.rg_keywords.specs.declared.func.Func.TheVariants.{Count}
use Rattle.rg_metric.specs.declared.query.Agg.{Agg}
use Rattle.rg_plan.specs.declared.node.AggNode.{AggNode}
use Rattle.rg_plan.specs.Nodes.{with_use, same_agg}
use Rattle.rg_plan.specs.Plans.{agg_under, aggs_under, path_among}
use Rattle.rg_plan.proofs.Members.{with_use-length}
use Rattle.rg_plan.proofs.Steps.{once_more_or}
use Rattle.rg_plan.proofs.Staying.{numbered_more}
use Rattle.rg_plan.proofs.Told.{agg_equiv}
use Rattle.rg_plan.proofs.level.path_of.Goals as goal

pub loop-agg-preserved : goal.loop-agg-preserved
loop-agg-preserved c =
    let none : Agg = record { func = Count; field = 0 } in
    let i = c.loop-agg.agg-index in
    let aggs = c.args.aggs.now in
    let u : AggNode = agg_under c.args.group (get_or aggs i none) in
    let uses = aggs_under c.args.group (take i aggs) in
    let old = c.args.nodes.now.keys in
    let members = c.loop-agg.nodes.keys in
    let after = c.number_of.new.members.keys in
    let more : aggs_under c.args.group (take (i + 1) aggs) ≡ uses ++ u ∷ [] = once_more_or (agg_under c.args.group) aggs i none c.loop-agg-test.true in
    let added : after ≡ with_use same_agg members u = c.in_ok-number_of.ensures.members in
    record {
      few = rw added (omega (arith, with_use-length same_agg members u));
      nodes =
          added
          ∙ ap (λ ms. with_use same_agg ms u) c.loop-agg.invariant.nodes
          ∙ sym (fold-append (with_use same_agg) old uses (u ∷ []))
          ∙ ap (fold (with_use same_agg) old) (sym more);
      path =
          c.in_ok-push.ensures
          ∙ numbered_more same_agg agg_equiv old members after uses u c.loop-agg.path c.in_ok-number_of.field-0 c.loop-agg.invariant.nodes c.loop-agg.invariant.path added c.in_ok-number_of.ensures.number
          ∙ ap (path_among after) (sym more);
    }
