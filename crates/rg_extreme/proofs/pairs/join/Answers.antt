use Rattle.std.proofs.Common.{◌++◌, ◌∷◌, [], if◌then◌else◌, ap, sym, ◌∙◌}
use Rattle.rg_agg.specs.Numbers.{value_of}
use Rattle.rg_extreme.specs.Deques.{raised}
use Rattle.rg_extreme.specs.States.{as_pairs}
use Rattle.rg_multiset.proofs.Laws.{pairs_append}
use Rattle.rg_extreme.proofs.pairs.join.Goals as goal

pub returns-clause-ok : goal.returns-clause-ok
returns-clause-ok c =
    let items = c.args.pairs.now.items in
    let v = value_of c.args.number in
    ap as_pairs c.in_ok-push_back.ensures.items
    ∙ (pairs_append value_of c.args.number 1 items
    ∙ ap (λ same. if same then raised (as_pairs items) else as_pairs items ++ (v, 1) ∷ []) (sym c.if-is_last.false ∙ c.is_last.ensures))
