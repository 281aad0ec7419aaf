use Rattle.std.proofs.Common.{ap, ◌∙◌}
use Rattle.rg_agg.specs.Numbers.{value_of}
use Rattle.rg_agg.specs.Unbeaten.{is_less}
use Rattle.rg_multiset.specs.Reading.{comes_behind}
use Rattle.rg_rank.proofs.reading.FillingPairList.is_behind.Goals as goal

pub returns : goal.returns
returns c = c.may_follow.ensures ∙ ap (λ last. comes_behind is_less last (value_of c.args.key.now)) c.last.ensures
