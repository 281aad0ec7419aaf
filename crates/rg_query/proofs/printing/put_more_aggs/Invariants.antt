use Rattle.std.proofs.Common.{◌≡◌, ◌++◌, take, drop, length}
use Rattle.rg_query.specs.Printing.{agg_text, more_text}
use Rattle.rg_query.proofs.printing.put_more_aggs.Given as goal

abbrev pub invariant-loop-agg : goal.invariant-loop-agg
invariant-loop-agg l = record {
  so_far : l.out.items ++ more_text (agg_text l.schema) (drop l.agg-index l.aggs) ≡ l.initial.out.items ++ more_text (agg_text l.schema) l.aggs;
  begun : take (length l.initial.out.items) l.out.items ≡ l.initial.out.items;
}
