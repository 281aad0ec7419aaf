use Rattle.std.proofs.Common.{◌≡◌, map, take, All}
use Rattle.rg_query.specs.Legal.{IsLegalQuery}
use Rattle.rg_metric.specs.Queries.{asked}
use Rattle.rg_query.specs.Printing.{query_text}
use Rattle.rg_config.specs.Plans.{AllTaken}
use Rattle.rg_config.proofs.queries.read_queries.Given as goal

abbrev pub invariant-texts : goal.invariant-texts
invariant-texts l = record {
  taken : AllTaken 0 l.schema (take l.number (map (λ text. text.now) l.texts)) (map asked l.queries.parsed.items);
  printed : l.queries.printed ≡ map (query_text l.schema) (map asked l.queries.parsed.items);
  legal : All (IsLegalQuery l.schema) (map asked l.queries.parsed.items);
}
