-- How the logic tells queries apart.
use Rattle.std.specs.Prelude.{ℕ, List, Option, refl}
use Rattle.std.specs.Coded.{Coded, code_by, coded×, coded_ℕ, coded_list, coded_option}
use Rattle.rg_metric.specs.contracts.query.Agg.{the_row as agg_row}
use Rattle.rg_metric.specs.contracts.query.Window.{the_row as window_row}
use Rattle.rg_metric.specs.declared.query.Agg.{Agg}
use Rattle.rg_metric.specs.declared.query.Window.{Window}
use Rattle.rg_metric.specs.Conditions.{Test}
use Rattle.rg_metric.specs.TestCodes.{test_code}
use Rattle.rg_metric.specs.Queries.{Asked}

-- a query as the tuple of its parts
abbrev pub asked_code : Coded Asked
asked_code =
    code_by (List Agg × (Option Test × (List ℕ × Window))) (coded× (coded_list agg_row.coded) (coded× (coded_option test_code) (coded× (coded_list coded_ℕ) window_row.coded)))
    (λ q. (q.aggs, (q.filter, (q.group, q.window))))
    (λ p. record { aggs = p.0; filter = p.1.0; group = p.1.1.0; window = p.1.1.1 })
    (λ _. refl)
