-- How the logic tells plans apart.
use Rattle.std.specs.Prelude.{ℕ, List, Option, refl}
use Rattle.std.specs.Coded.{Coded, code_by, coded×, coded_ℕ, coded_list, coded_option}
use Rattle.rg_metric.specs.contracts.query.Window.{the_row as window_row}
use Rattle.rg_metric.specs.declared.query.Window.{Window}
use Rattle.rg_metric.specs.Conditions.{Test}
use Rattle.rg_metric.specs.TestCodes.{test_code}
use Rattle.rg_plan.specs.contracts.node.GroupNode.{the_row as group_row}
use Rattle.rg_plan.specs.contracts.node.AggNode.{the_row as agg_row}
use Rattle.rg_plan.specs.declared.node.GroupNode.{GroupNode}
use Rattle.rg_plan.specs.declared.node.AggNode.{AggNode}
use Rattle.rg_plan.specs.Nodes.{Filtered}
use Rattle.rg_plan.specs.Plans.{Tasks}

abbrev pub filtered_code : Coded Filtered
filtered_code = code_by (ℕ × Option Test) (coded× coded_ℕ (coded_option test_code)) (λ f. (f.window, f.condition)) (λ p. record { window = p.0; condition = p.1 }) (λ _. refl)

-- a plan as the tuple of its parts
abbrev pub planned_code : Coded Tasks
planned_code =
    code_by (List ℕ × (List Window × (List Filtered × (List GroupNode × (List AggNode × List (List ℕ))))))
    (coded× (coded_list coded_ℕ) (coded× (coded_list window_row.coded) (coded× (coded_list filtered_code) (coded× (coded_list group_row.coded) (coded× (coded_list agg_row.coded) (coded_list (coded_list coded_ℕ)))))))
    (λ p. (p.offsets, (p.windows, (p.filters, (p.groups, (p.aggs, p.paths))))))
    (λ p. record { offsets = p.0; windows = p.1.0; filters = p.1.1.0; groups = p.1.1.1.0; aggs = p.1.1.1.1.0; paths = p.1.1.1.1.1 })
    (λ _. refl)
