-- What holds of the plan of some queries, of any plan that is theirs.
use Rattle.std.proofs.Common.{◌≡◌, List, None, map, refl, sym, ap, ◌∙◌, subst}
use Rattle.std.specs.Prelude.{All}
use Rattle.rg_metric.specs.Queries.{Asked}
use Rattle.rg_plan.specs.Beginnings.{AreBegun}
use Rattle.rg_plan.specs.Named.{HasAgg, node_at, nodes_of, asked_by}
use Rattle.rg_plan.specs.Offsets.{IsMeasured}
use Rattle.rg_plan.specs.Plans.{Tasks, plan_for, excess}
use Rattle.rg_plan.specs.Whole.{IsWhole}
use Rattle.rg_plan.proofs.Begun.{filters_begin, groups_begin, aggs_begin}
use Rattle.rg_plan.proofs.Naming.{all_named, asked_back}
use Rattle.rg_plan.proofs.Whole.{whole_for}

pub is_whole : (plan : Tasks) (qs : List Asked) → plan ≡ plan_for qs → All (λ (q : Asked). IsMeasured q.window) qs → excess qs ≡ None → IsWhole plan
is_whole plan qs is measured within = subst IsWhole (sym is) (whole_for qs measured within)

begun_for : (qs : List Asked) → AreBegun qs (plan_for qs)
begun_for qs = record { windows = refl; filters = filters_begin qs; groups = groups_begin qs; aggs = aggs_begin qs }

pub is_begun : (plan : Tasks) (qs : List Asked) → plan ≡ plan_for qs → AreBegun qs plan
is_begun plan qs is = subst (AreBegun qs) (sym is) (begun_for qs)

pub is_named : (plan : Tasks) (qs : List Asked) → plan ≡ plan_for qs → map (λ path. map (node_at plan) path) plan.paths ≡ map nodes_of qs
is_named plan qs is = subst (λ (p : Tasks). map (λ path. map (node_at p) path) p.paths ≡ map nodes_of qs) (sym is) (all_named qs)

pub is_asked : (plan : Tasks) (qs : List Asked) → plan ≡ plan_for qs → All HasAgg qs → asked_by plan ≡ qs
is_asked plan qs is some = ap asked_by is ∙ asked_back qs some
