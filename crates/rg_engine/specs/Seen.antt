-- An engine as plain data.
use Rattle.std.specs.Prelude.{Bool, List, refl}
use Rattle.std.specs.Coded.{Coded, code_by, coded×, coded_bool, coded_list}
use Rattle.rg_past.specs.declared.past.Spot.{Spot}
use Rattle.rg_past.specs.contracts.past.Spot.{the_row as spot_row}
use Rattle.rg_plan.specs.Plans.{Tasks}
use Rattle.rg_plan.specs.Codes.{planned_code}

-- its plan, where its edges stand, one spot for each offset of the plan, its table, and whether an earlier failure ended it
pub record Seen (T : Type 0) : Type 0 where
  pub plan : Tasks
  pub spots : List Spot
  pub table : T
  pub ended : Bool

-- an engine as the tuple of its parts
abbrev pub seen_code : {T : Type 0} → Coded T → Coded (Seen T)
seen_code {T} code =
    code_by (Tasks × (List Spot × (T × Bool))) (coded× planned_code (coded× (coded_list spot_row.coded) (coded× code coded_bool)))
    (λ s. (s.plan, (s.spots, (s.table, s.ended))))
    (λ p. record { plan = p.0; spots = p.1.0; table = p.1.1.0; ended = p.1.1.1 })
    (λ _. refl)
