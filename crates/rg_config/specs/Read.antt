-- A plan as it was read.
use Rattle.std.specs.Prelude.{◌≡◌, ℕ, List, map, Ok, All}
use Rattle.rg_event.specs.Shapes.{Shape}
use Rattle.rg_growth.specs.Growing.{AreDefaultsOf}
use Rattle.rg_metric.specs.Queries.{Asked}
use Rattle.rg_plan.specs.Plans.{plan_for}
use Rattle.rg_query.specs.Legal.{IsLegalQuery}
use Rattle.rg_query.specs.Printing.{query_text}
use Rattle.rg_query.specs.Saying.{Means}
use Rattle.rg_config.specs.Documents.{AreInRange}
use Rattle.rg_config.specs.Plans.{planned}
use Rattle.rg_config.specs.declared.plan.Plan.{Plan}

-- a legal query over the schema: some text says it
pub record IsSaid (shape : Shape) (query : Asked) : Type 0 where
  pub legal : IsLegalQuery shape query
  pub text : List ℕ
  pub means : Means shape text (Ok query)

-- Its queries stand beside as they are printed, its task is their plan, some text says each of them over its schema, each
-- setting lies in its range, and each column has a default of its kind or none.
pub record IsReadPlan (plan : Plan) : Type 0 where
  pub printed : plan.queries ≡ map (query_text plan.schema) (planned plan).queries
  pub task : plan.task ≡ plan_for (planned plan).queries
  pub legal : All (IsLegalQuery plan.schema) (planned plan).queries
  pub said : All (IsSaid plan.schema) (planned plan).queries
  pub ranges : AreInRange (planned plan).settings
  pub defaults : AreDefaultsOf plan.schema.fields plan.defaults
