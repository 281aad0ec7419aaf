-- Queries as plain data.
use Rattle.std.specs.Prelude.{ℕ, ◌≡◌, List, Option, Some, None, All}
use Rattle.rg_keywords.specs.declared.func.Func.TheVariants.{Count}
use Rattle.rg_metric.specs.declared.condition.Condition.{Condition}
use Rattle.rg_metric.specs.declared.query.Agg.{Agg}
use Rattle.rg_metric.specs.declared.query.Window.{Window}
use Rattle.rg_metric.specs.declared.query.Query.{Query}
use Rattle.rg_metric.specs.Conditions.{Test, test_of}

-- what a query asks: its aggregators, its condition, the columns of its key and its window
pub record Asked : Type 0 where
  pub aggs : List Agg
  pub filter : Option Test
  pub group : List ℕ
  pub window : Window

abbrev pub filter_test : Option Condition → Option Test
filter_test None = None
filter_test (Some c) = Some (test_of c)

abbrev pub asked : Query → Asked
asked q = record { aggs = q.aggs; filter = filter_test q.filter; group = q.group; window = q.window }

-- `count(*)`
pub record IsEventCount (agg : Agg) : Type 0 where
  pub func : agg.func ≡ Count
  pub field : agg.field ≡ 0

-- a query that only counts events
abbrev pub IsCounting : Asked → Type 0
IsCounting q = All IsEventCount q.aggs
