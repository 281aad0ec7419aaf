-- What holds of a query that a syntax asks of a schema.
use Rattle.std.specs.Prelude.{◌≡◌, ◌≤◌, ℕ, zero, suc, true, List, [], ◌∷◌, Option, Some, None, ⊤}
use Rattle.std.specs.List.{All}
use Rattle.rg_event.specs.Codec.{IsValueOf}
use Rattle.rg_event.specs.Shapes.{Shape}
use Rattle.rg_event.specs.declared.value.Kind.{Kind}
use Rattle.rg_event.specs.declared.value.Value.{Value}
use Rattle.rg_keywords.specs.declared.func.Func.{Func}
use Rattle.rg_keywords.specs.declared.func.Func.TheVariants.{Count, Pct}
use Rattle.rg_keywords.specs.declared.op.Op.{Op}
use Rattle.rg_metric.specs.Admitted.{takes}
use Rattle.rg_metric.specs.Conditions.{Test, compared, not_of, and_of, or_of}
use Rattle.rg_metric.specs.Queries.{Asked}
use Rattle.rg_metric.specs.declared.query.Agg.{Agg}
use Rattle.rg_query.specs.Printing.{name_at}
use Rattle.rg_query.specs.Resolving.{column_named, is_ordered}

-- the column's name is found, and is this column's
pub record IsColumn (shape : Shape) (column : ℕ) : Type 0 where
  pub kind : Kind
  pub found : column_named shape (name_at column shape.fields) ≡ Some (column, kind)

-- a percent is from 1 to 100
abbrev pub IsPercent : Func → Type 0
IsPercent (Pct percent) = (1 ≤ percent) × (percent ≤ 100)
IsPercent func = ⊤

-- a column of a kind that the function takes, and a percent that there is
pub record IsField (shape : Shape) (func : Func) (column : ℕ) : Type 0 where
  pub kind : Kind
  pub found : column_named shape (name_at column shape.fields) ≡ Some (column, kind)
  pub taken : takes func kind ≡ true
  pub percent : IsPercent func

-- only events are counted without a column
abbrev pub IsOperand : Shape → Func → ℕ → Type 0
IsOperand shape func zero = func ≡ Count
IsOperand shape func (suc n) = IsField shape func (suc n)

abbrev pub IsLegalAgg : Shape → Agg → Type 0
IsLegalAgg shape agg = IsOperand shape agg.func agg.field

-- there is one at least
abbrev pub AreLegalAggs : Shape → List Agg → Type 0
AreLegalAggs shape [] = ⊥
AreLegalAggs shape (agg ∷ aggs) = All (IsLegalAgg shape) (agg ∷ aggs)

-- a column and a value of its kind, which are compared as that kind may be
pub record IsComparison (shape : Shape) (column : ℕ) (op : Op) (value : Value) : Type 0 where
  pub kind : Kind
  pub found : column_named shape (name_at column shape.fields) ≡ Some (column, kind)
  pub ordered : is_ordered kind op ≡ true
  pub fits : IsValueOf kind value

abbrev pub IsLegalTest : Shape → Test → Type 0
IsLegalTest shape (compared column op value) = IsComparison shape column op value
IsLegalTest shape (not_of t) = IsLegalTest shape t
IsLegalTest shape (and_of s t) = IsLegalTest shape s × IsLegalTest shape t
IsLegalTest shape (or_of s t) = IsLegalTest shape s × IsLegalTest shape t

abbrev pub IsLegalFilter : Shape → Option Test → Type 0
IsLegalFilter shape None = ⊤
IsLegalFilter shape (Some t) = IsLegalTest shape t

-- from 1 to 10^15 milliseconds, where there is an end
abbrev pub IsLegalLength : Option ℕ → Type 0
IsLegalLength None = ⊤
IsLegalLength (Some n) = (1 ≤ n) × (n ≤ 1000000000000000)

pub record IsLegalQuery (shape : Shape) (q : Asked) : Type 0 where
  pub aggs : AreLegalAggs shape q.aggs
  pub filter : IsLegalFilter shape q.filter
  pub group : All (IsColumn shape) q.group
  pub length : IsLegalLength q.window.length
  pub delay : q.window.delay ≤ 1000000000000000
