-- The columns that a function is asked of, and the values that it is given.
use Rattle.std.specs.Prelude.{◌≡◌, Bool, true, false, ⊤}
use Rattle.rg_event.specs.Tagged.{IsLegal, value_kind}
use Rattle.rg_event.specs.declared.value.Kind.{Kind}
use Rattle.rg_event.specs.declared.value.Kind.TheVariants.{Int, Id}
use Rattle.rg_event.specs.declared.value.Value.{Value}
use Rattle.rg_keywords.specs.declared.func.Func.{Func}
use Rattle.rg_keywords.specs.declared.func.Func.TheVariants.{Count, Sum, Avg, SumSq, Min, Max, CountDistinct, First, Last, Median, Pct}

-- ints
abbrev pub is_int : Kind → Bool
is_int Int = true
is_int kind = false

-- ints and ids
abbrev pub is_numeric : Kind → Bool
is_numeric Int = true
is_numeric Id = true
is_numeric kind = false

-- the kinds of columns that a function takes: sums take ints, extremes, ends and ranks take ints and ids, and a distinct count takes any;
-- events are counted, and no column
abbrev pub takes : Func → Kind → Bool
takes Count kind = false
takes Sum kind = is_int kind
takes Avg kind = is_int kind
takes SumSq kind = is_int kind
takes Min kind = is_numeric kind
takes Max kind = is_numeric kind
takes CountDistinct kind = true
takes First kind = is_numeric kind
takes Last kind = is_numeric kind
takes Median kind = is_numeric kind
takes (Pct percent) kind = is_numeric kind

-- a value that a function is given: events are counted whatever they are; of a column it is in the range of its kind, which the function takes
abbrev pub IsAdmitted : Func → Value → Type 0
IsAdmitted Count value = ⊤
IsAdmitted func value = (takes func (value_kind value) ≡ true) × IsLegal value
