-- The functions that one state serves.
use Rattle.rg_keywords.specs.declared.func.Func.{Func}
use Rattle.rg_keywords.specs.declared.func.Func.TheVariants.{Median, Pct}

-- the function whose state a function is answered from: that of a median serves each percentile, and each other function has its own
abbrev pub kept_as : Func → Func
kept_as (Pct percent) = Median
kept_as func = func
