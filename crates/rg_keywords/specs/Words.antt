-- The words of the query language.
use Rattle.std.specs.Prelude.{ℕ, List, [], ◌∷◌, Option, Some, None, Bool, true, false, codes, if◌then◌else◌}
use Rattle.std.specs.Str.{str_eq_ignore_ascii_case}
use Rattle.rg_keywords.specs.declared.keyword.Keyword.{Keyword}
use Rattle.rg_keywords.specs.declared.keyword.Keyword.TheVariants.{Select, From, Where, Group, By, Over, Sliding, Infinite, Delayed, And, Or, Not}
use Rattle.rg_keywords.specs.declared.callee.Callee.{Callee}
use Rattle.rg_keywords.specs.declared.callee.Callee.TheVariants as callee
use Rattle.rg_keywords.specs.declared.func.Func.{Func}
use Rattle.rg_keywords.specs.declared.func.Func.TheVariants.{Count, Sum, Avg, SumSq, Min, Max, CountDistinct, First, Last, Median, Pct}
use Rattle.rg_keywords.specs.declared.op.Op.{Op}
use Rattle.rg_keywords.specs.declared.op.Op.TheVariants.{Eq, Ne, Lt, Le, Gt, Ge}
use Rattle.rg_keywords.specs.declared.op.Symbol.{Symbol}
use Rattle.rg_keywords.specs.declared.op.Symbol.TheVariants.{Open, Close, Comma, Star, Compare}
use Rattle.rg_keywords.specs.declared.time_unit.TimeUnit.{TimeUnit}
use Rattle.rg_keywords.specs.declared.time_unit.TimeUnit.TheVariants.{Millisecond, Second, Minute, Hour, Day}

-- what a word means by a table, whatever the case of its letters
abbrev pub meaning_in : {A : Type 0} → List (List ℕ × A) → List ℕ → Option A
meaning_in [] word = None
meaning_in ((name, meaning) ∷ rest) word = if str_eq_ignore_ascii_case word name then Some meaning else meaning_in rest word

unfoldable pub keyword_of : List ℕ → Option Keyword
keyword_of word = meaning_in ((codes "select", Select) ∷ (codes "from", From) ∷ (codes "where", Where) ∷ (codes "group", Group) ∷ (codes "by", By) ∷ (codes "over", Over) ∷ (codes "sliding", Sliding) ∷ (codes "infinite", Infinite) ∷ (codes "delayed", Delayed) ∷ (codes "and", And) ∷ (codes "or", Or) ∷ (codes "not", Not) ∷ []) word

unfoldable pub truth_of : List ℕ → Option Bool
truth_of word = meaning_in ((codes "true", true) ∷ (codes "false", false) ∷ []) word

-- the words of functions of `*` or of a field alone
abbrev pub func_words : List (List ℕ × Func)
func_words = (codes "count", Count) ∷ (codes "sum", Sum) ∷ (codes "avg", Avg) ∷ (codes "sumsq", SumSq) ∷ (codes "min", Min) ∷ (codes "max", Max) ∷ (codes "countdistinct", CountDistinct) ∷ (codes "first", First) ∷ (codes "last", Last) ∷ (codes "median", Median) ∷ []

unfoldable pub func_of : List ℕ → Option Func
func_of word = meaning_in func_words word

-- a function of a field alone, as a callee
abbrev pub as_callee : Option Func → Option Callee
as_callee None = None
as_callee (Some func) = Some (callee.Func func)

-- what a call begins with: PCT, or the word of a function of a field alone
unfoldable pub callee_of : List ℕ → Option Callee
callee_of word = if str_eq_ignore_ascii_case word (codes "pct") then Some callee.Pct else as_callee (func_of word)

unfoldable pub unit_of : List ℕ → Option TimeUnit
unit_of word = meaning_in ((codes "ms", Millisecond) ∷ (codes "second", Second) ∷ (codes "seconds", Second) ∷ (codes "minute", Minute) ∷ (codes "minutes", Minute) ∷ (codes "hour", Hour) ∷ (codes "hours", Hour) ∷ (codes "day", Day) ∷ (codes "days", Day) ∷ []) word

-- a function's name as it is printed
abbrev pub func_name : Func → List ℕ
func_name Count = codes "count"
func_name Sum = codes "sum"
func_name Avg = codes "avg"
func_name SumSq = codes "sumsq"
func_name Min = codes "min"
func_name Max = codes "max"
func_name CountDistinct = codes "countDistinct"
func_name First = codes "first"
func_name Last = codes "last"
func_name Median = codes "median"
func_name (Pct percent) = codes "pct"

-- the signs
abbrev pub op_text : Op → List ℕ
op_text Eq = codes "="
op_text Ne = codes "!="
op_text Lt = codes "<"
op_text Le = codes "<="
op_text Gt = codes ">"
op_text Ge = codes ">="

abbrev pub symbol_text : Symbol → List ℕ
symbol_text Open = codes "("
symbol_text Close = codes ")"
symbol_text Comma = codes ","
symbol_text Star = codes "*"
symbol_text (Compare op) = op_text op

-- how many milliseconds a unit has
abbrev pub unit_millis : TimeUnit → ℕ
unit_millis Millisecond = 1
unit_millis Second = 1000
unit_millis Minute = 60000
unit_millis Hour = 3600000
unit_millis Day = 86400000
