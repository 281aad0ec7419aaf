-- What a state keeps, and the functions that it serves.
use Rattle.std.proofs.Common.{◌≡◌, refl}
use Rattle.rg_event.specs.declared.value.Value.{Value}
use Rattle.rg_keywords.specs.declared.func.Func.{Func}
use Rattle.rg_keywords.specs.declared.func.Func.TheVariants.{Count, Sum, Avg, SumSq, Min, Max, CountDistinct, First, Last, Median, Pct}
use Rattle.rg_metric.specs.Admitted.{IsAdmitted}
use Rattle.rg_agg.specs.Held.{Held, counted, summed, averaged, squared, queued, ended, lowest, highest, varied, ranked}
use Rattle.rg_agg.specs.Sharing.{kept_as}
use Rattle.rg_agg.specs.Standing.{func_of}

-- a state is of a function that has its own
pub kept_own : (held : Held) → kept_as (func_of held) ≡ func_of held
kept_own (counted n) = refl
kept_own (summed n sum) = refl
kept_own (averaged n sum) = refl
kept_own (squared n sum) = refl
kept_own (queued values) = refl
kept_own (ended n last) = refl
kept_own (lowest n pairs) = refl
kept_own (highest n pairs) = refl
kept_own (varied pairs) = refl
kept_own (ranked pairs) = refl

-- a value that a function is given is one that its state is given
pub admitted_kept : (func : Func) (value : Value) → IsAdmitted func value → IsAdmitted (kept_as func) value
admitted_kept Count value is = is
admitted_kept Sum value is = is
admitted_kept Avg value is = is
admitted_kept SumSq value is = is
admitted_kept Min value is = is
admitted_kept Max value is = is
admitted_kept CountDistinct value is = is
admitted_kept First value is = is
admitted_kept Last value is = is
admitted_kept Median value is = is
admitted_kept (Pct percent) value is = is

-- only counts serve a count
pub count_kept : (func : Func) → kept_as func ≡ Count → func ≡ Count
count_kept (Pct percent) is = cc
count_kept Count is = is
count_kept Sum is = is
count_kept Avg is = is
count_kept SumSq is = is
count_kept Min is = is
count_kept Max is = is
count_kept CountDistinct is = is
count_kept First is = is
count_kept Last is = is
count_kept Median is = is
