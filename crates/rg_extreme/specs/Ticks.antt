-- How many pairs are taken off the back over a list of calls.
use Rattle.std.specs.Prelude.{◌≡◌, ℕ, ◌+◌, ◌≤◌, ◌==◌, Bool, true, false, List, [], ◌∷◌, length, refl}
use Rattle.std.proofs.Common.{ap, arith}
use Rattle.rg_agg.specs.Held.{Held}
use Rattle.rg_event.specs.declared.value.Value.{Value}
use Rattle.rg_extreme.specs.Deques.{begun, last_count, pairs_of}

-- a call that was Ok: a value more, with so many ticks, or one fewer
pub data Call : Type 0 where
  added : ℕ → Call
  removed : Call

-- what the call does, by what the state keeps before and after it: ticks and the pairs afterwards are the pairs before,
-- and one more where the last pair's number is 1; a removal leaves no more pairs
abbrev pub Does : Call → Held → Held → Type 0
Does (added ticks) old new = ticks + length (pairs_of new) ≡ length (pairs_of old) + begun (pairs_of new)
Does removed old new = length (pairs_of new) ≤ length (pairs_of old)

-- calls one after another
abbrev pub Run : List Call → Held → Held → Type 0
Run [] old new = new ≡ old
Run (call ∷ calls) old new = (next : Held) × Does call old next × Run calls next new

abbrev pub ticks_of : List Call → ℕ
ticks_of [] = 0
ticks_of (added ticks ∷ calls) = ticks + ticks_of calls
ticks_of (removed ∷ calls) = ticks_of calls

abbrev pub additions : List Call → ℕ
additions [] = 0
additions (added ticks ∷ calls) = 1 + additions calls
additions (removed ∷ calls) = additions calls

at_most_one : (pairs : List (Value × ℕ)) → begun pairs ≤ 1
at_most_one pairs = by (last_count pairs == 1) refl
  where
    by : (b : Bool) → (last_count pairs == 1) ≡ b → begun pairs ≤ 1
    by true is = rw is (omega arith)
    by false is = rw is (omega arith)

-- over any list of calls the ticks and the pairs left are at most the pairs at first and the additions;
-- so from a state of no values there are at most as many ticks as additions
pub few_ticks : (calls : List Call) (old new : Held) → Run calls old new → ticks_of calls + length (pairs_of new) ≤ length (pairs_of old) + additions calls
few_ticks [] old new same = rw same (omega arith)
few_ticks (added ticks ∷ calls) old new run =
    let rest = few_ticks calls run.0 new run.2 in
    omega (arith, run.1, rest, at_most_one (pairs_of run.0))
few_ticks (removed ∷ calls) old new run =
    let rest = few_ticks calls run.0 new run.2 in
    omega (arith, run.1, rest)

-- with the calls before it, from a state of no values on, an addition has taken at most as many ticks as there were additions
abbrev pub FewTicks : Held → ℕ → ℕ → Type 0
FewTicks old before after = (calls : List Call) (start : Held) → pairs_of start ≡ [] → Run calls start old → ticks_of calls + after ≤ additions calls + 1 + before

pub few_with : (old new : Held) (before after : ℕ) → after + length (pairs_of new) ≡ before + length (pairs_of old) + begun (pairs_of new) → FewTicks old before after
few_with old new before after ticks = λ calls start none run.
    omega (arith, few_ticks calls start old run, ap length none, ticks, at_most_one (pairs_of new))
