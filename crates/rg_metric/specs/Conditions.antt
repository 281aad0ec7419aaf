-- Conditions, and when they hold of an event.
use Rattle.std.specs.Prelude.{ℕ, zero, suc, ◌&&◌, ◌||◌, not, Bool, true, false, List, [], ◌∷◌, Option, Some, None}
use Rattle.std.specs.declared.cmp.Ordering.{Ordering}
use Rattle.std.specs.Ordering.{is_eq, is_ne, is_lt, is_le, is_gt, is_ge, nat_cmp, int_cmp, bool_cmp}
use Rattle.std.specs.Cmp.Lexicographic.{slice_cmp}
use Rattle.rg_keywords.specs.declared.op.Op.{Op}
use Rattle.rg_keywords.specs.declared.op.Op.TheVariants.{Eq, Ne, Lt, Le, Gt, Ge}
use Rattle.rg_event.specs.declared.event.Event.{Event}
use Rattle.rg_event.specs.declared.value.Value.{Value}
use Rattle.rg_event.specs.declared.value.Value.TheVariants.{Int, Id, Text, Flag}
use Rattle.rg_metric.specs.declared.condition.Condition.{Condition}
use Rattle.rg_metric.specs.declared.condition.Condition.TheVariants.{Compare, Not', And', Or'}

-- a condition as a tree
pub data Test : Type 0 where
  compared : ℕ → Op → Value → Test
  not_of : Test → Test
  and_of : Test → Test → Test
  or_of : Test → Test → Test

abbrev pub test_of : Condition → Test
test_of (Compare column op value) = compared column op value
test_of (Not' p c) = not_of (test_of c)
test_of (And' p a q b) = and_of (test_of a) (test_of b)
test_of (Or' p a q b) = or_of (test_of a) (test_of b)

-- what a sign asks of how two values stand to each other
abbrev pub asks : Op → Ordering → Bool
asks Eq o = is_eq o
asks Ne o = is_ne o
asks Lt o = is_lt o
asks Le o = is_le o
asks Gt o = is_gt o
asks Ge o = is_ge o

-- flags are equal or not, and have no order
abbrev pub asks_flags : Op → Bool → Bool → Bool
asks_flags Eq x y = is_eq (bool_cmp x y)
asks_flags Ne x y = is_ne (bool_cmp x y)
asks_flags op x y = false

-- numbers compare as numbers, texts by their bytes; values of two kinds don't compare
abbrev pub compares : Op → Value → Value → Bool
compares op (Int x) (Int y) = asks op (int_cmp x y)
compares op (Id x) (Id y) = asks op (nat_cmp x y)
compares op (Text x) (Text y) = asks op (slice_cmp nat_cmp x y)
compares op (Flag x) (Flag y) = asks_flags op x y
compares op x y = false

-- the value of a column, counted from 1, where there is one
abbrev pub value_in : ℕ → List Value → Option Value
value_in column [] = None
value_in zero (v ∷ vs) = None
value_in (suc zero) (v ∷ vs) = Some v
value_in (suc (suc n)) (v ∷ vs) = value_in (suc n) vs

abbrev pub some_compares : Op → Option Value → Value → Bool
some_compares op None literal = false
some_compares op (Some value) literal = compares op value literal

-- the condition holds of the event
abbrev pub holds : Test → Event → Bool
holds (compared column op literal) x = some_compares op (value_in column x.values) literal
holds (not_of t) x = not (holds t x)
holds (and_of s t) x = holds s x && holds t x
holds (or_of s t) x = holds s x || holds t x

-- no condition holds of every event
abbrev pub passes : Option Test → Event → Bool
passes None x = true
passes (Some t) x = holds t x
