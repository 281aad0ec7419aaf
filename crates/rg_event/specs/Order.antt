-- The order of values: that of their tagged bytes.
use Rattle.std.specs.Prelude.{ℕ, ℤ, pos, negsuc, Bool, true, false, List, [], if◌then◌else◌}
use Rattle.std.specs.Ordering.{nat_cmp, int_cmp, bool_cmp, on, then_cmp}
use Rattle.std.specs.declared.cmp.Ordering.{Ordering}
use Rattle.rg_event.specs.Tagged.{tag_of, value_kind}
use Rattle.rg_event.specs.Words.{word_cmp}
use Rattle.rg_event.specs.declared.value.Value.{Value}
use Rattle.rg_event.specs.declared.value.Value.TheVariants.{Int, Id, Text, Flag}

abbrev pub is_below_zero : ℤ → Bool
is_below_zero (pos n) = false
is_below_zero (negsuc n) = true

-- an int that isn't below 0 comes before one that is, and two others go as numbers
abbrev pub complement_cmp : ℤ → ℤ → Ordering
complement_cmp = then_cmp (on is_below_zero bool_cmp) int_cmp

-- the number that a value holds, with a flag as 0 or 1; 0 of a text
abbrev pub number_in : Value → ℤ
number_in (Int number) = number
number_in (Id number) = pos number
number_in (Text text) = pos 0
number_in (Flag flag) = pos (if flag then 1 else 0)

-- the text that a value holds; none of another value
abbrev pub text_in : Value → List ℕ
text_in (Int number) = []
text_in (Id number) = []
text_in (Text text) = text
text_in (Flag flag) = []

-- by the tags of their kinds, and then by what they hold
abbrev pub value_cmp : Value → Value → Ordering
value_cmp = then_cmp (on (λ value. tag_of (value_kind value)) nat_cmp) (then_cmp (on number_in complement_cmp) (on text_in word_cmp))
