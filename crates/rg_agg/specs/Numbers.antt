-- Values that are ints or ids, as a state keeps them.
use Rattle.std.specs.Prelude.{ℕ, nat_le, ◌==◌, ◌&&◌, Bool, Option, Some, None}
use Rattle.rg_agg.specs.Stands.{is_int_or_id}
use Rattle.rg_agg.specs.declared.number.Number.{Number}
use Rattle.rg_agg.specs.declared.number.Number.TheVariants.{Int, Id}
use Rattle.rg_event.specs.declared.value.Value.{Value}
use Rattle.rg_event.specs.declared.value.Value.TheVariants.{Int as IntValue, Id as IdValue}

abbrev pub value_of : Number → Value
value_of (Int number) = IntValue number
value_of (Id number) = IdValue number

abbrev pub seen : Option Number → Option Value
seen (Some number) = Some (value_of number)
seen None = None

-- a last one is kept exactly where there are values, and is one that is taken
abbrev pub is_kept : ℕ → Option Number → Bool
is_kept n (Some number) = nat_le 1 n && is_int_or_id (value_of number)
is_kept n None = n == 0
