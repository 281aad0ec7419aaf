-- The kind of the values that a state keeps.
use Rattle.std.specs.Prelude.{◌≡◌, Option, Some, None, ⊤}
use Rattle.rg_event.specs.declared.value.Kind.{Kind}

-- no value is kept, or its kind is this one
abbrev pub IsSame : Option Kind → Option Kind → Type 0
IsSame kind None = ⊤
IsSame kind (Some kept) = kind ≡ Some kept
