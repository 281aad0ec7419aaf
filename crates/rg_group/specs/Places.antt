-- The bytes of a key, wherever they stand.
use Rattle.std.specs.Prelude.{ℕ, List}
use Rattle.rg_group.specs.declared.bytes.Place.{Place}
use Rattle.rg_group.specs.declared.bytes.Place.TheVariants.{Short, Long}

abbrev pub bytes_at : Place → List ℕ
bytes_at (Short bytes) = bytes.items
bytes_at (Long bytes) = bytes.items
