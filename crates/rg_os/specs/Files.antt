-- The files of a store's folder, as the real outside has them.
use Rattle.std.specs.Prelude.{◌≡◌, ℕ, List, Option, Some, None, slice_get}
use Rattle.rg_os.specs.declared.open_files.Synced.{Synced}

-- a sync of this file has failed
abbrev pub IsLost : ℕ → List Synced → Type 0
IsLost file synced = slice_get synced file ≡ Some Synced.Failed

-- this file isn't open
abbrev pub IsClosed : {F : Type 0} → ℕ → List (Option F) → Type 0
IsClosed file files = slice_get files file ≡ Some None
