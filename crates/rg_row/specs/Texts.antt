-- The texts of a line that are still to be read.
use Rattle.std.specs.Prelude.{ℕ, ◌==◌, List, [], drop}
use Rattle.std.specs.List.{slice_split}
use Rattle.csv.specs.Records.{fields_of}
use Rattle.rg_row.specs.declared.texts.Texts.{Texts}
use Rattle.rg_row.specs.declared.texts.Texts.TheVariants.{Done, Bare, Read}

-- the texts between the commas of some bytes
abbrev pub between_commas : List ℕ → List (List ℕ)
between_commas bytes = slice_split (λ byte. byte == 44) bytes

abbrev pub left : Texts → List (List ℕ)
left Done = []
left (Bare bytes) = between_commas bytes.now
left (Read row from) = drop from (fields_of row.now)
