-- The fields of a line are those of the record that `csv` defines.
use Rattle.std.proofs.Common.{◌≡◌, ◌==◌, ◌||◌, ◌∙◌, ℕ, List, [], Option, Some, None, Bool, true, false, refl, sym, is_some, length}
use Rattle.std.specs.List.{list_any}
use Rattle.std.specs.Prelude.{if◌then◌else◌}
use Rattle.rg_row.specs.Fields.{start, split_from, fields_of, is_marked}
use Rattle.rg_row.specs.Records.{csv_record}
use Rattle.rg_row.proofs.Quoted.{csv_fields}

-- where something is found
parts :
    (empty cr marked : Bool) (found : Option (List (List ℕ))) (fields : List (List ℕ)) → (if empty || cr || marked then None else found) ≡ Some fields
    → (empty ≡ false) × (cr ≡ false) × (marked ≡ false) × (is_some found ≡ true)
parts true cr marked found fields is = absurd (cc is)
parts false true marked found fields is = absurd (cc is)
parts false false true found fields is = absurd (cc is)
parts false false false None fields is = absurd (cc is)
parts false false false (Some more) fields is = (refl, refl, refl, refl)

pub recorded : (line : List ℕ) → list_any (λ byte. byte == 10) line ≡ false → (fields : List (List ℕ)) → fields_of line ≡ Some fields → csv_record line ≡ Some fields
recorded line one_line fields is =
    let known = parts (length line == 0) (list_any (λ byte. byte == 13) line) (is_marked line) (split_from start [] [] line) fields is in
    sym (csv_fields line (csv_record line) known.0 known.2 known.1 one_line known.3 refl).0 ∙ is
