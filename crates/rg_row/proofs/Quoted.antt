-- What `csv` reads of a line in which each field is bare or quoted.
use Rattle.std.proofs.Common.{◌≡◌, ◌==◌, ◌++◌, ◌∷◌, ◌∙◌, [], ℕ, List, Option, Some, None, IsSome, refl, sym, subst, true, false, inl, inr, option_map, is_some, length}
use Rattle.std.specs.List.{list_any}
use Rattle.std.proofs.lemmas.Bool.{cases_Bool, eqb-true, or_parts}
use Rattle.csv.specs.Machine.{Read, next_record}
use Rattle.csv.specs.Reading.{default_config, strip_bom}
use Rattle.csv.proofs.RoundTrip.{record-same}
use Rattle.csv.specs.declared.parser.State.{State}
use Rattle.csv.specs.declared.parser.State.TheVariants as st
use Rattle.rg_row.specs.Fields.{Mode, start, in_bare, in_quotes, behind, split_from, fields_of, is_marked}

-- where the machine of `csv` stands
abbrev state_of : Mode → State
state_of start = st.StartField
state_of in_bare = st.InField
state_of in_quotes = st.InQuoted
state_of behind = st.AfterQuote

-- a line holds no CR and no LF
record OneLine (line : List ℕ) : Type 0 where
  no_cr : list_any (λ byte. byte == 13) line ≡ false
  no_lf : list_any (λ byte. byte == 10) line ≡ false

rest_of : (byte : ℕ) (rest : List ℕ) → OneLine (byte ∷ rest) → OneLine rest
rest_of byte rest line = record { no_cr = (or_parts (byte == 13) _ line.no_cr).1; no_lf = (or_parts (byte == 10) _ line.no_lf).1 }

abbrev Same : Mode → List (List ℕ) → List ℕ → List ℕ → Type 0
Same mode fields field line =
    is_some (split_from mode fields field line) ≡ true
    → next_record default_config (state_of mode) fields field line ≡ option_map (λ read. (read, st.StartRecord, [])) (split_from mode fields field line)

-- `csv` reads the fields that the definition gives
reads : (mode : Mode) (fields : List (List ℕ)) (field line : List ℕ) → OneLine line → Same mode fields field line
unfolding next_record split_from
reads start fs f [] n s = refl
reads in_bare fs f [] n s = refl
reads in_quotes fs f [] n s = cc s
reads behind fs f [] n s = refl
reads start fs f (c ∷ rest) n s = elim (cases_Bool (c == 44)) [
  | inl comma ↦ subst (λ z. Same start fs f (z ∷ rest)) (sym (eqb-true c 44 comma)) (reads start (fs ++ f ∷ []) [] rest (rest_of c rest n)) s
  | inr comma ↦ elim (cases_Bool (c == 34)) [
    | inl quote ↦ subst (λ z. Same start fs f (z ∷ rest)) (sym (eqb-true c 34 quote)) (reads in_quotes fs f rest (rest_of c rest n)) s
    | inr quote ↦ let cr : (c == 13) ≡ false = (or_parts (c == 13) _ n.no_cr).0 in let lf : (c == 10) ≡ false = (or_parts (c == 10) _ n.no_lf).0 in
        rw (comma, quote, cr, lf) (reads in_bare fs (f ++ c ∷ []) rest (rest_of c rest n) (rw (comma, quote) at s))
  ]
]
reads in_bare fs f (c ∷ rest) n s = elim (cases_Bool (c == 44)) [
  | inl comma ↦ subst (λ z. Same in_bare fs f (z ∷ rest)) (sym (eqb-true c 44 comma)) (reads start (fs ++ f ∷ []) [] rest (rest_of c rest n)) s
  | inr comma ↦ elim (cases_Bool (c == 34)) [
    | inl quote ↦ cc (rw (comma, quote) at s)
    | inr quote ↦ let cr : (c == 13) ≡ false = (or_parts (c == 13) _ n.no_cr).0 in let lf : (c == 10) ≡ false = (or_parts (c == 10) _ n.no_lf).0 in
        rw (comma, quote, cr, lf) (reads in_bare fs (f ++ c ∷ []) rest (rest_of c rest n) (rw (comma, quote) at s))
  ]
]
reads in_quotes fs f (c ∷ rest) n s = elim (cases_Bool (c == 34)) [
  | inl quote ↦ rw quote (reads behind fs f rest (rest_of c rest n) (rw quote at s))
  | inr quote ↦ rw quote (reads in_quotes fs (f ++ c ∷ []) rest (rest_of c rest n) (rw quote at s))
]
reads behind fs f (c ∷ rest) n s = elim (cases_Bool (c == 34)) [
  | inl quote ↦ rw quote (reads in_quotes fs (f ++ c ∷ []) rest (rest_of c rest n) (rw quote at s))
  | inr quote ↦ elim (cases_Bool (c == 44)) [
    | inl comma ↦ rw (quote, comma) (reads start (fs ++ f ∷ []) [] rest (rest_of c rest n) (rw (quote, comma) at s))
    | inr comma ↦ cc (rw (quote, comma) at s)
  ]
]

-- `csv` takes no byte order mark away
unmarked : (line : List ℕ) → is_marked line ≡ false → strip_bom line ≡ line
unfolding strip_bom
unmarked [] h = refl
unmarked (a ∷ []) h = refl
unmarked (a ∷ (b ∷ [])) h = refl
unmarked (a ∷ (b ∷ (c ∷ rest))) h = elim (cases_Bool (a == 239)) [
  | inr other ↦ rw other refl
  | inl first ↦ elim (cases_Bool (b == 187)) [
    | inr other ↦ rw (first, other) refl
    | inl second ↦ rw (first, second, rw (first, second) at h) refl
  ]
]

abbrev no_bytes : List ℕ
no_bytes = []

gives : (found given : Option (List (List ℕ))) → found ≡ option_map (λ (read : Read). read.0) (option_map (λ (fields : List (List ℕ)). (fields, st.StartRecord, no_bytes)) given) → is_some given ≡ true
    → (given ≡ found) × IsSome found
gives found None is some = cc some
gives found (Some fields) is some = (sym is, rw is refl)

-- what `csv` read of a line that is a row: it read a record, whose fields are those of the row
pub csv_fields : (line : List ℕ) (found : Option (List (List ℕ))) → (length line == 0) ≡ false → is_marked line ≡ false → list_any (λ byte. byte == 13) line ≡ false → list_any (λ byte. byte == 10) line ≡ false
    → is_some (split_from start [] [] line) ≡ true
    → found ≡ option_map (λ (read : Read). read.0) (next_record default_config st.StartRecord [] [] (strip_bom line)) → (fields_of line ≡ found) × IsSome found
csv_fields [] found some mark cr lf split is = cc some
csv_fields (c ∷ rest) found some mark cr lf split is =
    let same = record-same [] [] c rest (or_parts (c == 13) _ cr).0 (or_parts (c == 10) _ lf).0 ∙ reads start [] [] (c ∷ rest) (record { no_cr = cr; no_lf = lf }) split in
    rw (some, cr, mark) (gives found (split_from start [] [] (c ∷ rest)) (is ∙ rw (unmarked (c ∷ rest) mark, same) refl) split)
