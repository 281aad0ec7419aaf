-- The fields of a line are those of the grammar, both ways.
use Rattle.std.proofs.Common.{◌≡◌, ◌≢◌, ◌==◌, ◌&&◌, not, ◌++◌, ◌∷◌, ◌∙◌, [], ℕ, List, Bool, Some, refl, sym, ap, subst, true, false, inl, inr, length, map, append_assoc, arith}
use Rattle.std.specs.List.{list_any, list_all}
use Rattle.std.proofs.lemmas.Bool.{cases_Bool, eqb-true, ne_eqb, and_parts, and_from, not-true, not_from_false}
use Rattle.std.proofs.lemmas.List.{append-nil}
use Rattle.rg_row.specs.Fields.{Piece, bare, quoted, is_legal, doubled, written, said, joined, is_marked, IsRow, Mode, start, in_bare, in_quotes, behind, split_from, fields_of}

abbrev is_bare : List ℕ → Bool
is_bare text = list_all (λ byte. not (byte == 34) && not (byte == 44)) text

-- pieces behind a first one, each after a comma
abbrev tail : List Piece → List ℕ
tail [] = []
tail (piece ∷ pieces) = 44 ∷ joined (piece ∷ pieces)

joined_tail : (piece : Piece) (pieces : List Piece) → joined (piece ∷ pieces) ≡ written piece ++ tail pieces
joined_tail piece [] = sym (append-nil (written piece))
joined_tail piece (next ∷ pieces) = refl

-- From the grammar to the fields.

bare_text : (fields : List (List ℕ)) (field text rest : List ℕ) → is_bare text ≡ true → split_from in_bare fields field (text ++ rest) ≡ split_from in_bare fields (field ++ text) rest
unfolding split_from
bare_text fields field [] rest ok = rw (append-nil field) refl
bare_text fields field (byte ∷ text) rest ok =
    let each = and_parts (not (byte == 34) && not (byte == 44)) (is_bare text) ok in
    let here = and_parts (not (byte == 34)) (not (byte == 44)) each.0 in
    rw (not-true _ here.1, not-true _ here.0)
    (bare_text fields (field ++ byte ∷ []) text rest each.1 ∙ ap (λ f. split_from in_bare fields f rest) (append_assoc field (byte ∷ []) text))

quoted_text : (fields : List (List ℕ)) (field text rest : List ℕ) → split_from in_quotes fields field (doubled text ++ 34 ∷ rest) ≡ split_from behind fields (field ++ text) rest
unfolding split_from
quoted_text fields field [] rest = rw (append-nil field) refl
quoted_text fields field (byte ∷ text) rest = elim (cases_Bool (byte == 34)) [
  | inl quote ↦
      rw quote (quoted_text fields (field ++ 34 ∷ []) text rest
      ∙ ap (λ f. split_from behind fields f rest) (append_assoc field (34 ∷ []) text ∙ ap (λ b. field ++ b ∷ text) (sym (eqb-true byte 34 quote))))
  | inr quote ↦ rw (quote, quote) (quoted_text fields (field ++ byte ∷ []) text rest ∙ ap (λ f. split_from behind fields f rest) (append_assoc field (byte ∷ []) text))
]

-- a first piece was read, and a comma or the end comes
piece_read : (fields : List (List ℕ)) (piece : Piece) (pieces : List Piece) → is_legal piece ≡ true
    → split_from start fields [] (written piece ++ tail pieces) ≡ split_from in_bare fields (said piece) (tail pieces)
unfolding split_from
piece_read fields (bare []) [] ok = refl
piece_read fields (bare []) (next ∷ pieces) ok = refl
piece_read fields (bare (byte ∷ text)) pieces ok =
    let each = and_parts (not (byte == 34) && not (byte == 44)) (is_bare text) ok in
    let here = and_parts (not (byte == 34)) (not (byte == 44)) each.0 in
    rw (not-true _ here.1, not-true _ here.0) (bare_text fields (byte ∷ []) text (tail pieces) each.1)
piece_read fields (quoted text) [] ok = ap (split_from in_quotes fields []) (append-nil (doubled text ++ 34 ∷ [])) ∙ quoted_text fields [] text []
piece_read fields (quoted text) (next ∷ pieces) ok =
    ap (split_from in_quotes fields []) (append_assoc (doubled text) (34 ∷ []) (tail (next ∷ pieces))) ∙ quoted_text fields [] text (tail (next ∷ pieces))

tail_read : (fields : List (List ℕ)) (field : List ℕ) (pieces : List Piece) → list_all is_legal pieces ≡ true → split_from in_bare fields field (tail pieces) ≡ Some (fields ++ field ∷ map said pieces)
unfolding split_from
tail_read fields field [] ok = refl
tail_read fields field (piece ∷ pieces) ok =
    let each = and_parts (is_legal piece) (list_all is_legal pieces) ok in
    ap (split_from start (fields ++ field ∷ []) []) (joined_tail piece pieces)
    ∙ piece_read (fields ++ field ∷ []) piece pieces each.0
    ∙ tail_read (fields ++ field ∷ []) (said piece) pieces each.1
    ∙ ap (λ all. Some all) (append_assoc fields (field ∷ []) (said piece ∷ map said pieces))

pieces_read : (pieces : List Piece) → list_all is_legal pieces ≡ true → pieces ≢ [] → split_from start [] [] (joined pieces) ≡ Some (map said pieces)
pieces_read [] ok some = absurd (some refl)
pieces_read (piece ∷ pieces) ok some =
    let each = and_parts (is_legal piece) (list_all is_legal pieces) ok in
    ap (split_from start [] []) (joined_tail piece pieces) ∙ piece_read [] piece pieces each.0 ∙ tail_read [] (said piece) pieces each.1

full : (line : List ℕ) → line ≢ [] → (length line == 0) ≡ false
full [] some = absurd (some refl)
full (byte ∷ line) some = ne_eqb _ _ (λ e. omega arith)

-- a row of the grammar has its fields
pub of_row : (line : List ℕ) (fields : List (List ℕ)) → IsRow line fields → fields_of line ≡ Some fields
of_row line fields row =
    rw (full line row.not_empty, row.no_cr, row.unmarked) (ap (split_from start [] []) row.spelled ∙ pieces_read row.pieces row.legal row.some ∙ ap (λ all. Some all) (sym row.are))

-- From the fields to the grammar.

-- a field of these bytes and of those of a text, and pieces behind it
record Goes (spell : List ℕ → List ℕ) (is_fine : List ℕ → Bool) (fields : List (List ℕ)) (field line : List ℕ) (all : List (List ℕ)) : Type 0 where
  text : List ℕ
  more : List Piece
  fine : is_fine text ≡ true
  legal : list_all is_legal more ≡ true
  spelled : line ≡ spell text ++ tail more
  are : all ≡ fields ++ (field ++ text) ∷ map said more

-- a piece, and pieces behind it
record Starts (fields : List (List ℕ)) (line : List ℕ) (all : List (List ℕ)) : Type 0 where
  piece : Piece
  more : List Piece
  fine : is_legal piece ≡ true
  legal : list_all is_legal more ≡ true
  spelled : line ≡ written piece ++ tail more
  are : all ≡ fields ++ said piece ∷ map said more

abbrev Bared : List (List ℕ) → List ℕ → List ℕ → List (List ℕ) → Type 0
Bared = Goes (λ text. text) is_bare

abbrev Quoted : List (List ℕ) → List ℕ → List ℕ → List (List ℕ) → Type 0
Quoted = Goes (λ text. doubled text ++ 34 ∷ []) (λ text. true)

abbrev Told : Mode → List (List ℕ) → List ℕ → List ℕ → List (List ℕ) → Type 0
Told start fields field line all = field ≡ [] → Starts fields line all
Told in_bare fields field line all = Bared fields field line all
Told in_quotes fields field line all = Quoted fields field line all
Told behind fields field line all = Quoted fields field (34 ∷ line) all

-- Each step goes from what is told of the rest to what is told with one more byte in front.

-- the line ends behind a field
field_ends : (fields : List (List ℕ)) (field : List ℕ) (all : List (List ℕ)) → Some (fields ++ field ∷ []) ≡ Some all → all ≡ fields ++ (field ++ []) ∷ []
field_ends fields field all e = let same : all ≡ fields ++ field ∷ [] = cc e in rw (append-nil field) same

bare_ends : (fields : List (List ℕ)) (field : List ℕ) (all : List (List ℕ)) → Some (fields ++ field ∷ []) ≡ Some all → Bared fields field [] all
bare_ends fields field all e = record { text = []; more = []; fine = refl; legal = refl; spelled = refl; are = field_ends fields field all e }

quoted_ends : (fields : List (List ℕ)) (field : List ℕ) (all : List (List ℕ)) → Some (fields ++ field ∷ []) ≡ Some all → Quoted fields field (34 ∷ []) all
quoted_ends fields field all e = record { text = []; more = []; fine = refl; legal = refl; spelled = refl; are = field_ends fields field all e }

-- a comma ends the field
comma_spelled : (rest : List ℕ) (piece : Piece) (more : List Piece) → rest ≡ written piece ++ tail more → 44 ∷ rest ≡ tail (piece ∷ more)
comma_spelled rest piece more spelled = ap (λ r. 44 ∷ r) (spelled ∙ sym (joined_tail piece more))

field_parted : (fields : List (List ℕ)) (field : List ℕ) (more : List (List ℕ)) → (fields ++ field ∷ []) ++ more ≡ fields ++ (field ++ []) ∷ more
field_parted fields field more = rw (append-nil field) (append_assoc fields (field ∷ []) more)

bare_comma : (fields : List (List ℕ)) (field rest : List ℕ) (all : List (List ℕ)) → Starts (fields ++ field ∷ []) rest all → Bared fields field (44 ∷ rest) all
bare_comma fields field rest all later = record {
  text = [];
  more = later.piece ∷ later.more;
  fine = refl;
  legal = and_from _ _ later.fine later.legal;
  spelled = comma_spelled rest later.piece later.more later.spelled;
  are = later.are ∙ field_parted fields field (said later.piece ∷ map said later.more);
}

quoted_comma : (fields : List (List ℕ)) (field rest : List ℕ) (all : List (List ℕ)) → Starts (fields ++ field ∷ []) rest all → Quoted fields field (34 ∷ (44 ∷ rest)) all
quoted_comma fields field rest all later = record {
  text = [];
  more = later.piece ∷ later.more;
  fine = refl;
  legal = and_from _ _ later.fine later.legal;
  spelled = ap (λ r. 34 ∷ r) (comma_spelled rest later.piece later.more later.spelled);
  are = later.are ∙ field_parted fields field (said later.piece ∷ map said later.more);
}

-- a byte goes to the field
field_grows : (fields : List (List ℕ)) (field text : List ℕ) (byte : ℕ) (more : List (List ℕ)) → fields ++ ((field ++ byte ∷ []) ++ text) ∷ more ≡ fields ++ (field ++ byte ∷ text) ∷ more
field_grows fields field text byte more = ap (λ f. fields ++ f ∷ more) (append_assoc field (byte ∷ []) text)

bare_byte : (fields : List (List ℕ)) (field rest : List ℕ) (byte : ℕ) (all : List (List ℕ)) → (byte == 44) ≡ false → (byte == 34) ≡ false → Bared fields (field ++ byte ∷ []) rest all → Bared fields field (byte ∷ rest) all
bare_byte fields field rest byte all comma quote later = record {
  text = byte ∷ later.text;
  more = later.more;
  fine = and_from _ _ (and_from _ _ (not_from_false _ quote) (not_from_false _ comma)) later.fine;
  legal = later.legal;
  spelled = ap (λ r. byte ∷ r) later.spelled;
  are = later.are ∙ field_grows fields field later.text byte (map said later.more);
}

doubled_other : (byte : ℕ) (text : List ℕ) → (byte == 34) ≡ false → doubled (byte ∷ text) ≡ byte ∷ doubled text
doubled_other byte text other = rw other refl

quoted_byte : (fields : List (List ℕ)) (field rest : List ℕ) (byte : ℕ) (all : List (List ℕ)) → (byte == 34) ≡ false → Quoted fields (field ++ byte ∷ []) rest all → Quoted fields field (byte ∷ rest) all
quoted_byte fields field rest byte all quote later = record {
  text = byte ∷ later.text;
  more = later.more;
  fine = refl;
  legal = later.legal;
  spelled = ap (λ r. byte ∷ r) later.spelled ∙ ap (λ d. (d ++ 34 ∷ []) ++ tail later.more) (sym (doubled_other byte later.text quote));
  are = later.are ∙ field_grows fields field later.text byte (map said later.more);
}

quoted_quote : (fields : List (List ℕ)) (field rest : List ℕ) (all : List (List ℕ)) → Quoted fields (field ++ 34 ∷ []) rest all → Quoted fields field (34 ∷ (34 ∷ rest)) all
quoted_quote fields field rest all later = record {
  text = 34 ∷ later.text;
  more = later.more;
  fine = refl;
  legal = later.legal;
  spelled = ap (λ r. 34 ∷ (34 ∷ r)) later.spelled;
  are = later.are ∙ field_grows fields field later.text 34 (map said later.more);
}

-- a bare field is a piece, and so is a quoted one
start_bare : (fields : List (List ℕ)) (line : List ℕ) (all : List (List ℕ)) → Bared fields [] line all → Starts fields line all
start_bare fields line all later = record { piece = bare later.text; more = later.more; fine = later.fine; legal = later.legal; spelled = later.spelled; are = later.are }

start_quoted : (fields : List (List ℕ)) (rest : List ℕ) (all : List (List ℕ)) → Quoted fields [] rest all → Starts fields (34 ∷ rest) all
start_quoted fields rest all later = record { piece = quoted later.text; more = later.more; fine = refl; legal = later.legal; spelled = ap (λ r. 34 ∷ r) later.spelled; are = later.are }

-- the field at hand goes on by a text that is spelled so, and pieces stand behind it
told : (mode : Mode) (fields : List (List ℕ)) (field line : List ℕ) (all : List (List ℕ)) → split_from mode fields field line ≡ Some all → Told mode fields field line all
unfolding split_from
told start fields field [] all e = λ none. start_bare fields [] all (bare_ends fields [] all (rw none at e))
told in_bare fields field [] all e = bare_ends fields field all e
told in_quotes fields field [] all e = absurd (cc e)
told behind fields field [] all e = quoted_ends fields field all e
told start fields field (byte ∷ rest) all e = λ none. elim (cases_Bool (byte == 44)) [
  | inl comma ↦
      subst (λ b. Starts fields (b ∷ rest) all) (sym (eqb-true byte 44 comma))
      (start_bare fields (44 ∷ rest) all (subst (λ f. Bared fields f (44 ∷ rest) all) none (bare_comma fields field rest all (told start (fields ++ field ∷ []) [] rest all (rw comma at e) refl))))
  | inr comma ↦ elim (cases_Bool (byte == 34)) [
    | inl quote ↦
        subst (λ b. Starts fields (b ∷ rest) all) (sym (eqb-true byte 34 quote))
        (start_quoted fields rest all (subst (λ f. Quoted fields f rest all) none (told in_quotes fields field rest all (rw (comma, quote) at e))))
    | inr quote ↦
        start_bare fields (byte ∷ rest) all
        (subst (λ f. Bared fields f (byte ∷ rest) all) none (bare_byte fields field rest byte all comma quote (told in_bare fields (field ++ byte ∷ []) rest all (rw (comma, quote) at e))))
  ]
]
told in_bare fields field (byte ∷ rest) all e = elim (cases_Bool (byte == 44)) [
  | inl comma ↦
      subst (λ b. Bared fields field (b ∷ rest) all) (sym (eqb-true byte 44 comma)) (bare_comma fields field rest all (told start (fields ++ field ∷ []) [] rest all (rw comma at e) refl))
  | inr comma ↦ elim (cases_Bool (byte == 34)) [
    | inl quote ↦ absurd (cc (rw (comma, quote) at e))
    | inr quote ↦ bare_byte fields field rest byte all comma quote (told in_bare fields (field ++ byte ∷ []) rest all (rw (comma, quote) at e))
  ]
]
told in_quotes fields field (byte ∷ rest) all e = elim (cases_Bool (byte == 34)) [
  | inl quote ↦ subst (λ b. Quoted fields field (b ∷ rest) all) (sym (eqb-true byte 34 quote)) (told behind fields field rest all (rw quote at e))
  | inr quote ↦ quoted_byte fields field rest byte all quote (told in_quotes fields (field ++ byte ∷ []) rest all (rw quote at e))
]
told behind fields field (byte ∷ rest) all e = elim (cases_Bool (byte == 34)) [
  | inl quote ↦
      subst (λ b. Quoted fields field (34 ∷ (b ∷ rest)) all) (sym (eqb-true byte 34 quote))
      (quoted_quote fields field rest all (subst (λ b. Quoted fields (field ++ b ∷ []) rest all) (eqb-true byte 34 quote) (told in_quotes fields (field ++ byte ∷ []) rest all (rw quote at e))))
  | inr quote ↦ elim (cases_Bool (byte == 44)) [
    | inl comma ↦
        subst (λ b. Quoted fields field (34 ∷ (b ∷ rest)) all) (sym (eqb-true byte 44 comma)) (quoted_comma fields field rest all (told start (fields ++ field ∷ []) [] rest all (rw (quote, comma) at e) refl))
    | inr comma ↦ absurd (cc (rw (quote, comma) at e))
  ]
]

nonempty : (line : List ℕ) → (length line == 0) ≡ false → line ≢ []
nonempty [] some = λ e. cc some
nonempty (byte ∷ line) some = λ e. cc e

row_of_pieces : (line : List ℕ) (fields : List (List ℕ)) → Starts [] line fields → (length line == 0) ≡ false → list_any (λ byte. byte == 13) line ≡ false → is_marked line ≡ false → IsRow line fields
row_of_pieces line fields read some no_cr unmarked = record {
  pieces = read.piece ∷ read.more;
  legal = and_from _ _ read.fine read.legal;
  some = λ e. cc e;
  spelled = read.spelled ∙ sym (joined_tail read.piece read.more);
  are = read.are;
  not_empty = nonempty line some;
  no_cr = no_cr;
  unmarked = unmarked;
}

-- a line with fields is a row of the grammar
pub to_row : (line : List ℕ) (fields : List (List ℕ)) → fields_of line ≡ Some fields → IsRow line fields
to_row line fields e = elim (cases_Bool (length line == 0)) [
  | inl empty ↦ absurd (cc (rw empty at e))
  | inr some ↦ elim (cases_Bool (list_any (λ byte. byte == 13) line)) [
    | inl cr ↦ absurd (cc (rw (some, cr) at e))
    | inr no_cr ↦ elim (cases_Bool (is_marked line)) [
      | inl marked ↦ absurd (cc (rw (some, no_cr, marked) at e))
      | inr unmarked ↦ row_of_pieces line fields (told start [] [] line fields (rw (some, no_cr, unmarked) at e) refl) some no_cr unmarked
    ]
  ]
]
