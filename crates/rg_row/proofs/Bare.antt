-- The fields of a line without a quote.
use Rattle.std.proofs.Common.{◌≡◌, ℕ, suc, ◌<◌, ◌==◌, Bool, false, List, [], ◌∷◌, ◌++◌, Some, length, append_assoc, refl, ap, sym, ◌∙◌, inl, inr, arith}
use Rattle.std.specs.List.{list_any, onto_first, slice_split}
use Rattle.std.proofs.lemmas.Bool.{cases_Bool, false_from_ne_true, or_from, or_parts, or_left, or_right}
use Rattle.std.proofs.lemmas.List.{append-nil}
use Rattle.std.proofs.lemmas.List.Splits.{length-slice_split}
use Rattle.memchr.specs.Find.{is_byte2}
use Rattle.rg_row.specs.Fields.{start, in_bare, split_from, fields_of, is_marked}
use Rattle.rg_row.specs.Texts.{between_commas}
use Rattle.rg_row.proofs.Commas.{FailsBelow}

-- where the test fails at each place, it holds of none
pub none_passes : (test : ℕ → Bool) (xs : List ℕ) → FailsBelow test xs (length xs) → list_any test xs ≡ false
none_passes test [] fails = refl
none_passes test (x ∷ xs) fails = or_from _ _ (false_from_ne_true _ (fails 0 (omega arith))) (none_passes test xs (λ k below. fails (suc k) (omega arith)))

-- bytes in front of the first of these texts
join_first : List ℕ → List (List ℕ) → List (List ℕ)
join_first field [] = field ∷ []
join_first field (text ∷ texts) = (field ++ text) ∷ texts

join_more : (field : List ℕ) (byte : ℕ) (texts : List (List ℕ)) → join_first (field ++ byte ∷ []) texts ≡ join_first field (onto_first byte texts)
unfolding join_first
join_more field byte [] = refl
join_more field byte (text ∷ texts) = ap (λ t. t ∷ texts) (append_assoc field (byte ∷ []) text)

join_end : (field : List ℕ) (texts : List (List ℕ)) → join_first field ([] ∷ texts) ≡ field ∷ texts
unfolding join_first
join_end field texts = ap (λ t. t ∷ texts) (append-nil field)

join_some : (texts : List (List ℕ)) → 0 < length texts → join_first [] texts ≡ texts
unfolding join_first
join_some [] some = absurd (omega arith)
join_some (text ∷ texts) some = refl

join_none : (line : List ℕ) → join_first [] (slice_split (λ byte. byte == 44) line) ≡ slice_split (λ byte. byte == 44) line
join_none line = join_some _ (omega (arith, length-slice_split (λ byte. byte == 44) line))

abbrev NoQuote : List ℕ → Type 0
NoQuote line = list_any (λ byte. byte == 34) line ≡ false

abbrev commas : List ℕ → List (List ℕ)
commas line = slice_split (λ byte. byte == 44) line

-- before a bare field and in it, only a quote tells a difference
same_start : (fields : List (List ℕ)) (field line : List ℕ) → NoQuote line → split_from start fields field line ≡ split_from in_bare fields field line
unfolding split_from
same_start fields field [] none = refl
same_start fields field (byte ∷ rest) none = rw (or_parts (byte == 34) _ none).0 refl

bare_from : (fields : List (List ℕ)) (field line : List ℕ) → NoQuote line → split_from in_bare fields field line ≡ Some (fields ++ join_first field (commas line))
unfolding split_from
bare_from fields field [] none = ap (λ texts. Some (fields ++ texts)) (sym (join_end field []))
bare_from fields field (byte ∷ rest) none =
    let later : NoQuote rest = (or_parts (byte == 34) (list_any (λ b. b == 34) rest) none).1 in
    let quote : (byte == 34) ≡ false = (or_parts (byte == 34) (list_any (λ b. b == 34) rest) none).0 in
    elim (cases_Bool (byte == 44)) [
      | inl comma ↦
          rw comma (same_start (fields ++ field ∷ []) [] rest later ∙ bare_from (fields ++ field ∷ []) [] rest later
          ∙ ap (λ texts. Some texts) (append_assoc fields (field ∷ []) (join_first [] (commas rest)) ∙ ap (λ texts. fields ++ texts) (sym (join_end field (commas rest) ∙ ap (λ texts. field ∷ texts) (sym (join_none rest))))))
      | inr comma ↦ rw (comma, quote) (bare_from fields (field ++ byte ∷ []) rest later ∙ ap (λ texts. Some (fields ++ texts)) (join_more field byte (commas rest)))
    ]

-- a line that holds no quote and no CR, is not empty and has no mark, has the texts between its commas
pub fields_between : (line : List ℕ) → (length line == 0) ≡ false → is_marked line ≡ false → NoQuote line → list_any (λ byte. byte == 13) line ≡ false → fields_of line ≡ Some (between_commas line)
fields_between line some unmarked quotes returns =
    rw (some, returns, unmarked) (same_start [] [] line quotes ∙ bare_from [] [] line quotes ∙ ap (λ texts. Some texts) (join_none line))

-- the same, where the test for either fails at each place
pub bare_fields : (line : List ℕ) → (length line == 0) ≡ false → is_marked line ≡ false → FailsBelow (is_byte2 34 13) line (length line) → fields_of line ≡ Some (between_commas line)
bare_fields line some unmarked fails =
    fields_between line some unmarked
    (none_passes (λ byte. byte == 34) line (λ k below quote. fails k below (or_left _ _ quote)))
    (none_passes (λ byte. byte == 13) line (λ k below cr. fails k below (or_right _ _ cr)))
