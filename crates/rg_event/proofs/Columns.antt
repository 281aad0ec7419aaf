-- The columns of a schema, as they are read one by one.
use Rattle.std.proofs.Common.{◌≡◌, ◌∙◌, refl, sym, ap, ℕ, zero, suc, ◌+◌, ◌-◌, ◌<◌, ◌≤◌, true, false, List, [], ◌∷◌, ◌++◌, length, get_or, take, drop, take_all, drop-cons, length-drop, Option, Some, None, append_assoc, append-nil, add-one, arith, bytes_eq}
use Rattle.std.specs.List.{list_any}
use Rattle.rg_event.specs.Reading.{field_at, fields_at, is_at, with_first, behind, names_differ}
use Rattle.rg_event.specs.declared.schema.Field.{Field}

-- reading more of them, by what stands in front
at_none : (text : List ℕ) → fields_at 0 text ≡ Some ([], text)
unfolding fields_at
at_none text = refl

at_end : (most : ℕ) (text : List ℕ) → is_at 44 text ≡ false → fields_at most text ≡ Some ([], text)
unfolding fields_at
at_end zero text other = refl
at_end (suc most) text other = rw other refl

at_more :
    (most : ℕ) (text left : List ℕ) (field : Field) → is_at 44 text ≡ true → field_at text ≡ Some (field, left)
    → fields_at (suc most) text ≡ with_first field (fields_at most left)
unfolding fields_at
at_more most text left field comma read = rw (comma, read) refl

at_fault : (most : ℕ) (text : List ℕ) → is_at 44 text ≡ true → field_at text ≡ None → fields_at (suc most) text ≡ None
unfolding fields_at
at_fault most text comma read = rw (comma, read) refl

behind_none : (more : Option (List Field × List ℕ)) → more ≡ behind [] more
behind_none None = refl
behind_none (Some fields) = refl

behind_first :
    (read : List Field) (field : Field) (more : Option (List Field × List ℕ))
    → behind read (with_first field more) ≡ behind (read ++ field ∷ []) more
behind_first read field None = refl
behind_first read field (Some fields) =
    ap (λ (all : List Field). Some (all, fields.1)) (sym (append_assoc read (field ∷ []) fields.0))

pub begin : (text : List ℕ) → fields_at 32 text ≡ behind [] (fields_at 32 text)
begin text = behind_none (fields_at 32 text)

pub next :
    (text left new : List ℕ) (read : List Field) (field : Field) (i : ℕ)
    → fields_at 32 text ≡ behind read (fields_at (32 - i) left) → i < 32 → is_at 44 left ≡ true
    → field_at left ≡ Some (field, new) → fields_at 32 text ≡ behind (read ++ field ∷ []) (fields_at (32 - (i + 1)) new)
next text left new read field i so_far within comma here =
    let one : 32 - i ≡ suc (32 - (i + 1)) = omega arith in
    let step : fields_at (32 - i) left ≡ with_first field (fields_at (32 - (i + 1)) new) =
    rw one (at_more (32 - (i + 1)) left new field comma here) in
    so_far ∙ (ap (behind read) step ∙ behind_first read field (fields_at (32 - (i + 1)) new))

pub end :
    (text left : List ℕ) (read : List Field) (i : ℕ) → fields_at 32 text ≡ behind read (fields_at (32 - i) left)
    → is_at 44 left ≡ false → fields_at 32 text ≡ Some (read, left)
end text left read i so_far other =
    so_far ∙ (ap (behind read) (at_end (32 - i) left other) ∙ ap (λ (all : List Field). Some (all, left)) (append-nil read))

pub full :
    (text left : List ℕ) (read : List Field) (i : ℕ) → fields_at 32 text ≡ behind read (fields_at (32 - i) left)
    → 32 ≤ i → fields_at 32 text ≡ Some (read, left)
full text left read i so_far all =
    let none : 32 - i ≡ 0 = omega arith in
    so_far
    ∙ (ap (λ n. behind read (fields_at n left)) none
    ∙ (ap (behind read) (at_none left) ∙ ap (λ (all : List Field). Some (all, left)) (append-nil read)))

pub fault :
    (text left : List ℕ) (read : List Field) (i : ℕ) → fields_at 32 text ≡ behind read (fields_at (32 - i) left)
    → i < 32 → is_at 44 left ≡ true → field_at left ≡ None → fields_at 32 text ≡ None
fault text left read i so_far within comma here =
    let one : 32 - i ≡ suc (32 - (i + 1)) = omega arith in
    let none : fields_at (32 - i) left ≡ None = rw one (at_fault (32 - (i + 1)) left comma here) in
    so_far ∙ ap (behind read) none

pub differ_next :
    (fields : List Field) (i : ℕ) (field : Field) → i < length fields → field ≡ get_or fields i field
    → list_any (λ (other : Field). bytes_eq field.name other.name) (take (length fields - (i + 1)) (drop (i + 1) fields)) ≡ false
    → names_differ (drop (i + 1) fields) ≡ names_differ (drop i fields)
differ_next fields i field within is none =
    let whole : take (length fields - (i + 1)) (drop (i + 1) fields) ≡ drop (i + 1) fields =
    take_all (length fields - (i + 1)) (drop (i + 1) fields) (omega (arith, length-drop (i + 1) fields)) in
    let parted : drop i fields ≡ field ∷ drop (i + 1) fields =
    rw add-one (drop-cons fields i field within ∙ ap (λ f. f ∷ drop (suc i) fields) (sym is)) in
    let clear : list_any (λ (other : Field). bytes_eq field.name other.name) (drop (i + 1) fields) ≡ false =
    ap (list_any (λ (other : Field). bytes_eq field.name other.name)) (sym whole) ∙ none in
    sym (ap names_differ parted ∙ rw clear refl)
