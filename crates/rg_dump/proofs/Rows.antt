-- The text of rows.
use Rattle.std.proofs.Common.{◌≡◌, ◌≢◌, ◌∙◌, ℕ, zero, suc, ◌+◌, ◌<◌, List, [], ◌∷◌, ◌++◌, length, map, take, Some, None, refl, sym, ap, arith, append_assoc}
use Rattle.std.specs.Prelude.{slice_get}
use Rattle.csv.specs.Writing.{default_writer, row_text, is_blank}
use Rattle.csv.specs.declared.writer.QuoteStyle.TheVariants as style
use Rattle.csv.specs.declared.writer.WriterBuilder.{WriterBuilder}
use Rattle.rg_event.specs.declared.event.Event.{Event}
use Rattle.rg_host.specs.Lines.{ended}
use Rattle.rg_dump.specs.Rows.{row_fields, row_line}

-- the row that `csv` writes is the line, and LF
row_ended : (event : Event) → row_text default_writer (row_fields event) ≡ row_line event ++ 10 ∷ []
unfolding is_blank
row_ended event = refl

pub row_more : (setup : WriterBuilder) (fields : List (List ℕ)) (event : Event) (old new text : List ℕ) → setup ≡ default_writer → fields ≡ row_fields event → old ≡ text → new ≡ old ++ row_text setup fields → new ≡ text ++ (row_line event ++ 10 ∷ [])
row_more setup fields event old new text plain are was is =
    is ∙ ap (λ (l : List ℕ). l ++ row_text setup fields) was
    ∙ ap (λ (w : WriterBuilder). text ++ row_text w fields) plain
    ∙ ap (λ (l : List (List ℕ)). text ++ row_text default_writer l) are
    ∙ ap (λ (l : List ℕ). text ++ l) (row_ended event)

-- the rows up to an event, and its own
pub rows_more : (events : List Event) (i : ℕ) (event : Event) → slice_get events i ≡ Some event → ended (map row_line (take (i + 1) events)) ≡ ended (map row_line (take i events)) ++ (row_line event ++ 10 ∷ [])
rows_more [] i event is = absurd cc
rows_more (x ∷ events) zero event is =
    let same : x ≡ event = cc in
    ap (λ (e : Event). row_line e ++ 10 ∷ []) same
rows_more (x ∷ events) (suc i) event is =
    let e : suc i + 1 ≡ suc (i + 1) = omega arith in
    rw e
    (ap (λ (l : List ℕ). row_line x ++ 10 ∷ l) (rows_more events i event is)
    ∙ sym (append_assoc (row_line x) (10 ∷ ended (map row_line (take i events))) (row_line event ++ 10 ∷ [])))

-- there is an event at each index
pub has_event : (events : List Event) (i : ℕ) → i < length events → slice_get events i ≡ None → ⊥
has_event [] i lt none = omega (arith, lt)
has_event (x ∷ events) zero lt none = absurd (let e : Some x ≡ None = none in cc)
has_event (x ∷ events) (suc i) lt none = has_event events i (omega (arith, lt)) none

-- that style doesn't look at numbers
pub plain_style : (setup : WriterBuilder) → setup ≡ default_writer → setup.style ≢ style.NonNumeric
plain_style setup is e = absurd (let f : style.Necessary ≡ style.NonNumeric = sym (ap (λ (w : WriterBuilder). w.style) is) ∙ e in cc)
