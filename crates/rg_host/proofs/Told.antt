-- What `next` does to the lines to come of a source that tells its bytes.
use Rattle.std.proofs.Common.{◌≡◌, ℕ, Bool, true, false, List, [], ◌∷◌, ◌++◌, length, drop, Option, Some, Result, Ok, Err, ◌⊎◌, ⊎_elim, refl, ap, sym, ◌∙◌, subst, arith, append_assoc, length-append}
use Rattle.std.specs.Option.{MatchOption}
use Rattle.std.proofs.lemmas.Bool.{cases_Bool}
use Rattle.std.proofs.lemmas.List.{append-nil}
use Rattle.rg_bytes.specs.Known.{IsAtEnd}
use Rattle.rg_host.specs.Lines.{line_of, lines_of, HasNoLf}
use Rattle.rg_host.specs.Reading.{Reading, HandsOut, Next, handed}
use Rattle.rg_host.specs.declared.lines.Line.{Line}
use Rattle.rg_host.specs.declared.lines.Line.TheVariants.{End}
use Rattle.rg_host.specs.declared.lines.LineFault.{LineFault}
use Rattle.rg_host.specs.declared.lines.LineFault.TheVariants.{Read, Limit}
use Rattle.rg_host.proofs.LineLaws.{lines_of-last, lines_of-nil, lines_of-none}
use Rattle.rg_host.proofs.Ranges.{no_lf-append}

told : (x y : List ℕ) → Some x ≡ Some y → x ≡ y
told x y same = cc

no_past : (past : List ℕ) (result : Result Line LineFault) → (result ≡ Err Limit → ⊥) → (past ≡ []) ⊎ (result ≡ Err Limit) → past ≡ []
no_past past result isnt cases = ⊎_elim (λ none. none) (λ is. absurd (isnt is)) cases

-- the bytes that were left are those that were got, and then those that are left now
got_of : (old new : Reading) (left now : List ℕ) (result : Result Line LineFault) (next : Next old new (Some left) (Some now) result) → (result ≡ Err Limit → ⊥) →
    old.pending ++ left ≡ (old.pending ++ next.got) ++ now
got_of old new left now result next isnt =
    let none : next.past ≡ [] = no_past next.past result isnt next.none_past in
    let bytes : left ≡ (next.got ++ next.past) ++ now = told left ((next.got ++ next.past) ++ now) next.took in
    let got : left ≡ next.got ++ now = bytes ∙ ap (λ (past : List ℕ). (next.got ++ past) ++ now) none ∙ ap (λ (v : List ℕ). v ++ now) (append-nil next.got) in
    ap (λ (v : List ℕ). old.pending ++ v) got ∙ sym (append_assoc old.pending next.got now)

hands_out_of : (old new : Reading) (left now : List ℕ) (line : Line) (item : Option (List ℕ)) → handed line ≡ Some item → (next : Next old new (Some left) (Some now) (Ok line)) →
    HandsOut (old.pending ++ next.got) item new (Some now)
hands_out_of old new left now line item is next =
    subst (λ found. MatchOption found ((old.pending ++ next.got ≡ []) × (old.ended ≡ false → IsAtEnd (Some now))) (λ item. HandsOut (old.pending ++ next.got) item new (Some now))) is next.line

-- a line that was handed out is the first of those that came, and then of those to come
first_of : (came : List ℕ) (item : Option (List ℕ)) (new : Reading) (now : List ℕ) (ended : Bool) → new.ended ≡ ended → HandsOut came item new (Some now) → lines_of (came ++ now) ≡ item ∷ lines_of (new.pending ++ now)
first_of came item new now true is hands_out =
    let last = hands_out.last is in
    rw (last.2, append-nil came, last.1) (last.0 ∙ ap (λ lines. item ∷ lines) (sym lines_of-nil))
first_of came item new now false is hands_out = hands_out.first is now

-- a text without LF is handed out only at the end of the source
pub ended_last : (came : List ℕ) (item : Option (List ℕ)) (new : Reading) (now : Option (List ℕ)) → HandsOut came item new now → HasNoLf came → new.ended ≡ true
ended_last came item new now hands_out no_lf = ⊎_elim (λ ended. ended) (λ going.
    let byte : List ℕ = 120 ∷ [] in
    let one : lines_of (came ++ byte) ≡ line_of (came ++ byte) ∷ [] = lines_of-last (came ++ byte) (no_lf-append came byte no_lf (refl, tt)) (omega (arith, length-append came byte)) in
    let pair : line_of (came ++ byte) ∷ [] ≡ item ∷ lines_of (new.pending ++ byte) = sym one ∙ hands_out.first going byte in
    let none : lines_of (new.pending ++ byte) ≡ [] = sym (ap (λ lines. drop 1 lines) pair) in
    absurd (omega (arith, ap (λ (v : List ℕ). length v) (lines_of-none (new.pending ++ byte) none), length-append new.pending byte))) (cases_Bool new.ended)

-- a line that is handed out is the first of those to come
pub told_line : (old new : Reading) (left now : List ℕ) (line : Line) (item : Option (List ℕ)) → handed line ≡ Some item → Next old new (Some left) (Some now) (Ok line) →
    lines_of (old.pending ++ left) ≡ item ∷ lines_of (new.pending ++ now)
told_line old new left now line item is next =
    ap lines_of (got_of old new left now (Ok line) next (λ refused. absurd (cc)))
    ∙ first_of (old.pending ++ next.got) item new now new.ended refl (hands_out_of old new left now line item is next)

-- behind a line that was the last one, no byte is to come
pub told_last : (old new : Reading) (left now : List ℕ) (line : Line) (item : Option (List ℕ)) → handed line ≡ Some item → Next old new (Some left) (Some now) (Ok line) → new.ended ≡ true →
    new.pending ++ now ≡ []
told_last old new left now line item is next ended =
    let last = (hands_out_of old new left now line item is next).last ended in
    rw (last.1, last.2) refl

-- when the end is first handed out, no byte is to come
pub told_end : (old new : Reading) (left now : List ℕ) → old.ended ≡ false → Next old new (Some left) (Some now) (Ok End) → old.pending ++ left ≡ []
told_end old new left now going next =
    got_of old new left now (Ok End) next (λ refused. absurd (cc)) ∙ ap (λ (v : List ℕ). v ++ now) next.line.0 ∙ next.line.1 going

-- after a read that failed the same lines are to come
pub told_read : (old new : Reading) (left now : List ℕ) → Next old new (Some left) (Some now) (Err Read) → lines_of (new.pending ++ now) ≡ lines_of (old.pending ++ left)
told_read old new left now next =
    next.nothing_lost refl now ∙ sym (ap lines_of (got_of old new left now (Err Read) next (λ refused. absurd (cc))))

-- at the limit the same lines are to come, of the byte past it too
pub told_limit : (old new : Reading) (left now : List ℕ) (next : Next old new (Some left) (Some now) (Err Limit)) → lines_of (new.pending ++ (next.past ++ now)) ≡ lines_of (old.pending ++ left)
told_limit old new left now next =
    let bytes : left ≡ next.got ++ (next.past ++ now) = told left ((next.got ++ next.past) ++ now) next.took ∙ append_assoc next.got next.past now in
    next.nothing_lost refl (next.past ++ now) ∙ ap lines_of (append_assoc old.pending next.got (next.past ++ now)) ∙ sym (ap (λ (v : List ℕ). lines_of (old.pending ++ v)) bytes)
