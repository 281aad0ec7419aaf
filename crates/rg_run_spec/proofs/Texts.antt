-- The lines that are put hold no LF, and are found again in what was put.
use Rattle.std.proofs.Common.{◌≡◌, ◌⊎◌, inl, inr, ℕ, zero, suc, ℤ, pos, negsuc, ◌+◌, ◌-◌, ◌<◌, ◌≤◌, ◌==◌, ◌/◌, ◌%◌, not, Bool, true, false, cond, List, [], ◌∷◌, ◌++◌, length, take, Option, Some, None, refl, sym, ◌∙◌, ap, subst, arith, append_assoc}
use Rattle.std.proofs.lemmas.Bool.{lt-ltb}
use Rattle.std.proofs.lemmas.Grind.{common_steps}
use Rattle.std.specs.List.{list_all, slice_split, onto_first}
use Rattle.std.specs.Prelude.{codes, decimal}
use Rattle.std.specs.Fmt.{digits, digits_onto, digit_glyph, signed_decimal}
use Rattle.rg_event.specs.declared.event.Event.{Event}
use Rattle.rg_metric.specs.declared.answer.Answer.{Answer}
use Rattle.rg_metric.specs.declared.answer.Answer.TheVariants.{Number, Ratio, Dash}
use Rattle.rg_reply.specs.declared.reply.Reply.{Reply}
use Rattle.rg_reply.specs.declared.reply.Reply.TheVariants.{Head, Done, Long, Row, Fields, Time, Value, Late, Full, Answered, Moved}
use Rattle.rg_reply.specs.Texts.{answer_text, answers_text, reply_text, reply_line, mark_line}
use Rattle.rg_reply.specs.declared.mark.Mark.{Mark}
use Rattle.rg_reply.specs.declared.mark.Mark.TheVariants.{Opened, Stored, Saved, Finished}
use Rattle.rg_host.specs.Lines.{HasNoLf, ended}
use Rattle.rg_host.specs.Puts.{IsPrefix}
use Rattle.rg_run_spec.specs.Verdicts.{Verdict, reply_of}
use Rattle.rg_run_spec.specs.Output.{line_where, turn_lines, end_lines, stores, saves, text_of_run, Terms}
use Rattle.rg_run_spec.specs.Ahead.{after_line, lines_for, put_from, out_from, events_from}
use Rattle.rg_run_spec.specs.Laws.{IsPrefixOf}
use Rattle.rg_run_spec.specs.Pieces.{whole_pieces, AreLines}
use Rattle.rg_run_spec.proofs.Steps.{Item}
use Rattle.rg_run_spec.proofs.Folds.{out-is}

-- No LF

no_ten : (b : ℕ) → 48 ≤ b → (b == 10) ≡ false
no_ten b h = grind (arith, common_steps)

glyph_no_lf : (d : ℕ) → d < 10 → (digit_glyph false d == 10) ≡ false
glyph_no_lf d small = rw (lt-ltb d 10 small) (no_ten (48 + d) (omega arith))

onto_by : (k n : ℕ) (acc : List ℕ) → ((acc : List ℕ) → HasNoLf acc → HasNoLf (digits_onto k 10 false (n / 10) acc)) → HasNoLf acc → (b : Bool) → HasNoLf (cond b acc (digits_onto k 10 false (n / 10) acc))
onto_by k n acc more none true = none
onto_by k n acc more none false = more acc none

onto_no_lf : (k n : ℕ) (acc : List ℕ) → HasNoLf acc → HasNoLf (digits_onto k 10 false n acc)
onto_no_lf zero n acc none = none
onto_no_lf (suc k) n acc none =
    onto_by k n (digit_glyph false (n % 10) ∷ acc) (λ acc none. onto_no_lf k (n / 10) acc none) (glyph_no_lf (n % 10) (search arith), none) (n / 10 == 0)

decimal_no_lf : (n : ℕ) → HasNoLf (decimal n)
unfolding digits
decimal_no_lf n = onto_no_lf 64 n [] tt

no_lf_more : (a b : List ℕ) → HasNoLf a → HasNoLf b → HasNoLf (a ++ b)
no_lf_more [] b p q = q
no_lf_more (x ∷ a) b p q = (p.0, no_lf_more a b p.1 q)

test_back : (byte : ℕ) (bytes : List ℕ) (b c : Bool) → (byte == 10) ≡ b → list_all (λ x. not (x == 10)) bytes ≡ c → list_all (λ x. not (x == 10)) (byte ∷ bytes) ≡ true → (b ≡ false) × (c ≡ true)
test_back byte bytes true c t u all = absurd (let h : false ≡ true = sym (rw t refl) ∙ all in cc)
test_back byte bytes false c t u all = (refl, sym u ∙ sym (rw t refl) ∙ all)

-- by a test
no_lf : (bytes : List ℕ) → list_all (λ x. not (x == 10)) bytes ≡ true → HasNoLf bytes
no_lf [] all = tt
no_lf (byte ∷ bytes) all =
    let h = test_back byte bytes (byte == 10) (list_all (λ x. not (x == 10)) bytes) refl refl all in
    (h.0, no_lf bytes h.1)

signed_no_lf : (n : ℤ) → HasNoLf (signed_decimal n)
signed_no_lf (pos n) = decimal_no_lf n
signed_no_lf (negsuc n) = (refl, decimal_no_lf (suc n))

answer_no_lf : (answer : Answer) → HasNoLf (answer_text answer)
answer_no_lf (Number n) = signed_no_lf n
answer_no_lf (Ratio total count) = no_lf_more (signed_decimal total) (codes "/" ++ decimal count) (signed_no_lf total) (refl, decimal_no_lf count)
answer_no_lf Dash = no_lf (codes "-") refl

answers_no_lf : (answers : List Answer) → HasNoLf (answers_text answers)
answers_no_lf [] = tt
answers_no_lf (answer ∷ answers) = (refl, no_lf_more (answer_text answer) (answers_text answers) (answer_no_lf answer) (answers_no_lf answers))

reply_text_no_lf : (reply : Reply) → HasNoLf (reply_text reply)
reply_text_no_lf Head = no_lf (codes "head") refl
reply_text_no_lf Done = no_lf (codes "done") refl
reply_text_no_lf Long = no_lf (codes "long") refl
reply_text_no_lf Row = no_lf (codes "row") refl
reply_text_no_lf Fields = no_lf (codes "fields") refl
reply_text_no_lf Time = no_lf (codes "time") refl
reply_text_no_lf (Value column) = no_lf_more (codes "value ") (decimal column) (no_lf (codes "value ") refl) (decimal_no_lf column)
reply_text_no_lf Late = no_lf (codes "late") refl
reply_text_no_lf Full = no_lf (codes "full") refl
reply_text_no_lf (Answered answers) = no_lf_more (codes "ok") (answers_text answers) (no_lf (codes "ok") refl) (answers_no_lf answers)
reply_text_no_lf (Moved answers) = no_lf_more (codes "moved") (answers_text answers) (no_lf (codes "moved") refl) (answers_no_lf answers)

reply_no_lf : (offset : ℕ) (reply : Reply) → HasNoLf (reply_line offset reply)
reply_no_lf offset reply = no_lf_more (decimal offset) (codes " " ++ reply_text reply) (decimal_no_lf offset) (refl, reply_text_no_lf reply)

pub mark_no_lf : (mark : Mark) → HasNoLf (mark_line mark)
mark_no_lf (Opened next count from) = no_lf_more (codes "open ") (decimal next ++ (codes " " ++ (decimal count ++ (codes " " ++ decimal from)))) (no_lf (codes "open ") refl)
    (no_lf_more (decimal next) (codes " " ++ (decimal count ++ (codes " " ++ decimal from))) (decimal_no_lf next) (refl, no_lf_more (decimal count) (codes " " ++ decimal from) (decimal_no_lf count) (refl, decimal_no_lf from)))
mark_no_lf (Stored next) = no_lf_more (codes "stored ") (decimal next) (no_lf (codes "stored ") refl) (decimal_no_lf next)
mark_no_lf (Saved count) = no_lf_more (codes "saved ") (decimal count) (no_lf (codes "saved ") refl) (decimal_no_lf count)
mark_no_lf (Finished lines count) = no_lf_more (codes "done ") (decimal lines ++ (codes " " ++ decimal count)) (no_lf (codes "done ") refl) (no_lf_more (decimal lines) (codes " " ++ decimal count) (decimal_no_lf lines) (refl, decimal_no_lf count))

pub are-append : (a b : List (List ℕ)) → AreLines a → AreLines b → AreLines (a ++ b)
are-append [] b p q = q
are-append (l ∷ a) b p q = (p.0, are-append a b p.1 q)

where_are_lines : (b : Bool) (line : List ℕ) → HasNoLf line → AreLines (line_where b line)
where_are_lines true line none = (none, tt)
where_are_lines false line none = tt

pub turn_are_lines : (terms : Terms) (events : List Event) (offset : ℕ) (v : Option Verdict) → AreLines (turn_lines terms events offset v)
turn_are_lines terms events offset None = tt
turn_are_lines terms events offset (Some v) =
    (reply_no_lf offset (reply_of terms.basis.queries events v), are-append _ _ (where_are_lines (stores terms events v) _ (mark_no_lf (Stored _))) (where_are_lines (saves terms events v) _ (mark_no_lf (Saved _))))

pub put_are_lines : (terms : Terms) (events : List Event) (offset : ℕ) (items : List Item) → AreLines (put_from terms events offset items)
put_are_lines terms events offset [] = tt
put_are_lines terms events offset (item ∷ items) = are-append (lines_for terms events offset item) (put_from terms (after_line terms.basis events offset item) (offset + 1) items) (turn_are_lines terms events offset _) (put_are_lines terms (after_line terms.basis events offset item) (offset + 1) items)

pub end_are_lines : (offset : ℕ) (events : List Event) → AreLines (end_lines offset events)
end_are_lines offset events = (mark_no_lf (Stored _), (mark_no_lf (Saved _), (mark_no_lf (Finished _ _), tt)))

pub out_are_lines : (terms : Terms) (events : List Event) (offset : ℕ) (items : List Item) → AreLines (out_from terms events offset items)
out_are_lines terms events offset items = are-append (put_from terms events offset items) (end_lines (offset + length items) (events_from terms.basis events offset items)) (put_are_lines terms events offset items) (end_are_lines (offset + length items) (events_from terms.basis events offset items))

-- Whole lines

abbrev lf : ℕ → Bool
lf byte = byte == 10

split_line : (line rest : List ℕ) → HasNoLf line → slice_split lf (line ++ 10 ∷ rest) ≡ line ∷ slice_split lf rest
split_line [] rest none = refl
split_line (b ∷ line) rest none = rw none.0 (ap (λ ps. onto_first b ps) (split_line line rest none.1))

split_last : (part : List ℕ) → HasNoLf part → slice_split lf part ≡ part ∷ []
split_last [] none = refl
split_last (b ∷ part) none = rw none.0 (ap (λ ps. onto_first b ps) (split_last part none.1))

some_by : (b : Bool) (byte : ℕ) (pieces : List (List ℕ)) → 0 < length (cond b ([] ∷ pieces) (onto_first byte pieces))
some_by true byte pieces = omega arith
some_by false byte [] = omega arith
some_by false byte (p ∷ pieces) = omega arith

split_some : (bytes : List ℕ) → 0 < length (slice_split lf bytes)
split_some [] = omega arith
split_some (byte ∷ bytes) = some_by (lf byte) byte (slice_split lf bytes)

take_but_last : (line : List ℕ) (pieces : List (List ℕ)) → 0 < length pieces → take (length (line ∷ pieces) - 1) (line ∷ pieces) ≡ line ∷ take (length pieces - 1) pieces
take_but_last line [] some = absurd (omega arith)
take_but_last line (p ∷ pieces) some =
    let a : length (line ∷ (p ∷ pieces)) - 1 ≡ suc (length pieces) = omega arith in
    let b : length pieces ≡ length (p ∷ pieces) - 1 = omega arith in
    ap (λ n. take n (line ∷ (p ∷ pieces))) a ∙ ap (λ n. line ∷ take n (p ∷ pieces)) b

pieces_line : (line rest : List ℕ) → HasNoLf line → whole_pieces (line ++ 10 ∷ rest) ≡ line ∷ whole_pieces rest
pieces_line line rest none = ap (λ (ps : List (List ℕ)). take (length ps - 1) ps) (split_line line rest none) ∙ take_but_last line (slice_split lf rest) (split_some rest)

pieces_none : (part : List ℕ) → HasNoLf part → whole_pieces part ≡ []
pieces_none part none = ap (λ (ps : List (List ℕ)). take (length ps - 1) ps) (split_last part none)

-- whole lines, and then more
pub pieces_then : (lines : List (List ℕ)) (rest : List ℕ) → AreLines lines → whole_pieces (ended lines ++ rest) ≡ lines ++ whole_pieces rest
pieces_then [] rest are = refl
pieces_then (l ∷ lines) rest are =
    ap (λ (x : List ℕ). whole_pieces x) (append_assoc l (10 ∷ ended lines) rest)
    ∙ pieces_line l (ended lines ++ rest) are.0 ∙ ap (λ (x : List (List ℕ)). l ∷ x) (pieces_then lines rest are.1)

-- a front of a line that LF ends, and of more: it holds no LF, or it is that line and a front of more
line_prefix : (line tail part rest : List ℕ) → HasNoLf line → part ++ rest ≡ line ++ 10 ∷ tail → HasNoLf part ⊎ ((p : List ℕ) × (part ≡ line ++ 10 ∷ p) × (p ++ rest ≡ tail))
line_prefix [] tail [] rest none is = inl tt
line_prefix [] tail (a ∷ part) rest none is = inr (part, (let h : a ≡ 10 = cc in ap (λ (x : ℕ). x ∷ part) h), let h : part ++ rest ≡ tail = cc in h)
line_prefix (b ∷ line) tail [] rest none is = inl tt
line_prefix (b ∷ line) tail (a ∷ part) rest none is =
    let same : a ≡ b = cc in
    elim (line_prefix line tail part rest none.1 (cc)) [
      | inl h ↦ inl (subst (λ (c : ℕ). (c == 10) ≡ false) (sym same) none.0, h)
      | inr h ↦ inr (h.0, ap (λ (c : ℕ). c ∷ part) same ∙ ap (λ (x : List ℕ). b ∷ x) h.1, h.2)
    ]

pub nil_prefix : (part rest : List ℕ) → part ++ rest ≡ [] → part ≡ []
nil_prefix [] rest is = refl
nil_prefix (a ∷ part) rest is = absurd (cc)

-- the whole lines of a front of some lines are the first of them
pub pieces_prefix : (text : List (List ℕ)) (part : List ℕ) → AreLines text → IsPrefix part (ended text) → IsPrefixOf (whole_pieces part) text
pieces_prefix [] part are front = ([], ap (λ (x : List ℕ). whole_pieces x ++ []) (nil_prefix part front.0 front.1))
pieces_prefix (l ∷ text) part are front = elim (line_prefix l (ended text) part front.0 are.0 front.1) [
  | inl none ↦ (l ∷ text, ap (λ (x : List (List ℕ)). x ++ (l ∷ text)) (pieces_none part none))
  | inr h ↦
      let more = pieces_prefix text h.0 are.1 (front.0, h.2) in
      (more.0, ap (λ (x : List ℕ). whole_pieces x ++ more.0) h.1 ∙ ap (λ (x : List (List ℕ)). x ++ more.0) (pieces_line l h.0 are.0) ∙ ap (λ (x : List (List ℕ)). l ∷ x) more.1)
]

-- the whole text of a run
pub run_are_lines : (terms : Terms) (held : List Event) (from first : ℕ) (lines : List Item) → AreLines (text_of_run terms held from first lines)
run_are_lines terms held from first lines = (mark_no_lf (Opened _ _ _), subst (λ l. AreLines l) (sym (out-is terms held first lines)) (out_are_lines terms held first lines))
