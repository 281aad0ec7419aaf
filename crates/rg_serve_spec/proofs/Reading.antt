-- What a client reads of frames.
use Rattle.std.proofs.Common.{◌≡◌, inl, inr, ℕ, zero, suc, ◌+◌, ◌<◌, ◌≤◌, ◌^◌, ◌&&◌, nat_le, true, false, cond, List, [], ◌∷◌, ◌++◌, length, take, drop, refl, ap, sym, ◌∙◌, arith, append_assoc, append-nil, length-append}
use Rattle.std.proofs.lemmas.Bool.{cases_lt, le-leb, lt-leb}
use Rattle.std.proofs.lemmas.List.{take_at, drop_at, take-append-le}
use Rattle.std.proofs.lemmas.Nat.{from_be_bytes-to_be_bytes_4}
use Rattle.std.specs.Int.{w32, from_be_bytes, to_be_bytes}
use Rattle.rg_host.specs.Lines.{ended}
use Rattle.rg_host.proofs.Laws.{ended-append}
use Rattle.rg_run_spec.specs.Pieces.{AreLines, whole_pieces}
use Rattle.rg_run_spec.proofs.Laws.{pieces_then}
use Rattle.rg_serve_spec.specs.Frames.{Reply, text_of, framed, frames_of, lines_in, is_whole, texts_from, texts_in, texts_of_all, joined, lines_said, AreSmall}

-- the number at the head of a frame
head_of : (t more : List ℕ) → length t < 2 ^ 32 → from_be_bytes w32 (take 4 (framed t ++ more)) ≡ length t
head_of t more small =
    ap (from_be_bytes w32) (ap (take 4) (append_assoc (to_be_bytes w32 (length t)) t more) ∙ take_at (to_be_bytes w32 (length t)) (t ++ more) 4 refl) ∙ from_be_bytes-to_be_bytes_4 (length t) small

behind_head : (t more : List ℕ) → drop 4 (framed t ++ more) ≡ t ++ more
behind_head t more = ap (drop 4) (append_assoc (to_be_bytes w32 (length t)) t more) ∙ drop_at (to_be_bytes w32 (length t)) (t ++ more) 4 refl

framed_length : (t more : List ℕ) → length (framed t ++ more) ≡ 4 + (length t + length more)
framed_length t more = omega (arith, length-append (framed t) more, length-append (to_be_bytes w32 (length t)) t)

-- a frame with more behind it is whole
whole_frame : (t more : List ℕ) → length t < 2 ^ 32 → is_whole (framed t ++ more) ≡ true
whole_frame t more small =
    let count = framed_length t more in
    ap (λ b. b && nat_le (4 + from_be_bytes w32 (take 4 (framed t ++ more))) (length (framed t ++ more))) (le-leb 4 (length (framed t ++ more)) (omega (arith, count)))
    ∙ le-leb (4 + from_be_bytes w32 (take 4 (framed t ++ more))) (length (framed t ++ more)) (omega (arith, count, head_of t more small))

-- a proper prefix of one isn't
pub part_frame : (t part rest : List ℕ) → length t < 2 ^ 32 → 0 < length rest → part ++ rest ≡ framed t → is_whole part ≡ false
part_frame t part rest small some is = elim (cases_lt (length part) 4) [
  | inl few ↦ ap (λ b. b && nat_le (4 + from_be_bytes w32 (take 4 part)) (length part)) (lt-leb 4 (length part) few)
  | inr long ↦
      let same : take 4 part ≡ take 4 (framed t ++ []) = sym (take-append-le 4 part rest long) ∙ ap (take 4) (is ∙ sym (append-nil (framed t))) in
      let number : from_be_bytes w32 (take 4 part) ≡ length t = ap (from_be_bytes w32) same ∙ head_of t [] small in
      let count : length part + length rest ≡ 4 + length t = sym (length-append part rest) ∙ ap (λ (b : List ℕ). length b) is ∙ length-append (to_be_bytes w32 (length t)) t in
      ap (λ b. b && nat_le (4 + from_be_bytes w32 (take 4 part)) (length part)) (le-leb 4 (length part) long) ∙ lt-leb (4 + from_be_bytes w32 (take 4 part)) (length part) (omega (arith, number, count, some))
]

one_text : (most : ℕ) (t more : List ℕ) → length t < 2 ^ 32 → texts_from (suc most) (framed t ++ more) ≡ t ∷ texts_from most more
one_text most t more small =
    let bytes = framed t ++ more in
    let n = from_be_bytes w32 (take 4 bytes) in
    let head : n ≡ length t = head_of t more small in
    let text : take n (drop 4 bytes) ≡ t = ap (λ m. take m (drop 4 bytes)) head ∙ ap (take (length t)) (behind_head t more) ∙ take_at t more (length t) refl in
    let rest : drop (4 + n) bytes ≡ more = ap (λ m. drop (4 + m) bytes) head ∙ drop_at (framed t) more (4 + length t) (length-append (to_be_bytes w32 (length t)) t) in
    ap (λ b. cond b (take n (drop 4 bytes) ∷ texts_from most (drop (4 + n) bytes)) []) (whole_frame t more small)
    ∙ ap (λ (l : List ℕ). l ∷ texts_from most (drop (4 + n) bytes)) text ∙ ap (λ (l : List ℕ). t ∷ texts_from most l) rest

no_text : (most : ℕ) (part : List ℕ) → is_whole part ≡ false → texts_from most part ≡ []
no_text zero part none = refl
no_text (suc most) part none = ap (λ b. cond b (take (from_be_bytes w32 (take 4 part)) (drop 4 part) ∷ texts_from most (drop (4 + from_be_bytes w32 (take 4 part)) part)) []) none

texts_are : (most : ℕ) (done : List Reply) (part : List ℕ) → AreSmall done → is_whole part ≡ false → length (frames_of done ++ part) ≤ most → texts_from most (frames_of done ++ part) ≡ texts_of_all done
texts_are most [] part small none few = no_text most part none
texts_are zero (reply ∷ done) part small none few =
    absurd (omega (arith, few, length-append (framed (text_of reply) ++ frames_of done) part, framed_length (text_of reply) (frames_of done)))
texts_are (suc most) (reply ∷ done) part small none few =
    let more = frames_of done ++ part in
    let split : (framed (text_of reply) ++ frames_of done) ++ part ≡ framed (text_of reply) ++ more = append_assoc (framed (text_of reply)) (frames_of done) part in
    let count : length ((framed (text_of reply) ++ frames_of done) ++ part) ≡ 4 + (length (text_of reply) + length more) = ap (λ (b : List ℕ). length b) split ∙ framed_length (text_of reply) more in
    ap (texts_from (suc most)) split ∙ one_text most (text_of reply) more small.0
    ∙ ap (λ (l : List (List ℕ)). text_of reply ∷ l) (texts_are most done part small.1 none (omega (arith, few, count)))

pub texts_read : (done : List Reply) (part : List ℕ) → AreSmall done → is_whole part ≡ false → texts_in (frames_of done ++ part) ≡ texts_of_all done
unfolding texts_in
texts_read done part small none = texts_are (length (frames_of done ++ part)) done part small none (omega arith)

joined_lines : (done : List Reply) → joined (texts_of_all done) ≡ ended (lines_in done)
joined_lines [] = refl
joined_lines (reply ∷ done) = ap (λ (l : List ℕ). ended reply ++ l) (joined_lines done) ∙ sym (ended-append reply (lines_in done))

pub lines_read : (done : List Reply) (part : List ℕ) → AreSmall done → is_whole part ≡ false → AreLines (lines_in done) → lines_said (frames_of done ++ part) ≡ lines_in done
lines_read done part small none are =
    let lines = lines_in done in
    ap (λ t. whole_pieces (joined t)) (texts_read done part small none) ∙ ap whole_pieces (joined_lines done ∙ sym (append-nil (ended lines))) ∙ pieces_then lines [] are ∙ append-nil lines

pub texts_law : (done : List Reply) (next : Reply) (part rest : List ℕ) → AreSmall done → length (text_of next) < 2 ^ 32 → 0 < length rest → part ++ rest ≡ framed (text_of next) → texts_in (frames_of done ++ part) ≡ texts_of_all done
texts_law done next part rest small next_small some is = texts_read done part small (part_frame (text_of next) part rest next_small some is)

pub lines_law : (done : List Reply) (next : Reply) (part rest : List ℕ) → AreSmall done → length (text_of next) < 2 ^ 32 → 0 < length rest → part ++ rest ≡ framed (text_of next) → AreLines (lines_in done)
    → lines_said (frames_of done ++ part) ≡ lines_in done
lines_law done next part rest small next_small some is are = lines_read done part small (part_frame (text_of next) part rest next_small some is) are

pub lines_all : (done : List Reply) → AreSmall done → AreLines (lines_in done) → lines_said (frames_of done) ≡ lines_in done
lines_all done small are = ap lines_said (sym (append-nil (frames_of done))) ∙ lines_read done [] small refl are
