-- A part of gathered frames.
use Rattle.std.proofs.Common.{◌≡◌, inl, inr, ℕ, false, List, [], ◌∷◌, ◌++◌, length, take, drop, refl, ap, sym, subst, ◌∙◌, arith, append_assoc, length-append}
use Rattle.std.proofs.lemmas.Bool.{cases_lt}
use Rattle.std.proofs.lemmas.List.{take_at, drop_at, take-append-le, drop-append-le, take-append-drop, length-drop, nil_from_length}
use Rattle.rg_host.specs.Puts.{IsPrefix}
use Rattle.rg_run_spec.specs.Pieces.{AreLines}
use Rattle.rg_serve_spec.specs.Frames.{Reply, text_of, framed, frames_of, lines_in, lines_said, is_whole, AreSmall, ReadsSome}
use Rattle.rg_serve_spec.proofs.Reading.{part_frame, lines_read}

pub frames-append : (a b : List Reply) → frames_of (a ++ b) ≡ frames_of a ++ frames_of b
frames-append [] b = refl
frames-append (reply ∷ a) b = ap (λ (l : List ℕ). framed (text_of reply) ++ l) (frames-append a b) ∙ sym (append_assoc (framed (text_of reply)) (frames_of a) (frames_of b))

pub lines-append : (a b : List Reply) → lines_in (a ++ b) ≡ lines_in a ++ lines_in b
lines-append [] b = refl
lines-append (reply ∷ a) b = ap (λ (l : List (List ℕ)). reply ++ l) (lines-append a b) ∙ sym (append_assoc reply (lines_in a) (lines_in b))

small_front : (a b : List Reply) → AreSmall (a ++ b) → AreSmall a
small_front [] b small = tt
small_front (reply ∷ a) b small = (small.0, small_front a b small.1)

small_back : (a b : List Reply) → AreSmall (a ++ b) → AreSmall b
small_back [] b small = small
small_back (reply ∷ a) b small = small_back a b small.1

are_front : (a b : List (List ℕ)) → AreLines (a ++ b) → AreLines a
are_front [] b are = tt
are_front (line ∷ a) b are = (are.0, are_front a b are.1)

-- A part of frames is whole ones, and then less than one.
record Cut (replies : List Reply) (part : List ℕ) : Type 0 where
  some : List Reply
  left : List Reply
  of_replies : some ++ left ≡ replies
  tail : List ℕ
  is : part ≡ frames_of some ++ tail
  none : is_whole tail ≡ false

cut : (replies : List Reply) (part back : List ℕ) → AreSmall replies → part ++ back ≡ frames_of replies → Cut replies part
cut [] part back small is =
    let nothing : part ≡ [] = nil_from_length part (omega (arith, length-append part back, ap (λ (b : List ℕ). length b) is)) in
    record { some = []; left = []; of_replies = refl; tail = []; is = nothing; none = refl }
cut (reply ∷ replies) part back small is =
    let frame = framed (text_of reply) in
    let n = length part in
    let m = length frame in
    elim (cases_lt n m) [
      | inl less ↦
          let front : part ≡ take n frame = sym (take_at part back n refl) ∙ ap (take n) is ∙ take-append-le n frame (frames_of replies) (omega (arith, less)) in
          let whole : part ++ drop n frame ≡ frame = ap (λ (l : List ℕ). l ++ drop n frame) front ∙ take-append-drop n frame in
          record { some = []; left = reply ∷ replies; of_replies = refl; tail = part; is = refl; none = part_frame (text_of reply) part (drop n frame) small.0 (omega (arith, length-drop n frame, less)) whole }
      | inr full ↦
          let front : take m part ≡ frame = sym (take-append-le m part back full) ∙ ap (take m) is ∙ take_at frame (frames_of replies) m refl in
          let behind : drop m part ++ back ≡ frames_of replies = sym (drop-append-le m part back full) ∙ ap (drop m) is ∙ drop_at frame (frames_of replies) m refl in
          let more = cut replies (drop m part) back small.1 behind in
          record {
            some = reply ∷ more.some;
            left = more.left;
            of_replies = ap (λ (l : List Reply). reply ∷ l) more.of_replies;
            tail = more.tail;
            is = sym (take-append-drop m part) ∙ ap (λ (l : List ℕ). l ++ drop m part) front ∙ ap (λ (l : List ℕ). frame ++ l) more.is ∙ sym (append_assoc frame (frames_of more.some) more.tail);
            none = more.none;
          }
    ]

pub reads_some : (first rest : List Reply) (part : List ℕ) → AreSmall (first ++ rest) → AreLines (lines_in (first ++ rest)) → IsPrefix part (frames_of rest) → ReadsSome first rest (frames_of first ++ part)
reads_some first rest part small are begins =
    let c = cut rest part begins.0 (small_back first rest small) begins.1 in
    let done = first ++ c.some in
    let all : done ++ c.left ≡ first ++ rest = append_assoc first c.some c.left ∙ ap (λ (l : List Reply). first ++ l) c.of_replies in
    let put_is : frames_of first ++ part ≡ frames_of done ++ c.tail =
    ap (λ (l : List ℕ). frames_of first ++ l) c.is ∙ sym (append_assoc (frames_of first) (frames_of c.some) c.tail) ∙ ap (λ (l : List ℕ). l ++ c.tail) (sym (frames-append first c.some)) in
    let lines : AreLines (lines_in done) = are_front (lines_in done) (lines_in c.left) (subst AreLines (sym (ap lines_in all) ∙ lines-append done c.left) are) in
    let done_small : AreSmall done = small_front done c.left (subst AreSmall (sym all) small) in
    record { some = c.some; begins = (c.left, c.of_replies); lines = ap lines_said put_is ∙ lines_read done c.tail done_small c.none lines }
