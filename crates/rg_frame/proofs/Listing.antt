-- What is read as the frame list of a file of bytes is its frame list, and where none is read the file is damaged.
use Rattle.std.proofs.Common.{◌≡◌, ◌∙◌, ◌⊎◌, inl, inr, ℕ, zero, suc, ◌+◌, ◌^◌, ◌≤◌, ◌<◌, ◌==◌, nat_le, Bool, true, false, List, [], ◌∷◌, ◌++◌, length, get_or, take, drop, Option, Some, None, Result, Ok, Err, refl, sym, ap, subst, arith, lit<, append_assoc, length-append, length-drop, if◌then◌else◌}
use Rattle.std.proofs.lemmas.Bool.{cases_lt, eqb-true, eq-eqb, leb-true, leb-false}
use Rattle.std.proofs.lemmas.List.{drop_at, get_or_past, length-take-le, take-append-drop}
use Rattle.std.proofs.lemmas.List.Elements.{All-nil, All-cons, All-get_or, All-take, All-drop}
use Rattle.std.proofs.lemmas.Nat.{be_bytes_8}
use Rattle.std.specs.Prelude.{All}
use Rattle.std.specs.Int.{to_be_bytes, from_be_bytes, w64}
use Rattle.rg_frame.specs.Bytes.{IsByte}
use Rattle.rg_frame.specs.FrameList.{is_open, with_payload, with_next, list_from, frame_list, payloads_in, defined}
use Rattle.rg_frame.specs.Frames.{body, frames, FitsFrame, Ends, HasPayloads, IsCut, IsDamaged, size_in, payload_in}
use Rattle.rg_frame.proofs.FrameLaws.{length-frames}

-- each of them, and 0 behind them
small_at : (bytes : List ℕ) → All IsByte bytes → (i : ℕ) → get_or bytes i 0 < 256
small_at bytes small i = elim (cases_lt i (length bytes)) [
  | inl below ↦ All-get_or IsByte bytes i 0 below small
  | inr past ↦ rw (get_or_past bytes i 0 past) (lit< tt)
]

-- the number that 8 bytes say fits 8 bytes
pub eight_small : (bytes : List ℕ) → All IsByte bytes → from_be_bytes w64 bytes < 2 ^ 64
eight_small bytes small =
    omega (arith, small_at bytes small 0, small_at bytes small 1, small_at bytes small 2, small_at bytes small 3, small_at bytes small 4, small_at bytes small 5, small_at bytes small 6, small_at bytes small 7)

-- an open frame stands at the head of these bytes, and a byte behind it
record Opened (payload bytes : List ℕ) : Type 0 where
  pub rest : List ℕ
  pub is : bytes ≡ (1 ∷ body payload) ++ rest
  pub more : 0 < length rest
  pub fits : FitsFrame payload

open_frame : (payload rest : List ℕ) → All IsByte rest → 9 + size_in rest ≤ length rest → take (size_in rest) (drop 8 rest) ≡ payload → Opened payload (1 ∷ rest)
open_frame payload rest small le taken =
    let size : length payload ≡ size_in rest = sym (ap (λ (l : List ℕ). length l) taken) ∙ length-take-le (size_in rest) (drop 8 rest) (omega (arith, le, length-drop 8 rest)) in
    let eight : length (take 8 rest) ≡ 8 = length-take-le 8 rest (omega (arith, le)) in
    let written : to_be_bytes w64 (length payload) ≡ take 8 rest = ap (λ (n : ℕ). to_be_bytes w64 n) size ∙ be_bytes_8 (take 8 rest) (size_in rest) eight (small_at (take 8 rest) (All-take IsByte 8 rest small)) refl in
    let parted : payload ++ drop (size_in rest) (drop 8 rest) ≡ drop 8 rest = ap (λ (l : List ℕ). l ++ drop (size_in rest) (drop 8 rest)) (sym taken) ∙ take-append-drop (size_in rest) (drop 8 rest) in
    record {
      rest = drop (size_in rest) (drop 8 rest);
      is = ap (λ (l : List ℕ). 1 ∷ l)
          (sym (take-append-drop 8 rest) ∙ ap (λ (l : List ℕ). take 8 rest ++ l) (sym parted) ∙ ap (λ (l : List ℕ). l ++ (payload ++ drop (size_in rest) (drop 8 rest))) (sym written)
          ∙ sym (append_assoc (to_be_bytes w64 (length payload)) payload (drop (size_in rest) (drop 8 rest))));
      more = omega (arith, le, length-drop 8 rest, length-drop (size_in rest) (drop 8 rest));
      fits = subst (λ (n : ℕ). n < 2 ^ 64) (sym size) (eight_small (take 8 rest) (All-take IsByte 8 rest small));
    }

opened : (bytes payload : List ℕ) → All IsByte bytes → payload_in bytes ≡ Some payload → Opened payload bytes
opened [] payload small is = absurd cc
opened (gate ∷ rest) payload small is = by (gate == 1) (nat_le (9 + size_in rest) (length rest)) refl refl
  where
    by : (a b : Bool) → (gate == 1) ≡ a → nat_le (9 + size_in rest) (length rest) ≡ b → Opened payload (gate ∷ rest)
    by true true s t =
        let taken : take (size_in rest) (drop 8 rest) ≡ payload = let e : Some (take (size_in rest) (drop 8 rest)) ≡ Some payload = sym (rw (s, t) refl) ∙ is in cc in
        subst (λ (g : ℕ). Opened payload (g ∷ rest)) (sym (eqb-true gate 1 s)) (open_frame payload rest (All-drop IsByte 1 (gate ∷ rest) small) (leb-true (9 + size_in rest) (length rest) t) taken)
    by true false s t = absurd (let e : None ≡ Some payload = sym (rw (s, t) refl) ∙ is in cc)
    by false b s t = absurd (let e : None ≡ Some payload = sym (rw s refl) ∙ is in cc)

-- frames at the head of these bytes, behind which no open gate stands
record Listed (payloads : List (List ℕ)) (bytes : List ℕ) : Type 0 where
  pub rest : List ℕ
  pub is : bytes ≡ frames payloads ++ rest
  pub stops : is_open rest ≡ false
  pub more : (payloads ≡ []) ⊎ (0 < length rest)
  pub fit : All FitsFrame payloads

left_behind : (payload bytes : List ℕ) (here : Opened payload bytes) → drop (9 + length payload) bytes ≡ here.rest
left_behind payload bytes here = ap (λ (l : List ℕ). drop (9 + length payload) l) here.is ∙ drop_at (1 ∷ body payload) here.rest (9 + length payload) (omega (arith, length-append (to_be_bytes w64 (length payload)) payload))

one_more : (payload : List ℕ) (payloads : List (List ℕ)) (bytes : List ℕ) → Opened payload bytes → Listed payloads (drop (9 + length payload) bytes) → Listed (payload ∷ payloads) bytes
one_more payload payloads bytes here behind =
    let left = left_behind payload bytes here in
    record {
      rest = behind.rest;
      is = here.is ∙ ap (λ (l : List ℕ). (1 ∷ body payload) ++ l) (sym left ∙ behind.is) ∙ sym (append_assoc (1 ∷ body payload) (frames payloads) behind.rest);
      stops = behind.stops;
      more = inr (by behind.more (sym left ∙ behind.is));
      fit = All-cons FitsFrame payload payloads here.fits behind.fit;
    }
  where
    by : (payloads ≡ []) ⊎ (0 < length behind.rest) → here.rest ≡ frames payloads ++ behind.rest → 0 < length behind.rest
    by (inl none) e = omega (arith, here.more, ap (λ (l : List ℕ). length l) e, ap (λ (l : List (List ℕ)). length (frames l ++ behind.rest)) none)
    by (inr lt) e = lt

step_listed : (most place : ℕ) (bytes : List ℕ) (payloads : List (List ℕ)) → ((size : ℕ) (more : List (List ℕ)) → list_from most (place + size) (drop size bytes) ≡ Ok more → Listed more (drop size bytes)) → All IsByte bytes
    → list_from (suc most) place bytes ≡ Ok payloads → Listed payloads bytes
step_listed most place bytes payloads below small is = by (is_open bytes) refl
  where
    behind : (p : List ℕ) (r : Result (List (List ℕ)) ℕ) → payload_in bytes ≡ Some p → list_from most (place + (9 + length p)) (drop (9 + length p) bytes) ≡ r → with_payload p r ≡ Ok payloads → Listed payloads bytes
    behind p (Ok more) here rest e =
        let same : p ∷ more ≡ payloads = cc in
        subst (λ (l : List (List ℕ)). Listed l bytes) same (one_more p more bytes (opened bytes p small here) (below (9 + length p) more rest))
    behind p (Err at) here rest e = absurd cc

    next : (o : Option (List ℕ)) → payload_in bytes ≡ o → with_next place o (λ size. list_from most (place + size) (drop size bytes)) ≡ Ok payloads → Listed payloads bytes
    next None here e = absurd cc
    next (Some p) here e = behind p (list_from most (place + (9 + length p)) (drop (9 + length p) bytes)) here refl e

    by : (b : Bool) → is_open bytes ≡ b → Listed payloads bytes
    by true t = next (payload_in bytes) refl (sym (ap (λ (b : Bool). if b then with_next place (payload_in bytes) (λ size. list_from most (place + size) (drop size bytes)) else Ok []) t) ∙ is)
    by false f =
        let none : [] ≡ payloads = let e : Ok [] ≡ Ok payloads = sym (ap (λ (b : Bool). if b then with_next place (payload_in bytes) (λ size. list_from most (place + size) (drop size bytes)) else Ok []) f) ∙ is in cc in
        subst (λ (l : List (List ℕ)). Listed l bytes) none (record { rest = bytes; is = refl; stops = f; more = inl refl; fit = All-nil FitsFrame })

from_listed : (most place : ℕ) (bytes : List ℕ) (payloads : List (List ℕ)) → All IsByte bytes → list_from most place bytes ≡ Ok payloads → Listed payloads bytes
from_listed zero place bytes payloads small is = absurd cc
from_listed (suc most) place bytes payloads small is = step_listed most place bytes payloads (λ size more e. from_listed most (place + size) (drop size bytes) more (All-drop IsByte size bytes small) e) small is

ends_by : (payloads : List (List ℕ)) (rest : List ℕ) → is_open rest ≡ false → (payloads ≡ []) ⊎ (0 < length rest) → Ends payloads rest
ends_by payloads [] stops (inl none) = none
ends_by payloads [] stops (inr lt) = absurd (omega (arith, lt))
ends_by payloads (gate ∷ rest) stops more = inl (λ open_gate. let t = eq-eqb gate 1 open_gate in absurd cc)

short_ends : (bytes : List ℕ) → length bytes ≤ 1 → Ends [] bytes
short_ends [] le = refl
short_ends (gate ∷ []) le = inr (refl, refl)
short_ends (gate ∷ (byte ∷ bytes)) le = absurd (omega (arith, le))

pub from_frame_list : (bytes : List ℕ) (payloads : List (List ℕ)) → All IsByte bytes → frame_list bytes ≡ Ok payloads → HasPayloads payloads bytes
from_frame_list bytes payloads small is = by (nat_le (length bytes) 1) refl
  where
    by : (b : Bool) → nat_le (length bytes) 1 ≡ b → HasPayloads payloads bytes
    by true t =
        let none : [] ≡ payloads = let e : Ok [] ≡ Ok payloads = sym (ap (λ (b : Bool). if b then Ok [] else list_from (length bytes) 0 bytes) t) ∙ is in cc in
        subst (λ (l : List (List ℕ)). HasPayloads l bytes) none (record { frames = (0, record { rest = bytes; ends = refl; is = refl; stops = short_ends bytes (leb-true (length bytes) 1 t) }); fit = All-nil FitsFrame })
    by false f =
        let listed = from_listed (length bytes) 0 bytes payloads small (sym (ap (λ (b : Bool). if b then Ok [] else list_from (length bytes) 0 bytes) f) ∙ is) in
        record { frames = (length (frames payloads), record { rest = listed.rest; ends = refl; is = listed.is; stops = ends_by payloads listed.rest listed.stops listed.more }); fit = listed.fit }

pub has_listed : (bytes : List ℕ) (payloads : List (List ℕ)) → All IsByte bytes → payloads_in bytes ≡ Some payloads → HasPayloads payloads bytes
has_listed bytes payloads small is = by (frame_list bytes) refl is
  where
    by : (r : Result (List (List ℕ)) ℕ) → frame_list bytes ≡ r → defined r ≡ Some payloads → HasPayloads payloads bytes
    by (Ok all) here e = let same : all ≡ payloads = cc in from_frame_list bytes payloads small (here ∙ ap (λ (l : List (List ℕ)). Ok l) same)
    by (Err place) here e = absurd cc

-- an open gate stands at that place without a whole frame, and whole frames before it
record Stuck (from place : ℕ) (bytes : List ℕ) : Type 0 where
  pub payloads : List (List ℕ)
  pub rest : List ℕ
  pub fit : All FitsFrame payloads
  pub ends : from + length (frames payloads) ≡ place
  pub is : bytes ≡ frames payloads ++ 1 ∷ rest
  pub cut : IsCut rest

stuck_here : (place : ℕ) (bytes : List ℕ) → is_open bytes ≡ true → payload_in bytes ≡ None → Stuck place place bytes
stuck_here place [] open_gate none = absurd cc
stuck_here place (gate ∷ rest) open_gate none = by (nat_le (9 + size_in rest) (length rest)) refl
  where
    by : (b : Bool) → nat_le (9 + size_in rest) (length rest) ≡ b → Stuck place place (gate ∷ rest)
    by true t = absurd (let e : Some (take (size_in rest) (drop 8 rest)) ≡ None = sym (rw (open_gate, t) refl) ∙ none in cc)
    by false f = record { payloads = []; rest = rest; fit = All-nil FitsFrame; ends = omega arith; is = ap (λ (g : ℕ). g ∷ rest) (eqb-true gate 1 open_gate); cut = leb-false (9 + size_in rest) (length rest) f }

stuck_behind : (from place : ℕ) (payload bytes : List ℕ) → Opened payload bytes → Stuck (from + (9 + length payload)) place (drop (9 + length payload) bytes) → Stuck from place bytes
stuck_behind from place payload bytes here behind = record {
  payloads = payload ∷ behind.payloads;
  rest = behind.rest;
  fit = All-cons FitsFrame payload behind.payloads here.fits behind.fit;
  ends = omega (arith, behind.ends, length-frames payload behind.payloads);
  is = here.is ∙ ap (λ (l : List ℕ). (1 ∷ body payload) ++ l) (sym (left_behind payload bytes here) ∙ behind.is) ∙ sym (append_assoc (1 ∷ body payload) (frames behind.payloads) (1 ∷ behind.rest));
  cut = behind.cut;
}

step_stuck : (most from place : ℕ) (bytes : List ℕ)
    → ((size : ℕ) → 0 < length (drop size bytes) → length (drop size bytes) ≤ most → list_from most (from + size) (drop size bytes) ≡ Err place → Stuck (from + size) place (drop size bytes))
    → All IsByte bytes → length bytes ≤ suc most → list_from (suc most) from bytes ≡ Err place → Stuck from place bytes
step_stuck most from place bytes below small few is = by (is_open bytes) refl
  where
    behind : (p : List ℕ) (here : Opened p bytes) (r : Result (List (List ℕ)) ℕ) → list_from most (from + (9 + length p)) (drop (9 + length p) bytes) ≡ r → with_payload p r ≡ Err place → Stuck from place bytes
    behind p here (Ok more) rest e = absurd cc
    behind p here (Err at) rest e =
        let left : length (drop (9 + length p) bytes) ≡ length here.rest = ap (λ (l : List ℕ). length l) (left_behind p bytes here) in
        let same : at ≡ place = cc in
        stuck_behind from place p bytes here (below (9 + length p) (omega (arith, left, here.more)) (omega (arith, length-drop (9 + length p) bytes, few)) (rest ∙ ap (λ (n : ℕ). Err n) same))

    next : (o : Option (List ℕ)) → is_open bytes ≡ true → payload_in bytes ≡ o → with_next from o (λ size. list_from most (from + size) (drop size bytes)) ≡ Err place → Stuck from place bytes
    next None open_gate here e = let same : from ≡ place = cc in subst (λ (n : ℕ). Stuck from n bytes) same (stuck_here from bytes open_gate here)
    next (Some p) open_gate here e = behind p (opened bytes p small here) (list_from most (from + (9 + length p)) (drop (9 + length p) bytes)) refl e

    by : (b : Bool) → is_open bytes ≡ b → Stuck from place bytes
    by true t = next (payload_in bytes) t refl (sym (ap (λ (b : Bool). if b then with_next from (payload_in bytes) (λ size. list_from most (from + size) (drop size bytes)) else Ok []) t) ∙ is)
    by false f = absurd (let e : Ok [] ≡ Err place = sym (ap (λ (b : Bool). if b then with_next from (payload_in bytes) (λ size. list_from most (from + size) (drop size bytes)) else Ok []) f) ∙ is in cc)

from_stuck : (most from place : ℕ) (bytes : List ℕ) → All IsByte bytes → 0 < length bytes → length bytes ≤ most → list_from most from bytes ≡ Err place → Stuck from place bytes
from_stuck zero from place bytes small some few is = absurd (omega (arith, some, few))
from_stuck (suc most) from place bytes small some few is = step_stuck most from place bytes (λ size more less e. from_stuck most (from + size) place (drop size bytes) (All-drop IsByte size bytes small) more less e) small few is

pub damaged_listed : (bytes : List ℕ) (place : ℕ) → All IsByte bytes → frame_list bytes ≡ Err place → IsDamaged place bytes
damaged_listed bytes place small is = by (nat_le (length bytes) 1) refl
  where
    by : (b : Bool) → nat_le (length bytes) 1 ≡ b → IsDamaged place bytes
    by true t = absurd (let e : Ok [] ≡ Err place = sym (ap (λ (b : Bool). if b then Ok [] else list_from (length bytes) 0 bytes) t) ∙ is in cc)
    by false f =
        let longer : 1 < length bytes = leb-false (length bytes) 1 f in
        let stuck = from_stuck (length bytes) 0 place bytes small (omega (arith, longer)) (omega arith) (sym (ap (λ (b : Bool). if b then Ok [] else list_from (length bytes) 0 bytes) f) ∙ is) in
        record { payloads = stuck.payloads; rest = stuck.rest; fit = stuck.fit; ends = omega (arith, stuck.ends); is = stuck.is; longer = longer; cut = stuck.cut }
