-- The payload at a place, by what stands there.
use Rattle.std.proofs.Common.{◌≡◌, ◌≢◌, ◌∙◌, ◌⊎◌, inl, inr, ℕ, ◌+◌, ◌^◌, ◌≤◌, ◌<◌, List, [], ◌∷◌, ◌++◌, length, take, drop, Some, None, refl, ap, arith, append_assoc, length-append, length-drop}
use Rattle.std.proofs.lemmas.Grind.{common_steps}
use Rattle.std.proofs.lemmas.Bool.Decides.{nat_tests}
use Rattle.std.proofs.lemmas.List.{take_at, drop_at}
use Rattle.std.proofs.lemmas.List.Elements.{All-head, All-tail}
use Rattle.std.proofs.lemmas.Nat.{from_be_bytes-to_be_bytes_8}
use Rattle.std.specs.Prelude.{slice_index, All}
use Rattle.std.specs.Int.{to_be_bytes, from_be_bytes, w64}
use Rattle.rg_frame.specs.Frames.{body, frames, FitsFrame, Ends, HasPayloads, IsDamaged, size_in, payload_in, payload_at}
use Rattle.rg_frame.specs.Looks.{IsClosed, IsTorn, HoldsFrame}
use Rattle.rg_frame.proofs.FrameLaws.{length-body, length-frames, frames-between}

size_in-body : (payload rest : List ℕ) → length payload < 2 ^ 64 → size_in (body payload ++ rest) ≡ length payload
size_in-body payload rest small =
    ap (λ (l : List ℕ). from_be_bytes w64 (take 8 l)) (append_assoc (to_be_bytes w64 (length payload)) payload rest)
    ∙ ap (λ (l : List ℕ). from_be_bytes w64 l) (take_at (to_be_bytes w64 (length payload)) (payload ++ rest) 8 refl) ∙ from_be_bytes-to_be_bytes_8 (length payload) small

drop-body : (payload rest : List ℕ) → drop 8 (body payload ++ rest) ≡ payload ++ rest
drop-body payload rest = ap (λ (l : List ℕ). drop 8 l) (append_assoc (to_be_bytes w64 (length payload)) payload rest) ∙ drop_at (to_be_bytes w64 (length payload)) (payload ++ rest) 8 refl

-- an open frame at the head of some bytes
pub payload_in-frame : (payload rest : List ℕ) → length payload < 2 ^ 64 → 0 < length rest → payload_in (1 ∷ (body payload ++ rest)) ≡ Some payload
payload_in-frame payload rest small more =
    let whole : 9 + length payload ≤ length (body payload ++ rest) = omega (arith, length-append (body payload) rest, length-body payload, more) in
    rw (size_in-body payload rest small, drop-body payload rest, take_at payload rest (length payload) refl) (grind (arith, nat_tests, common_steps))

-- an open gate behind which no whole frame stands
pub payload_in-cut : (rest : List ℕ) → length rest < 9 + size_in rest → payload_in (1 ∷ rest) ≡ None
payload_in-cut rest cut = grind (arith, nat_tests, common_steps)

payload_in-closed : (bytes : List ℕ) → (length bytes ≤ 1) ⊎ (slice_index bytes 0 ≢ 1) → payload_in bytes ≡ None
payload_in-closed [] why = refl
payload_in-closed (gate ∷ rest) (inl short) = let few : length rest < 9 + size_in rest = omega arith in grind (arith, nat_tests, common_steps)
payload_in-closed (gate ∷ rest) (inr other) = let differs : gate ≢ 1 = other in grind (arith, nat_tests, common_steps)

-- The three answers of a reading at a place.

pub holds_payload : (place : ℕ) (payload bytes : List ℕ) → HoldsFrame place payload bytes → length payload < 2 ^ 64 → payload_at place bytes ≡ Some payload
holds_payload place payload bytes holds small = ap payload_in holds.is ∙ payload_in-frame payload holds.rest small holds.more

pub torn_payload : (place : ℕ) (bytes : List ℕ) → IsTorn place bytes → payload_at place bytes ≡ None
torn_payload place bytes torn = ap payload_in torn.is ∙ payload_in-cut torn.rest torn.cut

pub closed_payload : (place : ℕ) (bytes : List ℕ) → IsClosed place bytes → payload_at place bytes ≡ None
closed_payload place bytes (inl short) = payload_in-closed (drop place bytes) (inl (omega (arith, length-drop place bytes)))
closed_payload place bytes (inr other) = payload_in-closed (drop place bytes) (inr other)

-- a closed gate is not torn
pub closed_torn : (place : ℕ) (bytes : List ℕ) → IsClosed place bytes → IsTorn place bytes → ⊥
closed_torn place bytes (inl short) torn = omega (arith, short, torn.longer)
closed_torn place bytes (inr other) torn = other (ap (λ (l : List ℕ). slice_index l 0) torn.is)

-- where the frame list is undefined an open gate stands without a whole frame
pub damaged_torn : (place : ℕ) (bytes : List ℕ) → IsDamaged place bytes → IsTorn place bytes
damaged_torn place bytes damaged = record {
  rest = damaged.rest;
  is = ap (λ (l : List ℕ). drop place l) damaged.is ∙ drop_at (frames damaged.payloads) (1 ∷ damaged.rest) place damaged.ends;
  longer = damaged.longer;
  cut = damaged.cut;
}

-- The frame list, by places.

-- a frame of the list has a byte behind it
behind : (back : List (List ℕ)) (rest : List ℕ) (front : List (List ℕ)) (p : List ℕ) → Ends (front ++ p ∷ back) rest → 0 < length (frames back ++ rest)
behind (q ∷ back) rest front p stops = omega (arith, length-append (frames (q ∷ back)) rest, length-frames q back)
behind [] (g ∷ rest) front p stops = omega arith
behind [] [] [] p stops = absurd cc
behind [] [] (q ∷ front) p stops = absurd cc

fit_behind : (a b : List (List ℕ)) → All FitsFrame (a ++ b) → All FitsFrame b
fit_behind [] b all = all
fit_behind (x ∷ a) b all = fit_behind a b (All-tail FitsFrame x (a ++ b) all)

-- the payload at the place of a frame of the list
pub payload_between : (front back : List (List ℕ)) (p bytes : List ℕ) → HasPayloads (front ++ p ∷ back) bytes → payload_at (length (frames front)) bytes ≡ Some p
payload_between front back p bytes has =
    let log = has.frames.1 in
    let small : length p < 2 ^ 64 = All-head FitsFrame p back (fit_behind front (p ∷ back) has.fit) in
    holds_payload (length (frames front)) p bytes (record {
      rest = frames back ++ log.rest;
      is = ap (λ (l : List ℕ). drop (length (frames front)) l) (log.is ∙ frames-between front p back log.rest) ∙ drop_at (frames front) (1 ∷ (body p ++ (frames back ++ log.rest))) (length (frames front)) refl;
      more = behind back log.rest front p log.stops;
    }) small

ended : (payloads : List (List ℕ)) (rest : List ℕ) → Ends payloads rest → (length rest ≤ 1) ⊎ (slice_index rest 0 ≢ 1)
ended payloads [] stops = inl (omega arith)
ended payloads (gate ∷ rest) (inl closed) = inr closed
ended payloads (gate ∷ rest) (inr none) = inl (omega (arith, ap length none.1))

-- none stands where the list ends
pub payload_none : (payloads : List (List ℕ)) (bytes : List ℕ) → HasPayloads payloads bytes → payload_at (length (frames payloads)) bytes ≡ None
payload_none payloads bytes has =
    let log = has.frames.1 in
    ap payload_in (ap (λ (l : List ℕ). drop (length (frames payloads)) l) log.is ∙ drop_at (frames payloads) log.rest (length (frames payloads)) refl) ∙ payload_in-closed log.rest (ended payloads log.rest log.stops)
