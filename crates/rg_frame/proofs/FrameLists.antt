-- A file has one frame list, which the function reads.
use Rattle.std.proofs.Common.{◌≡◌, ◌≢◌, ◌∙◌, ◌⊎◌, inl, inr, ℕ, zero, suc, ◌+◌, ◌^◌, ◌≤◌, ◌<◌, ◌==◌, nat_le, Bool, true, false, List, [], ◌∷◌, ◌++◌, length, drop, Option, Some, Result, Ok, Err, refl, sym, ap, subst, arith, append_assoc, length-append, if◌then◌else◌}
use Rattle.std.specs.Prelude.{All}
use Rattle.std.proofs.lemmas.Bool.Decides.{Decides-eqb, nat_tests}
use Rattle.std.proofs.lemmas.List.{drop_at}
use Rattle.std.proofs.lemmas.List.Elements.{All-nil, All-head, All-tail, All-append, All-cons}
use Rattle.rg_frame.specs.Frames.{body, frames, FitsFrame, Ends, IsLog, HasPayloads, EndsAt, IsCut, IsDamaged, payload_in}
use Rattle.rg_frame.specs.FrameList.{with_payload, with_next, list_from, frame_list, payloads_in, defined}
use Rattle.rg_frame.proofs.FrameLaws.{length-body, length-frames}
use Rattle.rg_frame.proofs.Payloads.{payload_in-frame, payload_in-cut}

-- these payloads, and then those of a list
with_all : List (List ℕ) → Result (List (List ℕ)) ℕ → Result (List (List ℕ)) ℕ
with_all [] list = list
with_all (p ∷ payloads) list = with_payload p (with_all payloads list)

with_all-ok : (payloads : List (List ℕ)) → with_all payloads (Ok []) ≡ Ok payloads
unfolding with_all
with_all-ok [] = refl
with_all-ok (p ∷ payloads) = ap (with_payload p) (with_all-ok payloads)

with_all-err : (payloads : List (List ℕ)) (place : ℕ) → with_all payloads (Err place) ≡ Err place
unfolding with_all
with_all-err [] place = refl
with_all-err (p ∷ payloads) place = ap (with_payload p) (with_all-err payloads place)

first_frame : (p : List ℕ) (payloads : List (List ℕ)) (more : List ℕ) → frames (p ∷ payloads) ++ more ≡ 1 ∷ (body p ++ (frames payloads ++ more))
first_frame p payloads more = append_assoc (1 ∷ body p) (frames payloads) more

-- one frame, and then what follows
list_from-frame : (most place : ℕ) (p more : List ℕ) → FitsFrame p → 0 < length more → list_from (suc most) place (1 ∷ (body p ++ more)) ≡ with_payload p (list_from most (place + (9 + length p)) more)
list_from-frame most place p more fits some =
    let bytes : List ℕ = 1 ∷ (body p ++ more) in
    let behind : drop (9 + length p) bytes ≡ more = drop_at (1 ∷ body p) more (9 + length p) (omega (arith, length-body p)) in
    ap (λ (o : Option (List ℕ)). with_next place o (λ size. list_from most (place + size) (drop size bytes))) (payload_in-frame p more fits some)
    ∙ ap (λ (l : List ℕ). with_payload p (list_from most (place + (9 + length p)) l)) behind

-- these frames, and then what follows, of which the list is known
list_from-frames : (tail : ℕ → Result (List (List ℕ)) ℕ) (more : List ℕ) → 0 < length more → ((most place : ℕ) → length more ≤ most → list_from most place more ≡ tail place)
    → (payloads : List (List ℕ)) → All FitsFrame payloads → (most place : ℕ) → length (frames payloads ++ more) ≤ most → list_from most place (frames payloads ++ more) ≡ with_all payloads (tail (place + length (frames payloads)))
unfolding with_all
list_from-frames tail more some rest [] fit most place few = rest most place few ∙ ap tail (omega arith)
list_from-frames tail more some rest (p ∷ payloads) fit zero place few = absurd (omega (arith, few, length-append (frames (p ∷ payloads)) more, length-frames p payloads))
list_from-frames tail more some rest (p ∷ payloads) fit (suc most) place few =
    let long : length (frames (p ∷ payloads) ++ more) ≡ 9 + length p + length (frames payloads ++ more) = omega (arith, length-append (frames (p ∷ payloads)) more, length-frames p payloads, length-append (frames payloads) more) in
    let place_is : place + (9 + length p) + length (frames payloads) ≡ place + length (frames (p ∷ payloads)) = omega (arith, length-frames p payloads) in
    ap (λ (l : List ℕ). list_from (suc most) place l) (first_frame p payloads more)
    ∙ list_from-frame most place p (frames payloads ++ more) (All-head FitsFrame p payloads fit) (omega (arith, some, length-append (frames payloads) more))
    ∙ ap (with_payload p) (list_from-frames tail more some rest payloads (All-tail FitsFrame p payloads fit) most (place + (9 + length p)) (omega (arith, few, long)))
    ∙ ap (λ (n : ℕ). with_payload p (with_all payloads (tail n))) place_is

eqb-no : (gate : ℕ) → gate ≢ 1 → (gate == 1) ≡ false
eqb-no gate differs = by (gate == 1) refl
  where
    by : (b : Bool) → (gate == 1) ≡ b → (gate == 1) ≡ false
    by true is = absurd (differs ((Decides-eqb gate 1).0 is))
    by false is = is

-- a closed gate
list_from-closed : (gate : ℕ) (rest : List ℕ) → gate ≢ 1 → (most place : ℕ) → length (gate ∷ rest) ≤ most → list_from most place (gate ∷ rest) ≡ Ok []
list_from-closed gate rest closed zero place few = absurd (omega (arith, few))
list_from-closed gate rest closed (suc most) place few =
    ap (λ (b : Bool). if b then with_next place (payload_in (gate ∷ rest)) (λ size. list_from most (place + size) (drop size (gate ∷ rest))) else Ok []) (eqb-no gate closed)

-- an open gate behind which no whole frame stands
list_from-cut : (rest : List ℕ) → IsCut rest → (most place : ℕ) → length (1 ∷ rest) ≤ most → list_from most place (1 ∷ rest) ≡ Err place
list_from-cut rest cut zero place few = absurd (omega (arith, few))
list_from-cut rest cut (suc most) place few = ap (λ (o : Option (List ℕ)). with_next place o (λ size. list_from most (place + size) (drop size (1 ∷ rest)))) (payload_in-cut rest cut)

leb-no : (a b : ℕ) → b < a → nat_le a b ≡ false
leb-no a b lt = grind (arith, nat_tests)

leb-yes : (a b : ℕ) → a ≤ b → nat_le a b ≡ true
leb-yes a b le = grind (arith, nat_tests)

frame_list-short : (bytes : List ℕ) → length bytes ≤ 1 → frame_list bytes ≡ Ok []
frame_list-short bytes le = ap (λ (b : Bool). if b then Ok [] else list_from (length bytes) 0 bytes) (leb-yes (length bytes) 1 le)

frame_list-long : (bytes : List ℕ) → 1 < length bytes → frame_list bytes ≡ list_from (length bytes) 0 bytes
frame_list-long bytes lt = ap (λ (b : Bool). if b then Ok [] else list_from (length bytes) 0 bytes) (leb-no (length bytes) 1 lt)

no_frame : (payloads : List (List ℕ)) (rest : List ℕ) → length (frames payloads ++ rest) ≤ 1 → payloads ≡ []
no_frame [] rest le = refl
no_frame (p ∷ payloads) rest le = absurd (omega (arith, length-append (frames (p ∷ payloads)) rest, length-frames p payloads, le))

listed-short : (payloads : List (List ℕ)) (rest bytes : List ℕ) → bytes ≡ frames payloads ++ rest → length bytes ≤ 1 → frame_list bytes ≡ Ok payloads
listed-short payloads rest bytes is le = frame_list-short bytes le ∙ ap (λ (l : List (List ℕ)). Ok l) (sym (no_frame payloads rest (omega (arith, le, ap length is))))

listed-long : (payloads : List (List ℕ)) (gate : ℕ) (rest bytes : List ℕ) → bytes ≡ frames payloads ++ gate ∷ rest → gate ≢ 1 → All FitsFrame payloads → 1 < length bytes → frame_list bytes ≡ Ok payloads
listed-long payloads gate rest bytes is closed fit lt =
    frame_list-long bytes lt ∙ ap (λ (l : List ℕ). list_from (length bytes) 0 l) is
    ∙ list_from-frames (λ place. Ok []) (gate ∷ rest) (omega arith) (list_from-closed gate rest closed) payloads fit (length bytes) 0 (omega (arith, ap length is))
    ∙ with_all-ok payloads

listed-by : (payloads : List (List ℕ)) (rest bytes : List ℕ) → bytes ≡ frames payloads ++ rest → Ends payloads rest → All FitsFrame payloads → (length bytes ≤ 1) ⊎ (1 < length bytes) → frame_list bytes ≡ Ok payloads
listed-by payloads rest bytes is stops fit (inl le) = listed-short payloads rest bytes is le
listed-by payloads [] bytes is stops fit (inr lt) = absurd (let e : bytes ≡ [] = is ∙ ap (λ (l : List (List ℕ)). frames l ++ []) stops in omega (arith, ap length e, lt))
listed-by payloads (gate ∷ rest) bytes is (inl closed) fit (inr lt) = listed-long payloads gate rest bytes is closed fit lt
listed-by payloads (gate ∷ rest) bytes is (inr none) fit (inr lt) =
    absurd (let e : bytes ≡ gate ∷ [] = is ∙ ap (λ (l : List (List ℕ)). frames l ++ gate ∷ rest) none.0 ∙ ap (λ (r : List ℕ). gate ∷ r) none.1 in omega (arith, ap length e, lt))

few_or_more : (n : ℕ) → (n ≤ 1) ⊎ (1 < n)
few_or_more zero = inl (omega arith)
few_or_more (suc zero) = inl (omega arith)
few_or_more (suc (suc n)) = inr (omega arith)

-- the frame list is what the function reads
pub frame_list-has : (payloads : List (List ℕ)) (bytes : List ℕ) → HasPayloads payloads bytes → frame_list bytes ≡ Ok payloads
frame_list-has payloads bytes has = listed-by payloads has.frames.1.rest bytes has.frames.1.is has.frames.1.stops has.fit (few_or_more (length bytes))

pub payloads_in-has : (payloads : List (List ℕ)) (bytes : List ℕ) → HasPayloads payloads bytes → payloads_in bytes ≡ Some payloads
payloads_in-has payloads bytes has = ap defined (frame_list-has payloads bytes has)

-- so a file has one
pub payloads_one : (a b : List (List ℕ)) (bytes : List ℕ) → HasPayloads a bytes → HasPayloads b bytes → a ≡ b
payloads_one a b bytes one other =
    let first : frame_list bytes ≡ Ok a = frame_list-has a bytes one in
    let second : frame_list bytes ≡ Ok b = frame_list-has b bytes other in
    cc

-- and it is undefined where the file is damaged
pub frame_list-damaged : (place : ℕ) (bytes : List ℕ) → IsDamaged place bytes → frame_list bytes ≡ Err place
frame_list-damaged place bytes damaged =
    frame_list-long bytes damaged.longer ∙ ap (λ (l : List ℕ). list_from (length bytes) 0 l) damaged.is
    ∙ list_from-frames (λ at. Err at) (1 ∷ damaged.rest) (omega arith) (list_from-cut damaged.rest damaged.cut) damaged.payloads damaged.fit (length bytes) 0 (omega (arith, ap length damaged.is))
    ∙ with_all-err damaged.payloads (0 + length (frames damaged.payloads)) ∙ ap (λ (n : ℕ). Err n) (omega (arith, damaged.ends))

-- in frames that end below 2^64 each payload fits
pub fits_below : (payloads : List (List ℕ)) → length (frames payloads) < 2 ^ 64 → All FitsFrame payloads
fits_below [] few = All-nil FitsFrame
fits_below (p ∷ payloads) few =
    let sum = length-frames p payloads in
    All-cons FitsFrame p payloads (omega (arith, sum, few)) (fits_below payloads (omega (arith, sum, few)))

pub fits_push : (payloads : List (List ℕ)) (payload : List ℕ) → All FitsFrame payloads → FitsFrame payload → All FitsFrame (payloads ++ payload ∷ [])
fits_push payloads payload all one = All-append FitsFrame payloads (payload ∷ []) all (All-cons FitsFrame payload [] one (All-nil FitsFrame))

pub has_payloads : (payloads : List (List ℕ)) (end : ℕ) (bytes : List ℕ) → end < 2 ^ 64 → IsLog payloads end bytes → HasPayloads payloads bytes
has_payloads payloads end bytes below log = record { frames = (end, log); fit = fits_below payloads (omega (arith, log.ends, below)) }

-- the frame list of a file ends where any does
pub log_at : (payloads : List (List ℕ)) (end : ℕ) (bytes : List ℕ) → end < 2 ^ 64 → EndsAt end bytes → HasPayloads payloads bytes → IsLog payloads end bytes
log_at payloads end bytes below ends has =
    let same : ends.0 ≡ payloads = payloads_one ends.0 payloads bytes (has_payloads ends.0 end bytes below ends.1) has in
    subst (λ (l : List (List ℕ)). IsLog l end bytes) same ends.1

pub end_of : (payloads : List (List ℕ)) (bytes : List ℕ) (has : HasPayloads payloads bytes) → has.frames.0 ≡ length (frames payloads)
end_of payloads bytes has = sym has.frames.1.ends
