-- What a reading finds.
use Rattle.std.proofs.Common.{◌≡◌, ◌≢◌, ◌⊎◌, inl, inr, ℕ, ◌+◌, ◌-◌, ◌^◌, ◌≤◌, ◌<◌, min, List, [], ◌∷◌, ◌++◌, length, get_or, take, drop, refl, sym, ◌∙◌, ap, subst, arith, append_assoc, length-append, take-append-drop, length-drop}
use Rattle.std.proofs.lemmas.List.{take_at, drop_at, take-append-le, take_all, drop-drop, take-take, drop_more, length-take-le}
use Rattle.std.proofs.Math.Seq.{take-add, take-append-add}
use Rattle.std.proofs.lemmas.Slice.{take-put_mid}
use borrow.Rule.Slice.PartMut.{put_mid}
use Rattle.std.specs.Int.{to_be_bytes, from_be_bytes, w64}
use Rattle.std.specs.Prelude.{slice_index}
use Rattle.rg_frame.specs.Frames.{frames, body, Ends, Begins, IsLog, IsDamaged}
use Rattle.rg_frame.specs.Looks.{IsRead, HoldsFrame, HoldsSize, HoldsHead, IsClosed, IsTorn, Next}
use Rattle.rg_frame.proofs.FrameLaws.{length-frames, frames-push, length-frames-push}
use Rattle.rg_frame.proofs.FrameLists.{fits_below}

-- bytes read after others
put_read : (done n k : ℕ) (buf piece : List ℕ) → done ≤ length buf → n ≤ length piece → take (done + n) (put_mid done k buf piece) ≡ take done buf ++ take n piece
put_read done n k buf piece le most =
    let size : length (take done buf) ≡ done = length-take-le done buf le in
    sym (take-take (done + n) (done + length piece) (put_mid done k buf piece) (omega arith))
    ∙ ap (λ (l : List ℕ). take (done + n) l) (take-put_mid done k buf piece (done + length piece) refl le)
    ∙ subst (λ (m : ℕ). take (m + n) (take done buf ++ piece) ≡ take done buf ++ take n piece) size (take-append-add (take done buf) piece n)

pub read-more : (done n k at : ℕ) (buf piece bytes : List ℕ) → done ≤ length buf → n ≤ length piece → take done buf ≡ take done (drop at bytes) → take n piece ≡ take n (drop (at + done) bytes)
    → take (done + n) (put_mid done k buf piece) ≡ take (done + n) (drop at bytes)
read-more done n k at buf piece bytes le most old new =
    put_read done n k buf piece le most
    ∙ ap (λ (l : List ℕ). l ++ take n piece) old ∙ ap (λ (l : List ℕ). take done (drop at bytes) ++ l) (new ∙ ap (λ (l : List ℕ). take n l) (sym (drop-drop done at bytes))) ∙ sym (take-add done n (drop at bytes))

first_same : (gate : List ℕ) (b : ℕ) → take 1 gate ≡ b ∷ [] → length gate ≡ 1 → b ≡ get_or gate 0 0
first_same [] b e size = absurd (omega arith)
first_same (g ∷ gate) b e size = cc

-- the gate that was read
gate_read : (place n : ℕ) (gate bytes : List ℕ) → IsRead place n gate bytes → length gate ≡ 1 → place < length bytes → drop place bytes ≡ get_or gate 0 0 ∷ drop (place + 1) bytes
gate_read place n gate bytes r size lt =
    let one : n ≡ 1 = omega (arith, r.count, length-drop place bytes) in
    let whole : drop place bytes ≡ get_or bytes place 0 ∷ drop (place + 1) bytes = drop_more bytes place 0 lt in
    let same : take 1 gate ≡ take 1 (get_or bytes place 0 ∷ drop (place + 1) bytes) = subst (λ (k : ℕ). take k gate ≡ take k (drop place bytes)) one r.same ∙ ap (λ (l : List ℕ). take 1 l) whole in
    whole ∙ ap (λ (k : ℕ). k ∷ drop (place + 1) bytes) (first_same gate (get_or bytes place 0) same size)

pub open-read : (place n : ℕ) (gate bytes : List ℕ) → IsRead place n gate bytes → length gate ≡ 1 → place < length bytes → get_or gate 0 0 ≡ 1 → drop place bytes ≡ 1 ∷ drop (place + 1) bytes
open-read place n gate bytes r size lt one = gate_read place n gate bytes r size lt ∙ ap (λ (k : ℕ). k ∷ drop (place + 1) bytes) one

pub closed-read : (place n : ℕ) (gate bytes : List ℕ) → IsRead place n gate bytes → length gate ≡ 1 → place < length bytes → get_or gate 0 0 ≢ 1 → IsClosed place bytes
closed-read place n gate bytes r size lt other = inr (λ one. other (ap (λ (l : List ℕ). slice_index l 0) (sym (gate_read place n gate bytes r size lt)) ∙ one))

pub closed-past : (place : ℕ) (bytes : List ℕ) → (length bytes ≤ 1) ⊎ (length bytes ≤ place) → IsClosed place bytes
closed-past place bytes (inl short) = inl short
closed-past place bytes (inr past) = inr (λ one. nothing (drop place bytes) (omega (arith, length-drop place bytes)) one)
  where
    nothing : (l : List ℕ) → length l ≤ 0 → slice_index l 0 ≡ 1 → ⊥
    nothing [] le one = cc
    nothing (x ∷ l) le one = omega arith

pub torn-short : (place : ℕ) (bytes : List ℕ) → drop place bytes ≡ 1 ∷ drop (place + 1) bytes → 1 < length bytes → length bytes < place + 10 → IsTorn place bytes
torn-short place bytes is long short = record { rest = drop (place + 1) bytes; is = is; longer = long; cut = omega (arith, length-drop (place + 1) bytes) }

-- the length that was read
pub length-read : (place n : ℕ) (spelled bytes : List ℕ) → IsRead (place + 1) n spelled bytes → length spelled ≡ 8 → place + 10 ≤ length bytes → take 8 (drop (place + 1) bytes) ≡ spelled
length-read place n spelled bytes r size le =
    let eight : n ≡ 8 = omega (arith, r.count, length-drop (place + 1) bytes) in
    sym (subst (λ (k : ℕ). take k spelled ≡ take k (drop (place + 1) bytes)) eight r.same) ∙ take_all 8 spelled (omega arith)

pub torn-long : (place size : ℕ) (spelled bytes : List ℕ) → drop place bytes ≡ 1 ∷ drop (place + 1) bytes → take 8 (drop (place + 1) bytes) ≡ spelled → size ≡ from_be_bytes w64 spelled → 1 < length bytes → length bytes < place + 10 + size → IsTorn place bytes
torn-long place size spelled bytes is spelled_is size_is long short = record {
  rest = drop (place + 1) bytes;
  is = is;
  longer = long;
  cut = let e : from_be_bytes w64 (take 8 (drop (place + 1) bytes)) ≡ size = ap (λ (l : List ℕ). from_be_bytes w64 l) spelled_is ∙ sym size_is in omega (arith, length-drop (place + 1) bytes, e);
}

pub holds-size : (place size : ℕ) (spelled bytes : List ℕ) → drop place bytes ≡ 1 ∷ drop (place + 1) bytes → take 8 (drop (place + 1) bytes) ≡ spelled → to_be_bytes w64 size ≡ spelled → place + 10 + size ≤ length bytes → HoldsSize place size bytes
holds-size place size spelled bytes is spelled_is size_is long =
    let tail : List ℕ = drop 8 (drop (place + 1) bytes) in
    let n : length tail ≡ length bytes - (place + 1) - 8 = omega (arith, length-drop 8 (drop (place + 1) bytes), length-drop (place + 1) bytes) in
    let m : length (take size tail) ≡ size = length-take-le size tail (omega arith) in (
      take size tail,
      record {
        rest = drop size tail;
        is = is ∙ ap (λ (l : List ℕ). 1 ∷ l)
            (sym (take-append-drop 8 (drop (place + 1) bytes)) ∙ ap (λ (l : List ℕ). l ++ tail) (spelled_is ∙ sym size_is ∙ ap (λ (k : ℕ). to_be_bytes w64 k) (sym m))
            ∙ ap (λ (l : List ℕ). to_be_bytes w64 (length (take size tail)) ++ l) (sym (take-append-drop size tail)) ∙ sym (append_assoc (to_be_bytes w64 (length (take size tail))) (take size tail) (drop size tail)));
        more = omega (arith, length-drop size tail);
      },
      m,
    )

begins_rest : (payloads : List (List ℕ)) (end : ℕ) (bytes : List ℕ) (b : Begins payloads end bytes) → drop end bytes ≡ b.rest
begins_rest payloads end bytes b = ap (λ (l : List ℕ). drop end l) b.is ∙ drop_at (frames payloads) b.rest end b.ends

frame_rest : (place : ℕ) (payload bytes : List ℕ) (f : HoldsFrame place payload bytes) → drop (place + 9) bytes ≡ payload ++ f.rest
frame_rest place payload bytes f =
    sym (drop-drop 9 place bytes) ∙ ap (λ (l : List ℕ). drop 9 l) (f.is ∙ ap (λ (l : List ℕ). 1 ∷ l) (append_assoc (to_be_bytes w64 (length payload)) payload f.rest)) ∙ drop_at (1 ∷ to_be_bytes w64 (length payload)) (payload ++ f.rest) 9 refl

-- the first bytes of a payload that were read
payload_first : (place size n : ℕ) (head piece bytes : List ℕ) (f : HoldsSize place size bytes) → IsRead (place + 9) n piece bytes → length piece ≡ min (length head) size → take (length piece) (f.0 ++ f.1.rest) ≡ piece
payload_first place size n head piece bytes f r most =
    let whole : n ≡ length piece = omega (arith, r.count, most, ap length (frame_rest place f.0 bytes f.1), length-append f.0 f.1.rest, f.2) in
    sym (ap (λ (l : List ℕ). take (length piece) l) (frame_rest place f.0 bytes f.1)) ∙ sym (subst (λ (k : ℕ). take k piece ≡ take k (drop (place + 9) bytes)) whole r.same) ∙ take_all (length piece) piece (omega arith)

pub head-read : (place size n m : ℕ) (old piece bytes : List ℕ) → HoldsSize place size bytes → IsRead (place + 9) n piece bytes → length piece ≡ min (length old) size → m ≡ min (length old) size → HoldsHead place size (piece ++ drop m old) bytes
head-read place size n m old piece bytes f r most cut = record {
  payload = f.0;
  holds = f.1;
  size_is = f.2;
  first =
      let long : min (length (piece ++ drop m old)) size ≡ length piece = omega (arith, length-append piece (drop m old), length-drop m old) in
      ap (λ (k : ℕ). take k (piece ++ drop m old)) long ∙ take_at piece (drop m old) (length piece) refl
      ∙ sym (payload_first place size n old piece bytes f r most) ∙ take-append-le (length piece) f.0 f.1.rest (omega (arith, f.2)) ∙ ap (λ (k : ℕ). take k f.0) (sym long);
}

pub next-begins : (payloads : List (List ℕ)) (end size : ℕ) (head bytes : List ℕ) → Begins payloads end bytes → HoldsHead end size head bytes → Next payloads size head (end + 9 + size) bytes
next-begins payloads end size head bytes b h = record {
  payload = h.payload;
  begins = record {
    rest = h.holds.rest;
    ends = omega (arith, length-frames-push payloads h.payload, b.ends, h.size_is);
    is = b.is ∙ ap (λ (l : List ℕ). frames payloads ++ l) (sym (begins_rest payloads end bytes b) ∙ h.holds.is) ∙ sym (append_assoc (frames payloads) (1 ∷ body h.payload) h.holds.rest) ∙ ap (λ (l : List ℕ). l ++ h.holds.rest) (sym (frames-push payloads h.payload));
    goes = inr h.holds.more;
  };
  size_is = h.size_is;
  first = h.first;
}

stops_short : (payloads : List (List ℕ)) (rest : List ℕ) → length (frames payloads) + length rest ≤ 1 → (payloads ≡ []) ⊎ (0 < length rest) → Ends payloads rest
stops_short [] [] le goes = refl
stops_short [] (g ∷ []) le goes = inr (refl, refl)
stops_short [] (g ∷ (h ∷ r)) le goes = absurd (omega arith)
stops_short (p ∷ payloads) rest le goes = absurd (omega (arith, length-frames p payloads))

stops_closed : (payloads : List (List ℕ)) (rest : List ℕ) → (payloads ≡ []) ⊎ (0 < length rest) → slice_index rest 0 ≢ 1 → Ends payloads rest
stops_closed payloads [] (inl none) closed = none
stops_closed payloads [] (inr some) closed = absurd (omega arith)
stops_closed payloads (g ∷ rest) goes closed = inl (λ e. closed e)

pub log-closed : (payloads : List (List ℕ)) (end : ℕ) (bytes : List ℕ) → Begins payloads end bytes → IsClosed end bytes → IsLog payloads end bytes
log-closed payloads end bytes b (inl short) = record { rest = b.rest; ends = b.ends; is = b.is; stops = stops_short payloads b.rest (omega (arith, ap length b.is, length-append (frames payloads) b.rest)) b.goes }
log-closed payloads end bytes b (inr closed) = record { rest = b.rest; ends = b.ends; is = b.is; stops = stops_closed payloads b.rest b.goes (λ e. closed (ap (λ (l : List ℕ). slice_index l 0) (begins_rest payloads end bytes b) ∙ e)) }

pub damaged-torn : (payloads : List (List ℕ)) (end : ℕ) (bytes : List ℕ) → end < 2 ^ 64 → Begins payloads end bytes → IsTorn end bytes → IsDamaged end bytes
damaged-torn payloads end bytes below b t = record {
  payloads = payloads;
  rest = t.rest;
  fit = fits_below payloads (omega (arith, b.ends, below));
  ends = b.ends;
  is = b.is ∙ ap (λ (l : List ℕ). frames payloads ++ l) (sym (begins_rest payloads end bytes b) ∙ t.is);
  longer = t.longer;
  cut = t.cut;
}

pub holds-read : (place size n : ℕ) (out bytes : List ℕ) → HoldsSize place size bytes → IsRead (place + 9) n out bytes → length out ≡ size → HoldsFrame place out bytes
holds-read place size n out bytes f r is =
    let whole : n ≡ size = omega (arith, r.count, is, ap length (frame_rest place f.0 bytes f.1), length-append f.0 f.1.rest, f.2) in
    let same : out ≡ f.0 = sym (take_all size out (omega arith)) ∙ subst (λ (k : ℕ). take k out ≡ take k (drop (place + 9) bytes)) whole r.same ∙ ap (λ (l : List ℕ). take size l) (frame_rest place f.0 bytes f.1) ∙ take_at f.0 f.1.rest size f.2 in
    record { rest = f.1.rest; is = f.1.is ∙ ap (λ (p : List ℕ). 1 ∷ (body p ++ f.1.rest)) (sym same); more = f.1.more }

-- a file that holds a frame is longer than the next place
pub reaches-next : (place size : ℕ) (bytes : List ℕ) → HoldsSize place size bytes → place + 9 + size < length bytes
reaches-next place size bytes f = omega (arith, ap length (frame_rest place f.0 bytes f.1), length-append f.0 f.1.rest, length-drop (place + 9) bytes, f.1.more, f.2)

-- a buffer back in the vector that it was taken from
pub items-back : (len : ℕ) (buf items : List ℕ) → length buf ≡ length items → len ≡ length items → take len (buf ++ drop (length buf) items) ≡ buf
items-back len buf items a b = take_at buf (drop (length buf) items) len (a ∙ sym b)

-- before the first frame is read
pub begins-none : (bytes : List ℕ) → Begins [] 0 bytes
begins-none bytes = record { rest = bytes; ends = refl; is = refl; goes = inl refl }
