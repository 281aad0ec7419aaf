-- Frames joined, and their lengths.
use Rattle.std.proofs.Common.{◌≡◌, ℕ, ◌+◌, List, [], ◌∷◌, ◌++◌, length, refl, sym, ◌∙◌, ap, arith, append_assoc, length-append}
use Rattle.std.proofs.lemmas.List.{append-nil}
use Rattle.std.specs.Int.{to_be_bytes, w64}
use Rattle.rg_frame.specs.Frames.{body, frames}

pub length-body : (payload : List ℕ) → length (body payload) ≡ 8 + length payload
length-body payload = omega (arith, length-append (to_be_bytes w64 (length payload)) payload)

pub length-frames : (payload : List ℕ) (payloads : List (List ℕ)) → length (frames (payload ∷ payloads)) ≡ 9 + length payload + length (frames payloads)
length-frames payload payloads = omega (arith, length-append (1 ∷ body payload) (frames payloads), length-body payload)

pub frames-append : (a b : List (List ℕ)) → frames (a ++ b) ≡ frames a ++ frames b
frames-append [] b = refl
frames-append (p ∷ a) b = ap (λ (l : List ℕ). (1 ∷ body p) ++ l) (frames-append a b) ∙ sym (append_assoc (1 ∷ body p) (frames a) (frames b))

-- with one frame more
pub frames-push : (payloads : List (List ℕ)) (payload : List ℕ) → frames (payloads ++ payload ∷ []) ≡ frames payloads ++ 1 ∷ body payload
frames-push payloads payload = frames-append payloads (payload ∷ []) ∙ ap (λ (l : List ℕ). frames payloads ++ l) (append-nil (1 ∷ body payload))

pub length-frames-push : (payloads : List (List ℕ)) (payload : List ℕ) → length (frames (payloads ++ payload ∷ [])) ≡ length (frames payloads) + 9 + length payload
length-frames-push payloads payload = omega (arith, ap length (frames-push payloads payload), length-append (frames payloads) (1 ∷ body payload), length-body payload)

-- the bytes of frames, a further frame and what follows
pub frames-between : (a : List (List ℕ)) (payload : List ℕ) (b : List (List ℕ)) (rest : List ℕ) → frames (a ++ payload ∷ b) ++ rest ≡ frames a ++ (1 ∷ (body payload ++ (frames b ++ rest)))
frames-between a payload b rest =
    ap (λ (l : List ℕ). l ++ rest) (frames-append a (payload ∷ b)) ∙ append_assoc (frames a) (frames (payload ∷ b)) rest
    ∙ ap (λ (l : List ℕ). frames a ++ l) (append_assoc (1 ∷ body payload) (frames b) rest)
