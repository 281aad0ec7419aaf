-- What the writes of a call do to a file.
use Rattle.std.specs.Prelude.{◌≡◌, ◌≢◌, ◌⊎◌, ◌+◌, ◌<◌, ◌≤◌, ℕ, List, [], ◌∷◌, ◌++◌, length, take, drop, slice_index, Option}
use Rattle.std.specs.Option.{ForSome}
use Rattle.rg_host.specs.Image.{Image, NothingPending}
use Rattle.rg_frame.specs.Frames.{body, HasPayloads, EndsAt}

-- the other files are, together, as in one image that a crash could leave
abbrev pub OthersStay : ℕ → (Image → Type 0) → Image → Type 0
OthersStay file may v = (u : Image) × may u × ((f : ℕ) → f ≢ file → v f ≡ u f)

-- what a call that writes this file alone may leave: the others as they could be left, and this one, where it had nothing pending, after such a step
abbrev pub Leaves : ℕ → (List ℕ → List ℕ → Type 0) → Option Image → (Image → Type 0) → Image → Type 0
Leaves file Step now may v = OthersStay file may v × (NothingPending file now may → ForSome now (λ w. Step (w file) (v file)))

-- the frame list as it was, or with this payload behind it
abbrev pub Grows : List ℕ → List ℕ → List ℕ → Type 0
Grows payload old new = (payloads : List (List ℕ)) → HasPayloads payloads old → HasPayloads payloads new ⊎ HasPayloads (payloads ++ payload ∷ []) new

-- the frame list with this payload behind it
abbrev pub Grown : List ℕ → List ℕ → List ℕ → Type 0
Grown payload old new = (payloads : List (List ℕ)) → HasPayloads payloads old → HasPayloads (payloads ++ payload ∷ []) new

-- a step, where the frame list ends at that place before it
abbrev pub From : ℕ → (List ℕ → List ℕ → Type 0) → List ℕ → List ℕ → Type 0
From end Step old new = EndsAt end old → Step old new

-- where the frame list ended at that place, it has this payload behind it and ends at the next one
abbrev pub Appended : ℕ → List ℕ → ℕ → List ℕ → List ℕ → Type 0
Appended end payload next old new = EndsAt end old → Grown payload old new × EndsAt next new

-- the file as it was, or without a frame
abbrev pub OldOrNone : List ℕ → List ℕ → Type 0
OldOrNone old new = (new ≡ old) ⊎ HasPayloads [] new

-- the gate at the head of the file is closed where it was open, with the rest as it was; another file is as it was
abbrev pub Shut : List ℕ → List ℕ → Type 0
Shut old new = ((slice_index old 0 ≡ 1) × (new ≡ 0 ∷ drop 1 old)) ⊎ ((slice_index old 0 ≢ 1) × (new ≡ old))

-- the file is as it was, or had and has at most one byte
abbrev pub Brief : List ℕ → List ℕ → Type 0
Brief old new = (new ≡ old) ⊎ ((length old ≤ 1) × (length new ≤ 1))

-- a file of at most one byte is a closed gate now, and another one is as it was
abbrev pub Begun : List ℕ → List ℕ → Type 0
Begun old new = ((1 < length old) × (new ≡ old)) ⊎ ((length old ≤ 1) × (new ≡ 0 ∷ []))

-- the first k bytes stay
pub record Keeps (k : ℕ) (old new : List ℕ) : Type 0 where
  pub prefix : take k new ≡ take k old
  pub size : k ≤ length old → k ≤ length new

-- what stands behind the gate once a frame is staged: its body, and a closed gate
abbrev pub staging : List ℕ → List ℕ
staging payload = body payload ++ 0 ∷ []

-- the frame stands behind the gate at that place, a closed gate behind it, and behind that what stood there
abbrev pub Staged : ℕ → List ℕ → List ℕ → List ℕ → Type 0
Staged end payload old new = new ≡ take (end + 1) old ++ (staging payload ++ drop (end + 10 + length payload) old)

-- the bytes before that place as they were, an open gate, the frame, a closed gate, and behind that the bytes that stood there
abbrev pub Added : ℕ → List ℕ → List ℕ → List ℕ → Type 0
Added end payload old new = new ≡ take end old ++ 1 ∷ (staging payload ++ drop (end + 10 + length payload) old)
