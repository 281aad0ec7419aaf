-- What reading at a place finds.
use Rattle.std.specs.Prelude.{◌≡◌, ◌≢◌, ◌⊎◌, ◌+◌, ◌<◌, ◌≤◌, ◌^◌, ℕ, min, List, [], ◌∷◌, ◌++◌, length, take, drop, slice_index, Option, Result, OnErr, IfOk, IfErr, IfSome, IfNone, IsErrOf}
use Rattle.std.specs.Option.{ForSome}
use Rattle.rg_bytes.specs.Counts.{Rose}
use Rattle.rg_host.specs.Image.{Image}
use Rattle.rg_frame.specs.Frames.{body, Begins, IsCut}
use Rattle.rg_frame.specs.declared.fault.FrameFault.{FrameFault}
use Rattle.rg_frame.specs.declared.fault.FrameFault.TheVariants.{Damaged, Disk}

-- n bytes from that place: as many as the buffer takes, or all that are there
pub record IsRead (at n : ℕ) (buf bytes : List ℕ) : Type 0 where
  pub same : take n buf ≡ take n (drop at bytes)
  pub count : n ≡ min (length buf) (length (drop at bytes))

-- an open frame with this payload stands there, whole, and a byte behind it
pub record HoldsFrame (place : ℕ) (payload bytes : List ℕ) : Type 0 where
  pub rest : List ℕ
  pub is : drop place bytes ≡ 1 ∷ (body payload ++ rest)
  pub more : 0 < length rest

-- a whole frame stands at the place, whose payload has so many bytes
abbrev pub HoldsSize : ℕ → ℕ → List ℕ → Type 0
HoldsSize place size bytes = (payload : List ℕ) × HoldsFrame place payload bytes × (length payload ≡ size)

-- no open gate stands there, or the file has at most one byte
abbrev pub IsClosed : ℕ → List ℕ → Type 0
IsClosed place bytes = (length bytes ≤ 1) ⊎ (slice_index (drop place bytes) 0 ≢ 1)

-- an open gate stands there, and no whole frame and one more byte behind it
pub record IsTorn (place : ℕ) (bytes : List ℕ) : Type 0 where
  pub rest : List ℕ
  pub is : drop place bytes ≡ 1 ∷ rest
  pub longer : 1 < length bytes
  pub cut : IsCut rest

-- an open frame whose payload has so many bytes stands there, whole, and a byte behind it; the first bytes of the payload stand in a buffer, as many as it takes
pub record HoldsHead (place size : ℕ) (head bytes : List ℕ) : Type 0 where
  pub payload : List ℕ
  pub holds : HoldsFrame place payload bytes
  pub size_is : length payload ≡ size
  pub first : take (min (length head) size) head ≡ take (min (length head) size) payload

-- one frame more stands behind these: the size of its payload, the first bytes of it, and the place of the next gate
pub record Next (payloads : List (List ℕ)) (size : ℕ) (head : List ℕ) (next : ℕ) (bytes : List ℕ) : Type 0 where
  pub payload : List ℕ
  pub begins : Begins (payloads ++ payload ∷ []) next bytes
  pub size_is : length payload ≡ size
  pub first : take (min (length head) size) head ≡ take (min (length head) size) payload

-- A buffer is filled with the bytes of a file from a place on, as far as the file has any: so many of its bytes are read, and it keeps its length. A refusal
-- is a failure that was counted, and so is each call that read.
pub record FillsBuffer {E : Type 0} (now : Option Image) (file at : ℕ) (old new : List ℕ) (failed failed' looks looks' : ℕ) (result : Result ℕ E) : Type 0 where
  pub size : length new ≡ length old
  pub count : IfOk result (λ n. n ≤ length new)
  pub bytes : IfOk result (λ n. ForSome now (λ v. IsRead at n new (v file)))
  pub cause : OnErr result (Rose failed failed')
  pub reads : 0 < length old → Rose looks looks'

-- What a look at a place of a file finds: how many bytes the payload of the open frame there has, for which something was read; or no open gate.
pub record LookFinds (now : Option Image) (file place looks looks' : ℕ) (result : Result (Option ℕ) FrameFault) : Type 0 where
  pub some : IfOk result (λ r. IfSome r (λ size. ForSome now (λ v. HoldsSize place size (v file))))
  pub fits : IfOk result (λ r. IfSome r (λ size. place + size + 10 ≤ 2 ^ 62))
  pub none : IfOk result (λ r. IfNone r (ForSome now (λ v. IsClosed place (v file))))
  pub reads : IfOk result (λ r. IfSome r (λ _. Rose looks looks'))

-- Why it is refused: a call on the file failed and was counted, or the frame at the place is torn.
pub record LookRefuses (now : Option Image) (file place failed failed' : ℕ) (result : Result (Option ℕ) FrameFault) : Type 0 where
  pub damaged : (p : ℕ) → IsErrOf result (Damaged p) → (p ≡ place) × ForSome now (λ v. IsTorn place (v file))
  pub disk : IsErrOf result Disk → Rose failed failed'
  pub faults : IfErr result (λ fault. (fault ≡ Disk) ⊎ (fault ≡ Damaged place))
