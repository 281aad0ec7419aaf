-- What the judge answers on the bytes of one request.
use Rattle.std.specs.Prelude.{◌≡◌, ℕ, ◌==◌, ◌<◌, ◌≤◌, ◌&&◌, ◌||◌, nat_le, Bool, true, List, [], ◌∷◌, take, drop, ◌++◌, length, Option, Some, None}
use denote.Ref.{Bor}
use Rattle.rg_pipe.specs.Sent.{Sent, bytes_of, IsLegal}
use Rattle.rg_pipe.specs.Sent.Sent.{line, commit, save}
use Rattle.rg_pipe.specs.Hand.{IsRequest, IsPart, BeginsNone, size_of}
use Rattle.rg_pipe.specs.declared.judge.Kind.{Kind}
use Rattle.rg_pipe.specs.declared.judge.Kind.TheVariants.{Line, Commit, Save}
use Rattle.rg_pipe.specs.declared.judge.Judged.{Judged}
use Rattle.rg_pipe.specs.declared.judge.Judged.TheVariants.{Part, Whole, Never}

-- the request of this kind, a line with this text
abbrev pub sent_of : Kind → List ℕ → Sent
sent_of (Line offset) text = line offset text
sent_of Commit text = commit
sent_of Save text = save

-- the judgement of these bytes is right; the text of a line begins behind 13 bytes
abbrev pub Judges : Judged → List ℕ → Type 0
Judges Part bytes = IsPart bytes
Judges (Whole kind) bytes = IsRequest (sent_of kind (drop 13 bytes)) bytes
Judges Never bytes = BeginsNone bytes

-- these bytes, fewer than 4, begin the length of some request: the greatest length is 65,544
abbrev pub begins_length : List ℕ → Bool
begins_length [] = true
begins_length (a ∷ []) = a == 0
begins_length (a ∷ (b ∷ [])) = (a == 0) && nat_le b 1
begins_length (a ∷ (b ∷ (c ∷ bytes))) = (a == 0) && ((b == 0) || ((b == 1) && (c == 0)))

-- how many bytes the first request of a piece has, where the piece has so many; none where it has fewer
abbrev pub IsFirstSize : List ℕ → Option ℕ → Type 0
IsFirstSize piece (Some size) = (size ≡ size_of piece) × (size ≤ length piece)
IsFirstSize piece None = length piece < size_of piece

-- the request at the front of a piece, and its bytes; none exactly where no legal request is there whole
abbrev pub IsFirst : List ℕ → Option (Kind × Bor (List ℕ)) → Type 0
IsFirst piece (Some first) = (first.1.now ≡ take (length first.1.now) piece) × (length first.1.now ≤ length piece) × IsRequest (sent_of first.0 (drop 13 first.1.now)) first.1.now
IsFirst piece None = (sent : Sent) (rest : List ℕ) → IsLegal sent → piece ≡ bytes_of sent ++ rest → ⊥
