-- What each call on a pipe does.
use Rattle.std.specs.Prelude.{◌≡◌, ◌⊎◌, ℕ, ◌+◌, ◌<◌, ◌≤◌, ◌==◌, nat_lt, true, false, List, [], ◌++◌, length, take, drop, Option, Some, None, Result, Ok, Err, if◌then◌else◌}
use denote.Ref.{Bor}
use Rattle.rg_pipe.specs.Sent.{Sent, bytes_of, IsLegal}
use Rattle.rg_pipe.specs.Sent.Sent.{line, commit, save}
use Rattle.rg_pipe.specs.State.{PipeState}
use Rattle.rg_pipe.specs.Hand.{IsRequest, IsPart, BeginsNone, IsShort}
use Rattle.rg_pipe.specs.declared.request.Request.{Request}
use Rattle.rg_pipe.specs.declared.request.Request.TheVariants as request
use Rattle.rg_pipe.specs.declared.request.Whole.{Whole}
use Rattle.rg_pipe.specs.declared.fault.PipeFault.{PipeFault}
use Rattle.rg_pipe.specs.declared.fault.PipeFault.TheVariants.{Frame}
use Rattle.rg_pipe.specs.declared.progress.Found.{Found}
use Rattle.rg_pipe.specs.declared.progress.Found.TheVariants as found

-- what a pipe hands out, with a line's text as a list
pub data Given : Type 0 where
  row : ℕ → List ℕ → Given
  again : ℕ → Given
  gap : ℕ → ℕ → Given
  commits : Given
  saves : Given

-- what is handed out for a request where the next line is to have the expected offset
abbrev pub given_for : ℕ → Sent → Given
given_for expected (line offset text) = if offset == expected then row offset text else if nat_lt offset expected then again offset else gap offset expected
given_for expected commit = commits
given_for expected save = saves

-- the expected offset behind a request: only the line that has it raises it, by one
abbrev pub expected_after : ℕ → Sent → ℕ
expected_after expected (line offset text) = if offset == expected then expected + 1 else expected
expected_after expected commit = expected
expected_after expected save = expected

-- a request of the code as it is seen here
abbrev pub given_of : Request → Given
given_of (request.Line offset text) = row offset text.now
given_of (request.Again offset) = again offset
given_of (request.Gap offset expected) = gap offset expected
given_of request.Commit = commits
given_of request.Save = saves

-- what was found in the code as it is seen here, a line with this text
abbrev pub given_by : List ℕ → Found → Given
given_by text (found.Line offset) = row offset text
given_by text (found.Again offset) = again offset
given_by text (found.Gap offset expected) = gap offset expected
given_by text found.Commit = commits
given_by text found.Save = saves

-- The bytes in hand are one legal request. It is handed out as the expected offset says, and nothing is in hand behind it.
pub record Hands (old new : PipeState) (given : Given) : Type 0 where
  pub sent : Sent
  pub request : IsRequest sent old.pending
  pub given_is : given ≡ given_for old.expected sent
  pub passed : new ≡ record { pending = []; place = old.place + length old.pending; expected = expected_after old.expected sent; refused = old.refused }

-- The bytes in hand begin no request. The place is that of their first byte in the stream, and they stay in hand.
pub record Refuses (old new : PipeState) (place : ℕ) : Type 0 where
  pub none : BeginsNone old.pending
  pub at : place ≡ old.place
  pub stays : new ≡ record old { refused = true }

-- `next` answers None exactly where the bytes in hand are a proper prefix of a legal request, a request exactly where they are one, and
-- a refusal exactly where they begin none.
abbrev pub Next : PipeState → PipeState → Result (Option Request) PipeFault → Type 0
Next old new (Ok None) = IsPart old.pending × (new ≡ old)
Next old new (Ok (Some request)) = Hands old new (given_of request)
Next old new (Err (Frame place)) = Refuses old new place

-- The first n bytes of a piece were taken: one after another as long as the request in hand lacked some, and none after a refusal.
pub record Feeds (old new : PipeState) (piece : List ℕ) (n : ℕ) : Type 0 where
  pub within : n ≤ length piece
  pub taken : new ≡ record old { pending = old.pending ++ take n piece }
  pub lacked : (k : ℕ) → k < n → IsShort (old.pending ++ take k piece)
  pub none_refused : old.refused ≡ true → n ≡ 0
  pub no_more : old.refused ≡ false → n < length piece → IsShort new.pending → ⊥

-- The first n bytes of a piece are a request, which was handed out: as if they had been fed, and then `next` had been asked.
pub record FeedsAndHands (old new : PipeState) (piece : List ℕ) (n : ℕ) (given : Given) : Type 0 where
  pub fed : PipeState
  pub feeds : Feeds old fed piece n
  pub hands : Hands fed new given

-- Nothing is in hand, nothing was refused, and a whole legal request is at the front of the piece.
pub record MayPass (old : PipeState) (piece : List ℕ) : Type 0 where
  pub none_in_hand : old.pending ≡ []
  pub not_refused : old.refused ≡ false
  pub sent : Sent
  pub rest : List ℕ
  pub legal : IsLegal sent
  pub is : piece ≡ bytes_of sent ++ rest

-- `next_in` hands out the request at the front of a piece exactly where it may; else the pipe stays as it was
abbrev pub NextIn : PipeState → PipeState → List ℕ → Option Whole → Type 0
NextIn old new piece (Some whole) = FeedsAndHands old new piece whole.size (given_of whole.request)
NextIn old new piece None = (new ≡ old) × (MayPass old piece → ⊥)

-- `end` answers the expected offset where nothing is in hand. A proper prefix of a legal request that is in hand, or a refusal before,
-- is refused by the place of its first byte.
abbrev pub Ends : PipeState → Result ℕ PipeFault → Type 0
Ends p (Ok expected) = (expected ≡ p.expected) × (p.refused ≡ false) × (IsPart p.pending → p.pending ≡ [])
Ends p (Err (Frame place)) = (place ≡ p.place) × ((p.refused ≡ true) ⊎ (IsPart p.pending × (0 < length p.pending)))

-- what `load` finds, where the text of a line is this one
abbrev pub Finds : PipeState → PipeState → List ℕ → Result (Option Found) PipeFault → Type 0
Finds old new text (Ok None) = IsPart old.pending × (new ≡ old)
Finds old new text (Ok (Some found)) = Hands old new (given_by text found)
Finds old new text (Err (Frame place)) = Refuses old new place

-- what `load_from` hands out is the request at the front of a piece, with its bytes
abbrev pub LoadsFrom : PipeState → PipeState → List ℕ → Option (Found × Bor (List ℕ)) → Type 0
LoadsFrom old new piece (Some found) = (found.1.now ≡ take (length found.1.now) piece) × FeedsAndHands old new piece (length found.1.now) (given_by (drop 13 found.1.now) found.0)
LoadsFrom old new piece None = (new ≡ old) × (MayPass old piece → ⊥)
