-- The requests of a whole stream, and what any calls on a pipe hand out of them.
use Rattle.std.specs.Prelude.{◌+◌, ◌<◌, ◌^◌, ◌≡◌, ℕ, false, List, [], ◌∷◌, ◌++◌, length, take, Option, Some, None, Result, Ok, Err, ⊤}
use Rattle.rg_bytes.specs.Reading.{list_bytes}
use Rattle.rg_pipe.specs.Sent.{Sent, bytes_of, has_lf, IsLegal}
use Rattle.rg_pipe.specs.State.{PipeState}
use Rattle.rg_pipe.specs.Handing.{Given, given_for, given_of, expected_after, Next, Feeds, FeedsAndHands}
use Rattle.rg_pipe.specs.declared.request.Request.{Request}
use Rattle.rg_pipe.specs.declared.fault.PipeFault.{PipeFault}

-- each of them is legal
abbrev pub AreLegal : List Sent → Type 0
AreLegal [] = ⊤
AreLegal (request ∷ requests) = IsLegal request × AreLegal requests

-- The bytes of a stream are those of these legal requests, one after another, and a rest that begins with none.
pub record IsStream (requests : List Sent) (rest bytes : List ℕ) : Type 0 where
  pub legal : AreLegal requests
  pub parts : bytes ≡ list_bytes bytes_of requests ++ rest
  pub no_more : (request : Sent) (more : List ℕ) → IsLegal request → rest ≡ bytes_of request ++ more → ⊥

-- what is handed out for requests, in order, where the first line is to have the expected offset
abbrev pub given_all : ℕ → List Sent → List Given
given_all expected [] = []
given_all expected (request ∷ requests) = given_for expected request ∷ given_all (expected_after expected request) requests

-- the expected offset behind requests
abbrev pub expected_all : ℕ → List Sent → ℕ
expected_all expected [] = expected
expected_all expected (request ∷ requests) = expected_all (expected_after expected request) requests

-- a call on a pipe: `feed` took so many first bytes of a piece, `next` answered so, or `next_in` handed out what so many first bytes are
pub data Call : Type 0 where
  fed : List ℕ → ℕ → Call
  asked : Result (Option Request) PipeFault → Call
  passed : List ℕ → ℕ → Request → Call

-- what a call does is what its contract says
abbrev pub Does : PipeState → Call → PipeState → Type 0
Does old (fed piece n) new = Feeds old new piece n
Does old (asked answer) new = Next old new answer
Does old (passed piece n request) new = FeedsAndHands old new piece n (given_of request)

-- calls, one after another
abbrev pub Runs : PipeState → List Call → PipeState → Type 0
Runs old [] new = new ≡ old
Runs old (call ∷ calls) new = (middle : PipeState) × Does old call middle × Runs middle calls new

-- the bytes that the calls took
abbrev pub bytes_in : List Call → List ℕ
bytes_in [] = []
bytes_in (fed piece n ∷ calls) = take n piece ++ bytes_in calls
bytes_in (asked answer ∷ calls) = bytes_in calls
bytes_in (passed piece n request ∷ calls) = take n piece ++ bytes_in calls

-- what the calls handed out
abbrev pub given_in : List Call → List Given
given_in [] = []
given_in (fed piece n ∷ calls) = given_in calls
given_in (asked (Ok (Some request)) ∷ calls) = given_of request ∷ given_in calls
given_in (asked (Ok None) ∷ calls) = given_in calls
given_in (asked (Err fault) ∷ calls) = given_in calls
given_in (passed piece n request ∷ calls) = given_of request ∷ given_in calls

-- a pipe before its stream
abbrev pub fresh : ℕ → PipeState
fresh expected = record { pending = []; place = 0; expected = expected; refused = false }

-- The calls handed out the first of the requests, in order, each once. The others are still to come: so much of them is in hand.
pub record HandsOut (expected : ℕ) (requests : List Sent) (rest more : List ℕ) (calls : List Call) (now : PipeState) : Type 0 where
  pub done : List Sent
  pub ahead : List Sent
  pub all : requests ≡ done ++ ahead
  pub given : given_in calls ≡ given_all expected done
  pub to_come : now.pending ++ more ≡ list_bytes bytes_of ahead ++ rest
  pub place : now.place ≡ length (list_bytes bytes_of done)
  pub expected_is : now.expected ≡ expected_all expected done

-- The calls handed out all of the requests, in order, each once, and what is in hand is the rest of the stream.
pub record HandsAll (expected : ℕ) (requests : List Sent) (rest : List ℕ) (calls : List Call) (now : PipeState) : Type 0 where
  pub given : given_in calls ≡ given_all expected requests
  pub left : now.pending ≡ rest
  pub place : now.place ≡ length (list_bytes bytes_of requests)
  pub expected_is : now.expected ≡ expected_all expected requests

-- Of a stream that goes on behind the bytes in hand with `more`: its next request was handed out, and the others are still to come.
pub record HandsNext (requests : List Sent) (rest more : List ℕ) (old new : PipeState) (given : Given) : Type 0 where
  pub sent : Sent
  pub ahead : List Sent
  pub all : requests ≡ sent ∷ ahead
  pub given_is : given ≡ given_for old.expected sent
  pub expected_is : new.expected ≡ expected_after old.expected sent
  pub place_is : new.place ≡ old.place + length (bytes_of sent)
  pub to_come : IsStream ahead rest (new.pending ++ more)

-- A line has this expected offset, below 2^62, and a text of at most 65,535 bytes and no LF.
pub record IsNextLine (expected offset : ℕ) (text : List ℕ) : Type 0 where
  pub offset_is : offset ≡ expected
  pub small : offset < 2 ^ 62
  pub short : length text < 65536
  pub no_lf : has_lf text ≡ false
