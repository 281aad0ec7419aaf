-- The requests of an input, as far as a pipe has handed them out.
use Rattle.std.specs.Prelude.{◌≡◌, ◌≢◌, ℕ, ◌+◌, ◌≤◌, ◌^◌, Bool, true, false, List, [], ◌++◌, length, drop, Option, Some, Result, Ok, Err, ⊤}
use Rattle.rg_bytes.specs.Known.{before}
use Rattle.rg_bytes.specs.Reading.{list_bytes}
use Rattle.rg_pipe.specs.Sent.{Sent, bytes_of}
use Rattle.rg_pipe.specs.State.{PipeState}
use Rattle.rg_pipe.specs.Streams.{IsStream, expected_all, fresh}
use Rattle.rg_pipe.specs.Handing.{Feeds}
use Rattle.rg_pipe.specs.declared.fault.PipeFault.{PipeFault}
use Rattle.rg_pipe.specs.declared.fault.PipeFault.TheVariants as pipe
use Rattle.rg_serve.specs.Intaking.{Intaking}
use Rattle.rg_serve.specs.declared.fault.ServeFault.{ServeFault}
use Rattle.rg_serve.specs.declared.fault.ServeFault.TheVariants.{Turn, Read, Limit, Frame}

-- The first of these requests were handed out and the others are still to come, and then the rest. Of their bytes some are with the pipe,
-- some are held, and the others are still to be read.
pub record IsComing (first : ℕ) (requests : List Sent) (rest : List ℕ) (left : Option (List ℕ)) (p : PipeState) (held : List ℕ) : Type 0 where
  pub done : List Sent
  pub ahead : List Sent
  pub unread : List ℕ
  pub comes : left ≡ Some unread
  pub whole : requests ≡ done ++ ahead
  pub stream : IsStream ahead rest (p.pending ++ (held ++ unread))
  pub place_is : p.place ≡ length (list_bytes bytes_of done)
  pub expected_is : p.expected ≡ expected_all first done

-- The pipe goes on, and its bytes and those that are held are among those that were taken.
pub record CanGoOn (f : Intaking) (p : PipeState) : Type 0 where
  pub still_open : p.refused ≡ false
  pub within : f.taken ≤ 2 ^ 50
  pub counted : p.place + length p.pending + length f.held ≡ f.taken

-- Nothing is taken of an input, whose first line is to have this offset, where a line can have it.
pub record IsFresh (next : ℕ) (f : Intaking) (p : PipeState) : Type 0 where
  pub pipe : p ≡ fresh p.expected
  pub expected : next ≤ 2 ^ 62 → p.expected ≡ next
  pub held : f.held ≡ []
  pub taken : f.taken ≡ 0

-- A pipe was fed the first bytes that were held, and these are passed.
pub record FeedsHeld (old fed : PipeState) (f f_then : Intaking) : Type 0 where
  pub count : ℕ
  pub feeds : Feeds old fed f.held count
  pub passed : f_then ≡ record f { held = drop count f.held }

-- These bytes were taken of an input that had `start` and has `left`.
pub record IsTaken (start left : Option (List ℕ)) (taken : ℕ) : Type 0 where
  pub got : List ℕ
  pub took : start ≡ before got left
  pub count : taken ≡ length got

-- what a refusal of a pipe is to a serve
abbrev pub of_pipe : PipeFault → ServeFault
of_pipe (pipe.Frame place) = Frame place

-- More requests may come, or all came and there is no rest; or there is a rest, which begins at the place of a Frame.
abbrev pub ComesTo : List Sent → List ℕ → Type 0 → Result Bool ServeFault → Type 0
ComesTo requests rest on (Ok true) = on
ComesTo requests rest on (Ok false) = rest ≡ []
ComesTo requests rest on (Err (Turn fault)) = ⊤
ComesTo requests rest on (Err Read) = ⊤
ComesTo requests rest on (Err Limit) = ⊤
ComesTo requests rest on (Err (Frame place)) = (rest ≢ []) × (place ≡ length (list_bytes bytes_of requests))
