-- A serve whose input is under way, at its end, and stopped.
use Rattle.std.specs.Prelude.{◌≡◌, ◌⊎◌, ℕ, ◌≤◌, Bool, true, false, List, [], ◌∷◌, ◌++◌, length, Option, Some, None, Result, Ok, Err, OnOk, IfOk, IfErr, ⊤}
use Rattle.rg_bytes.specs.Reading.{list_bytes}
use Rattle.rg_event.specs.Rising.{next_offset}
use Rattle.rg_host.specs.Moments.{Moments}
use Rattle.rg_config.specs.Plans.{Planned}
use Rattle.rg_pipe.specs.Sent.{Sent, bytes_of}
use Rattle.rg_pipe.specs.Hand.{IsPart}
use Rattle.rg_pipe.specs.State.{PipeState}
use Rattle.rg_pipe.specs.Streams.{given_all, expected_all}
use Rattle.rg_pipe.specs.Handing.{Given, Hands, Refuses, given_of}
use Rattle.rg_pipe.specs.declared.request.Request.{Request}
use Rattle.rg_pipe.specs.declared.fault.PipeFault.{PipeFault}
use Rattle.rg_pipe.specs.declared.fault.PipeFault.TheVariants as pipe
use Rattle.rg_run_spec.specs.Output.{open_line}
use Rattle.rg_task.specs.View.{View}
use Rattle.rg_run.specs.declared.fault.TurnFault.{TurnFault}
use Rattle.rg_run.specs.declared.fault.TurnFault.TheVariants as turn
use Rattle.rg_serve_spec.specs.Frames.{frames_of}
use Rattle.rg_serve_spec.specs.Replies.{replies_to}
use Rattle.rg_serve_spec.specs.Errands.{Errand, StaysOnErrand}
use Rattle.rg_serve.specs.Serving.{IsAwaiting, HasHalted, HasServed}
use Rattle.rg_serve.specs.Calls.{Answers, IsFit, IsDue}
use Rattle.rg_serve.specs.Coming.{IsComing, FeedsHeld}
use Rattle.rg_serve.specs.Intaking.{Intaking}
use Rattle.rg_serve.specs.declared.step.Step.{Step}
use Rattle.rg_serve.specs.declared.step.Step.TheVariants.{Answered, Lacks, Refused}
use Rattle.rg_serve.specs.declared.fault.ServeFault.{ServeFault}
use Rattle.rg_serve.specs.declared.fault.ServeFault.TheVariants.{Turn, Read, Limit, Frame}

-- An errand is to answer these requests, the first line of which is expected at the store's next offset.
pub record IsAskedFor (e : Errand) (requests : List Sent) : Type 0 where
  pub given_is : e.given ≡ given_all (next_offset e.held) requests
  pub offset_is : e.offset ≡ expected_all (next_offset e.held) requests

-- what is asked can be taken
abbrev pub IsFitAsked : Result (Option Request) PipeFault → Type 0
IsFitAsked (Ok (Some request)) = IsFit request
IsFitAsked (Ok None) = ⊤
IsFitAsked (Err fault) = ⊤

module _ {K : Type 0} (view : View K) where
  -- what came of what a pipe answered: a request was answered, and else nothing was done
  abbrev pub AnswersAsked : Planned → Result (Option Request) PipeFault → List ℕ → List ℕ → Result Step TurnFault → K → K → Type 0
  AnswersAsked plan (Ok (Some request)) gathered gathered_then result old new =
      IfOk result (λ step. step ≡ Answered) × (IsDue request (view.at old).next → Answers view plan (given_of request) gathered gathered_then result old new)
  AnswersAsked plan (Ok None) gathered gathered_then result old new = (result ≡ Ok Lacks) × (gathered_then ≡ gathered) × (new ≡ old)
  AnswersAsked plan (Err (pipe.Frame place)) gathered gathered_then result old new = (result ≡ Ok (Refused place)) × (gathered_then ≡ gathered) × (new ≡ old)

  -- A request was handed out, and answered or not.
  pub record Handled (plan : Planned) (fed p : PipeState) (gathered gathered_then : List ℕ) (result : Result Step TurnFault) (old new : K) : Type 0 where
    pub given : Given
    pub hands : Hands fed p given
    pub answers : (view.at old).next ≤ fed.expected → Answers view plan given gathered gathered_then result old new

  -- what came of a request in hand
  abbrev pub StepsBy : Planned → PipeState → PipeState → List ℕ → List ℕ → Result Step TurnFault → K → K → Type 0
  StepsBy plan fed p gathered gathered_then (Ok Answered) old new = Handled plan fed p gathered gathered_then (Ok Answered) old new
  StepsBy plan fed p gathered gathered_then (Ok Lacks) old new = IsPart fed.pending × (p ≡ fed) × (gathered_then ≡ gathered) × (new ≡ old)
  StepsBy plan fed p gathered gathered_then (Ok (Refused place)) old new = Refuses fed p place × (gathered_then ≡ gathered) × (new ≡ old)
  StepsBy plan fed p gathered gathered_then (Err fault) old new = Handled plan fed p gathered gathered_then (Err fault) old new

  -- The pipe was fed what is held, and then this came of it.
  pub record Steps (plan : Planned) (p p_then : PipeState) (f f_then : Intaking) (gathered gathered_then : List ℕ) (result : Result Step TurnFault) (old new : K) : Type 0 where
    pub fed : PipeState
    pub feeds : FeedsHeld p fed f f_then
    pub step : StepsBy plan fed p_then gathered gathered_then result old new

  -- Between two requests of the input: the first were answered.
  pub record IsUnderWay (plan : Planned) (e : Errand) (requests : List Sent) (rest : List ℕ) (left : Option (List ℕ)) (p : PipeState) (held : List ℕ) (t : K) (gathered : List ℕ) : Type 0 where
    pub coming : IsComing (next_offset e.held) requests rest left p held
    pub awaiting : IsAwaiting view plan e (given_all p.expected coming.ahead) t gathered

  -- Just the replies to these requests were put, whole, behind the open line, and whatever image is left keeps what they say.
  pub record HasReplied (plan : Planned) (e : Errand) (asked : List Sent) (t : K) : Type 0 where
    pub told : view.said t ≡ Some (e.said ++ frames_of ((open_line e.held e.from ∷ []) ∷ replies_to e.terms e.held (given_all (next_offset e.held) asked)))
    pub halted : HasHalted view plan e t

  -- The serve stopped at a read of the input: each request that had come whole was answered, and its reply was put. `limit` says that the
  -- input is too long; then a byte past the limit was taken, and dropped.
  pub record StopsAtRead (plan : Planned) (e : Errand) (requests : List Sent) (rest : List ℕ) (left : Option (List ℕ)) (t : K) (limit : Type 0) : Type 0 where
    pub done : List Sent
    pub ahead : List Sent
    pub whole : requests ≡ done ++ ahead
    pub part : List ℕ
    pub past : List ℕ
    pub unread : List ℕ
    pub comes : left ≡ Some unread
    pub to_come : list_bytes bytes_of ahead ++ rest ≡ part ++ (past ++ unread)
    pub within : IsPart part
    pub one : length past ≤ 1
    pub none_past : (past ≡ []) ⊎ limit
    pub replied : HasReplied plan e done t

  -- why a serve ended: at a Frame, a Read and a Limit no reply was lost; else whole replies were put, unless a put failed
  abbrev pub HasEnded : Planned → Errand → List Sent → List ℕ → Option (List ℕ) → K → ServeFault → Type 0
  HasEnded plan e requests rest left t (Turn fault) = (fault ≡ turn.Write) ⊎ HasHalted view plan e t
  HasEnded plan e requests rest left t Read = StopsAtRead plan e requests rest left t ⊥
  HasEnded plan e requests rest left t Limit = StopsAtRead plan e requests rest left t ⊤
  HasEnded plan e requests rest left t (Frame place) = HasReplied plan e requests t

  -- what came of the next request, or of the end
  abbrev pub GoesTo : Planned → Errand → List Sent → List ℕ → Option (List ℕ) → PipeState → List ℕ → List ℕ → Result Bool ServeFault → K → Type 0
  GoesTo plan e requests rest left p held gathered (Ok true) t = IsUnderWay plan e requests rest left p held t gathered
  GoesTo plan e requests rest left p held gathered (Ok false) t = HasServed view plan e t
  GoesTo plan e requests rest left p held gathered (Err fault) t = HasEnded plan e requests rest left t fault

  -- One request of the input was answered, or its end, or bytes were read.
  pub record GoesOn (plan : Planned) (e : Errand) (requests : List Sent) (rest : List ℕ) (left : Option (List ℕ)) (p : PipeState) (held gathered : List ℕ) (result : Result Bool ServeFault) (old new : K) : Type 0 where
    pub moments : Moments view.clock view.since old new (StaysOnErrand (view.store plan) e [])
    pub outcome : GoesTo plan e requests rest left p held gathered result new

  -- What is gathered is put where no request begins at that place: just the replies of the requests that were awaited are put, or a put failed.
  pub record Refusing (place : ℕ) (result : ServeFault) (gathered : List ℕ) (old new : K) : Type 0 where
    pub moments : (plan : Planned) (e : Errand) (ahead : List Given) → IsAwaiting view plan e ahead old gathered → Moments view.clock view.since old new (StaysOnErrand (view.store plan) e [])
    pub awaits : (plan : Planned) (e : Errand) (ahead : List Given) → IsAwaiting view plan e ahead old gathered → (result ≡ Turn turn.Write) ⊎ ((result ≡ Frame place) × IsAwaiting view plan e ahead new [])

  -- The input has ended: the end was put, or the input ended within a request and nothing was done.
  pub record Closes (plan : Planned) (p : PipeState) (result : Result Bool ServeFault) (old new : K) : Type 0 where
    pub moments : (e : Errand) → e.offset ≡ p.expected → IsAwaiting view plan e [] old [] → Moments view.clock view.since old new (StaysOnErrand (view.store plan) e [])
    pub served : (e : Errand) → e.offset ≡ p.expected → IsAwaiting view plan e [] old [] → OnOk result (HasServed view plan e new)
    pub halted : (e : Errand) → e.offset ≡ p.expected → IsAwaiting view plan e [] old [] → IfErr result (λ fault. (fault ≡ Turn turn.Write) ⊎ HasHalted view plan e new)
