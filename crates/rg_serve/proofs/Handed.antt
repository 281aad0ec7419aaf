-- What a pipe hands out can be answered.
use Rattle.std.proofs.Common.{◌≡◌, ℕ, ◌≤◌, List, drop, Option, Some, None, Result, Ok, Err, sym, ◌∙◌, ap, subst, arith}
use Rattle.std.specs.Prelude.{IfOk}
use Rattle.rg_config.specs.Plans.{Planned}
use Rattle.rg_pipe.specs.State.{PipeState}
use Rattle.rg_pipe.specs.Handing.{Hands, Feeds, FeedsAndHands, Next, given_of}
use Rattle.rg_pipe.specs.declared.request.Request.{Request}
use Rattle.rg_pipe.specs.declared.request.Request.TheVariants as request
use Rattle.rg_pipe.specs.declared.request.Whole.{Whole}
use Rattle.rg_pipe.specs.declared.fault.PipeFault.{PipeFault}
use Rattle.rg_pipe.specs.declared.fault.PipeFault.TheVariants as pipe
use Rattle.rg_pipe.proofs.Laws.{next_line}
use Rattle.rg_task.specs.View.{View}
use Rattle.rg_run.specs.declared.fault.TurnFault.{TurnFault}
use Rattle.rg_serve.specs.Calls.{IsFit, IsDue, Answers}
use Rattle.rg_serve.specs.Intaking.{Intaking}
use Rattle.rg_serve.specs.UnderWay.{IsFitAsked, AnswersAsked, Handled, StepsBy, Steps}
use Rattle.rg_serve.specs.declared.step.Step.{Step}
use Rattle.rg_serve.specs.declared.step.Step.TheVariants.{Answered, Lacks, Refused}

pub fit : (fed p : PipeState) (r : Request) → Hands fed p (given_of r) → IsFit r
fit fed p (request.Line offset text) hands = let line = next_line fed p offset text.now hands in (line.small, line.no_lf)
fit fed p (request.Again offset) hands = tt
fit fed p (request.Gap offset expected) hands = tt
fit fed p request.Commit hands = tt
fit fed p request.Save hands = tt

pub fit_asked : (fed p : PipeState) (asked : Result (Option Request) PipeFault) → Next fed p asked → IsFitAsked asked
fit_asked fed p (Ok (Some r)) next = fit fed p r next
fit_asked fed p (Ok None) next = tt
fit_asked fed p (Err fault) next = tt

due_by : (fed p : PipeState) (r : Request) (n : ℕ) → Hands fed p (given_of r) → n ≤ fed.expected → IsDue r n
due_by fed p (request.Line offset text) n hands low = let line = next_line fed p offset text.now hands in omega (arith, low, line.offset_is)
due_by fed p (request.Again offset) n hands low = tt
due_by fed p (request.Gap offset expected) n hands low = tt
due_by fed p request.Commit n hands low = tt
due_by fed p request.Save n hands low = tt

module _ {K : Type 0} (view : View K) (plan : Planned) (fed p : PipeState) (gathered gathered_then : List ℕ) (old new : K) where
  steps_ok : (step : Step) → step ≡ Answered → Handled view plan fed p gathered gathered_then (Ok step) old new → StepsBy view plan fed p gathered gathered_then (Ok step) old new
  steps_ok Answered is handled = handled
  steps_ok Lacks is handled = absurd (cc)
  steps_ok (Refused place) is handled = absurd (cc)

  pub steps_by : (asked : Result (Option Request) PipeFault) (result : Result Step TurnFault) → Next fed p asked → AnswersAsked view plan asked gathered gathered_then result old new → StepsBy view plan fed p gathered gathered_then result old new
  steps_by (Ok (Some r)) (Ok step) next answers = steps_ok step answers.0 (record { given = given_of r; hands = next; answers = λ low. answers.1 (due_by fed p r (view.at old).next next low) })
  steps_by (Ok (Some r)) (Err fault) next answers = record { given = given_of r; hands = next; answers = λ low. answers.1 (due_by fed p r (view.at old).next next low) }
  steps_by (Ok None) result next answers =
      subst (λ (r : Result Step TurnFault). StepsBy view plan fed p gathered gathered_then r old new) (sym answers.0) (next.0, next.1, answers.1, answers.2)
  steps_by (Err (pipe.Frame place)) result next answers =
      subst (λ (r : Result Step TurnFault). StepsBy view plan fed p gathered gathered_then r old new) (sym answers.0) (next, answers.1, answers.2)

module _ {K : Type 0} (view : View K) (plan : Planned) (gathered gathered_then : List ℕ) (old new : K) where
  -- a request that was handed out was answered or not
  pub asked_some : (asked : Result (Option Request) PipeFault) (found : Option Request) (r : Request) (result : Result Step TurnFault) → asked ≡ Ok found → found ≡ Some r → IfOk result (λ step. step ≡ Answered)
      → (IsDue r (view.at old).next → Answers view plan (given_of r) gathered gathered_then result old new) → AnswersAsked view plan asked gathered gathered_then result old new
  asked_some asked found r result is some step answers =
      subst (λ (x : Result (Option Request) PipeFault). AnswersAsked view plan x gathered gathered_then result old new) (sym (is ∙ ap (λ (x : Option Request). Ok x) some)) (step, answers)

-- a request that was whole at the front of what is held was answered or not
pub steps_here : {K : Type 0} (view : View K) (plan : Planned) (p p_then : PipeState) (f f_then : Intaking) (piece gathered gathered_then : List ℕ) (old new : K) (whole : Whole) (result : Result Step TurnFault) → piece ≡ f.held → FeedsAndHands p p_then piece whole.size (given_of whole.request)
    → f_then ≡ record f { held = drop whole.size f.held } → AnswersAsked view plan (Ok (Some whole.request)) gathered gathered_then result old new → Steps view plan p p_then f f_then gathered gathered_then result old new
steps_here view plan p p_then f f_then piece gathered gathered_then old new whole result same h passed answers = record {
  fed = h.fed;
  feeds = record { count = whole.size; feeds = subst (λ (l : List ℕ). Feeds p h.fed l whole.size) same h.feeds; passed = passed };
  step = steps_by view plan h.fed p_then gathered gathered_then old new (Ok (Some whole.request)) result h.hands answers;
}
