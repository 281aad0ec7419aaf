use Rattle.std.proofs.Common.{inl, subst, refl}
use Rattle.rg_host.specs.Image.{NothingPending, Becomes, InFile}
use Rattle.rg_frame.specs.LogState.{LogState}
use Rattle.rg_frame.specs.Steps.{OldOrNone, Shut}
use Rattle.rg_frame.proofs.Runs.{Same, writes-none, writes-weaker, others-stay}
use Rattle.std.specs.Prelude.{⊤}
use Rattle.rg_frame.proofs.log.FrameLog.clear.Goals as goal

pub returns-then-self-clause-leaves : goal.returns-then-self-clause-leaves
returns-then-self-clause-leaves g c =
    let start = writes-none g.H.Host.now g.H.Host.may g.H.Host.clock g.H.Host.since g.H.Host.said c.args.self.now.file _ (λ t u m. g.met.H.Host.sinks _ t u m) (λ m. g.met.H.Host.only_now _ m) in
    writes-weaker g.H.Host.now g.H.Host.may g.H.Host.clock g.H.Host.since g.H.Host.said c.args.self.now.file Same OldOrNone _ _ start (λ w told b same. inl same)

pub returns-in-Ok-clause-pending : goal.returns-in-Ok-clause-pending
returns-in-Ok-clause-pending g c = subst (λ (s : LogState). NothingPending s.file (g.H.Host.now c.args.host.now) (g.H.Host.may c.args.host.now) → NothingPending s.file (g.H.Host.now c.close.new.host) (g.H.Host.may c.close.new.host)) c.self.view_is c.in-Ok.ensures.closed.pending

pub returns-then-self-clause-others : goal.returns-then-self-clause-others
returns-then-self-clause-others g c = others-stay c.args.self.now.file _ _ refl

pub returns-in-Ok-clause-others : goal.returns-in-Ok-clause-others
returns-in-Ok-clause-others g c = subst (λ (s : LogState). Becomes (g.H.Host.now c.args.host.now) (g.H.Host.now c.close.new.host) (InFile s.file (λ _ _. ⊤))) c.self.view_is c.close.ensures.wrote.others

pub returns-in-Err-clause-others : goal.returns-in-Err-clause-others
returns-in-Err-clause-others g c = subst (λ (s : LogState). Becomes (g.H.Host.now c.args.host.now) (g.H.Host.now c.close.new.host) (InFile s.file (λ _ _. ⊤))) c.self.view_is c.close.ensures.wrote.others

pub returns-in-Ok-clause-shut : goal.returns-in-Ok-clause-shut
returns-in-Ok-clause-shut g c = subst (λ (s : LogState). Becomes (g.H.Host.now c.args.host.now) (g.H.Host.now c.close.new.host) (InFile s.file Shut)) c.self.view_is c.in-Ok.ensures.closed.shut
