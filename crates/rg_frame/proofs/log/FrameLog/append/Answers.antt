use Rattle.std.proofs.Common.{sym, subst, refl}
use Rattle.rg_host.specs.Image.{NothingPending, Becomes, InFile}
use Rattle.rg_frame.specs.LogState.{LogState, ReachesEnd}
use Rattle.rg_frame.specs.Steps.{From, Grows, Added}
use Rattle.rg_frame.proofs.Gates.{grows-same}
use Rattle.rg_frame.proofs.Runs.{Same, writes-none, writes-weaker, others-stay}
use Rattle.std.specs.Prelude.{⊤}
use Rattle.rg_frame.proofs.log.FrameLog.append.Goals as goal

pub returns-then-self-clause-leaves : goal.returns-then-self-clause-leaves
returns-then-self-clause-leaves g c =
    let start = writes-none g.H.Host.now g.H.Host.may g.H.Host.clock g.H.Host.since g.H.Host.said c.args.self.now.file _ (λ t u m. g.met.H.Host.sinks _ t u m) (λ m. g.met.H.Host.only_now _ m) in
    writes-weaker g.H.Host.now g.H.Host.may g.H.Host.clock g.H.Host.since g.H.Host.said c.args.self.now.file Same (From c.args.self.now.end (Grows c.args.payload.now)) _ _ start (λ w told b same. grows-same c.args.self.now.end c.args.payload.now (w c.args.self.now.file) b same)

pub add-requires : goal.add-requires
add-requires g c = record {
  numbered = c.self.invariant.0;
  room = c.self.invariant.1;
  reaches = subst (λ (s : LogState). ReachesEnd s (g.H.Host.now c.args.host.now)) (sym c.self.view_is) c.requires.reaches c.if-self.false;
}

pub returns-in-Ok-clause-pending : goal.returns-in-Ok-clause-pending
returns-in-Ok-clause-pending g c = subst (λ (s : LogState). NothingPending s.file (g.H.Host.now c.add.new.host) (g.H.Host.may c.add.new.host)) c.self.view_is c.in-Ok.ensures.added.pending

pub returns-then-self-clause-others : goal.returns-then-self-clause-others
returns-then-self-clause-others g c = others-stay c.args.self.now.file _ _ refl

pub returns-in-Ok-clause-others : goal.returns-in-Ok-clause-others
returns-in-Ok-clause-others g c = subst (λ (s : LogState). Becomes (g.H.Host.now c.args.host.now) (g.H.Host.now c.add.new.host) (InFile s.file (λ _ _. ⊤))) c.self.view_is c.add.ensures.wrote.others

pub returns-in-Err-clause-others : goal.returns-in-Err-clause-others
returns-in-Err-clause-others g c = subst (λ (s : LogState). Becomes (g.H.Host.now c.args.host.now) (g.H.Host.now c.add.new.host) (InFile s.file (λ _ _. ⊤))) c.self.view_is c.add.ensures.wrote.others

pub returns-in-Ok-clause-added : goal.returns-in-Ok-clause-added
returns-in-Ok-clause-added g c = subst (λ (s : LogState). Becomes (g.H.Host.now c.args.host.now) (g.H.Host.now c.add.new.host) (InFile s.file (Added s.end c.args.payload.now))) c.self.view_is c.in-Ok.ensures.added.added
