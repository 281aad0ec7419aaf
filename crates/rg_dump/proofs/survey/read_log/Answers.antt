use Rattle.std.proofs.Common.{◌∙◌, List, None, sym, ap, subst}
use Rattle.rg_event.specs.declared.value.Value.{Value}
use Rattle.rg_dump.specs.declared.survey.Survey.{Survey}
use Rattle.rg_dump.proofs.Leaves.{read-none, read-then}
use Rattle.rg_dump.proofs.Surveying.{IsSurveyed, survey_start, survey_next, survey_end}
use Rattle.rg_dump.proofs.survey.read_log.Goals as goal

pub frames-init : goal.frames-init
frames-init g c = record {
  surveyed = λ v told. survey_start (v 2) _ _ c.new-walk.ensures.place c.new-walk.ensures.schema c.new-walk.ensures.tally (ap (λ (l : List Value). record { schema = None; values = l }) c.new.ensures);
  leaves = read-none g.H.Host.now g.H.Host.may g.H.Host.clock g.H.Host.since g.H.Host.said g.H.Host.disk_faults g.H.Host.out_faults _ (λ t u m. g.met.H.Host.sinks _ t u m) (λ m. g.met.H.Host.only_now _ m);
}

pub returns-in-Ok-None-clause-says : goal.returns-in-Ok-None-clause-says
returns-in-Ok-None-clause-says g c = λ v told.
    let last = rw c.in-Ok-None.field-0-is at c.in-Ok-None.ensures.none in
    survey_end (v 2) c.frames.walk c.frames.survey (c.frames.invariant.surveyed v told) (last v (c.frames.invariant.leaves.leaves.now_stays ∙ told))

pub frames-preserved : goal.frames-preserved
frames-preserved g c =
    let next = rw c.in-Ok-Some.field-0-is at c.in-Ok-Some.ensures.some in
    record {
      surveyed = λ v told.
          subst (λ (s : Survey). IsSurveyed (v 2) c.read_next.new.walk s) (sym c.in-Ok.ensures)
          (survey_next (v 2) c.frames.walk c.read_next.new.walk c.frames.survey c.in-Ok-Some.stage (c.frames.invariant.surveyed v told) (next v (c.frames.invariant.leaves.leaves.now_stays ∙ told)));
      leaves = read-then g.H.Host.now g.H.Host.may g.H.Host.clock g.H.Host.since g.H.Host.said g.H.Host.disk_faults g.H.Host.out_faults _ _ _ c.frames.invariant.leaves c.read_next.ensures.leaves;
    }
