use Rattle.std.proofs.Common.{rules, ◌≡◌, ◌∙◌, ap, subst, ℕ, []}
use Rattle.rg_frame.specs.Frames.{IsLog}
use Rattle.rg_frame.specs.LogState.{LogState}
use Rattle.rg_reservoir.specs.HeadsRead.{IsReadLog}
use Rattle.rg_reservoir.proofs.Firsts.{read_opened}
use Rattle.rg_reservoir.proofs.first.read_log.Goals as goal

pub returns-in-Ok-Some-clause-read : goal.returns-in-Ok-Some-clause-read
returns-in-Ok-Some-clause-read g c =
    let is_file : c.new-log.result.file ≡ 2 = ap (λ (l : LogState). l.file) c.new-log.ensures.fresh in
    let same = c.read_ours.ensures.read.same in
    let read = c.in-Ok-Some.read in
    record {
      opened = λ v told.
          let known = rw c.in-Ok-Some.field-0-is at c.in-Ok-Some.ensures.ours in
          read_opened c.args.schema.now read c.read_ours.new.log.end (v 2) known
          (subst (λ (f : ℕ). IsReadLog read c.read_ours.new.log.end (v f)) is_file ((rw c.in-Ok-Some.field-0-is at c.in-Ok-Some.ensures.read.read) v told));
      none = search rules;
      log = (same.0 ∙ is_file, c.in-Ok-Some.ensures.read.ready, same.1 ∙ ap (λ (l : LogState). l.ended) c.new-log.ensures.fresh, rw c.in-Ok-Some.field-0-is at c.in-Ok-Some.ensures.read.few);
    }

pub returns-in-Ok-None-clause-read : goal.returns-in-Ok-None-clause-read
returns-in-Ok-None-clause-read g c = record {
  opened = search rules;
  none = λ v told.
      let is_file : c.new-log.result.file ≡ 2 = ap (λ (l : LogState). l.file) c.new-log.ensures.fresh in
      subst (λ (f : ℕ). IsLog [] 0 (v f)) is_file ((rw c.in-Ok-None.field-0-is at c.in-Ok-None.ensures.read.none).1 v told);
  log = search rules;
}
