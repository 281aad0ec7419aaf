use Rattle.std.proofs.Common.{rules, ◌≡◌, false, ℕ, subst}
use Rattle.rg_reservoir.specs.HeadsRead.{IsReadLog}
use Rattle.rg_reservoir.proofs.Legal.{is_other}
use Rattle.rg_reservoir.proofs.first.read_ours.Goals as goal

pub returns-in-Ok-false-clause-stops : goal.returns-in-Ok-false-clause-stops
returns-in-Ok-false-clause-stops g c = record {
  differs = λ e v told.
      let read = c.in-Ok-Some.read in
      let r : IsReadLog read c.read_frames.new.log.end (v 2) = subst (λ (f : ℕ). IsReadLog read c.read_frames.new.log.end (v f)) c.requires.start.1 ((rw c.in-Ok-Some.field-0-is at c.in-Ok-Some.ensures.read.read) v told) in
      let no : c.in-Ok-false.field-0 ≡ false = search rules in
      is_other c.args.schema.now r.start r.payloads read.so_far (v 2) r.has r.say (c.in-Ok-false.ensures.differs no);
  damaged = search rules;
  neither = search rules;
  disk = search rules;
}
