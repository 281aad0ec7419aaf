use Rattle.rg_reservoir.specs.declared.fault.ReservoirFault.TheVariants.{Damaged}
use Rattle.std.proofs.Common.{rules}
use Rattle.rg_reservoir.specs.Kept.{base, view_of}
use Rattle.rg_reservoir.specs.Views.{shape_at}
use Rattle.rg_reservoir.proofs.Peeking.{err_moves}
use Rattle.rg_reservoir.proofs.Seeking.{kept_others, cached_moved, absent_none}
use Rattle.rg_reservoir.proofs.Fetching.{fetch_none, chunk_legal, closed_legal}
use Rattle.rg_reservoir.proofs.reservoir.Reservoir.touch.Goals as goal

pub returns-clause-only : goal.returns-clause-only
returns-clause-only g c = record {
  stays = search rules;
  cached = λ v told was.
      let h = rw c.in-Ok-Some.field-0-is at c.in-Ok-Some.ensures.fetched.some in
      kept_others (view_of (base c.args.self.now)) (v c.args.self.now.log.file) c.promote.new.self c.put.new.self c.args.place c.in-Ok-Some.kept (h v told) c.in-Ok.ensures.others (cached_moved (view_of (base c.args.self.now)) (v c.args.self.now.log.file) c.args.self.now.cache c.promote.new.self c.promote.ensures.items was);
  inside = search rules;
  leaves = search rules;
  disk_faults_rise = search rules;
  out_faults_stay = search rules;
}

pub returns-in-Err-put-clause-only : goal.returns-in-Err-put-clause-only
returns-in-Err-put-clause-only g c = record {
  stays = search rules;
  cached = λ v told was.
      let moved = cached_moved (view_of (base c.args.self.now)) (v c.args.self.now.log.file) c.args.self.now.cache c.promote.new.self c.promote.ensures.items was in
      rw c.in-Err-put.ensures.unchanged moved;
  inside = search rules;
  leaves = search rules;
  disk_faults_rise = search rules;
  out_faults_stay = search rules;
}

pub returns-in-Ok-None-clause-touched : goal.returns-in-Ok-None-clause-touched
returns-in-Ok-None-clause-touched g c = record {
  held = search rules;
  absent = λ found v told.
      let h = rw c.in-Ok-None.field-0-is at c.in-Ok-None.ensures.fetched.none in
      absent_none (view_of (base c.args.self.now)) c.args.place c.args.self.now.log.end (v c.args.self.now.log.file) (fetch_none (view_of (base c.args.self.now)) c.args.place (v c.args.self.now.log.file) (h v told));
  legal = λ v told was.
      let h = rw c.in-Ok-None.field-0-is at c.in-Ok-None.ensures.fetched.none in
      closed_legal (shape_at (view_of (base c.args.self.now)) c.args.place).fields c.args.place (v c.args.self.now.log.file) (h v told);
  places_are = search rules;
  left = search rules;
  refused = search rules;
  no_fewer = search rules;
  items = search rules;
  hit = search rules;
  miss = search rules;
  never_damaged = search rules;
}

pub returns-then-kept-end-clause-only : goal.returns-then-kept-end-clause-only
returns-then-kept-end-clause-only g c = record {
  stays = search rules;
  cached = λ v told was. cached_moved (view_of (base c.args.self.now)) (v c.args.self.now.log.file) c.args.self.now.cache c.promote.new.self c.promote.ensures.items was;
  inside = search rules;
  leaves = search rules;
  disk_faults_rise = search rules;
  out_faults_stay = search rules;
}

pub returns-in-Err-clause-touched : goal.returns-in-Err-clause-touched
returns-in-Err-clause-touched g c = record {
  held = search rules;
  absent = search rules;
  legal = search rules;
  places_are = search rules;
  left = search rules;
  refused = search rules;
  no_fewer = search rules;
  items = search rules;
  hit = search rules;
  miss = search rules;
  never_damaged = λ v chunk next p told here e. c.in-Err.ensures.fetched.never_damaged v chunk next p told here (err_moves c.in-Err.fault (Damaged p) e);
}

pub returns-clause-touched : goal.returns-clause-touched
returns-clause-touched g c = record {
  held = search rules;
  absent = search rules;
  legal = λ v told was.
      let h = rw c.in-Ok-Some.field-0-is at c.in-Ok-Some.ensures.fetched.some in
      chunk_legal (view_of (base c.args.self.now)) c.args.place c.in-Ok-Some.kept.next c.in-Ok-Some.kept.chunk (v c.args.self.now.log.file) (h v told);
  places_are = search rules;
  left = search rules;
  refused = search rules;
  no_fewer = search rules;
  items = search rules;
  hit = search rules;
  miss = search rules;
  never_damaged = search rules;
}

pub returns-then-kept-end-clause-touched : goal.returns-then-kept-end-clause-touched
returns-then-kept-end-clause-touched g c = record {
  held = search rules;
  absent = search rules;
  legal = λ v told was.
      let h = rw c.in-Ok-Some.field-0-is at c.in-Ok-Some.ensures.fetched.some in
      chunk_legal (view_of (base c.args.self.now)) c.args.place c.in-Ok-Some.kept.next c.in-Ok-Some.kept.chunk (v c.args.self.now.log.file) (h v told);
  places_are = search rules;
  left = search rules;
  refused = search rules;
  no_fewer = search rules;
  items = search rules;
  hit = search rules;
  miss = search rules;
  never_damaged = search rules;
}

pub returns-in-Ok-None-clause-only : goal.returns-in-Ok-None-clause-only
returns-in-Ok-None-clause-only g c = record {
  stays = search rules;
  cached = λ v told was. cached_moved (view_of (base c.args.self.now)) (v c.args.self.now.log.file) c.args.self.now.cache c.promote.new.self c.promote.ensures.items was;
  inside = search rules;
  leaves = search rules;
  disk_faults_rise = search rules;
  out_faults_stay = search rules;
}

pub returns-in-Err-clause-stops : goal.returns-in-Err-clause-stops
returns-in-Err-clause-stops g c = record {
  damaged = λ p e v told. c.in-Err.ensures.stops.damaged p (err_moves c.in-Err.fault (Damaged p) e) v told;
  disk = search rules;
  faults = search rules;
}
