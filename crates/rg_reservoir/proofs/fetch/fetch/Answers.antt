use Rattle.std.proofs.Common.{rules, ◌≡◌, ◌∙◌, ap, sym, subst, refl, ℕ, ◌<◌, ◌^◌, Some, Err}
use Rattle.rg_frame.specs.declared.fault.FrameFault.{FrameFault}
use Rattle.rg_reservoir.specs.declared.fault.ReservoirFault.TheVariants as reservoir
use Rattle.rg_reservoir.proofs.Causes.{from_damaged, read_at}
use Rattle.rg_reservoir.specs.Chain.{IsIllegalBy}
use Rattle.rg_reservoir.specs.Views.{seen_from, shape_at}
use Rattle.rg_reservoir.proofs.Fetching.{fetch_some, fetch_torn, fetch_bad, never_illegal}
use Rattle.rg_reservoir.proofs.fetch.fetch.Goals as goal

pub returns-in-Err-clause-stops : goal.returns-in-Err-clause-stops
returns-in-Err-clause-stops g c = record {
  damaged = λ p e v told.
      let same : c.from.result ≡ reservoir.Damaged p = cc in
      let is = from_damaged c.in-Err.fault p (sym c.from.ensures ∙ same) in
      fetch_torn (shape_at (seen_from c.args.schema.now c.args.growths.now) p).fields p (v c.args.log.now.file) (c.in-Err.ensures.damaged p (ap (λ (f : FrameFault). Err f) is) v told);
  disk = search rules;
  faults = search rules;
}

pub returns-in-Ok-clause-fetched : goal.returns-in-Ok-clause-fetched
returns-in-Ok-clause-fetched g c = record {
  some = λ v told.
      let h = rw c.in-Ok-Some.field-0-is at c.in-Ok-Some.ensures.some in
      let n = rw c.in-Ok-Some.field-0-is at c.in-Ok-Some.ensures.next in
      let f : c.in-Ok-Some.next < 2 ^ 62 = rw c.in-Ok-Some.field-0-is at c.in-Ok-Some.ensures.fits in
      fetch_some (seen_from c.args.schema.now c.args.growths.now) c.args.place c.in-Ok-Some.next c.read.new.out.items (v c.args.log.now.file) c.in-Ok.chunk (h v told) f n (rw (← c.deref.ensures.value) c.in-Ok.ensures)
      ∙ ap (λ (place : ℕ). Some (c.in-Ok.chunk, place)) (sym c.passed.ensures);
  none = search rules;
  never_damaged = search rules;
  no_fewer = search rules;
  rose = search rules;
}

pub returns-in-Err-BadChunk-clause-stops : goal.returns-in-Err-BadChunk-clause-stops
returns-in-Err-BadChunk-clause-stops g c = record {
  damaged = λ p e v told.
      let same : c.args.place ≡ p = cc in
      let agreed = rw c.in-Err-BadChunk.field-0-is at c.in-Err-BadChunk.ensures in
      let h = rw c.in-Ok-Some.field-0-is at c.in-Ok-Some.ensures.some in
      let n = rw c.in-Ok-Some.field-0-is at c.in-Ok-Some.ensures.next in
      let f : c.in-Ok-Some.next < 2 ^ 62 = rw c.in-Ok-Some.field-0-is at c.in-Ok-Some.ensures.fits in
      subst (λ (q : ℕ). IsIllegalBy (seen_from c.args.schema.now c.args.growths.now) q (v c.args.log.now.file)) same (fetch_bad (seen_from c.args.schema.now c.args.growths.now) c.args.place c.in-Ok-Some.next c.read.new.out.items (v c.args.log.now.file) (h v told) f n (rw (← c.deref.ensures.value) agreed));
  disk = search rules;
  faults = search rules;
}

pub returns-in-Err-clause-fetched : goal.returns-in-Err-clause-fetched
returns-in-Err-clause-fetched g c = record {
  some = search rules;
  none = search rules;
  never_damaged = λ v chunk next p told here e.
      let same : c.from.result ≡ reservoir.Damaged p = cc in
      let is = from_damaged c.in-Err.fault p (sym c.from.ensures ∙ same) in
      let at = read_at c.in-Err.fault p c.args.place is c.in-Err.ensures.faults in
      let torn = c.in-Err.ensures.damaged p (ap (λ (f : FrameFault). Err f) is) v told in
      never_illegal (seen_from c.args.schema.now c.args.growths.now) c.args.place next p chunk (v c.args.log.now.file) here at (fetch_torn (shape_at (seen_from c.args.schema.now c.args.growths.now) p).fields p (v c.args.log.now.file) torn);
  no_fewer = search rules;
  rose = search rules;
}

pub returns-in-Err-BadChunk-clause-fetched : goal.returns-in-Err-BadChunk-clause-fetched
returns-in-Err-BadChunk-clause-fetched g c = record {
  some = search rules;
  none = search rules;
  never_damaged = λ v chunk next p told here e.
      let agreed = rw c.in-Err-BadChunk.field-0-is at c.in-Err-BadChunk.ensures in
      let h = rw c.in-Ok-Some.field-0-is at c.in-Ok-Some.ensures.some in
      let n = rw c.in-Ok-Some.field-0-is at c.in-Ok-Some.ensures.next in
      let f : c.in-Ok-Some.next < 2 ^ 62 = rw c.in-Ok-Some.field-0-is at c.in-Ok-Some.ensures.fits in
      let bad = fetch_bad (seen_from c.args.schema.now c.args.growths.now) c.args.place c.in-Ok-Some.next c.read.new.out.items (v c.args.log.now.file) (h v told) f n (rw (← c.deref.ensures.value) agreed) in
      never_illegal (seen_from c.args.schema.now c.args.growths.now) c.args.place next c.args.place chunk (v c.args.log.now.file) here refl bad;
  no_fewer = search rules;
  rose = search rules;
}
