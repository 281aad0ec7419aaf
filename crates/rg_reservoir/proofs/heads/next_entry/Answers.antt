use Rattle.std.proofs.Common.{rules, ◌≡◌, ◌∙◌, ap, sym, subst, ℕ, List, Option, Some, take, arith}
use Rattle.rg_host.specs.Image.{Image}
use Rattle.rg_frame.specs.Frames.{payload_at}
use Rattle.rg_frame.specs.LogState.{LogState, ReachesEnd}
use Rattle.rg_frame.specs.Looks.{Next}
use Rattle.rg_log.specs.Entries.{entry_of}
use Rattle.rg_reservoir.proofs.Heading.{chunk_found, whole_found}
use Rattle.rg_reservoir.proofs.heads.next_entry.Goals as goal

pub returns-in-Ok-None-clause-found : goal.returns-in-Ok-None-clause-found
returns-in-Ok-None-clause-found g c = record {
  place = search rules;
  some = search rules;
  none =
      let none = rw c.in-Ok-None.field-0-is at c.in-Ok-None.ensures.none in
      (rw c.in-Ok-None.field-0-is at c.in-Ok-None.ensures.ready, λ v told. (none v told).1);
  small = search rules;
  reaches = c.step.ensures.reaches;
  same = search rules;
}

pub returns-in-Some-clause-found : goal.returns-in-Some-clause-found
returns-in-Some-clause-found g c =
    let d = rw c.in-Ok-Some.field-0-is at c.in-Ok-Some.ensures.moved in
    let most = rw c.in-Ok-Some.field-0-is at c.in-Ok-Some.ensures.next in
    let end : c.step.new.self.end ≡ c.in-Ok-Some.found.next = ap (λ (l : LogState). l.end) d.2 in
    record {
      place = (d.0, c.end-next.ensures.end, omega (arith, end, d.1));
      some = λ w told payloads b.
          let h = rw c.in-Ok-Some.field-0-is at c.in-Ok-Some.ensures.some in
          let found : Next payloads c.in-Ok-Some.found.length c.step.new.head c.step.new.self.end (w c.args.log.now.file) = subst (λ (n : ℕ). Next payloads c.in-Ok-Some.found.length c.step.new.head n (w c.args.log.now.file)) (sym end) ((h w told).1 payloads b) in
          let tells : (payload : List ℕ) → take 37 (take c.shorter.result c.step.new.head) ≡ take 37 payload → entry_of c.args.so_far.now.schema payload ≡ Some c.in-Some.entry = λ payload same. c.in-Some.ensures payload same in
          chunk_found payloads c.args.log.now.end c.step.new.self.end c.in-Ok-Some.found.length c.shorter.result c.step.new.head (w c.args.log.now.file) c.args.so_far.now.schema c.in-Some.entry tells (search rules) c.shorter.ensures b (omega (arith, end, most)) found;
      none = search rules;
      small = omega (arith, end, most);
      reaches = c.step.ensures.reaches;
      same = (ap (λ (l : LogState). l.file) d.2, ap (λ (l : LogState). l.ended) d.2);
    }

pub returns-in-Ok-clause-found : goal.returns-in-Ok-clause-found
returns-in-Ok-clause-found g c =
    let d = rw c.in-Ok-Some.field-0-is at c.in-Ok-Some.ensures.moved in
    let most = rw c.in-Ok-Some.field-0-is at c.in-Ok-Some.ensures.next in
    let end : c.step.new.self.end ≡ c.in-Ok-Some.found.next = ap (λ (l : LogState). l.end) d.2 in
    let file : c.step.new.self.file ≡ c.args.log.now.file = ap (λ (l : LogState). l.file) d.2 in
    record {
      place = (d.0, c.end-next.ensures.end, omega (arith, end, d.1));
      some = λ w told payloads b.
          let h = rw c.in-Ok-Some.field-0-is at c.in-Ok-Some.ensures.some in
          let found : Next payloads c.in-Ok-Some.found.length c.step.new.head c.step.new.self.end (w c.args.log.now.file) = subst (λ (n : ℕ). Next payloads c.in-Ok-Some.found.length c.step.new.head n (w c.args.log.now.file)) (sym end) ((h w told).1 payloads b) in
          let tells : (payload : List ℕ) → payload_at c.args.log.now.end (w c.args.log.now.file) ≡ Some payload → c.in-Ok.entry ≡ entry_of c.args.so_far.now.schema payload = λ payload here.
          c.in-Ok.ensures.whole.entry w (c.step.ensures.leaves.now_stays ∙ told) payload
          (subst (λ (f : ℕ). payload_at c.in-Ok-Some.found.place (w f) ≡ Some payload) (sym file) (subst (λ (n : ℕ). payload_at n (w c.args.log.now.file) ≡ Some payload) (sym d.0) here)) in
          whole_found payloads c.args.log.now.end c.step.new.self.end c.in-Ok-Some.found.length c.step.new.head (w c.args.log.now.file) c.args.so_far.now.schema c.in-Ok.entry tells b (omega (arith, end, most)) found;
      none = search rules;
      small = omega (arith, end, most);
      reaches = λ r. subst (λ (o : Option Image). ReachesEnd c.step.new.self o) (sym c.whole_entry.ensures.leaves.leaves.now_stays) (c.step.ensures.reaches r);
      same = (file, ap (λ (l : LogState). l.ended) d.2);
    }
