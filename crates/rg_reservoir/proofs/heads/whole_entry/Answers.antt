use Rattle.std.proofs.Common.{rules, ◌∙◌, ap, sym, refl}
use Rattle.rg_log.specs.Entries.{entry_of}
use Rattle.rg_reservoir.proofs.Heading.{read_whole}
use Rattle.rg_reservoir.proofs.heads.whole_entry.Goals as goal

pub returns-in-Ok-clause-whole : goal.returns-in-Ok-clause-whole
returns-in-Ok-clause-whole g c = record {
  entry = λ v told payload here.
      let holds = (rw c.in-Ok-Some.field-0-is at c.in-Ok-Some.ensures.some) v told in
      let next = rw c.in-Ok-Some.field-0-is at c.in-Ok-Some.ensures.next in
      let fits = rw c.in-Ok-Some.field-0-is at c.in-Ok-Some.ensures.fits in
      let same = read_whole c.args.place c.in-Ok-Some.field-0-0 c.read.new.out.items payload (v c.args.log.now.file) holds fits next here in
      sym c.in-Ok.ensures.is ∙ ap (entry_of c.args.so_far.now.schema) (c.deref.ensures.value ∙ same);
  damaged = search rules;
  faults = search rules;
  disk = search rules;
}

pub returns-in-Err-Bad-clause-whole : goal.returns-in-Err-Bad-clause-whole
returns-in-Err-Bad-clause-whole g c = record {
  entry = λ v told payload here.
      let holds = (rw c.in-Ok-Some.field-0-is at c.in-Ok-Some.ensures.some) v told in
      let next = rw c.in-Ok-Some.field-0-is at c.in-Ok-Some.ensures.next in
      let fits = rw c.in-Ok-Some.field-0-is at c.in-Ok-Some.ensures.fits in
      let same = read_whole c.args.place c.in-Ok-Some.field-0-0 c.read.new.out.items payload (v c.args.log.now.file) holds fits next here in
      let none = (rw c.in-Err-Bad.field-0-is at c.in-Err-Bad.ensures.bad) refl in
      sym none ∙ ap (entry_of c.args.so_far.now.schema) (c.deref.ensures.value ∙ same);
  damaged = search rules;
  faults = search rules;
  disk = search rules;
}
