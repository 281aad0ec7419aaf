use Rattle.std.proofs.Common.{◌≡◌, ℕ, List, length, Err, ap, sym, subst, rules}
use Rattle.rg_checkpoint.specs.declared.sizes.SlotSizes.{SlotSizes}
use Rattle.rg_checkpoint.specs.Reached.{GoesOn}
use Rattle.rg_checkpoint.specs.Sizes.{more_sizes}
use Rattle.rg_checkpoint.specs.Updates.{Applies}
use Rattle.rg_checkpoint.proofs.FoundFrames.{all_found, none_listed, none_applies, one_applies}
use Rattle.rg_checkpoint.proofs.slot.read_change.Goals as goal

pub returns-in-Ok-End-clause-stage : goal.returns-in-Ok-End-clause-stage
returns-in-Ok-End-clause-stage g c =
    let found = rw c.in-Ok-End.field-0-is at c.in-Ok-End.ensures.found in
    all_found (g.H.Host.now c.args.host.now) c.args.read.now c.next_payload.new.log c.requires found

pub returns-in-Ok-Torn-clause-stage : goal.returns-in-Ok-Torn-clause-stage
returns-in-Ok-Torn-clause-stage g c =
    let found = rw c.in-Ok-Torn.field-0-is at c.in-Ok-Torn.ensures.found in
    none_listed (g.H.Host.now c.args.host.now) c.args.read.now c.next_payload.new.log c.requires found

pub returns-in-Err-BadCheckpoint-clause-stage : goal.returns-in-Err-BadCheckpoint-clause-stage
returns-in-Err-BadCheckpoint-clause-stage g c =
    let read = c.args.read.now in
    let found = rw c.in-Ok-Payload.field-0-is at c.in-Ok-Payload.ensures.found in
    none_applies (g.H.Host.now c.args.host.now) read c.next_payload.new.log c.requires c.in-Ok-Payload.payload.items found
    (λ next applies. c.in-Err-BadCheckpoint.ensures.bad (ap (λ f. Err f) c.in-Err-BadCheckpoint.field-0-is) next (subst (λ (p : List ℕ). Applies p read.checkpoint next) (sym c.deref.ensures.value) applies))

pub returns-clause-stage : goal.returns-clause-stage
returns-clause-stage g c =
    let read = c.args.read.now in
    let found = rw c.in-Ok-Payload.field-0-is at c.in-Ok-Payload.ensures.found in
    let applies = subst (λ (p : List ℕ). Applies p read.checkpoint c.apply_changes.new.onto) c.deref.ensures.value c.in-Ok.ensures.ok in
    let more = one_applies (g.H.Host.now c.args.host.now) read c.next_payload.new.log c.requires c.in-Ok-Payload.payload.items found c.apply_changes.new.onto applies in
    let counted : c.with_change-read.result ≡ more_sizes read.end.sizes (length c.in-Ok-Payload.payload.items) = search rules in
    subst (λ (s : SlotSizes). GoesOn (g.H.Host.now c.args.host.now) read.end.log.file read (record { checkpoint = c.apply_changes.new.onto; end = record { log = c.next_payload.new.log; sizes = s } })) (sym counted) more
