use Rattle.std.proofs.Common.{◌≡◌, ◌∙◌, ℕ, List, Option, length, Err, ap, sym, subst, rules}
use Rattle.std.specs.Prelude.{IfOk}
use Rattle.rg_host.specs.Image.{Image}
use Rattle.rg_checkpoint.specs.Base.{IsBase}
use Rattle.rg_checkpoint.specs.Reached.{IsBegun, IsReadSlot}
use Rattle.rg_frame.specs.LogState.{LogState}
use Rattle.rg_checkpoint.specs.Sizes.{sizes_of}
use Rattle.rg_checkpoint.specs.declared.sizes.SlotSizes.{SlotSizes}
use Rattle.rg_checkpoint.proofs.FoundFrames.{none_first, torn_first, bad_base, base_read}
use Rattle.rg_checkpoint.proofs.slot.read_slot.Goals as goal

pub returns-in-Ok-End-clause-slot : goal.returns-in-Ok-End-clause-slot
returns-in-Ok-End-clause-slot g c = none_first (g.H.Host.now c.args.host.now) c.args.file c.new-log.result c.next_payload.new.log c.new-log.ensures.fresh (rw c.in-Ok-End.field-0-is at c.in-Ok-End.ensures.found)

pub returns-in-Ok-Torn-clause-slot : goal.returns-in-Ok-Torn-clause-slot
returns-in-Ok-Torn-clause-slot g c = torn_first (g.H.Host.now c.args.host.now) c.args.file c.new-log.result c.next_payload.new.log c.new-log.ensures.fresh (rw c.in-Ok-Torn.field-0-is at c.in-Ok-Torn.ensures.found)

pub returns-in-Err-BadCheckpoint-clause-slot : goal.returns-in-Err-BadCheckpoint-clause-slot
returns-in-Err-BadCheckpoint-clause-slot g c =
    bad_base (g.H.Host.now c.args.host.now) c.args.file c.new-log.result c.next_payload.new.log c.new-log.ensures.fresh c.in-Ok-Payload.payload.items (rw c.in-Ok-Payload.field-0-is at c.in-Ok-Payload.ensures.found)
    (λ checkpoint base. c.in-Err-BadCheckpoint.ensures.bad (ap (λ f. Err f) c.in-Err-BadCheckpoint.field-0-is) checkpoint (subst (λ (p : List ℕ). IsBase p checkpoint) (sym c.deref.ensures.value) base))

pub read_changes-requires : goal.read_changes-requires
read_changes-requires g c =
    let log = c.next_payload.new.log in
    let items = c.in-Ok-Payload.payload.items in
    let found = rw c.in-Ok-Payload.field-0-is at c.in-Ok-Payload.ensures.found in
    let base = subst (λ (p : List ℕ). IsBase p c.in-Ok.checkpoint) c.deref.ensures.value c.in-Ok.ensures.ok in
    let begun = base_read (g.H.Host.now c.args.host.now) c.args.file c.new-log.result log c.new-log.ensures.fresh items found c.in-Ok.checkpoint base in
    let sized : c.of_base-sizes.result ≡ sizes_of (length items) = search rules in
    let here =
    subst (λ (s : SlotSizes). IsBegun (g.H.Host.now c.args.host.now) c.args.file (record { checkpoint = c.in-Ok.checkpoint; end = record { log = log; sizes = s } })) (sym sized) begun
    in
    let of_log =
    subst (λ (f : ℕ). IsBegun (g.H.Host.now c.args.host.now) f (record { checkpoint = c.in-Ok.checkpoint; end = record { log = log; sizes = c.of_base-sizes.result } })) (sym begun.file_is) here
    in
    subst (λ (n : Option Image). IsBegun n log.file (record { checkpoint = c.in-Ok.checkpoint; end = record { log = log; sizes = c.of_base-sizes.result } })) (sym c.next_payload.ensures.quiet.leaves.now_stays) of_log

pub returns-clause-slot : goal.returns-clause-slot
returns-clause-slot g c =
    let found = rw c.in-Ok-Payload.field-0-is at c.in-Ok-Payload.ensures.found in
    let file : c.next_payload.new.log.file ≡ c.args.file = ap (λ (l : LogState). l.file) found.moved ∙ ap (λ (l : LogState). l.file) c.new-log.ensures.fresh in
    subst (λ (n : Option Image). IfOk c.read_changes.result (IsReadSlot n c.args.file)) c.next_payload.ensures.quiet.leaves.now_stays
    (subst (λ (f : ℕ). IfOk c.read_changes.result (IsReadSlot (g.H.Host.now c.next_payload.new.host) f)) file c.read_changes.ensures.slot)
