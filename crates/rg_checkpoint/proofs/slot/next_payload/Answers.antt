use Rattle.std.proofs.Common.{◌≡◌, Err, ap, sym, ◌∙◌, rules}
use Rattle.rg_checkpoint.proofs.FoundFrames.{payload_found, other_length, none_found, torn_found}
use Rattle.rg_checkpoint.proofs.slot.next_payload.Goals as goal

pub returns-then-next-head-clause-found : goal.returns-then-next-head-clause-found
returns-then-next-head-clause-found g c = λ v told.
    let head = c.in-Ok-Some.head in
    let some = rw c.in-Ok-Some.field-0-is at c.in-Ok-Some.ensures.some in
    let moved = rw c.in-Ok-Some.field-0-is at c.in-Ok-Some.ensures.moved in
    let below = rw c.in-Ok-Some.field-0-is at c.in-Ok-Some.ensures.next in
    let holds = rw c.in-Ok-Some-read.field-0-is at c.in-Ok-Some-read.ensures.some in
    let at = rw c.in-Ok-Some-read.field-0-is at c.in-Ok-Some-read.ensures.next in
    let within = rw c.in-Ok-Some-read.field-0-is at c.in-Ok-Some-read.ensures.fits in
    other_length c.args.log.now c.step.new.self head.place head.length head.next c.in-Ok-Some-read.next _ c.read.new.out.items v moved.0 moved.1 moved.2 below at within (search rules) (some v told).0 (holds v (c.step.ensures.leaves.now_stays ∙ told))

pub returns-in-Ok-Some-read-clause-found : goal.returns-in-Ok-Some-read-clause-found
returns-in-Ok-Some-read-clause-found g c =
    let head = c.in-Ok-Some.head in
    let moved = rw c.in-Ok-Some.field-0-is at c.in-Ok-Some.ensures.moved in
    let below = rw c.in-Ok-Some.field-0-is at c.in-Ok-Some.ensures.next in
    let holds = rw c.in-Ok-Some-read.field-0-is at c.in-Ok-Some-read.ensures.some in
    let at = rw c.in-Ok-Some-read.field-0-is at c.in-Ok-Some-read.ensures.next in
    let same : c.in-Ok-Some-read.next ≡ head.next = search rules in
    payload_found c.args.log.now c.step.new.self head.place head.length head.next c.read.new.out.items _ moved.0 moved.1 moved.2 below (sym same ∙ at) (λ v told. holds v (c.step.ensures.leaves.now_stays ∙ told))

pub returns-in-Ok-None-read-clause-found : goal.returns-in-Ok-None-read-clause-found
returns-in-Ok-None-read-clause-found g c = λ v told.
    let head = c.in-Ok-Some.head in
    let some = rw c.in-Ok-Some.field-0-is at c.in-Ok-Some.ensures.some in
    let moved = rw c.in-Ok-Some.field-0-is at c.in-Ok-Some.ensures.moved in
    let below = rw c.in-Ok-Some.field-0-is at c.in-Ok-Some.ensures.next in
    let none = rw c.in-Ok-None-read.field-0-is at c.in-Ok-None-read.ensures.none in
    none_found c.args.log.now c.step.new.self head.place head.length head.next _ v moved.0 moved.1 moved.2 below (some v told).0 (none v (c.step.ensures.leaves.now_stays ∙ told))

pub returns-in-Err-Damaged-read-clause-found : goal.returns-in-Err-Damaged-read-clause-found
returns-in-Err-Damaged-read-clause-found g c = λ v told.
    let head = c.in-Ok-Some.head in
    let moved = rw c.in-Ok-Some.field-0-is at c.in-Ok-Some.ensures.moved in
    let place = c.in-Err-Damaged-read.field-0-0 in
    let torn = c.in-Err-Damaged-read.ensures.damaged place (ap (λ f. Err f) c.in-Err-Damaged-read.field-0-is) in
    torn_found c.args.log.now c.step.new.self c.in-Err-Damaged-read.field-0 place head.place head.next v moved.0 moved.2 c.in-Err-Damaged-read.ensures.faults c.in-Err-Damaged-read.field-0-is (torn v (c.step.ensures.leaves.now_stays ∙ told))
