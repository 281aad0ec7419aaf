use Rattle.std.proofs.Common.{rules, ◌≡◌, ◌∙◌, ◌<◌, ◌^◌, ap, sym, subst, ℕ, List, Err}
use Rattle.rg_frame.specs.LogState.{LogState}
use Rattle.rg_frame.specs.Looks.{HoldsFrame, IsTorn, IsClosed}
use Rattle.rg_frame.specs.declared.fault.FrameFault.{FrameFault}
use Rattle.rg_reservoir.specs.declared.fault.ReservoirFault.{ReservoirFault}
use Rattle.rg_reservoir.specs.declared.fault.ReservoirFault.TheVariants.{Damaged, SchemaDiffers, Full, Ended}
use Rattle.rg_reservoir.specs.Walked.{IsTaken, IsUntaken}
use Rattle.rg_reservoir.proofs.Causes.{from_damaged, read_at, never_differs, never_full, never_ended}
use Rattle.rg_reservoir.proofs.Walking.{walk_next, walk_torn, walk_bad}
use Rattle.rg_reservoir.proofs.walk.Walk.next.Goals as goal

pub returns-in-Ok-None-clause-none : goal.returns-in-Ok-None-clause-none
returns-in-Ok-None-clause-none g c =
    let h = rw c.in-Ok-None.field-0-is at c.in-Ok-None.ensures.none in
    (search rules, λ v told. subst (λ (f : ℕ). IsClosed c.args.self.now.place (v f)) (ap (λ (l : LogState). l.file) c.new-log.ensures.fresh) (h v told))

pub returns-in-Err-clause-damaged : goal.returns-in-Err-clause-damaged
returns-in-Err-clause-damaged g c = λ p e.
    let same : c.from.result ≡ Damaged p = cc in
    let is = from_damaged c.in-Err.fault p (sym c.from.ensures ∙ same) in
    let at : p ≡ c.args.self.now.place = read_at c.in-Err.fault p c.args.self.now.place is c.in-Err.ensures.faults in
    let torn = c.in-Err.ensures.damaged p (ap (λ (f : FrameFault). Err f) is) in
    (at, λ v told. walk_torn (v 2) c.args.self.now (subst (λ (q : ℕ). IsTorn q (v 2)) at (subst (λ (f : ℕ). IsTorn p (v f)) (ap (λ (l : LogState). l.file) c.new-log.ensures.fresh) (torn v told))))

pub returns-in-Err-clause-neither : goal.returns-in-Err-clause-neither
returns-in-Err-clause-neither g c = (
  λ e. (let is : c.from.result ≡ SchemaDiffers = cc in never_differs c.in-Err.fault (sym c.from.ensures ∙ is)),
  λ e. (let is : c.from.result ≡ Full = cc in never_full c.in-Err.fault (sym c.from.ensures ∙ is)),
  λ e. (let is : c.from.result ≡ Ended = cc in never_ended c.in-Err.fault c.args.self.now.place c.in-Err.ensures.faults (sym c.from.ensures ∙ is)),
)

pub returns-in-Ok-clause-some : goal.returns-in-Ok-clause-some
returns-in-Ok-clause-some g c = λ v told.
    let h = rw c.in-Ok-Some.field-0-is at c.in-Ok-Some.ensures.some in
    let n = rw c.in-Ok-Some.field-0-is at c.in-Ok-Some.ensures.next in
    let f : c.in-Ok-Some.next < 2 ^ 62 = rw c.in-Ok-Some.field-0-is at c.in-Ok-Some.ensures.fits in
    let holds : HoldsFrame c.args.self.now.place c.read.new.out.items (v 2) = subst (λ (q : ℕ). HoldsFrame c.args.self.now.place c.read.new.out.items (v q)) (ap (λ (l : LogState). l.file) c.new-log.ensures.fresh) (h v told) in
    walk_next (v 2) c.read.new.out.items c.in-Ok-Some.next c.args.self.now c.take.new.self c.in-Ok.stage holds f n
    (subst (λ (l : List ℕ). IsTaken l c.in-Ok-Some.next c.args.self.now c.in-Ok.stage c.take.new.self) c.deref.ensures.value c.in-Ok.ensures.taken)

pub returns-clause-damaged : goal.returns-clause-damaged
returns-clause-damaged g c = λ p e.
    let same : c.in-Err-take.fault ≡ Damaged p = cc in
    let d = c.in-Err-take.ensures.damaged p (ap (λ (f : ReservoirFault). Err f) same) in
    let h = rw c.in-Ok-Some.field-0-is at c.in-Ok-Some.ensures.some in
    let n = rw c.in-Ok-Some.field-0-is at c.in-Ok-Some.ensures.next in
    let f : c.in-Ok-Some.next < 2 ^ 62 = rw c.in-Ok-Some.field-0-is at c.in-Ok-Some.ensures.fits in
    (d.0, λ v told. walk_bad (v 2) c.read.new.out.items c.in-Ok-Some.next c.args.self.now (subst (λ (q : ℕ). HoldsFrame c.args.self.now.place c.read.new.out.items (v q)) (ap (λ (l : LogState). l.file) c.new-log.ensures.fresh) (h v told)) f n (subst (λ (l : List ℕ). IsUntaken l c.args.self.now) c.deref.ensures.value d.1))
