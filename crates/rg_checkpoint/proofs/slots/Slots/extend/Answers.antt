use Rattle.std.proofs.Common.{◌≡◌, ◌+◌, ℕ, length, false, ap, sym, ◌∙◌, subst, arith}
use Rattle.std.specs.Prelude.{⊤}
use Rattle.rg_host.specs.Image.{Becomes, InFile, NothingPending}
use Rattle.rg_frame.specs.LogState.{LogState}
use Rattle.rg_frame.proofs.Laws.{writes-others}
use Rattle.rg_checkpoint.specs.declared.slot.SlotEnd.{SlotEnd}
use Rattle.rg_checkpoint.specs.Sizes.{OfSizes, end_of}
use Rattle.rg_checkpoint.specs.Slots.{Attached, Lengthens, sizes_in}
use Rattle.rg_checkpoint.proofs.Lengthening.{extends_leaves, extends_none, extends_grown, extends_written, known_sizes, below_two, put_back, elsewhere_stays, reaches_log, reaches_put, log_reaches}
use Rattle.rg_checkpoint.proofs.slots.Slots.extend.Goals as goal

pub returns-then-self-clause-leaves : goal.returns-then-self-clause-leaves
returns-then-self-clause-leaves g c =
    extends_none g.H.Host.now g.H.Host.may g.H.Host.clock g.H.Host.since g.H.Host.said c.args.i (sizes_in c.args.self.now c.args.i) c.args.payload.now c.args.host.now (λ t u m. g.met.H.Host.sinks _ t u m) (λ m. g.met.H.Host.only_now _ m)

pub append-requires-clause-reaches : goal.append-requires-clause-reaches
append-requires-clause-reaches g c =
    let end = c.in-Some.end in
    let is = rw c.in-Some.is at c.take_end.ensures.is_end in
    let given = rw c.in-Some.is at c.take_end.ensures.sizes in
    let fresh = ap (λ (s : Attached). record s { fresh = false }) c.self.view_is in
    let known = known_sizes c.args.self.now _ c.args.i end.sizes fresh given in
    let going : c.args.self.now.ended ≡ false = ap (λ (s : Attached). s.ended) (sym c.self.view_is) ∙ c.if-self.false in
    reaches_log c.args.self.now c.args.i end.sizes end.log (g.H.Host.now c.args.host.now) is.file_is is.place known going c.requires.reaches

pub count-requires : goal.count-requires
count-requires g c =
    let is = rw c.in-Some.is at c.take_end.ensures.is_end in
    ap (λ (l : LogState). l.end) c.in-Ok.ensures.ok ∙ ap (λ (n : ℕ). n + 9 + length c.args.payload.now) is.place

pub returns-in-Ok-clause-grown : goal.returns-in-Ok-clause-grown
returns-in-Ok-clause-grown g c =
    let end = c.in-Some.end in
    let is = rw c.in-Some.is at c.take_end.ensures.is_end in
    let given = rw c.in-Some.is at c.take_end.ensures.sizes in
    let fresh = ap (λ (s : Attached). record s { fresh = false }) c.self.view_is in
    let known = known_sizes c.args.self.now _ c.args.i end.sizes fresh given in
    extends_grown end.log.file c.args.i end.log.end c.append.new.self.end (sizes_in c.args.self.now c.args.i) end.sizes c.args.payload.now _ _ is.file_is known is.place c.in-Ok.ensures.appended

pub returns-in-Ok-clause-written : goal.returns-in-Ok-clause-written
returns-in-Ok-clause-written g c = extends_written c.args.i (sizes_in c.args.self.now c.args.i) c.args.payload.now _ _ (returns-in-Ok-clause-grown g c)

pub returns-in-Ok-clause-pending : goal.returns-in-Ok-clause-pending
returns-in-Ok-clause-pending g c =
    let is = rw c.in-Some.is at c.take_end.ensures.is_end in
    subst (λ (f : ℕ). NothingPending f (g.H.Host.now c.append.new.host) (g.H.Host.may c.append.new.host)) is.file_is c.in-Ok.ensures.pending

pub returns-in-Ok-clause-leaves : goal.returns-in-Ok-clause-leaves
returns-in-Ok-clause-leaves g c =
    let end = c.in-Some.end in
    let is = rw c.in-Some.is at c.take_end.ensures.is_end in
    let given = rw c.in-Some.is at c.take_end.ensures.sizes in
    let fresh = ap (λ (s : Attached). record s { fresh = false }) c.self.view_is in
    let known = known_sizes c.args.self.now _ c.args.i end.sizes fresh given in
    extends_leaves g.H.Host.now g.H.Host.may g.H.Host.clock g.H.Host.since g.H.Host.said end.log.file c.args.i end.log.end (sizes_in c.args.self.now c.args.i) end.sizes c.args.payload.now c.args.host.now c.append.new.host is.file_is known is.place c.append.ensures.leaves

pub returns-in-Ok-clause-others_pending : goal.returns-in-Ok-clause-others_pending
returns-in-Ok-clause-others_pending g c = λ f apart settled.
    writes-others g.H.Host.now g.H.Host.may g.H.Host.clock g.H.Host.since g.H.Host.said c.args.i f _ (OfSizes (sizes_in c.args.self.now c.args.i) (Lengthens c.args.payload.now)) c.args.host.now c.append.new.host apart (returns-in-Ok-clause-grown g c) (returns-in-Ok-clause-leaves g c) settled

pub returns-in-Ok-clause-reaches : goal.returns-in-Ok-clause-reaches
returns-in-Ok-clause-reaches g c =
    let end = c.in-Some.end in
    let is = rw c.in-Some.is at c.take_end.ensures.is_end in
    let given = rw c.in-Some.is at c.take_end.ensures.sizes in
    let fresh = ap (λ (s : Attached). record s { fresh = false }) c.self.view_is in
    let going : c.args.self.now.ended ≡ false = ap (λ (s : Attached). s.ended) (sym c.self.view_is) ∙ c.if-self.false in
    let counted = ap (λ (e : SlotEnd). e.sizes) c.count.ensures in
    let at : c.append.new.self.end ≡ end_of c.count.new.self.sizes = omega (arith, ap (λ (l : LogState). l.end) c.in-Ok.ensures.ok, is.place, ap end_of counted) in
    let unended : c.append.new.self.ended ≡ false = ap (λ (l : LogState). l.ended) c.in-Ok.ensures.ok ∙ is.going c.if-self.false in
    let file : c.append.new.self.file ≡ c.args.i = ap (λ (l : LogState). l.file) c.in-Ok.ensures.ok ∙ is.file_is in
    let low = below_two c.args.self.now c.args.i end.sizes (known_sizes c.args.self.now _ c.args.i end.sizes fresh given) in
    let put = put_back c.args.self.now _ c.take_end.new.self c.put_end.new.self c.args.i end.sizes c.count.new.self.sizes fresh given c.take_end.ensures.rest c.put_end.ensures in
    reaches_put c.args.self.now c.put_end.new.self c.args.i c.count.new.self.sizes (g.H.Host.now c.args.host.now) (g.H.Host.now c.append.new.host) low going put (subst (λ (f : ℕ). Becomes (g.H.Host.now c.args.host.now) (g.H.Host.now c.append.new.host) (InFile f (λ _ _. ⊤))) is.file_is c.append.ensures.others)
    (log_reaches c.append.new.self c.args.i (end_of c.count.new.self.sizes) (g.H.Host.now c.append.new.host) file at (omega arith) unended c.append.ensures.reaches) c.requires.reaches

pub returns-in-Err-clause-leaves : goal.returns-in-Err-clause-leaves
returns-in-Err-clause-leaves g c =
    let end = c.in-Some.end in
    let is = rw c.in-Some.is at c.take_end.ensures.is_end in
    let given = rw c.in-Some.is at c.take_end.ensures.sizes in
    let fresh = ap (λ (s : Attached). record s { fresh = false }) c.self.view_is in
    let known = known_sizes c.args.self.now _ c.args.i end.sizes fresh given in
    extends_leaves g.H.Host.now g.H.Host.may g.H.Host.clock g.H.Host.since g.H.Host.said end.log.file c.args.i end.log.end (sizes_in c.args.self.now c.args.i) end.sizes c.args.payload.now c.args.host.now c.append.new.host is.file_is known is.place c.append.ensures.leaves

pub returns-in-Err-clause-others_pending : goal.returns-in-Err-clause-others_pending
returns-in-Err-clause-others_pending g c = λ f apart settled.
    let is = rw c.in-Some.is at c.take_end.ensures.is_end in
    writes-others g.H.Host.now g.H.Host.may g.H.Host.clock g.H.Host.since g.H.Host.said c.args.i f _ (OfSizes (sizes_in c.args.self.now c.args.i) (Lengthens c.args.payload.now)) c.args.host.now c.append.new.host apart (subst (λ (f : ℕ). Becomes (g.H.Host.now c.args.host.now) (g.H.Host.now c.append.new.host) (InFile f (λ _ _. ⊤))) is.file_is c.append.ensures.others) (returns-in-Err-clause-leaves g c) settled

pub returns-then-self-clause-stay : goal.returns-then-self-clause-stay
returns-then-self-clause-stay g c = λ f apart settled. elsewhere_stays g.H.Host.now g.H.Host.may g.H.Host.clock g.H.Host.since g.H.Host.said c.args.i f (OfSizes (sizes_in c.args.self.now c.args.i) (Lengthens c.args.payload.now)) c.args.host.now c.args.host.now (returns-then-self-clause-leaves g c) apart settled

pub returns-in-Ok-clause-stay : goal.returns-in-Ok-clause-stay
returns-in-Ok-clause-stay g c = λ f apart settled. elsewhere_stays g.H.Host.now g.H.Host.may g.H.Host.clock g.H.Host.since g.H.Host.said c.args.i f (OfSizes (sizes_in c.args.self.now c.args.i) (Lengthens c.args.payload.now)) c.args.host.now c.append.new.host (returns-in-Ok-clause-leaves g c) apart settled

pub returns-in-Err-clause-stay : goal.returns-in-Err-clause-stay
returns-in-Err-clause-stay g c = λ f apart settled. elsewhere_stays g.H.Host.now g.H.Host.may g.H.Host.clock g.H.Host.since g.H.Host.said c.args.i f (OfSizes (sizes_in c.args.self.now c.args.i) (Lengthens c.args.payload.now)) c.args.host.now c.append.new.host (returns-in-Err-clause-leaves g c) apart settled
