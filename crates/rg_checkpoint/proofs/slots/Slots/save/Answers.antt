use Rattle.std.proofs.Common.{◌≡◌, ℕ, Some, false, ap, sym, ◌∙◌, subst}
use Rattle.std.specs.Prelude.{⊤}
use Rattle.rg_host.specs.Image.{Becomes, InFile, NothingPending}
use Rattle.rg_frame.specs.Calls.{Writes}
use Rattle.rg_frame.proofs.Laws.{writes-none, writes-weaker, writes-others}
use Rattle.rg_checkpoint.specs.Slots.{Attached, IsOnly, Turns, other_of, with_sizes}
use Rattle.rg_checkpoint.proofs.Lengthening.{reaches_put, only_written}
use Rattle.rg_checkpoint.proofs.Rewriting.{kept_stays}
use Rattle.rg_checkpoint.proofs.SlotLaws.{turns_same}
use Rattle.rg_checkpoint.proofs.slots.Slots.save.Goals as goal

pub returns-then-self-clause-leaves : goal.returns-then-self-clause-leaves
returns-then-self-clause-leaves g c =
    writes-weaker g.H.Host.now g.H.Host.may g.H.Host.clock g.H.Host.since g.H.Host.said (other_of c.args.keep) _ (Turns c.args.payload.now) c.args.host.now c.args.host.now
    (writes-none g.H.Host.now g.H.Host.may g.H.Host.clock g.H.Host.since g.H.Host.said (other_of c.args.keep) c.args.host.now (λ t u m. g.met.H.Host.sinks _ t u m) (λ m. g.met.H.Host.only_now _ m))
    (λ w told bytes same. turns_same c.args.payload.now (w (other_of c.args.keep)) bytes same)

pub returns-then-self-clause-kept : goal.returns-then-self-clause-kept
returns-then-self-clause-kept g c = kept_stays g.H.Host.now g.H.Host.may g.H.Host.clock g.H.Host.since g.H.Host.said c.args.keep c.args.payload.now c.args.host.now c.args.host.now c.requires.keep (returns-then-self-clause-leaves g c)

pub returns-in-Ok-clause-leaves : goal.returns-in-Ok-clause-leaves
returns-in-Ok-clause-leaves g c =
    subst (λ (f : ℕ). Writes g.H.Host.now g.H.Host.may g.H.Host.clock g.H.Host.since g.H.Host.said f (Turns c.args.payload.now) c.args.host.now c.rewrite.new.host) c.other-file.ensures.number c.rewrite.ensures.any.leaves

pub returns-in-Ok-clause-others : goal.returns-in-Ok-clause-others
returns-in-Ok-clause-others g c = subst (λ (f : ℕ). Becomes (g.H.Host.now c.args.host.now) (g.H.Host.now c.rewrite.new.host) (InFile f (λ _ _. ⊤))) c.other-file.ensures.number c.rewrite.ensures.any.others

pub returns-in-Ok-clause-others_pending : goal.returns-in-Ok-clause-others_pending
returns-in-Ok-clause-others_pending g c = λ f apart settled.
    writes-others g.H.Host.now g.H.Host.may g.H.Host.clock g.H.Host.since g.H.Host.said (other_of c.args.keep) f _ (Turns c.args.payload.now) c.args.host.now c.rewrite.new.host apart (returns-in-Ok-clause-others g c) (returns-in-Ok-clause-leaves g c) settled

pub returns-in-Ok-clause-kept : goal.returns-in-Ok-clause-kept
returns-in-Ok-clause-kept g c = kept_stays g.H.Host.now g.H.Host.may g.H.Host.clock g.H.Host.since g.H.Host.said c.args.keep c.args.payload.now c.args.host.now c.rewrite.new.host c.requires.keep (returns-in-Ok-clause-leaves g c)

pub returns-in-Err-clause-leaves : goal.returns-in-Err-clause-leaves
returns-in-Err-clause-leaves g c =
    subst (λ (f : ℕ). Writes g.H.Host.now g.H.Host.may g.H.Host.clock g.H.Host.since g.H.Host.said f (Turns c.args.payload.now) c.args.host.now c.rewrite.new.host) c.other-file.ensures.number c.rewrite.ensures.any.leaves

pub returns-in-Err-clause-others : goal.returns-in-Err-clause-others
returns-in-Err-clause-others g c = subst (λ (f : ℕ). Becomes (g.H.Host.now c.args.host.now) (g.H.Host.now c.rewrite.new.host) (InFile f (λ _ _. ⊤))) c.other-file.ensures.number c.rewrite.ensures.any.others

pub returns-in-Err-clause-others_pending : goal.returns-in-Err-clause-others_pending
returns-in-Err-clause-others_pending g c = λ f apart settled.
    writes-others g.H.Host.now g.H.Host.may g.H.Host.clock g.H.Host.since g.H.Host.said (other_of c.args.keep) f _ (Turns c.args.payload.now) c.args.host.now c.rewrite.new.host apart (returns-in-Err-clause-others g c) (returns-in-Err-clause-leaves g c) settled

pub returns-in-Err-clause-kept : goal.returns-in-Err-clause-kept
returns-in-Err-clause-kept g c = kept_stays g.H.Host.now g.H.Host.may g.H.Host.clock g.H.Host.since g.H.Host.said c.args.keep c.args.payload.now c.args.host.now c.rewrite.new.host c.requires.keep (returns-in-Err-clause-leaves g c)

pub returns-in-Ok-clause-only : goal.returns-in-Ok-clause-only
returns-in-Ok-clause-only g c = subst (λ (f : ℕ). Becomes (g.H.Host.now c.args.host.now) (g.H.Host.now c.rewrite.new.host) (InFile f (λ _ bytes. IsOnly c.args.payload.now bytes))) c.other-file.ensures.number c.in-Ok.ensures.ok.only

pub returns-in-Ok-clause-written : goal.returns-in-Ok-clause-written
returns-in-Ok-clause-written g c = only_written (other_of c.args.keep) c.args.payload.now _ _ (returns-in-Ok-clause-only g c)

pub returns-in-Ok-clause-pending : goal.returns-in-Ok-clause-pending
returns-in-Ok-clause-pending g c = subst (λ (f : ℕ). NothingPending f (g.H.Host.now c.rewrite.new.host) (g.H.Host.may c.rewrite.new.host)) c.other-file.ensures.number c.in-Ok.ensures.ok.pending

pub returns-in-Ok-clause-reaches : goal.returns-in-Ok-clause-reaches
returns-in-Ok-clause-reaches g c = λ reaches.
    let fresh = ap (λ (s : Attached). record s { fresh = false }) c.self.view_is in
    let going : c.args.self.now.ended ≡ false = ap (λ (s : Attached). s.ended) (sym c.self.view_is) ∙ c.if-self.false in
    let put = c.put_end.ensures ∙ ap (λ (s : Attached). with_sizes c.other-file.result (Some c.in-Ok.end.sizes) s) fresh in
    reaches_put c.args.self.now c.put_end.new.self c.other-file.result c.in-Ok.end.sizes (g.H.Host.now c.args.host.now) (g.H.Host.now c.rewrite.new.host) c.other-file.ensures.few going put c.rewrite.ensures.any.others c.in-Ok.ensures.ok.reaches reaches
