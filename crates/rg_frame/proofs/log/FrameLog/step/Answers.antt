use Rattle.std.proofs.Common.{◌≡◌, ◌∙◌, ◌+◌, ap, inl, Err, List, ◌++◌, ℕ, drop, sym, subst, arith, rules}
use Rattle.rg_frame.specs.declared.fault.FrameFault.TheVariants.{Damaged}
use Rattle.rg_frame.specs.LogState.{LogState, ReachesEnd}
use Rattle.rg_frame.specs.Frames.{Begins, IsLog, IsDamaged}
use Rattle.rg_frame.specs.Looks.{HoldsHead, IsClosed, IsTorn, Next}
use Rattle.rg_frame.proofs.Looked.{head-read, next-begins, log-closed, damaged-torn, reaches-next}
use Rattle.rg_frame.proofs.log.FrameLog.step.Goals as goal

pub returns-in-Ok-None-clause-none : goal.returns-in-Ok-None-clause-none
returns-in-Ok-None-clause-none g c =
    let h = rw c.in-Ok-None.field-0-is at c.in-Ok-None.ensures.found.none in
    λ w told. subst (λ (s : LogState). IsClosed s.end (w s.file) × ((payloads : List (List ℕ)) → Begins payloads s.end (w s.file) → IsLog payloads s.end (w s.file))) c.self.view_is
    (h w told, λ payloads b. log-closed payloads c.self.inside.end (w c.self.inside.file) b (h w told))

pub returns-in-Err-clause-damaged : goal.returns-in-Err-clause-damaged
returns-in-Err-clause-damaged g c = λ p e.
    let k : c.in-Err.fault ≡ Damaged p = cc in
    let d = c.in-Err.ensures.refused.damaged p (ap (λ f. Err f) k) in
    λ w told. subst (λ (s : LogState). IsTorn p (w s.file) × ((payloads : List (List ℕ)) → Begins payloads s.end (w s.file) → IsDamaged p (w s.file))) c.self.view_is
    (subst (λ (n : ℕ). IsTorn n (w c.self.inside.file)) (sym d.0) (d.1 w told), λ payloads b. subst (λ (n : ℕ). IsDamaged n (w c.self.inside.file)) (sym d.0) (damaged-torn payloads c.self.inside.end (w c.self.inside.file) (omega (arith, c.self.invariant.1)) b (d.1 w told)))

pub returns-in-Ok-None-clause-reaches : goal.returns-in-Ok-None-clause-reaches
returns-in-Ok-None-clause-reaches g c = λ was going w told.
    subst (λ (s : LogState). ReachesEnd s (g.H.Host.now c.args.host.now)) (sym c.self.view_is) was going w (sym c.look.ensures.stays.leaves.now_stays ∙ told)

pub returns-clause-reaches : goal.returns-clause-reaches
returns-clause-reaches g c = λ was going w told.
    let h = rw c.in-Ok-Some.field-0-is at c.in-Ok-Some.ensures.found.some in
    inl (reaches-next c.self.inside.end c.in-Ok-Some.size (w c.self.inside.file) (h w (sym (c.read_full.ensures.stays.leaves.now_stays ∙ c.look.ensures.stays.leaves.now_stays) ∙ told)))

pub returns-clause-some : goal.returns-clause-some
returns-clause-some g c =
    let h = rw c.in-Ok-Some.field-0-is at c.in-Ok-Some.ensures.found.some in
    let head : List ℕ = c.read_full.new.buf ++ drop c.smaller-most.result c.args.head.now in
    λ w told.
    let found : HoldsHead c.self.inside.end c.in-Ok-Some.size head (w c.self.inside.file) = head-read c.self.inside.end c.in-Ok-Some.size _ c.smaller-most.result c.args.head.now c.read_full.new.buf (w c.self.inside.file) (h w told) (c.in-Ok.ensures.filled.bytes w (c.look.ensures.stays.leaves.now_stays ∙ told)) (search rules) (search rules) in
    subst (λ (s : LogState). HoldsHead s.end c.in-Ok-Some.size head (w s.file) × ((payloads : List (List ℕ)) → Begins payloads s.end (w s.file) → Next payloads c.in-Ok-Some.size head (c.self.inside.end + 9 + c.in-Ok-Some.size) (w s.file))) c.self.view_is
    (found, λ payloads b. next-begins payloads c.self.inside.end c.in-Ok-Some.size head (w c.self.inside.file) b found)
