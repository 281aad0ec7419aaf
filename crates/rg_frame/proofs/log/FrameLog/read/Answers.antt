use Rattle.std.proofs.Common.{◌≡◌, ◌∙◌, ◌+◌, Err, List, ◌++◌, ℕ, length, take, drop, ap, sym, subst, rules}
use Rattle.rg_frame.specs.declared.fault.FrameFault.TheVariants.{Damaged}
use Rattle.rg_frame.specs.LogState.{LogState}
use Rattle.rg_frame.specs.Looks.{HoldsFrame, IsTorn}
use Rattle.rg_frame.proofs.Looked.{holds-read, items-back}
use Rattle.rg_frame.proofs.log.FrameLog.read.Goals as goal

pub returns-clause-next : goal.returns-clause-next
returns-clause-next g c =
    let items : length c.resize.new.self.items ≡ c.in-Ok-Some.size = search rules in
    let size : length c.read_full.new.buf ≡ length c.resize.new.self.items = search rules in
    let len : c.resize.new.self.len ≡ length c.resize.new.self.items = search rules in
    let back = items-back c.resize.new.self.len c.read_full.new.buf c.resize.new.self.items size len in
    ap (λ (n : ℕ). c.args.place + 9 + n) (sym (ap length back ∙ size ∙ items))

pub returns-clause-some : goal.returns-clause-some
returns-clause-some g c =
    let items : length c.resize.new.self.items ≡ c.in-Ok-Some.size = search rules in
    let size : length c.read_full.new.buf ≡ length c.resize.new.self.items = search rules in
    let len : c.resize.new.self.len ≡ length c.resize.new.self.items = search rules in
    let back = items-back c.resize.new.self.len c.read_full.new.buf c.resize.new.self.items size len in
    λ w told. subst (λ (s : LogState). HoldsFrame c.args.place (take c.resize.new.self.len (c.read_full.new.buf ++ drop (length c.read_full.new.buf) c.resize.new.self.items)) (w s.file)) c.self.view_is (subst (λ (l : List ℕ). HoldsFrame c.args.place l (w c.self.inside.file)) (sym back)
    (let h = rw c.in-Ok-Some.field-0-is at c.in-Ok-Some.ensures.found.some in holds-read c.args.place c.in-Ok-Some.size _ c.read_full.new.buf (w c.self.inside.file) (h w told) (c.in-Ok-read_full.ensures.filled.bytes w (c.look.ensures.stays.leaves.now_stays ∙ told)) (size ∙ items)))

pub returns-in-Err-clause-damaged : goal.returns-in-Err-clause-damaged
returns-in-Err-clause-damaged g c = λ p e.
    let k : c.in-Err.fault ≡ Damaged p = cc in
    let d = c.in-Err.ensures.refused.damaged p (ap (λ f. Err f) k) in
    λ w told. subst (λ (s : LogState). IsTorn p (w s.file)) c.self.view_is (subst (λ (n : ℕ). IsTorn n (w c.self.inside.file)) (sym d.0) (d.1 w told))
