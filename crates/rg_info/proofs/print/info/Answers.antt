use Rattle.std.proofs.Common.{◌∙◌, [], List, ℕ, subst}
use Rattle.rg_host.specs.Puts.{IsPrefix, Puts}
use Rattle.rg_host.proofs.Laws.{puts-then}
use Rattle.rg_dump.proofs.Laws.{puts_nothing}
use Rattle.rg_info.proofs.print.info.Goals as goal

pub returns-in-Ok-put_all-clause-completes : goal.returns-in-Ok-put_all-clause-completes
returns-in-Ok-put_all-clause-completes g c = λ v told.
    let t = c.in-Ok.ensures.text v told in (
      t.0,
      t.1,
      subst (λ (l : List ℕ). Puts g.H.Host.said g.H.Host.clock g.H.Host.since c.args.host.now c.put_all.new.host l) (c.deref.ensures.value ∙ t.2)
          (puts-then g.H.Host.said g.H.Host.clock g.H.Host.since _ _ _ [] _ (puts_nothing g.H.Host.now g.H.Host.may g.H.Host.clock g.H.Host.since g.H.Host.said _ _ c.in-Ok.ensures.leaves.leaves) c.in-Ok-put_all.ensures.all),
    )

pub returns-clause-cut : goal.returns-clause-cut
returns-clause-cut g c = λ _. λ v told.
    let t = c.in-Ok.ensures.text v told in
    let p = c.put_all.ensures.part in (
      t.0,
      p.0,
      t.1,
      subst (λ (l : List ℕ). IsPrefix p.0 l) (c.deref.ensures.value ∙ t.2) p.1,
      puts-then g.H.Host.said g.H.Host.clock g.H.Host.since _ _ _ [] p.0 (puts_nothing g.H.Host.now g.H.Host.may g.H.Host.clock g.H.Host.since g.H.Host.said _ _ c.in-Ok.ensures.leaves.leaves) p.2,
    )
