use Rattle.std.proofs.Common.{◌≡◌, ◌+◌, refl, ap, ◌∙◌, arith, rules}
use Rattle.rg_config.specs.Plans.{planned}
use Rattle.rg_state.specs.contracts.mem_table.MemTableTable.TheImpl.{ghosts as rows}
use Rattle.rg_state.specs.declared.mem_table.MemTable.{MemTable}
use Rattle.rg_recover.specs.Runs.{IsWholeRun}
use Rattle.rg_recover.specs.Sessions.{Sitting}
use Rattle.rg_recover.proofs.Exits.{back}
use Rattle.rg_recover.proofs.Lent.{lent_whole}
use Rattle.rg_recover.proofs.Opened.{away_whole}
use Rattle.rg_recover.proofs.whole_run.run_lines.Goals as goal

-- the store was not opened

pub returns-in-Err : goal.returns-in-Err
returns-in-Err g c =
    record { whole = away_whole g.H.Host.now g.H.Host.may g.H.Host.clock g.H.Host.since g.H.Host.said g.H.Host.disk_faults g.H.Host.out_faults g.I.Source.left g.I.Source.faults (planned c.args.plan.now) c.args.first c.args.input.now c.args.host.now c.open_session.new.host c.open_session.ensures.only c.in-Err.fault c.in-Err.ensures.refused }

-- it was opened

pub new-live-requires-clause-reaches : goal.new-live-requires-clause-reaches
new-live-requires-clause-reaches g c = λ going. c.in-Ok.ensures.opened.reaches

pub run-ran-requires-clause-going : goal.run-ran-requires-clause-going
run-ran-requires-clause-going g c = ap (λ (s : Sitting MemTable). s.ended) c.new-live.ensures.session ∙ c.in-Ok.ensures.opened.going

pub returns : goal.returns
returns g c =
    let plan = planned c.args.plan.now in
    let o = c.in-Ok.opened in
    let after = c.run-ran.new.task in
    record {
      whole = back (λ (h : g.row.H.Denot). IsWholeRun g.H.Host.now g.H.Host.may g.H.Host.clock g.H.Host.since g.H.Host.said g.H.Host.disk_faults g.H.Host.out_faults g.I.Source.left g.I.Source.faults plan c.args.first c.run-ran.result c.args.input.now c.run-ran.new.input c.args.host.now h) after.host.now _ (search rules)
          (lent_whole c.new-live.result after (λ p. p.host.now) (λ p. p.session.now) (λ p q. (q.session.ghost_name ≡ p.session.ghost_name) × (q.host.ghost_name ≡ p.host.ghost_name) × (q.steps.ghost_name ≡ p.steps.ghost_name)) (λ p. (refl, refl, refl)) (λ p q r one two. (two.0 ∙ one.0, two.1 ∙ one.1, two.2 ∙ one.2))
          g.H.Host.now g.H.Host.may g.H.Host.clock g.H.Host.since g.H.Host.said rows.tells rows.cell rows.named rows.there (λ p. g.H.Host.disk_faults p.host.now + 0) g.H.Host.disk_faults g.H.Host.out_faults (λ p. omega arith) g.I.Source.left g.I.Source.faults
          plan o.1.next o.1.count o.1.from c.args.first c.args.input.now c.run-ran.new.input c.args.host.now c.open_session.new.host o.0 c.open_session.ensures.only c.in-Ok.ensures.opened c.new-live.ensures.host c.new-live.ensures.session c.run-ran.result
          c.run-ran.ensures.begun c.run-ran.ensures.cause c.run-ran.ensures.counts c.run-ran.ensures.log_stays);
    }
