use Rattle.std.proofs.Common.{◌∙◌, [], ◌∷◌, ◌++◌, length, refl, ap, sym, subst}
use Rattle.rg_event.specs.Rising.{next_offset}
use Rattle.rg_host.specs.Puts.{Puts}
use Rattle.rg_host.proofs.Laws.{puts-then}
use Rattle.rg_reservoir.specs.Kept.{base}
use Rattle.rg_replay.specs.Playing.{IsWholeIn, PutsLines}
use Rattle.rg_replay.proofs.Played.{if_err_of}
use Rattle.rg_replay.proofs.Progress.{last_put, end_is}
use Rattle.rg_replay.proofs.Quiet.{leaves_store-then, caused_later, caused_put}
use Rattle.rg_replay.proofs.Reading.{on_ok}
use Rattle.rg_replay.proofs.Starting.{long, next_is}
use Rattle.rg_replay.proofs.replaying.replay_opened.Goals as goal

pub returns-clause-answered : goal.returns-clause-answered
returns-clause-answered g c = λ queries events for.
    let h = c.args.host.now in
    let went = c.in-Ok.ensures.answered queries events for in
    let new = c.answer_by.new.reservoir in
    let mid = c.answer_by.new.host in
    let next = c.next_offset.ensures ∙ next_is (g.H.Host.now mid) (g.H.Host.may mid) new went.1.sound went.1.runs ∙ ap next_offset went.1.list in
    let count = c.count.ensures.count ∙ sym (long (g.H.Host.now mid) new) ∙ ap length went.1.list in
    last_put queries c.args.first events (Puts g.H.Host.said g.H.Host.clock g.H.Host.since h mid) (Puts g.H.Host.said g.H.Host.clock g.H.Host.since mid c.put_end.new.host) (Puts g.H.Host.said g.H.Host.clock g.H.Host.since h c.put_end.new.host)
    (λ x y. puts-then g.H.Host.said g.H.Host.clock g.H.Host.since _ _ _ x y) c.answer_by.new.text.items went.0 c.put_end.result
    (subst (λ l. PutsLines (went.0.held ++ l ∷ []) (Puts g.H.Host.said g.H.Host.clock g.H.Host.since mid c.put_end.new.host) c.put_end.result) (end_is events _ _ next count) (c.put_end.ensures.puts went.0.held went.0.text_is))

pub returns-clause-cause : goal.returns-clause-cause
returns-clause-cause g c = if_err_of c.put_end.result _ _ c.put_end.ensures.write (λ fault put.
    caused_later g.H.Host.now g.H.Host.may g.H.Host.clock g.H.Host.since g.H.Host.disk_faults g.H.Host.out_faults _ _ fault _ _ _ refl c.answer_by.ensures.leaves
    (caused_put g.H.Host.now g.H.Host.may g.H.Host.clock g.H.Host.since g.H.Host.disk_faults g.H.Host.out_faults _ fault _ _ put))

pub returns-clause-leaves : goal.returns-clause-leaves
returns-clause-leaves g c = leaves_store-then g.H.Host.now g.H.Host.may g.H.Host.clock g.H.Host.since g.H.Host.disk_faults g.H.Host.out_faults _ _ _ c.answer_by.ensures.leaves c.put_end.ensures.leaves

pub returns-clause-whole : goal.returns-clause-whole
returns-clause-whole g c = λ begun. on_ok c.put_end.result (IsWholeIn g.H.Host.now (base c.args.reservoir.now) c.args.host.now) (c.in-Ok.ensures.whole begun)
