use Rattle.std.proofs.Common.{inl, inr, ◌∙◌, ℕ, ◌+◌, take, length, ap, sym, subst}
use Rattle.std.specs.Prelude.{All}
use Rattle.std.proofs.lemmas.List.Elements.{All-weaker}
use Rattle.rg_event.specs.Rising.{last_time}
use Rattle.rg_past.proofs.Laws.{kept-then, cause-within}
use Rattle.rg_window.specs.Placed.{numbers_of}
use Rattle.rg_engine.specs.Passed.{passed_count}
use Rattle.rg_restore.specs.Opening.{IsUsable}
use Rattle.rg_restore.proofs.Asked.{cause-damaged, refused-cause, unmade-past, unmade-bad, unmade-ended, unmade-table}
use Rattle.rg_restore.proofs.Joining.{can_later, node_later}
use Rattle.rg_restore.proofs.Placing.{node_stands, node_told}
use Rattle.rg_restore.proofs.resuming.resume.Goals as goal

pub restore-requires-clause-usable : goal.restore-requires-clause-usable
restore-requires-clause-usable g c = subst (λ n. IsUsable c.args.plan n c.in-Ok.begun.checkpoint) (ap length (sym c.begin.ensures.past.events)) c.in-Ok.ensures.begun.usable

pub returns-in-Err-restore-clause-never_bad : goal.returns-in-Err-restore-clause-never_bad
returns-in-Err-restore-clause-never_bad g c = λ n can runs all.
    c.in-Err-restore.ensures.never_bad n (can_later _ _ _ c.args.plan _ _ c.begin.ensures.past.past.sound c.begin.ensures.past.events can) (c.in-Ok.ensures.begun.truthful can.sound runs all)

pub returns-clause-stands : goal.returns-clause-stands
returns-clause-stands g c = λ can runs last all.
    c.in-Ok-restore.ensures.stands (can_later _ _ _ c.args.plan _ _ c.begin.ensures.past.past.sound c.begin.ensures.past.events can) (ap last_time c.begin.ensures.past.events ∙ last) (c.in-Ok.ensures.begun.truthful can.sound runs all)

pub returns-clause-passed : goal.returns-clause-passed
returns-clause-passed g c = λ sound runs last all.
    c.in-Ok-restore.ensures.passed (c.begin.ensures.past.past.sound sound) (ap last_time c.begin.ensures.past.events ∙ last) (c.in-Ok.ensures.begun.truthful sound runs all)
    ∙ ap (λ xs. c.args.steps.now + passed_count c.args.plan (take c.in-Ok.begun.checkpoint.count xs) (g.P.Past.events c.restore.new.past)) c.begin.ensures.past.events

pub returns-clause-ticks : goal.returns-clause-ticks
returns-clause-ticks g c = (numbers_of c.in-Ok.begun.checkpoint.spots, c.in-Ok.ensures.begun.begun, c.in-Ok-restore.ensures.ticks)

pub returns-in-Err-restore-clause-bad : goal.returns-in-Err-restore-clause-bad
returns-in-Err-restore-clause-bad g c = λ n can runs is.
    let on = can_later _ _ _ c.args.plan _ _ c.begin.ensures.past.past.sound c.begin.ensures.past.events can in
    elim (c.in-Ok.ensures.begun.origin can.sound runs) [
      | inl truthful ↦ absurd (c.in-Err-restore.ensures.never_bad n on truthful is)
      | inr best ↦ (
        best.0,
        c.in-Ok.begun.checkpoint,
        best.1,
        λ node. c.in-Err-restore.ensures.bad n on (node_later _ _ c.args.plan n _ _ _ (λ spot. (c.begin.ensures.named.spells spot).1) c.begin.ensures.past.events node) is,
      )
    ]

pub returns-in-Err-restore-clause-cause : goal.returns-in-Err-restore-clause-cause
returns-in-Err-restore-clause-cause g c = λ fault is.
    let damages = λ (place : ℕ). g.met.P.Names.illegal_damaged c.restore.new.past place in
    cause-damaged _ _ ⊥ _ _ _ fault damages (cause-within _ ⊥ _ ⊥ _ _ _ _ fault c.begin.ensures.past.past.later (λ full. full) c.begin.ensures.past.past.ended.0 (c.in-Err-restore.ensures.cause fault is))

pub returns-in-Err-restore-clause-past : goal.returns-in-Err-restore-clause-past
returns-in-Err-restore-clause-past g c = kept-then _ _ _ _ _ _ _ g.met.P.Past.transitive c.begin.ensures.past.past c.restore.ensures.past

pub returns-clause-past : goal.returns-clause-past
returns-clause-past g c = kept-then _ _ _ _ _ _ _ g.met.P.Past.transitive c.begin.ensures.past.past c.restore.ensures.past

pub returns-in-Err-restore-clause-never_damaged : goal.returns-in-Err-restore-clause-never_damaged
returns-in-Err-restore-clause-never_damaged g c = λ place sound runs is.
    let spelled : All (g.P.Past.spells c.begin.new.past) c.in-Ok.begun.checkpoint.spots = elim (c.in-Ok.ensures.begun.origin sound runs) [
      | inl truthful ↦ truthful.spots.spelled
      | inr best ↦ All-weaker (g.P.Names.named c.args.past.now) (g.P.Past.spells c.begin.new.past) (λ spot named. (c.begin.ensures.named.spells spot).1 ((g.met.P.Names.sound_named c.args.past.now spot sound).0 named)) c.in-Ok.begun.checkpoint.spots best.1.fit.spelled
    ] in
    c.in-Err-restore.ensures.never_damaged place (c.begin.ensures.past.past.sound sound) spelled is

pub returns-clause-node : goal.returns-clause-node
returns-clause-node g c = λ n can runs last untrue.
    let on = can_later _ _ _ c.args.plan _ _ c.begin.ensures.past.past.sound c.begin.ensures.past.events can in
    let then = ap last_time c.begin.ensures.past.events ∙ last in
    let Spells = g.P.Past.spells c.restore.new.past in
    let events = g.P.Past.events c.restore.new.past in
    let cells = g.T.Table.cell c.in-Ok-restore.engine.table in
    let spots = c.in-Ok-restore.engine.spots in
    elim (c.in-Ok.ensures.begun.origin can.sound runs) [
      | inl truthful ↦
          let stands = c.in-Ok-restore.ensures.stands on then truthful in
          absurd (untrue (record { told = node_told Spells c.args.plan events spots stands.spots n; stands = node_stands Spells c.args.plan events cells spots stands.rows stands.spots n }))
      | inr best ↦ (
        best.0,
        c.in-Ok.begun.checkpoint,
        best.1,
        λ node.
            let still = node_later _ _ c.args.plan n _ _ _ (λ spot. (c.begin.ensures.named.spells spot).1) c.begin.ensures.past.events node in
            untrue (record { told = c.in-Ok-restore.ensures.told n on.sound still.told; stands = c.in-Ok-restore.ensures.node n on then still }),
      )
    ]

pub returns-clause-spelled : goal.returns-clause-spelled
returns-clause-spelled g c = λ sound runs.
    let spelled : All (g.P.Past.spells c.begin.new.past) c.in-Ok.begun.checkpoint.spots = elim (c.in-Ok.ensures.begun.origin sound runs) [
      | inl truthful ↦ truthful.spots.spelled
      | inr best ↦ All-weaker (g.P.Names.named c.args.past.now) (g.P.Past.spells c.begin.new.past) (λ spot named. (c.begin.ensures.named.spells spot).1 ((g.met.P.Names.sound_named c.args.past.now spot sound).0 named)) c.in-Ok.begun.checkpoint.spots best.1.fit.spelled
    ] in
    c.in-Ok-restore.ensures.spelled (c.begin.ensures.past.past.sound sound) spelled

pub returns-clause-since : goal.returns-clause-since
returns-clause-since g c = λ told. (c.in-Ok.begun.checkpoint.rows, c.in-Ok.ensures.begun.rows, c.in-Ok-restore.ensures.since told)

pub returns-in-Err-clause-cause : goal.returns-in-Err-clause-cause
returns-in-Err-clause-cause g c = λ fault is. refused-cause _ _ _ _ _ fault (unmade-past _ _ _ c.in-Err.fault c.in-Err.ensures.cause fault is)

pub returns-in-Err-clause-never_damaged : goal.returns-in-Err-clause-never_damaged
returns-in-Err-clause-never_damaged g c = λ place sound runs is. (unmade-past _ _ _ c.in-Err.fault c.in-Err.ensures.cause _ is).1 sound

pub returns-in-Err-clause-never_bad : goal.returns-in-Err-clause-never_bad
returns-in-Err-clause-never_bad g c = λ n can runs all is. unmade-bad _ _ _ c.in-Err.fault c.in-Err.ensures.cause n is

pub returns-in-Err-clause-bad : goal.returns-in-Err-clause-bad
returns-in-Err-clause-bad g c = λ n can runs is. absurd (unmade-bad _ _ _ c.in-Err.fault c.in-Err.ensures.cause n is)

pub returns-in-Err-clause-disk : goal.returns-in-Err-clause-disk
returns-in-Err-clause-disk g c = λ is. absurd (unmade-table _ _ _ c.in-Err.fault c.in-Err.ensures.cause is)

pub returns-in-Err-clause-not_ended : goal.returns-in-Err-clause-not_ended
returns-in-Err-clause-not_ended g c = λ is. unmade-ended _ _ _ c.in-Err.fault c.in-Err.ensures.cause is
