use Rattle.std.proofs.Common.{◌≡◌, ◌+◌, ◌∙◌, suc, [], ◌∷◌, ◌++◌, Option, Err, take, length, ap, sym, subst, arith}
use Rattle.std.specs.Prelude.{IfSome, IfNone}
use Rattle.rg_event.specs.declared.event.Event.{Event}
use Rattle.rg_metric.specs.Replies.{answers_to}
use Rattle.rg_past.specs.declared.past.PastFault.TheVariants as past
use Rattle.rg_past.specs.declared.past.Spot.{Spot}
use Rattle.rg_past.proofs.Laws.{cause-within}
use Rattle.rg_engine.specs.declared.fault.EngineFault.TheVariants as fault
use Rattle.rg_engine.proofs.Laws.{same_fault}
use Rattle.rg_replay.proofs.Going.{carries, goes_on, stays_on, sound_front, all_front, outside_past}
use Rattle.rg_replay.proofs.stepping.step.Goals as goal

pub returns-in-Ok-clause-came : goal.returns-in-Ok-clause-came
returns-in-Ok-clause-came g c = λ queries on.
    let old = c.args.past.now in
    let mid = c.next.new.self in
    let new = c.answer.new.past in
    let event = c.in-Ok-Some.event in
    let next = c.in-Ok-Some.ensures in
    let answered = c.in-Ok.ensures in
    let listed = g.P.Past.events old.past in
    let shown = take old.shown listed in
    let grown = subst (λ (found : Option Event). IfSome found (λ e. take mid.shown (g.P.Past.events mid.past) ≡ take old.shown (g.P.Past.events old.past) ++ e ∷ [])) c.in-Ok-Some.field-0-is (next.more on.sound on.at) in
    let one = subst (λ (found : Option Event). IfSome found (λ _. mid.shown ≡ old.shown + 1)) c.in-Ok-Some.field-0-is next.one in
    let counted : mid.shown ≡ suc old.shown = omega (arith, one) in
    let mid_sound = next.kept.sound on.sound in
    let stays : (spot : Spot) → g.P.Past.spells old.past spot → g.P.Past.spells mid.past spot = λ spot spells. g.met.P.Past.stays_spelled _ _ spot next.kept.goes on.sound spells in
    let going = carries queries _ _ _ _ listed old.shown _ _ _ on (g.P.Past.sound mid.past) (g.P.Past.spells mid.past) (g.P.Past.events mid.past) mid.shown event next.events grown stays c.requires.within mid_sound in
    let front = sound_front queries _ _ _ _ listed old.shown _ _ _ on (g.P.Past.sound mid.past) (g.P.Past.spells mid.past) (g.P.Past.events mid.past) mid.shown event next.events grown stays c.requires.within mid_sound in
    let all = all_front queries _ _ _ _ listed old.shown _ _ _ on (g.P.Past.sound mid.past) (g.P.Past.spells mid.past) (g.P.Past.events mid.past) mid.shown event next.events grown stays c.requires.within in (
      record {
        event = sym (next.event on.sound on.at) ∙ c.in-Ok-Some.field-0-is;
        answers = answered.answers queries shown shown on.plan_is grown going ∙ ap (λ l. answers_to queries l event) (ap (λ n. take n (g.P.Past.events mid.past)) counted ∙ ap (λ l. take (suc old.shown) l) next.events);
      },
      goes_on queries _ _ _ _ listed old.shown _ _ _ on _ _ _ _ _ (g.P.Past.spells new.past) (g.P.Past.events new.past) new.shown _ _ _ _ (answered.past.goes.events ∙ next.events) answered.plan front (answered.past.sound front).sound
          (g.met.P.Past.stays_spelled _ _ c.next.new.spot answered.past.goes.goes mid_sound (next.spells on.sound on.at)) (answered.rows.tells.1 on.told) all answered.edges c.spots-spots.ensures.same
          (λ n. answered.stands n shown shown grown (going n)),
    )

pub returns-in-Ok-None-clause-came : goal.returns-in-Ok-None-clause-came
returns-in-Ok-None-clause-came g c = λ queries on.
    let old = c.args.past.now in
    let mid = c.next.new.self in
    let next = c.in-Ok-None.ensures in
    let all = subst (λ (found : Option Event). IfNone found (old.shown ≡ length (g.P.Past.events old.past))) c.in-Ok-None.field-0-is (next.all on.sound on.at) in
    let still = subst (λ (found : Option Event). IfNone found (mid.shown ≡ old.shown)) c.in-Ok-None.field-0-is next.none in (
      all,
      stays_on queries _ _ _ _ (g.P.Past.events old.past) old.shown _ _ _ on (g.P.Past.sound mid.past) _ _ (g.P.Past.spells mid.past) (g.P.Past.events mid.past) mid.shown next.events still
          (next.kept.sound on.sound) (next.spells on.sound on.at) on.told (λ spot spells. g.met.P.Past.stays_spelled _ _ spot next.kept.goes on.sound spells),
    )

pub returns-in-Err-clause-outside : goal.returns-in-Err-clause-outside
returns-in-Err-clause-outside g c = λ queries on.
    let next = c.in-Err.ensures in
    outside_past (fault.Past c.in-Err.fault) (λ place is. next.never_damaged place on.sound on.at (let e : c.in-Err.fault ≡ past.Damaged place = cc in ap Err e))
    (λ is. next.cause past.Full (let e : c.in-Err.fault ≡ past.Full = cc in ap Err e)) (λ node is. absurd cc)

pub returns-in-Err-answer-clause-outside : goal.returns-in-Err-answer-clause-outside
returns-in-Err-answer-clause-outside g c = λ queries on.
    let old = c.args.past.now in
    let mid = c.next.new.self in
    let event = c.in-Ok-Some.event in
    let next = c.in-Ok-Some.ensures in
    let answered = c.in-Err-answer.ensures in
    let listed = g.P.Past.events old.past in
    let shown = take old.shown listed in
    let grown = subst (λ (found : Option Event). IfSome found (λ e. take mid.shown (g.P.Past.events mid.past) ≡ take old.shown (g.P.Past.events old.past) ++ e ∷ [])) c.in-Ok-Some.field-0-is (next.more on.sound on.at) in
    let mid_sound = next.kept.sound on.sound in
    let stays : (spot : Spot) → g.P.Past.spells old.past spot → g.P.Past.spells mid.past spot = λ spot spells. g.met.P.Past.stays_spelled _ _ spot next.kept.goes on.sound spells in
    let going = carries queries _ _ _ _ listed old.shown _ _ _ on (g.P.Past.sound mid.past) (g.P.Past.spells mid.past) (g.P.Past.events mid.past) mid.shown event next.events grown stays c.requires.within mid_sound in
    let front = sound_front queries _ _ _ _ listed old.shown _ _ _ on (g.P.Past.sound mid.past) (g.P.Past.spells mid.past) (g.P.Past.events mid.past) mid.shown event next.events grown stays c.requires.within mid_sound in
    let all = all_front queries _ _ _ _ listed old.shown _ _ _ on (g.P.Past.sound mid.past) (g.P.Past.spells mid.past) (g.P.Past.events mid.past) mid.shown event next.events grown stays c.requires.within in
    outside_past c.in-Err-answer.fault (λ place is. answered.never_damaged place front all (ap Err is)) (λ is. answered.cause past.Full (ap Err is)) (λ node is. answered.bad node shown shown grown (ap Err is) (going node))

pub returns-in-Err-answer-clause-cause : goal.returns-in-Err-answer-clause-cause
returns-in-Err-answer-clause-cause g c = λ fault is.
    let kept = c.in-Ok-Some.ensures.kept in
    cause-within _ _ _ _ _ _ _ _ fault kept.later (λ full. absurd full) (λ ended. kept.ended.0 ended) (c.in-Err-answer.ensures.cause fault (ap Err (same_fault is)))

pub returns-in-Ok-clause-goes : goal.returns-in-Ok-clause-goes
returns-in-Ok-clause-goes g c = g.met.P.Past.transitive _ _ _ c.in-Ok-Some.ensures.kept.goes c.in-Ok.ensures.past.goes.goes

pub returns-in-Err-answer-clause-goes : goal.returns-in-Err-answer-clause-goes
returns-in-Err-answer-clause-goes g c = g.met.P.Past.transitive _ _ _ c.in-Ok-Some.ensures.kept.goes c.in-Err-answer.ensures.past.goes.goes

pub returns-in-Ok-clause-legal : goal.returns-in-Ok-clause-legal
returns-in-Ok-clause-legal g c = λ asks. c.in-Ok-Some.ensures.legal asks

pub returns-in-Ok-None-clause-legal : goal.returns-in-Ok-None-clause-legal
returns-in-Ok-None-clause-legal g c = λ asks. c.in-Ok-None.ensures.legal asks

pub returns-in-Ok-clause-legal_edges : goal.returns-in-Ok-clause-legal_edges
returns-in-Ok-clause-legal_edges g c = λ edge at there asks. c.in-Ok.ensures.legal edge at there (g.met.P.Past.stays_asking _ _ at c.in-Ok-Some.ensures.kept.goes asks)

pub returns-in-Ok-clause-reached : goal.returns-in-Ok-clause-reached
returns-in-Ok-clause-reached g c = λ reached.
    let next = subst (λ (found : Option Event). IfSome found (λ _. g.P.Past.reached c.next.new.self.past c.next.new.spot)) c.in-Ok-Some.field-0-is (c.in-Ok-Some.ensures.reached reached) in
    g.met.P.Past.stays_reached _ _ c.next.new.spot c.in-Ok.ensures.past.goes.goes next

pub returns-in-Ok-None-clause-whole : goal.returns-in-Ok-None-clause-whole
returns-in-Ok-None-clause-whole g c = λ reached. subst (λ (found : Option Event). IfNone found (g.P.Past.whole c.args.past.now.past)) c.in-Ok-None.field-0-is (c.in-Ok-None.ensures.whole reached)
