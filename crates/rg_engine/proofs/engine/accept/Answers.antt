use Rattle.std.proofs.Common.{◌∙◌, Err, ap, sym, rules}
use Rattle.rg_engine.proofs.Plain.{same_fault}
use Rattle.rg_engine.proofs.Taken.{refused_by, full_is_not_ended, not_err}
use Rattle.rg_engine.proofs.engine.accept.Goals as goal

pub returns-in-Err-append-clause-accepted : goal.returns-in-Err-append-clause-accepted
returns-in-Err-append-clause-accepted g c =
    let kept = c.in-Err-append.ensures in
    record {
      appended = search rules;
      not_ended = search rules;
      below = search rules;
      same = kept.err;
      room = kept.keeps_room;
      refused = refused_by _ _ c.in-Err-append.fault (λ is. kept.ended.0 (ap Err is)) (λ is. (λ ended. full_is_not_ended (sym is ∙ same_fault (kept.ended.1 ended)), kept.full (ap Err is)))
          (λ is. kept.no_disk (ap Err is)) (λ place is. kept.no_damage place (ap Err is));
    }

pub returns-clause-accepted : goal.returns-clause-accepted
returns-clause-accepted g c =
    let kept = c.in-Ok-append.ensures in
    record {
      appended = kept.ok;
      not_ended = λ ended. not_err (kept.ended.1 ended);
      below = kept.below;
      same = search rules;
      room = search rules;
      refused = search rules;
    }
