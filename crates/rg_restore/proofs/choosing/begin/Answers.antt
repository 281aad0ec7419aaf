use Rattle.std.proofs.Common.{inl, inr, length, ap, refl, subst}
use Rattle.rg_restore.specs.Choosing.{IsChosen}
use Rattle.rg_restore.specs.Fit.{IsFit}
use Rattle.rg_restore.specs.Opening.{IsUsable}
use Rattle.rg_restore.specs.Slots.{slot_in}
use Rattle.rg_restore.proofs.Saving.{same_past}
use Rattle.rg_restore.proofs.choosing.begin.Goals as goal

pub returns-in-Some-clause-begun : goal.returns-in-Some-clause-begun
returns-in-Some-clause-begun g c =
    let old = c.args.past.now in
    let new = c.choose.new.past in
    let plan = c.args.plan.now in
    let n = length (g.P.Past.events old) in
    let Fit = IsFit (g.P.Names.named old) c.args.queries.now c.args.fields.now plan n in
    let candidate = c.in-Some.candidate in
    let chosen = subst (IsChosen (g.P.Names.told old) Fit (IsUsable plan n) (slot_in c.args.saved)) c.in-Some.is c.in-Ok.ensures.chosen in
    record {
      usable = chosen.2;
      is_from = λ told. (candidate.checkpoint, chosen.1 told, refl);
      begun = (candidate.checkpoint, chosen.0, refl);
      rows = (candidate.checkpoint, chosen.0, refl);
      truthful = λ sound runs all.
          let best = chosen.1 (g.met.P.Names.sound_told old sound) in
          same_past (g.P.Past.spells old) (g.P.Past.spells new) plan (g.P.Past.events old) (g.P.Past.events new) candidate.checkpoint (λ spot. (c.choose.ensures.named.spells spot).1) c.choose.ensures.past.events
          (all candidate.slot candidate.checkpoint best.there best.fit.queries_are);
      origin = λ sound runs. inr (candidate.slot, chosen.1 (g.met.P.Names.sound_told old sound));
    }

pub returns-in-Ok-at_start-clause-begun : goal.returns-in-Ok-at_start-clause-begun
returns-in-Ok-at_start-clause-begun g c =
    let old = c.args.past.now in
    let plan = c.args.plan.now in
    let n = length (g.P.Past.events old) in
    let Fit = IsFit (g.P.Names.named old) c.args.queries.now c.args.fields.now plan n in
    let chosen = subst (IsChosen (g.P.Names.told old) Fit (IsUsable plan n) (slot_in c.args.saved)) c.in-None.is c.in-Ok.ensures.chosen in
    let kept = c.choose.ensures.past.past in
    let start = c.in-Ok-at_start.ensures in
    record {
      usable = subst (λ k. IsUsable plan k c.in-Ok-at_start.checkpoint) (ap length c.choose.ensures.past.events) start.usable;
      is_from = λ told. (chosen told, start.count);
      begun = start.zeros;
      rows = start.none;
      truthful = λ sound runs all. start.truthful (kept.sound sound) (λ ended. runs (kept.ended.0 ended));
      origin = λ sound runs. inl (start.truthful (kept.sound sound) (λ ended. runs (kept.ended.0 ended)));
    }
