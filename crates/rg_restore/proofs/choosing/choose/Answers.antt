use Rattle.std.proofs.Common.{◌≡◌, length, ap, sym, subst}
use Rattle.std.proofs.lemmas.Result.{IfOk-weaker, IfErr-weaker}
use Rattle.rg_restore.specs.Choosing.{IsJudged}
use Rattle.rg_restore.specs.Fit.{IsFit}
use Rattle.rg_restore.specs.Opening.{IsUsable}
use Rattle.rg_restore.specs.Slots.{slot_in}
use Rattle.rg_restore.proofs.Asked.{events-then, named-then, refused-within}
use Rattle.rg_restore.proofs.Trying.{chosen_first, chosen_second, fit_same, judged_same}
use Rattle.rg_restore.proofs.choosing.choose.Goals as goal

pub returns-in-Ok-Some-clause-chosen : goal.returns-in-Ok-Some-clause-chosen
returns-in-Ok-Some-clause-chosen g c =
    let told = g.P.Names.told c.args.past.now in
    let n = length (g.P.Past.events c.args.past.now) in
    let Fit = IsFit (g.P.Names.named c.args.past.now) c.args.queries.now c.args.fields.now c.args.plan.now n in
    let Usable = IsUsable c.args.plan.now n in
    let newer = c.in_order-newer.result.0 in
    chosen_first told Fit Usable (slot_in c.args.saved) newer c.in_order-newer.result.1 c.in-Ok-Some.candidate c.in_order-newer.ensures
    (subst (IsJudged told Fit Usable newer) c.in-Ok-Some.field-0-is c.in-Ok-Some.ensures.judged)

pub returns-clause-chosen : goal.returns-clause-chosen
returns-clause-chosen g c =
    let old = c.args.past.now in
    let new = c.judge.new.past in
    let queries = c.args.queries.now in
    let fields = c.args.fields.now in
    let plan = c.args.plan.now in
    let told = g.P.Names.told old in
    let n = length (g.P.Past.events old) in
    let m = length (g.P.Past.events new) in
    let Fit = IsFit (g.P.Names.named old) queries fields plan n in
    let Later = IsFit (g.P.Names.named new) queries fields plan m in
    let newer = c.in_order-newer.result.0 in
    let older = c.in_order-newer.result.1 in
    let same : m ≡ n = ap length c.judge.ensures.past.events in
    IfOk-weaker c.judge-2.result _ _
    (λ found judged. chosen_second told Fit (IsUsable plan n) (slot_in c.args.saved) newer older found c.in_order-newer.ensures
    (subst (IsJudged told Fit (IsUsable plan n) newer) c.in-Ok-None.field-0-is c.in-Ok-None.ensures.judged)
    (judged_same (g.P.Names.told new) told Later Fit (IsUsable plan m) (IsUsable plan n) older found c.judge.ensures.named.told
    (λ x. fit_same (g.P.Names.named new) (g.P.Names.named old) queries fields plan m n x (λ spot. (c.judge.ensures.named.named spot).0) same)
    (λ x. fit_same (g.P.Names.named old) (g.P.Names.named new) queries fields plan n m x (λ spot. (c.judge.ensures.named.named spot).1) (sym same))
    (λ x usable. subst (λ k. IsUsable plan k x) same usable) judged))
    c.judge-2.ensures.judged

pub returns-clause-named : goal.returns-clause-named
returns-clause-named g c = named-then _ _ _ _ _ _ _ c.judge.ensures.named c.judge-2.ensures.named

pub returns-clause-past : goal.returns-clause-past
returns-clause-past g c = events-then _ _ _ _ _ _ _ _ _ g.met.P.Past.transitive c.judge.ensures.past c.judge-2.ensures.past

pub returns-clause-cause : goal.returns-clause-cause
returns-clause-cause g c =
    let kept = c.judge.ensures.past.past in
    IfErr-weaker c.judge-2.result _ _ (λ fault cause. refused-within _ _ _ _ _ _ _ _ fault kept.later kept.sound kept.ended.0 cause) c.judge-2.ensures.cause
