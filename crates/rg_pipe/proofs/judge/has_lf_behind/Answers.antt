use Rattle.std.proofs.Common.{◌≡◌, ◌-◌, drop, rules, ◌∙◌, ap}
use Rattle.rg_pipe.specs.Sent.{has_lf}
use Rattle.rg_pipe.proofs.Findings.{lf_found, lf_sought}
use Rattle.rg_pipe.proofs.judge.has_lf_behind.Goals as goal

pub returns-then-lf : goal.returns-then-lf
returns-then-lf c = lf_found c.args.bytes.now c.args.before c.args.lf c.requires c.if-lf.true

pub returns-else-lf : goal.returns-else-lf
returns-else-lf c =
    let count : c.saturating_sub.result ≡ c.args.before - 13 = search rules in
    let behind : c.behind.result.now ≡ drop (c.args.before - 13) (drop 13 c.args.bytes.now) =
    c.behind.ensures ∙ ap (λ n. drop n c.text_of.result.now) count ∙ ap (drop (c.args.before - 13)) c.text_of.ensures in
    lf_sought c.args.bytes.now c.args.before c.args.lf c.contains.result c.requires c.if-lf.false (c.contains.ensures.value ∙ ap has_lf behind)
