use Rattle.std.proofs.Common.{rules, ◌∙◌, ap, ℕ, List, ◌++◌}
use Rattle.rg_growth.specs.Payloads.{growth_bytes}
use Rattle.rg_reservoir.proofs.Gathering.{growing_kept}
use Rattle.rg_reservoir.proofs.first.growth_for.Goals as goal

pub returns-clause-some : goal.returns-clause-some
returns-clause-some c =
    let growth = c.in-Some-2.growth in
    let is = rw c.in-Some-2.is at c.in_ok-growth.ensures.growth in
    record {
      from = c.in-Some.from;
      known = search rules;
      values = growth.values;
      fills = is.1;
      payload_is = c.in_ok-encode.ensures.ok ∙ ap (λ (l : List ℕ). l ++ growth_bytes growth) c.new-payload.ensures.items ∙ ap growth_bytes is.0;
      growing_is = growing_kept c.args.place _ c.in-Some.from c.in_ok-copy.field-0 _ growth.values _ c.in_ok-copy.ensures (search rules);
    }
