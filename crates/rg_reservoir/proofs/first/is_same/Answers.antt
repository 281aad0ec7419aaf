use Rattle.std.proofs.Common.{rules, ◌≡◌, ◌∙◌, ap, sym, List, ℕ, ◌∷◌}
use Rattle.rg_event.specs.Shapes.{schema_text}
use Rattle.rg_log.proofs.Laws.{one_shape}
use Rattle.rg_reservoir.proofs.first.is_same.Goals as goal

pub returns-clause-same : goal.returns-clause-same
returns-clause-same c = λ is.
    let own : c.write.new.out.items ≡ schema_text c.args.one.now = search rules in
    let others : c.write-2.new.out.items ≡ schema_text c.args.other.now = search rules in
    let same : c.write.new.out.items ≡ c.write-2.new.out.items = search rules in
    one_shape c.args.one.now c.args.other.now c.write.ensures.legal c.write-2.ensures.legal (ap (λ (l : List ℕ). 83 ∷ l) (sym own ∙ same ∙ others))
