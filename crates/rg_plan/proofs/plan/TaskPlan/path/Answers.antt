use Rattle.std.proofs.Common.{rules, ◌≡◌, ℕ, Option, None, ap, sym, ◌∙◌}
use Rattle.std.specs.Option.{option_copied}
use Rattle.rg_plan.specs.Plans.{node_in, path_at}
use Rattle.rg_plan.proofs.Paths.{none_exactly, node_of_path}
use Rattle.rg_plan.proofs.plan.TaskPlan.path.Goals as goal

pub returns-in-None-clause-none : goal.returns-in-None-clause-none
returns-in-None-clause-none c =
    let is : ◌≡◌ {A = Option ℕ} None (path_at c.args.self.now.paths c.args.query c.args.agg) = search rules in
    none_exactly c.args.self.now c.args.query c.args.agg None is

pub returns-in-None-clause-node : goal.returns-in-None-clause-node
returns-in-None-clause-node c =
    let is : ◌≡◌ {A = Option ℕ} None (path_at c.args.self.now.paths c.args.query c.args.agg) = search rules in
    node_of_path c.args.self.now c.args.query c.args.agg None is

pub returns-in-Some-clause-none : goal.returns-in-Some-clause-none
returns-in-Some-clause-none c =
    let found = sym (ap option_copied c.in-Some.is) ∙ c.nodes.ensures in
    let is : c.number_at.result ≡ path_at c.args.self.now.paths c.args.query c.args.agg =
    c.number_at.ensures ∙ ap (λ path. node_in path c.args.agg) found in
    none_exactly c.args.self.now c.args.query c.args.agg c.number_at.result is

pub returns-in-Some-clause-node : goal.returns-in-Some-clause-node
returns-in-Some-clause-node c =
    let found = sym (ap option_copied c.in-Some.is) ∙ c.nodes.ensures in
    let is : c.number_at.result ≡ path_at c.args.self.now.paths c.args.query c.args.agg =
    c.number_at.ensures ∙ ap (λ path. node_in path c.args.agg) found in
    node_of_path c.args.self.now c.args.query c.args.agg c.number_at.result is
