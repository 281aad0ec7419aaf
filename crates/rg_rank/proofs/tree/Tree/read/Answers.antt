use Rattle.std.proofs.Common.{ap, ◌∙◌, arith}
use Rattle.std.proofs.lemmas.Grind.{common_steps}
use Rattle.rg_agg.specs.Held.{number_value_at}
use Rattle.rg_agg.specs.Stands.{IsNumber}
use Rattle.rg_agg.specs.Unbeaten.{is_less}
use Rattle.rg_agg.specs.declared.fault.StateFault.TheVariants.{Memory}
use Rattle.rg_agg.proofs.Laws.{number_value_reads_back}
use Rattle.rg_bytes.proofs.Laws.{both_answers, memory_only}
use Rattle.rg_multiset.specs.Reading.{pairs_at}
use Rattle.rg_multiset.proofs.Laws.{tally_back}
use Rattle.rg_rank.specs.Shapes.{listed}
use Rattle.rg_rank.proofs.tree.Tree.read.Goals as goal

pub returns-in-Ok-clause-agrees : goal.returns-in-Ok-clause-agrees
returns-in-Ok-clause-agrees c = grind (arith, common_steps)

pub returns-in-Err-clause-agrees : goal.returns-in-Err-clause-agrees
returns-in-Err-clause-agrees c = grind (arith, common_steps)

pub returns-in-Ok-clause-reads_back : goal.returns-in-Ok-clause-reads_back
returns-in-Ok-clause-reads_back c = λ pairs rest sound some stood.
    both_answers (pairs_at number_value_at is_less c.args.tag c.args.from.now) (listed c.in-Ok.filling.tree) pairs c.read_list.new.from rest (returns-in-Ok-clause-agrees c)
    (ap (pairs_at number_value_at is_less c.args.tag) stood ∙ tally_back IsNumber number_value_at is_less number_value_reads_back c.args.tag pairs rest sound some)

pub returns-in-Err-clause-reads_back : goal.returns-in-Err-clause-reads_back
returns-in-Err-clause-reads_back c = λ pairs rest sound some stood.
    memory_only Memory (pairs_at number_value_at is_less c.args.tag c.args.from.now) c.in-Err.fault (pairs, rest) (returns-in-Err-clause-agrees c)
    (ap (pairs_at number_value_at is_less c.args.tag) stood ∙ tally_back IsNumber number_value_at is_less number_value_reads_back c.args.tag pairs rest sound some)
