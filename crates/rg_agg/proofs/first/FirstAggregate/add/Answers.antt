use Rattle.std.proofs.Common.{arith, is_ok, map, rules}
use Rattle.std.proofs.lemmas.List.{length-map}
use Rattle.rg_agg.specs.Numbers.{value_of}
use Rattle.rg_agg.proofs.Admitted.{number_admitted}
use Rattle.rg_agg.proofs.Queues.{like_first, pushed_keeps}
use Rattle.rg_agg.proofs.first.FirstAggregate.add.Goals as goal

pub invariant_of-self : goal.invariant_of-self
invariant_of-self c =
    let old = c.args.self.now.numbers.items in
    let takes = number_admitted c.args.value.now c.requires.admitted in
    let like = like_first c.args.value.now (map value_of old) takes c.requires.like in
    let keeps = pushed_keeps (is_ok c.push_back.result) old c.push_back.new.self.items c.in-Some.number c.args.value.now c.push_back.ensures.items (omega (arith, c.requires.room, length-map old value_of)) c.args.self.now.alike (search rules) takes like in
    record { few = keeps.0; alike = keeps.1 }
