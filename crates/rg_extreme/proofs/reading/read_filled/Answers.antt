use Rattle.std.proofs.Common.{arith}
use Rattle.std.proofs.lemmas.Grind.{common_steps}
use Rattle.rg_extreme.proofs.reading.read_filled.Goals as goal

pub returns-in-Ok-clause-agrees : goal.returns-in-Ok-clause-agrees
returns-in-Ok-clause-agrees c = grind (arith, common_steps)

pub returns-in-Err-clause-agrees : goal.returns-in-Err-clause-agrees
returns-in-Err-clause-agrees c = grind (arith, common_steps)

pub returns-in-Ok-clause-made : goal.returns-in-Ok-clause-made
returns-in-Ok-clause-made c =
    let filling = c.in-Ok.filling in
    record {
      size = c.in-Ok.ensures.most;
      count = c.in-Ok.ensures.count;
      sound = record {
        few = filling.few;
        sum = filling.sum;
        most = filling.most;
        some = λ any. omega (arith, c.in-Ok.ensures.count, c.requires.some);
        tally = c.in-Ok.ensures.sound;
      };
    }
