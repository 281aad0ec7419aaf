use Rattle.rg_serve.proofs.Within.{still_moments}
use Rattle.rg_serve.proofs.gather.ease.Goals as goal

pub returns-then-len-lt-MAX_GATHERED_BYTES-clause-flushes : goal.returns-then-len-lt-MAX_GATHERED_BYTES-clause-flushes
returns-then-len-lt-MAX_GATHERED_BYTES-clause-flushes g c = record {
  moments = λ plan e replies w. still_moments g.K.Task.view plan e g.met.K.Task.only_now g.met.K.Task.sinks replies c.args.task.now c.args.gathered.now.items w;
  within = λ plan e replies w. w;
}
