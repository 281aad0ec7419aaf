use Rattle.std.proofs.Common.{arith}
use Rattle.rg_host.proofs.Finds.{all_spent, no_lf-pending}
use Rattle.rg_host.proofs.Nexts.{next_stopped}
use Rattle.rg_host.proofs.scanner.Scanner.load.Goals as goal

pub returns-then-self-gt-MAX_INPUT_BYTES-clause-next : goal.returns-then-self-gt-MAX_INPUT_BYTES-clause-next
returns-then-self-gt-MAX_INPUT_BYTES-clause-next g c =
    rw (← c.self.view_is)
    (next_stopped _ _ c.if-self-gt-MAX_INPUT_BYTES.true c.self.invariant.within c.if-self.false (no_lf-pending c.self.inside.skipping _ c.self.inside.taken c.self.inside.ended (c.self.invariant.past_limit c.if-self-gt-MAX_INPUT_BYTES.true)))

pub search-requires : goal.search-requires
search-requires g c =
    rw (← c.self.view_is)
    (record {
      going = record {
        limit = omega (arith, c.if-self-gt-MAX_INPUT_BYTES.false);
        not_ended = c.if-self.false;
        all_spent = all_spent c.self.inside.skipping _ c.self.inside.taken c.self.inside.ended;
      };
    })
