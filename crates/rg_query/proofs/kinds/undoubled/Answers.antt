use Rattle.rg_query.specs.Resolving.{inside}
use Rattle.rg_query.proofs.Strings.{second, first, other}
use Rattle.rg_query.proofs.kinds.undoubled.Goals as goal
use Rattle.rg_query.proofs.kinds.undoubled.Goals.{then-is_behind_quote+in_ok-push, else-is_behind_quote+then-byte-eq39, else-is_behind_quote+else-byte-eq39+in_ok-push-2}

pub loop-byte-preserved : goal.loop-byte-preserved
loop-byte-preserved c =
    let text = c.args.text.now in
    let i = c.loop-byte.byte-index in
    elim c.if-is_behind_quote.branch [
      | then-is_behind_quote+in_ok-push w ↦
          rw w.bytes-is (rw w.is_behind_quote-is (second (inside text) c.loop-byte.bytes.items _ text i c.loop-byte-test.true (rw w.if-is_behind_quote.true at c.loop-byte.invariant) w.in_ok-push.ensures.items))
      | else-is_behind_quote+then-byte-eq39 w ↦
          rw w.bytes-is (rw w.is_behind_quote-is (first (inside text) c.loop-byte.bytes.items text i c.loop-byte-test.true (rw w.if-is_behind_quote.false at c.loop-byte.invariant) w.if-byte-eq39.true))
      | else-is_behind_quote+else-byte-eq39+in_ok-push-2 w ↦
          rw w.bytes-is (rw w.is_behind_quote-is (rw w.if-is_behind_quote.false (other (inside text) c.loop-byte.bytes.items _ text i c.loop-byte-test.true (rw w.if-is_behind_quote.false at c.loop-byte.invariant) w.if-byte-eq39.false w.in_ok-push-2.ensures.items)))
    ]
