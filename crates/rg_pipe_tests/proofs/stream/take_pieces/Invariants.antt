use Rattle.std.proofs.Common.{◌≤◌, ◌+◌, ◌^◌, length}
use Rattle.rg_pipe_tests.proofs.stream.take_pieces.Given as goal

abbrev pub invariant-pieces : goal.invariant-pieces
invariant-pieces l = l.pipe.place + length l.pipe.pending + length l.left ≤ 2 ^ 62

abbrev pub decreases-pieces : goal.decreases-pieces
decreases-pieces l = length l.left
