use Rattle.std.proofs.Common.{◌≤◌, ◌+◌, length}
use Rattle.rg_pipe_tests.proofs.stream.take_piece.Given as goal

abbrev pub invariant-take : goal.invariant-take
invariant-take l = l.pipe.place + length l.pipe.pending + length l.left ≤ l.fn.pipe.place + length l.fn.pipe.pending + length l.fn.piece

abbrev pub decreases-take : goal.decreases-take
decreases-take l = length l.left
