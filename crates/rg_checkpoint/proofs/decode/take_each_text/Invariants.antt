use Rattle.std.proofs.Common.{◌≡◌, ◌-◌, ◌++◌, [], length}
use Rattle.std.specs.List.{All}
use Rattle.rg_bytes.specs.Reading.{list_bytes, more_at}
use Rattle.rg_checkpoint.specs.Base.{text_bytes, IsText}
use Rattle.rg_checkpoint.specs.Reading.{next_text_at}
use Rattle.rg_checkpoint.proofs.decode.take_each_text.Given as goal

abbrev pub invariant-loop-done : goal.invariant-loop-done
invariant-loop-done l = record {
  counted : length l.texts ≡ l.done;
  to_come : more_at next_text_at [] l.count l.fn.from ≡ more_at next_text_at l.texts (l.count - l.done) l.from;
  taken : l.fn.from ≡ list_bytes text_bytes l.texts ++ l.from;
  legal : All IsText l.texts;
}
