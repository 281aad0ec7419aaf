use Rattle.std.proofs.Common.{◌≡◌, ◌++◌, drop, take}
use Rattle.std.specs.List.{All}
use Rattle.rg_bytes.specs.Keeps.{Keeps}
use Rattle.rg_bytes.specs.Reading.{list_bytes}
use Rattle.rg_checkpoint.specs.Base.{text_bytes, IsText}
use Rattle.rg_checkpoint.proofs.encode.put_each_text.Given as goal

abbrev pub invariant-loop-text : goal.invariant-loop-text
invariant-loop-text l = record {
  to_come : l.out.items ++ list_bytes text_bytes (drop l.text-index l.texts) ≡ l.fn.out.items ++ list_bytes text_bytes l.texts;
  fits : All IsText (take l.text-index l.texts);
  keeps : Keeps l.fn.out.items l.out.items;
}
