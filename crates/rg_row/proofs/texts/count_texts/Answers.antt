use Rattle.std.proofs.Common.{◌+◌, ◌==◌, ap, sym, ◌∙◌, arith}
use Rattle.std.specs.List.{count_by}
use Rattle.std.proofs.lemmas.List.{take_all}
use Rattle.std.proofs.lemmas.List.Splits.{length-slice_split}
use Rattle.rg_row.proofs.texts.count_texts.Goals as goal

pub returns : goal.returns
returns c =
    c.loop-byte.invariant
    ∙ ap (λ bytes. count_by (λ byte. byte == 44) bytes + 1) (take_all c.loop-byte.byte-index c.args.line.now (omega arith))
    ∙ sym (length-slice_split (λ byte. byte == 44) c.args.line.now)
