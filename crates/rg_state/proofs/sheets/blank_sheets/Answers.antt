use Rattle.std.proofs.Common.{◌∙◌, ◌∷◌, [], length, length-append, ap, arith}
use Rattle.rg_state.specs.Sheets.{page_of, page_at}
use Rattle.rg_state.specs.declared.sheets.Sheet.{Sheet}
use Rattle.rg_state.proofs.Sheeted.{page_pushed}
use Rattle.rg_state.proofs.sheets.blank_sheets.Goals as goal

pub loop-preserved : goal.loop-preserved
loop-preserved c =
    let sheet : Sheet = record { bytes = c.room_of_last-bytes.result; rows = 0 } in
    record {
      pages = λ node. ap (λ sheets. page_at sheets node) c.in_ok-push.ensures.items ∙ page_pushed c.loop.sheets.items sheet node (ap (λ bytes. page_of bytes 0) c.room_of_last-bytes.ensures) ∙ c.loop.invariant.pages node;
      count = omega (arith, ap length c.in_ok-push.ensures.items, length-append c.loop.sheets.items (sheet ∷ []), c.loop.invariant.count);
    }
