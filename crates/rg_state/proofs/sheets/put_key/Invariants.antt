use Rattle.std.proofs.Common.{◌≡◌, length}
use Rattle.rg_state.proofs.Sheeted.{Left}
use Rattle.rg_state.proofs.sheets.put_key.Given as goal

abbrev pub invariant-loop-kept : goal.invariant-loop-kept
invariant-loop-kept l = record {
  left : Left l.wanted l.key l.kepts l.kept-index l.fn.sheets.items l.sheets.items;
  count : length l.sheets.items ≡ length l.fn.sheets.items;
}
