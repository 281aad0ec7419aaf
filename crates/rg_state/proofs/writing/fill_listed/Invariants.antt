use Rattle.std.proofs.Common.{◌≡◌, ℕ, length, drop}
use Rattle.rg_state.specs.Sheets.{blank, page_at, and_spans, node_spans, pairs_of}
use Rattle.rg_state.proofs.writing.fill_listed.Given as goal

abbrev pub invariant-loop-slot : goal.invariant-loop-slot
invariant-loop-slot l = record {
  pages : (node : ℕ) → and_spans (page_at l.sheets.items node) (node_spans l.wanted node l.slots.rows.items (pairs_of l.slots.rows.items (drop l.slot-index l.list))) ≡ and_spans blank (node_spans l.wanted node l.slots.rows.items (pairs_of l.slots.rows.items l.list));
  count : length l.sheets.items ≡ l.nodes;
}
