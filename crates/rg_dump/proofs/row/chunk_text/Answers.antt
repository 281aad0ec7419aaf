use Rattle.std.proofs.Common.{◌≡◌, ◌∙◌, ◌+◌, Some, None, sym, ap, subst, map, take, List, ℕ, arith}
use Rattle.std.specs.Prelude.{slice_get, option_copied}
use Rattle.rg_host.specs.Lines.{ended}
use Rattle.rg_dump.specs.Rows.{row_line, IsBetween}
use Rattle.rg_dump.proofs.Rows.{rows_more, has_event}
use Rattle.rg_dump.proofs.row.chunk_text.Goals.{in-Some+in_ok-write_row, in_default}
use Rattle.rg_dump.proofs.row.chunk_text.Goals as goal

pub events-preserved : goal.events-preserved
events-preserved c = elim c.match-get.branch [
  | in-Some+in_ok-write_row w ↦
      let is : slice_get c.args.chunk.now c.events.index ≡ Some w.in-Some.event.now = sym c.get.ensures.event ∙ ap option_copied w.in-Some.is in
      record {
        between = subst (λ wr. IsBetween wr (ended (map row_line (take (c.events.index + 1) c.args.chunk.now)))) (sym w.writer-is)
            (subst (λ (l : List ℕ). IsBetween w.write_row.new.writer l) (sym (rows_more c.args.chunk.now c.events.index w.in-Some.event.now is)) (w.in_ok-write_row.ensures _ c.events.invariant.between));
      }
  | in_default w ↦
      let none : slice_get c.args.chunk.now c.events.index ≡ None = sym c.get.ensures.event ∙ ap option_copied w.in_default.is in
      absurd (has_event c.args.chunk.now c.events.index (omega (arith, c.events-test.true, c.count-index-end.ensures.count)) none)
]
