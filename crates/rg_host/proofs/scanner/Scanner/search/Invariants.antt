use Rattle.std.proofs.Common.{◌≡◌, ◌≤◌, ◌-◌, ◌^◌}
use Rattle.rg_host.specs.Lines.{HasNoLf}
use Rattle.rg_host.specs.Scan.{Takes}
use Rattle.rg_host.proofs.scanner.Scanner.search.Given as goal

abbrev pub invariant-lines : goal.invariant-lines
invariant-lines g l = record {
  takes : Takes l.fn.self.reading l.self.reading (g.S.Source.left l.fn.src) (g.S.Source.left l.src);
  limit : l.self.reading.taken ≤ 2 ^ 50;
  later : g.S.Source.faults l.fn.src ≤ g.S.Source.faults l.src;
  held : (HasNoLf l.fn.self.reading.pending → ⊥) → (l.self ≡ l.fn.self) × (l.src ≡ l.fn.src);
}

abbrev pub decreases-lines : goal.decreases-lines
decreases-lines g l = 2 ^ 50 - l.self.reading.taken
