use Rattle.std.proofs.Common.{◌≡◌, ◌≤◌, drop}
use Rattle.rg_selftest.specs.Words.{last_word}
use Rattle.rg_selftest.proofs.number.word_at_end.Given as goal

abbrev pub invariant-places : goal.invariant-places
invariant-places l = record {
  word : last_word l.line l.line ≡ last_word (drop l.start l.line) (drop l.place l.line);
  within : l.start ≤ l.place;
}
