use Rattle.std.proofs.Common.{◌≡◌, length, take}
use Rattle.rg_engine.specs.Answering.{keys_for}
use Rattle.rg_engine.proofs.answering.make_keys.Given as goal

abbrev pub invariant-groups : goal.invariant-groups
invariant-groups l = record {
  made : take l.group l.keys.items ≡ keys_for (take l.group l.groups) l.event;
  same : length l.keys.items ≡ length l.groups;
}
