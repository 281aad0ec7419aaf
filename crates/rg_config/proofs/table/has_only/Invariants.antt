use Rattle.std.proofs.Common.{◌≡◌, map}
use Rattle.toml.specs.View.{table_view, members_view}
use Rattle.rg_config.specs.Documents.{all_keys}
use Rattle.rg_config.proofs.table.has_only.Given as goal

abbrev pub invariant-keys : goal.invariant-keys
invariant-keys l = record {
  can : (goal.iterator-keys).can_next l.key-iterator;
  ends : (goal.iterator-keys).is_finite l.key-iterator;
  rest : all_keys (map (λ key. key.now) l.keys) (members_view l.key-iterator) ≡ all_keys (map (λ key. key.now) l.keys) (table_view l.table);
}
