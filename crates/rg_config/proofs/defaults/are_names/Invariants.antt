use Rattle.std.proofs.Common.{◌≡◌}
use Rattle.toml.specs.View.{table_view, members_view}
use Rattle.rg_config.specs.Documents.{all_keys, names}
use Rattle.rg_config.proofs.defaults.are_names.Given as goal

abbrev pub invariant-keys : goal.invariant-keys
invariant-keys l = record {
  can : (goal.iterator-keys).can_next l.key-iterator;
  ends : (goal.iterator-keys).is_finite l.key-iterator;
  rest : all_keys (names l.fields) (members_view l.key-iterator) ≡ all_keys (names l.fields) (table_view l.table);
}
