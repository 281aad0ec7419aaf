use Rattle.std.proofs.Common.{◌≡◌, suc, drop}
use Rattle.toml.specs.View.{table_view}
use Rattle.rg_config.specs.Documents.{defaults_from}
use Rattle.rg_config.proofs.DefaultsRead.{behind}
use Rattle.rg_config.proofs.defaults.each_default.Given as goal

abbrev pub invariant-columns : goal.invariant-columns
invariant-columns l = defaults_from 1 l.fields (table_view l.table) ≡ behind l.defaults (defaults_from (suc l.i) (drop l.i l.fields) (table_view l.table))
