use Rattle.std.proofs.Common.{◌≡◌, ◌++◌, drop, map, option_map}
use Rattle.toml.specs.View.{items_view}
use Rattle.rg_config.specs.Documents.{texts}
use Rattle.rg_config.proofs.table.texts_of.Given as goal

abbrev pub invariant-items : goal.invariant-items
invariant-items l = texts (items_view l.items) ≡ option_map (λ more. map (λ text. text.now) l.found.items ++ more) (texts (items_view (drop l.item-index l.items)))
