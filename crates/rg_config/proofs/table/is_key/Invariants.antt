use Rattle.std.proofs.Common.{◌≡◌, drop, map}
use Rattle.rg_config.specs.Documents.{is_one_of}
use Rattle.rg_config.proofs.table.is_key.Given as goal

abbrev pub invariant-known : goal.invariant-known
invariant-known l = is_one_of (map (λ known. known.now) l.keys) l.key ≡ is_one_of (map (λ known. known.now) (drop l.known-index l.keys)) l.key
