-- How many values a state stands for.
use Rattle.std.proofs.Common.{◌≡◌, List, [], length, ap, sym, ◌∙◌}
use Rattle.std.proofs.lemmas.List.{nil_from_length}
use Rattle.rg_agg.specs.Held.{Held, counted, summed, averaged, squared, queued, ended, lowest, highest, varied, ranked}
use Rattle.rg_agg.specs.Standing.{Stands, size_in}
use Rattle.rg_event.specs.declared.value.Value.{Value}

size_is : (held : Held) (values : List Value) → Stands held values → size_in held ≡ length values
size_is (counted n) values stands = stands
size_is (summed n sum) values stands = stands.count
size_is (averaged n sum) values stands = stands.count
size_is (squared n sum) values stands = stands.count
size_is (queued kept) values stands = ap length stands
size_is (ended n last) values stands = stands.count
size_is (lowest n pairs) values stands = stands.count
size_is (highest n pairs) values stands = stands.count
size_is (varied pairs) values stands = stands.0
size_is (ranked pairs) values stands = stands.0

pub none_left : (held : Held) (values : List Value) → Stands held values → 0 ≡ size_in held → values ≡ []
none_left held values stands none = nil_from_length values (sym (none ∙ size_is held values stands))
