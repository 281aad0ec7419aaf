use Rattle.std.proofs.Common.{Err, ap}
use Rattle.rg_state.specs.declared.table.TableFault.{TableFault}
use Rattle.rg_recover.proofs.payload.encode_since.Goals as goal

pub want_of-requires : goal.want_of-requires
want_of-requires g c = λ n is. c.in-Err-encode_changes.ensures.no_bad n (ap (λ (f : TableFault). Err f) is)
