use Rattle.std.proofs.Common.{◌≡◌, ◌<◌, List, Some, length, arith, rules}
use Rattle.std.specs.Prelude.{◌↔◌, IsTrue}
use Rattle.std.proofs.lemmas.Result.{IfOk-weaker}
use Rattle.rg_event.specs.declared.value.Value.{Value}
use Rattle.rg_keywords.specs.declared.func.Func.{Func}
use Rattle.rg_agg.specs.Held.{held_bytes}
use Rattle.rg_state.specs.Rows.{RowStands}
use Rattle.rg_state.specs.States.{held_of}
use Rattle.rg_row_audit.specs.Gathering.{Suits, Holds}
use Rattle.rg_row_audit.proofs.Kept.{told_by}
use Rattle.rg_row_audit.proofs.gathered.Gathered.is_kept_by.Goals as goal

pub returns : goal.returns
returns c =
    IfOk-weaker c.have_same_bytes.result (λ same. IsTrue same ↔ (held_bytes (held_of c.args.self.now.state) ≡ held_bytes (held_of c.args.state.now)))
    (λ same. (func : Func) (values : List Value) → Holds func c.args.self.now values → Suits func values → 0 < length values → IsTrue same ↔ RowStands func (Some (held_of c.args.state.now)) values)
    (λ same told func values holds suits some. told_by func c.args.self.now c.args.state.now values holds suits some same (search (rules, arith)) c.requires told)
    c.have_same_bytes.ensures
