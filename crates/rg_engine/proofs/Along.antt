-- A row along a chain of visits.
use Rattle.std.proofs.Common.{ℕ, List, [], ◌∷◌, ◌++◌, Option, Some, None, sym, subst}
use Rattle.std.specs.Prelude.{Result, Ok}
use Rattle.std.proofs.lemmas.List.{append-nil}
use Rattle.rg_event.specs.declared.event.Event.{Event}
use Rattle.rg_event.specs.declared.value.Value.{Value}
use Rattle.rg_keywords.specs.declared.func.Func.{Func}
use Rattle.rg_agg.specs.Held.{Held}
use Rattle.rg_state.specs.declared.table.Change.{Change}
use Rattle.rg_state.specs.declared.table.Change.TheVariants.{Add, Remove}
use Rattle.rg_state.specs.Rows.{RowStands, Changed, Unfit}
use Rattle.rg_window.specs.Chain.{Visited}
use Rattle.rg_engine.specs.Deeds.{Deed, Does, Blocked, lead_change, lead_by, Leads}

change_lead : (func : Func) (change : Change) (value : Value) (next : List Value → Type 0) (old new : Option Held) (values : List Value) → RowStands func old values → Changed func change value old new → lead_change change value next values →
    (after : List Value) × RowStands func new after × next after
change_lead func Add value next old new values stands changed leads = (values ++ value ∷ [], changed values stands, leads.2)
change_lead func Remove value next old new values stands changed leads = (leads.0, changed leads.0 (subst (RowStands func old) leads.1 stands), leads.2)

does_lead : (func : Func) (deed : Option Deed) (next : List Value → Type 0) (old new : Option Held) (values : List Value) → RowStands func old values → Does func deed old new → lead_by deed next values → (after : List Value) × RowStands func new after × next after
does_lead func None next old new values stands does leads = (values, subst (λ row. RowStands func row values) (sym does) stands, leads)
does_lead func (Some deed) next old new values stands does leads = change_lead func deed.change deed.value next old new values stands does leads

-- a row that stands for some values, after visits that begin to lead on, stands for values that the rest of the visits lead on
pub row_until : {V F : Type 0} (step : V → ℕ → Event → Result Unit F → V → Type 0) (ok : V → Type 0) (row : V → Option Held) (func : Func) (deed : ℕ → Event → Option Deed) →
    ((v w : V) (edge : ℕ) (x : Event) → ok v → step v edge x (Ok tt) w → (ok w) × Does func (deed edge x) (row v) (row w)) →
    (visits rest : List (ℕ × Event)) (v w : V) (values after : List Value) → ok v → Visited step v visits w → RowStands func (row v) values → Leads deed (visits ++ rest) after values →
    (ok w) × (between : List Value) × RowStands func (row w) between × Leads deed rest after between
row_until step ok row func deed does [] rest v w values after is chain stands leads = (subst ok chain is, values, subst (λ u. RowStands func (row u) values) chain stands, leads)
row_until step ok row func deed does (visit ∷ visits) rest v w values after is chain stands leads =
    let d = does v chain.0 visit.0 visit.1 is chain.1 in
    let k = does_lead func (deed visit.0 visit.1) (Leads deed (visits ++ rest) after) (row v) (row chain.0) values stands d.1 leads in
    row_until step ok row func deed does visits rest chain.0 w k.0 after d.0 chain.2 k.1 k.2

-- after visits that lead from the values that it stood for to others, it stands for those
pub row_along : {V F : Type 0} (step : V → ℕ → Event → Result Unit F → V → Type 0) (ok : V → Type 0) (row : V → Option Held) (func : Func) (deed : ℕ → Event → Option Deed) →
    ((v w : V) (edge : ℕ) (x : Event) → ok v → step v edge x (Ok tt) w → (ok w) × Does func (deed edge x) (row v) (row w)) →
    (visits : List (ℕ × Event)) (v w : V) (values after : List Value) → ok v → Visited step v visits w → RowStands func (row v) values → Leads deed visits after values → RowStands func (row w) after
row_along step ok row func deed does visits v w values after is chain stands leads =
    let k = row_until step ok row func deed does visits [] v w values after is chain stands (subst (λ u. Leads deed u after values) (sym (append-nil visits)) leads) in
    subst (λ u. RowStands func (row w) u) k.3 k.2

unfit_not : (func : Func) (change : Change) (value : Value) (next : List Value → Type 0) (row : Option Held) (values : List Value) → Unfit func change value row → RowStands func row values → lead_change change value next values → ⊥
unfit_not func Add value next row values unfit stands leads = unfit values stands leads.0 leads.1
unfit_not func Remove value next row values unfit stands leads = unfit leads.0 (subst (λ u. RowStands func row u) leads.1 stands)

-- a row that stands for values that are led on takes its deed
pub not_blocked : (func : Func) (deed : Option Deed) (next : List Value → Type 0) (row : Option Held) (values : List Value) → Blocked func deed row → RowStands func row values → lead_by deed next values → ⊥
not_blocked func None next row values blocked stands leads = blocked
not_blocked func (Some deed) next row values blocked stands leads = unfit_not func deed.change deed.value next row values blocked stands leads
