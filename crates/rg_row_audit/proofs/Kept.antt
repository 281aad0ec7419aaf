-- A state with one value more, and a row's state beside it.
use Rattle.std.proofs.Common.{◌≡◌, ◌∙◌, ℕ, ◌+◌, ◌<◌, ◌≤◌, ◌^◌, Bool, true, false, List, [], ◌∷◌, ◌++◌, length, Ok, Err, Some, ap, sym, subst, arith, length-append}
use Rattle.std.specs.Prelude.{◌↔◌, IsTrue, All}
use Rattle.std.proofs.lemmas.List.Elements.{All-nil, All-cons, All-head, All-tail, All-weaker}
use Rattle.rg_event.specs.Tagged.{value_kind}
use Rattle.rg_event.specs.declared.value.Value.{Value}
use Rattle.rg_keywords.specs.declared.func.Func.{Func}
use Rattle.rg_agg.specs.Held.{Held, Begins, held_bytes}
use Rattle.rg_agg.proofs.Laws.{admitted_kept}
use Rattle.rg_agg.specs.Sharing.{kept_as}
use Rattle.rg_agg.specs.Standing.{Stands, func_of, size_in}
use Rattle.rg_state.specs.Rows.{AreLike, RowStands}
use Rattle.rg_state.specs.States.{held_of, state_at}
use Rattle.rg_metric.specs.Admitted.{IsAdmitted}
use Rattle.rg_state.specs.declared.state.AggState.{AggState}
use Rattle.rg_state.proofs.Laws.{state_read_back, keep_same}
use Rattle.rg_row_audit.proofs.Sizes.{none_left}
use Rattle.rg_row_audit.specs.Gathering.{Suits, Holds}
use Rattle.rg_row_audit.specs.declared.gathered.Gathered.{Gathered}

front_all : (P : Value → Type 0) (values : List Value) (v : Value) → All P (values ++ v ∷ []) → All P values × P v
front_all P [] v all = (All-nil P, All-head P v [] all)
front_all P (w ∷ values) v all =
    let rest = front_all P values v (All-tail P w (values ++ v ∷ []) all) in
    (All-cons P w values (All-head P w (values ++ v ∷ []) all) rest.0, rest.1)

-- values that one state can stand for, but for the last one of them
record Less (func : Func) (values : List Value) (v : Value) : Type 0 where
  suits : Suits func values
  takes : IsAdmitted func v
  like : AreLike v values
  room : length values < 2 ^ 40

less : (func : Func) (values : List Value) (v : Value) → Suits func (values ++ v ∷ []) → Less func values v
less func values v s =
    let kinds = front_all (λ w. value_kind w ≡ s.kind) values v s.alike in
    let takes = front_all (IsAdmitted func) values v s.taken in
    let few : length values + 1 ≤ 2 ^ 40 = omega (arith, s.few, length-append values (v ∷ [])) in
    record {
      suits = record { kind = s.kind; alike = kinds.0; taken = takes.0; few = omega (arith, few) };
      takes = takes.1;
      like = All-weaker (λ w. value_kind w ≡ s.kind) (λ w. value_kind w ≡ value_kind v) (λ w k. k ∙ sym kinds.1) values kinds.0;
      room = omega (arith, few);
    }

-- a state of no values
pub holds_none : (func : Func) (g : Gathered) → func_of (held_of g.state) ≡ kept_as func → g.spoilt ≡ false → Stands (held_of g.state) [] → Holds func g []
holds_none func g own good stands = record { own = own; stands = λ s. (good, stands) }

module _ (func : Func) (old new : Gathered) (values : List Value) (v : Value) (own : func_of (held_of new.state) ≡ func_of (held_of old.state)) (holds : Holds func old values) where
  -- it was spoilt before
  pub was_spoilt : old.spoilt ≡ true → Holds func new (values ++ v ∷ [])
  was_spoilt spoilt = record {
    own = own ∙ holds.own;
    stands = λ s. absurd (let good = (holds.stands (less func values v s).suits).0 in let e : true ≡ false = sym spoilt ∙ good in cc);
  }

  -- the value isn't taken
  pub not_taken : (IsAdmitted (func_of (held_of old.state)) v → ⊥) → Holds func new (values ++ v ∷ [])
  not_taken isnt = record {
    own = own ∙ holds.own;
    stands = λ s. absurd (isnt (subst (λ f. IsAdmitted f v) (sym holds.own) (admitted_kept func v (less func values v s).takes)));
  }

  -- the state has no room for it, or is of another kind
  pub not_fit : ((vs : List Value) → Stands (held_of old.state) vs → length vs < 2 ^ 40 → AreLike v vs → ⊥) → Holds func new (values ++ v ∷ [])
  not_fit unfit = record {
    own = own ∙ holds.own;
    stands = λ s. absurd (let l = less func values v s in unfit values (holds.stands l.suits).1 l.room l.like);
  }

  -- it was added
  pub was_added : new.spoilt ≡ old.spoilt → ((vs : List Value) → Stands (held_of old.state) vs → Stands (held_of new.state) (vs ++ v ∷ [])) → Holds func new (values ++ v ∷ [])
  was_added same added = record {
    own = own ∙ holds.own;
    stands = λ s. (let h = holds.stands (less func values v s).suits in (same ∙ h.0, added values h.1));
  }

abbrev held_in : Begins Held → Held → Held
held_in (Ok p) d = p.0
held_in (Err e) d = d

read_same : (r : Begins Held) (x y : Held) → r ≡ Ok (x, []) → r ≡ Ok (y, []) → x ≡ y
read_same r x y one two = ap (λ (s : Begins Held). held_in s x) (sym one ∙ two)

-- two states with the same bytes keep the same
same_bytes : (a b : AggState) → 0 < size_in (held_of a) → 0 < size_in (held_of b) → held_bytes (held_of a) ≡ held_bytes (held_of b) → held_of a ≡ held_of b
same_bytes a b some some' same =
    read_same (state_at (held_bytes (held_of a) ++ [])) (held_of a) (held_of b) (state_read_back a [] some)
    (ap (λ (l : List ℕ). state_at (l ++ [])) same ∙ state_read_back b [] some')

module _ (func : Func) (g : Gathered) (state : AggState) (values : List Value) (holds : Holds func g values) (suits : Suits func values) (some : 0 < length values) where
  pub never_spoilt : g.spoilt ≡ true → ⊥
  never_spoilt spoilt = let e : true ≡ false = sym spoilt ∙ (holds.stands suits).0 in cc

  pub never_blank : size_in (held_of g.state) ≡ 0 → ⊥
  never_blank blank =
      let none : values ≡ [] = none_left (held_of g.state) values (holds.stands suits).1 (sym blank) in
      omega (arith, some, ap length none)

  pub kept_by : 0 < size_in (held_of g.state) → 0 < size_in (held_of state) → held_bytes (held_of g.state) ≡ held_bytes (held_of state) → RowStands func (Some (held_of state)) values
  kept_by ours theirs same =
      let is = same_bytes g.state state ours theirs same in
      (ap func_of (sym is) ∙ holds.own, subst (λ h. Stands h values) is (holds.stands suits).1, some)

  pub bytes_of : RowStands func (Some (held_of state)) values → held_bytes (held_of g.state) ≡ held_bytes (held_of state)
  bytes_of row = ap held_bytes (keep_same g.state state values (holds.own ∙ sym row.0) (holds.stands suits).1 row.1)

  -- so the bytes tell it
  pub told_by : (same : Bool) → (0 < size_in (held_of g.state)) → (0 < size_in (held_of state)) → (IsTrue same ↔ (held_bytes (held_of g.state) ≡ held_bytes (held_of state))) → IsTrue same ↔ RowStands func (Some (held_of state)) values
  told_by same ours theirs told = (λ is. kept_by ours theirs (told.0 is), λ row. told.1 (bytes_of row))
