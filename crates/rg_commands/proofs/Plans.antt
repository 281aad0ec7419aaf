-- What the bytes of a plan say.
use Rattle.std.proofs.Common.{◌≡◌, inl, inr, ℕ, ◌≤◌, ◌<◌, List, [], length, Option, Some, None, Result, refl, ap, sym, ◌∙◌, subst, arith}
use Rattle.std.specs.Prelude as r
use Rattle.std.specs.Prelude.{IfSome}
use Rattle.std.proofs.lemmas.Bool.{lt-ltb, le-ltb}
use Rattle.rg_config.specs.Plans.{Planned, Says}
use Rattle.rg_config.specs.declared.fault.ConfigFault.{ConfigFault}
use Rattle.rg_config.proofs.Laws as config
use Rattle.rg_messages.specs.declared.refusal.Refusal.{Refusal}
use Rattle.rg_messages.specs.declared.status.Status.TheVariants.{Ok, Plan as BadPlan, Limit}
use Rattle.rg_commands.specs.Plan.{IsPlan, IsRefusal}
use Rattle.rg_commands.specs.Call.{IsCarried, TellsNoPlan, TellsFault, IsLegalPlan, refusal_line, refusal_of, plan_status, status_by}

pub one_plan : (bytes : List ℕ) (said other : Result Planned ConfigFault) → Says bytes said → Says bytes other → said ≡ other
one_plan bytes said other says also = config.one_plan bytes said other says also

-- A plan that was read.

pub tells_plan : (left : Option (List ℕ)) (plan : Planned) → IfSome left (λ bytes. IsPlan bytes plan) → TellsNoPlan left → ⊥
tells_plan left plan legal none =
    let P : Option (List ℕ) → Type 0 = λ v. IfSome v (λ b. IsPlan b plan) in
    none.2 plan (subst P none.1 legal)

pub legal_of : (plan : Option (List ℕ)) (p : Planned) → IfSome plan (λ bytes. IsPlan bytes p) → IsLegalPlan plan
legal_of (Some bytes) p h = (p, h)
legal_of None p h = tt

-- the plan that was told is the one that was read
pub bytes_ask : (plan : Option (List ℕ)) (p : Planned) → IfSome plan (λ bytes. IsPlan bytes p) → (bytes : List ℕ) (asks : Planned) → plan ≡ Some bytes → IsPlan bytes asks → p ≡ asks
bytes_ask plan p legal bytes asks is says =
    let P : Option (List ℕ) → Type 0 = λ v. IfSome v (λ b. IsPlan b p) in
    let told : IsPlan bytes p = subst P is legal in
    let e : r.Ok p ≡ r.Ok asks = one_plan bytes (r.Ok p) (r.Ok asks) told.says says.says in
    cc

-- so it is carried out
pub carried : (plan : Option (List ℕ)) (p : Planned) → IfSome plan (λ bytes. IsPlan bytes p) → (bytes : List ℕ) (asks : Result Planned ConfigFault) → plan ≡ Some bytes → Says bytes asks → (IsCarried bytes asks → ⊥) → ⊥
carried plan p legal bytes asks is says none =
    let P : Option (List ℕ) → Type 0 = λ v. IfSome v (λ b. IsPlan b p) in
    let told : IsPlan bytes p = subst P is legal in
    none (subst (λ v. IsCarried bytes v) (one_plan bytes (r.Ok p) asks told.says says) told.within)

-- what its bytes say is that plan
pub asks_is : (plan : Option (List ℕ)) (p : Planned) → IfSome plan (λ bytes. IsPlan bytes p) → (bytes : List ℕ) (asks : Result Planned ConfigFault) → plan ≡ Some bytes → Says bytes asks → (r.Ok p ≡ asks) × (length bytes ≤ 65536)
asks_is plan p legal bytes asks is says =
    let P : Option (List ℕ) → Type 0 = λ v. IfSome v (λ b. IsPlan b p) in
    let told : IsPlan bytes p = subst P is legal in
    (one_plan bytes (r.Ok p) asks told.says says, told.within)

-- The status that a plan calls for.

pub status_within : (bytes : List ℕ) (asks : Result Planned ConfigFault) → length bytes ≤ 65536 → plan_status bytes asks ≡ status_by asks
status_within bytes asks h = rw (le-ltb 65536 (length bytes) h) refl

pub status_longer : (bytes : List ℕ) (asks : Result Planned ConfigFault) → 65536 < length bytes → plan_status bytes asks ≡ Limit
status_longer bytes asks h = rw (lt-ltb 65536 (length bytes) h) refl

-- A plan that is refused.

-- the fault that is told of these bytes
pub told_refusal : (plan : Option (List ℕ)) (last : List ℕ) (told : Option Refusal) (bytes : List ℕ) (asks : Result Planned ConfigFault) → plan ≡ Some bytes → Says bytes asks → TellsFault plan last told →
    (refusal : Refusal) × (asks ≡ r.Err refusal.fault) × (last ≡ refusal_line refusal.fault) × (length bytes ≤ 65536)
told_refusal plan last told bytes asks is says tells =
    let P : Option (List ℕ) → Type 0 = λ v. TellsFault v last told in
    let at = subst P is tells in
    (at.0, one_plan bytes asks (r.Err at.0.fault) says at.2.says, at.3, at.2.within)

pub not_refused : (plan : Option (List ℕ)) (last : List ℕ) (told : Option Refusal) (bytes : List ℕ) (asks : Planned) → plan ≡ Some bytes → IsPlan bytes asks → TellsFault plan last told → ⊥
not_refused plan last told bytes asks is says tells =
    let at = told_refusal plan last told bytes (r.Ok asks) is says.says tells in
    let e : r.Ok asks ≡ r.Err at.0.fault = at.1 in
    absurd (cc)
