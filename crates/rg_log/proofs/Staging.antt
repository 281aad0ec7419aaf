-- Stages and others behind them: the schema in force, the events, and the schema that these are of.
use Rattle.std.proofs.Common.{◌≡◌, ◌∙◌, ℕ, ◌+◌, List, [], ◌∷◌, ◌++◌, length, refl, sym, ap, subst, arith, append_assoc, length-append}
use Rattle.std.proofs.lemmas.List.{append-nil}
use Rattle.std.proofs.lemmas.List.Elements.{All-nil, All-cons, All-head, All-tail, All-append}
use Rattle.std.specs.Prelude.{All}
use Rattle.rg_event.specs.Codec.{AreValuesOf, IsEventOf}
use Rattle.rg_event.specs.Shapes.{Shape}
use Rattle.rg_event.specs.declared.event.Event.{Event}
use Rattle.rg_event.specs.declared.schema.Field.{Field}
use Rattle.rg_event.specs.declared.value.Value.{Value}
use Rattle.rg_growth.specs.declared.growth.Growth.{Growth}
use Rattle.rg_chunk.specs.Extended.{extended, all_extended}
use Rattle.rg_log.specs.Log.{HasEvents}
use Rattle.rg_log.specs.Stages.{Stage, chunk, growth, shape_after, in_force, IsStage, AreStages, values_of, logged, HasStages}
use Rattle.rg_log.proofs.Extending.{extended-none, extended-twice, extended-append, event-extended, length-extended, values-append}

pub in_force-append : (shape : Shape) (a b : List Stage) → in_force shape (a ++ b) ≡ in_force (in_force shape a) b
in_force-append shape [] b = refl
in_force-append shape (s ∷ a) b = in_force-append (shape_after shape s) a b

pub in_force-push : (shape : Shape) (stages : List Stage) (stage : Stage) → in_force shape (stages ++ stage ∷ []) ≡ shape_after (in_force shape stages) stage
in_force-push shape stages stage = in_force-append shape stages (stage ∷ [])

pub are-append : (shape : Shape) (p q : List (List ℕ)) (a b : List Stage) → AreStages shape p a → AreStages (in_force shape a) q b → AreStages shape (p ++ q) (a ++ b)
are-append shape [] q [] b are more = more
are-append shape [] q (s ∷ a) b are more = absurd are
are-append shape (payload ∷ p) q [] b are more = absurd are
are-append shape (payload ∷ p) q (s ∷ a) b are more = (are.0, are-append (shape_after shape s) p q a b are.1 more)

pub are-push : (shape : Shape) (payloads : List (List ℕ)) (stages : List Stage) (payload : List ℕ) (stage : Stage) → AreStages shape payloads stages → IsStage (in_force shape stages) payload stage → AreStages shape (payloads ++ payload ∷ []) (stages ++ stage ∷ [])
are-push shape payloads stages payload stage are is = are-append shape payloads (payload ∷ []) stages (stage ∷ []) are (is, tt)

-- the stages behind one more
pub on-push : (begun : Shape) (before : List Stage) (stage : Stage) (later : List (List ℕ)) (stages : List Stage) → AreStages (shape_after (in_force begun before) stage) later stages → AreStages (in_force begun (before ++ stage ∷ [])) later stages
on-push begun before stage later stages are = subst (λ (s : Shape). AreStages s later stages) (sym (in_force-push begun before stage)) are

-- a frame list with a stage more
pub has-push : (shape : Shape) (first : List ℕ) (payloads : List (List ℕ)) (stages : List Stage) (payload : List ℕ) (stage : Stage) → HasStages shape (first ∷ payloads) stages → IsStage shape payload stage
    → HasStages (shape_after shape stage) (first ∷ (payloads ++ payload ∷ [])) (stages ++ stage ∷ [])
has-push shape first payloads stages payload stage has is = (
  has.0,
  has.1,
  has.2,
  are-push has.0 payloads stages payload stage has.3 (subst (λ (s : Shape). IsStage s payload stage) (sym has.4) is),
  in_force-push has.0 stages stage ∙ ap (λ (s : Shape). shape_after s stage) has.4,
)

-- the first of some stages, and the others
pub record Parted (shape : Shape) (payload : List ℕ) (payloads : List (List ℕ)) (stages : List Stage) : Type 0 where
  pub stage : Stage
  pub more : List Stage
  pub is : stages ≡ stage ∷ more
  pub said : IsStage shape payload stage
  pub rest : AreStages (shape_after shape stage) payloads more

pub part : (shape : Shape) (payload : List ℕ) (payloads : List (List ℕ)) (stages : List Stage) → AreStages shape (payload ∷ payloads) stages → Parted shape payload payloads stages
part shape payload payloads [] are = absurd are
part shape payload payloads (stage ∷ more) are = record { stage = stage; more = more; is = refl; said = are.0; rest = are.1 }

-- the stages in front of a place, and those behind it
pub record Split (shape : Shape) (earlier later : List (List ℕ)) (stages : List Stage) : Type 0 where
  pub before : List Stage
  pub after : List Stage
  pub is : stages ≡ before ++ after
  pub before_are : AreStages shape earlier before
  pub after_are : AreStages (in_force shape before) later after

pub split : (shape : Shape) (earlier later : List (List ℕ)) (stages : List Stage) → AreStages shape (earlier ++ later) stages → Split shape earlier later stages
split shape [] later stages are = record { before = []; after = stages; is = refl; before_are = tt; after_are = are }
split shape (p ∷ earlier) later [] are = absurd are
split shape (p ∷ earlier) later (s ∷ stages) are =
    let r = split (shape_after shape s) earlier later stages are.1 in
    record { before = s ∷ r.before; after = r.after; is = ap (λ (l : List Stage). s ∷ l) r.is; before_are = (are.0, r.before_are); after_are = r.after_are }

-- events of stages, and of others behind them

values-join : (a b : List Stage) → values_of (a ++ b) ≡ values_of a ++ values_of b
values-join [] b = refl
values-join (chunk c ∷ a) b = values-join a b
values-join (growth g ∷ a) b = ap (λ (l : List Value). g.values ++ l) (values-join a b) ∙ sym (append_assoc g.values (values_of a) (values_of b))

pub logged-join : (a b : List Stage) → logged (a ++ b) ≡ all_extended (values_of b) (logged a) ++ logged b
logged-join [] b = refl
logged-join (chunk c ∷ a) b =
    let own = values_of a in
    let more = values_of b in
    ap (λ (v : List Value). all_extended v c ++ logged (a ++ b)) (values-join a b)
    ∙ ap (λ (l : List Event). all_extended (own ++ more) c ++ l) (logged-join a b)
    ∙ ap (λ (l : List Event). l ++ (all_extended more (logged a) ++ logged b)) (sym (extended-twice own more c))
    ∙ sym (append_assoc (all_extended more (all_extended own c)) (all_extended more (logged a)) (logged b))
    ∙ ap (λ (l : List Event). l ++ logged b) (sym (extended-append more (all_extended own c) (logged a)))
logged-join (growth g ∷ a) b = logged-join a b

pub length-join : (a b : List Stage) → length (logged (a ++ b)) ≡ length (logged a) + length (logged b)
length-join a b =
    let whole : length (logged (a ++ b)) ≡ length (all_extended (values_of b) (logged a) ++ logged b) = ap (λ (l : List Event). length l) (logged-join a b) in
    omega (arith, whole, length-append (all_extended (values_of b) (logged a)) (logged b), length-extended (values_of b) (logged a))

-- how many events a stage has
abbrev pub stage_count : Stage → ℕ
stage_count (chunk c) = length c
stage_count (growth g) = 0

pub length-first : (stage : Stage) (stages : List Stage) → length (logged (stage ∷ stages)) ≡ stage_count stage + length (logged stages)
length-first (chunk c) stages = length-append (all_extended (values_of stages) c) (logged stages) ∙ ap (λ (n : ℕ). n + length (logged stages)) (length-extended (values_of stages) c)
length-first (growth g) stages = omega arith

pub length-push : (stages : List Stage) (stage : Stage) → length (logged (stages ++ stage ∷ [])) ≡ length (logged stages) + stage_count stage
length-push stages stage =
    let none : length (logged []) ≡ 0 = refl in
    omega (arith, length-join stages (stage ∷ []), length-first stage [], none)

-- behind a growth the events are the old ones, each with its values behind its own
pub logged-growth : (stages : List Stage) (grown : Growth) → logged (stages ++ growth grown ∷ []) ≡ all_extended grown.values (logged stages)
logged-growth stages grown =
    logged-join stages (growth grown ∷ []) ∙ append-nil (all_extended (grown.values ++ []) (logged stages)) ∙ ap (λ (v : List Value). all_extended v (logged stages)) (append-nil grown.values)

-- behind a chunk they are the old ones and the chunk's
pub logged-chunk : (stages : List Stage) (events : List Event) → logged (stages ++ chunk events ∷ []) ≡ logged stages ++ events
logged-chunk stages events =
    logged-join stages (chunk events ∷ []) ∙ ap (λ (l : List Event). l ++ (all_extended [] events ++ [])) (extended-none (logged stages))
    ∙ ap (λ (l : List Event). logged stages ++ l) (append-nil (all_extended [] events) ∙ extended-none events)

-- What stages put behind earlier events: further columns, and a value for each of them.
record Further (shape : Shape) (stages : List Stage) : Type 0 where
  pub added : List Field
  pub fields : (in_force shape stages).fields ≡ shape.fields ++ added
  pub of : AreValuesOf added (values_of stages)

further : (shape : Shape) (payloads : List (List ℕ)) (stages : List Stage) → AreStages shape payloads stages → Further shape stages
further shape [] [] are = record { added = []; fields = sym (append-nil shape.fields); of = tt }
further shape [] (stage ∷ stages) are = absurd are
further shape (p ∷ payloads) [] are = absurd are
further shape (p ∷ payloads) (chunk events ∷ stages) are = let a = further shape payloads stages are.1 in record { added = a.added; fields = a.fields; of = a.of }
further shape (p ∷ payloads) (growth grown ∷ stages) are =
    let a = further grown.to payloads stages are.1 in
    let g = are.0.of in
    record {
      added = g.added ++ a.added;
      fields = a.fields ∙ ap (λ (l : List Field). l ++ a.added) g.grows.fields ∙ append_assoc shape.fields g.added a.added;
      of = values-append g.added a.added grown.values (values_of stages) g.of a.of;
    }

pub all-extended : (fields added : List Field) (values : List Value) (events : List Event) → AreValuesOf added values → All (IsEventOf fields) events → All (IsEventOf (fields ++ added)) (all_extended values events)
all-extended fields added values [] of all = All-nil (IsEventOf (fields ++ added))
all-extended fields added values (e ∷ events) of all =
    All-cons (IsEventOf (fields ++ added)) (extended values e) (all_extended values events) (event-extended fields added values e (All-head (IsEventOf fields) e events all) of)
    (all-extended fields added values events of (All-tail (IsEventOf fields) e events all))

-- all events are of the schema in force at the end
pub logged-of : (shape : Shape) (payloads : List (List ℕ)) (stages : List Stage) → AreStages shape payloads stages → All (IsEventOf (in_force shape stages).fields) (logged stages)
logged-of shape [] [] are = All-nil (IsEventOf shape.fields)
logged-of shape [] (stage ∷ stages) are = absurd are
logged-of shape (p ∷ payloads) [] are = absurd are
logged-of shape (p ∷ payloads) (chunk events ∷ stages) are =
    let a = further shape payloads stages are.1 in
    let last = (in_force shape stages).fields in
    All-append (IsEventOf last) (all_extended (values_of stages) events) (logged stages)
    (subst (λ (f : List Field). All (IsEventOf f) (all_extended (values_of stages) events)) (sym a.fields) (all-extended shape.fields a.added (values_of stages) events a.of are.0.of))
    (logged-of shape payloads stages are.1)
logged-of shape (p ∷ payloads) (growth grown ∷ stages) are = logged-of grown.to payloads stages are.1

has_of : (shape : Shape) (payloads : List (List ℕ)) (stages : List Stage) → HasStages shape payloads stages → All (IsEventOf shape.fields) (logged stages)
has_of shape [] stages has = subst (λ (l : List Stage). All (IsEventOf shape.fields) (logged l)) (sym has) (All-nil (IsEventOf shape.fields))
has_of shape (p ∷ payloads) stages has = subst (λ (s : Shape). All (IsEventOf s.fields) (logged stages)) has.4 (logged-of has.0 payloads stages has.3)

pub events_of_schema : (shape : Shape) (events : List Event) (bytes : List ℕ) → HasEvents shape events bytes → All (IsEventOf shape.fields) events
events_of_schema shape events bytes x = subst (All (IsEventOf shape.fields)) x.2 (has_of shape x.1.payloads x.0 x.1.log)
