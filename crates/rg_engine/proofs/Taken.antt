-- One event more.
use Rattle.std.proofs.Common.{◌≡◌, ◌<◌, ℕ, List, [], ◌∷◌, ◌++◌, length, slice_get, get_or, All, flat_map, Some, Ok, Err, IsErrOf, inl, inr, true, refl, ap, sym, ◌∙◌, subst, arith, append_assoc}
use Rattle.std.proofs.lemmas.List.{length-map}
use Rattle.std.proofs.lemmas.List.Elements.{All-head, All-tail, All-nil, All-append}
use Rattle.std.proofs.lemmas.Option.{slice_get-get_or, slice_get_within}
use Rattle.rg_event.specs.Codec.{IsEventOf}
use Rattle.rg_event.specs.declared.event.Event.{Event}
use Rattle.rg_past.specs.declared.past.Spot.{Spot}
use Rattle.rg_event.specs.Rising.{last_time}
use Rattle.rg_metric.specs.declared.answer.Answer.{Answer}
use Rattle.rg_metric.specs.Queries.{Asked}
use Rattle.rg_metric.specs.Replies.{answers_to}
use Rattle.rg_plan.specs.Named.{node_at}
use Rattle.rg_plan.specs.Plans.{Tasks, plan_for}
use Rattle.rg_plan.specs.Whole.{IsWhole}
use Rattle.rg_state.specs.Rows.{Cells, Same}
use Rattle.rg_window.specs.Placed.{Placed, AreWithin, IsSpelledAt, numbers_of}
use Rattle.rg_engine.specs.declared.part.FilterPart.{FilterPart}
use Rattle.rg_engine.specs.Accepting.{IsRefusal}
use Rattle.rg_engine.specs.Answering.{node_answers, nodes_asked}
use Rattle.rg_engine.specs.Building.{IsBuilt}
use Rattle.rg_engine.specs.Carrying.{CarriesOn, EdgesMove, is_ending}
use Rattle.rg_engine.specs.declared.fault.EngineFault.{EngineFault}
use Rattle.rg_engine.specs.declared.fault.EngineFault.TheVariants as fault
use Rattle.rg_past.specs.declared.past.PastFault.{PastFault}
use Rattle.rg_past.specs.declared.past.PastFault.TheVariants as past
use Rattle.rg_past.specs.Keeping.{HasCause}
use Rattle.rg_engine.specs.Faults.{RefusesAlways}
use Rattle.rg_engine.specs.Feeding.{IsFed}
use Rattle.rg_engine.specs.Parts.{ArePartsOf}
use Rattle.rg_engine.specs.Standing.{RowIs, IsTold, NodeStands}
use Rattle.rg_engine.proofs.Answered.{keyed, all_keyed, all_answers}

-- the last time with one event more
pub last_of : (events : List Event) (e : Event) → last_time (events ++ e ∷ []) ≡ e.time
last_of [] e = refl
last_of (x ∷ []) e = refl
last_of (x ∷ (y ∷ events)) e = last_of (y ∷ events) e

-- a node stands over equal rows
pub stands_same : (plan : Tasks) (n : ℕ) (events : List Event) (cells cells' : Cells) (numbers : List ℕ) → Same cells cells' → NodeStands plan n events cells numbers → NodeStands plan n events cells' numbers
stands_same plan n events cells cells' numbers same stands = record {
  rows = λ key. subst (λ row. RowIs (node_at plan n) key (last_time events) events row) (sym (same n key)) (stands.rows key);
  places = stands.places;
}

pub stands_events : (plan : Tasks) (n : ℕ) (events events' : List Event) (cells : Cells) (numbers : List ℕ) → events' ≡ events → NodeStands plan n events cells numbers → NodeStands plan n events' cells numbers
stands_events plan n events events' cells numbers e stands = subst (λ all. NodeStands plan n all cells numbers) (sym e) stands

-- the row of a node that stands
pub row_stands : (plan : Tasks) (n : ℕ) (events all : List Event) (t : ℕ) (cells : Cells) (numbers : List ℕ) → events ≡ all → last_time all ≡ t → NodeStands plan n events cells numbers → (key : List ℕ) → RowIs (node_at plan n) key t all (cells n key)
row_stands plan n events all t cells numbers e last stands key =
    subst (λ u. RowIs (node_at plan n) key u all (cells n key)) last (subst (λ xs. RowIs (node_at plan n) key (last_time xs) xs (cells n key)) e (stands.rows key))

-- what a past spells, a later one does
pub told_later : (plan : Tasks) (n : ℕ) (Spells Later : Spot → Type 0) (spots : List Spot) → ((spot : Spot) → Spells spot → Later spot) → IsTold plan n Spells spots → IsTold plan n Later spots
told_later plan n Spells Later spots goes told = λ edge offset is has. let k = told edge offset is has in (k.0, k.1, goes k.0 k.2)

pub spelled_later : (Spells Later : Spot → Type 0) (spots : List Spot) (edge : ℕ) → ((spot : Spot) → Spells spot → Later spot) → IsSpelledAt Spells spots edge → IsSpelledAt Later spots edge
spelled_later Spells Later spots edge goes k = (k.0, k.1, goes k.0 k.2)

abbrev no_spot : Spot
no_spot = record { place = 0; index = 0; number = 0 }

-- where all spots are spelled, the one of an offset is
pub spelled_at : (Spells : Spot → Type 0) (spots : List Spot) (offsets : List ℕ) (edge offset : ℕ) → length spots ≡ length offsets → All Spells spots → slice_get offsets edge ≡ Some offset → IsSpelledAt Spells spots edge
spelled_at Spells spots offsets edge offset same all is =
    let below : edge < length spots = omega (arith, slice_get_within offsets edge offset is, same) in
    (get_or spots edge no_spot, slice_get-get_or spots edge no_spot below, all edge no_spot below)

-- and so are those of each node
pub all_told : (plan : Tasks) (n : ℕ) (Spells : Spot → Type 0) (spots : List Spot) → length spots ≡ length plan.offsets → All Spells spots → IsTold plan n Spells spots
all_told plan n Spells spots same all = λ edge offset is has. spelled_at Spells spots plan.offsets edge offset same all is

-- as many spots as offsets, also seen by their numbers
pub numbers_same : (plan : Tasks) (edges : Placed) (spots : List Spot) (parts : List FilterPart) (nodes : List ℕ) (keys : List (List ℕ)) → IsBuilt plan edges parts nodes keys → length spots ≡ length edges.spots → length (numbers_of spots) ≡ length plan.offsets
numbers_same plan edges spots parts nodes keys built same = length-map spots (λ (spot : Spot). spot.number) ∙ same ∙ built.same ∙ ap length built.offsets

-- the events in front, and one event more
pub front_and_more : (events all front more : List Event) (e : Event) → all ≡ events ++ e ∷ [] → events ≡ front ++ more → all ≡ front ++ (more ++ e ∷ [])
front_and_more events all front more e is f = is ∙ ap (λ xs. xs ++ e ∷ []) f ∙ append_assoc front more (e ∷ [])

-- a node that could be carried on to one event more can be so once that is appended
pub carried_on : (plan : Tasks) (n : ℕ) (is_sound later_sound : Type 0) (Spells Later : Spot → Type 0) (is_told : Type 0) (events new first : List Event) (e : Event) (cells : Cells) (spots : List Spot) → new ≡ events ++ e ∷ [] → (is_sound → later_sound) → (is_sound → (spot : Spot) → Spells spot → Later spot) →
    CarriesOn plan n is_sound Spells is_told events (events ++ e ∷ []) first cells spots → CarriesOn plan n later_sound Later is_told new new first cells spots
carried_on plan n is_sound later_sound Spells Later is_told events new first e cells spots is sound later on = record {
  sound = sound on.sound;
  spelled = told_later plan n Spells Later spots (later on.sound) on.spelled;
  tells = on.tells;
  fed = subst (IsFed plan) (sym is) on.fed;
  more = on.more ++ e ∷ [];
  begins = front_and_more events new first on.more e is on.begins;
  stood = on.stood;
}

-- what moved edges keep is kept from a past before
pub edges_from : (is_sound later_sound : Type 0) (Spells Between Later : Spot → Type 0) (count : ℕ) (old new : List Spot) → (is_sound → later_sound) → (is_sound → (edge : ℕ) → IsSpelledAt Spells old edge → IsSpelledAt Between old edge) →
    EdgesMove later_sound Between Later count old new → EdgesMove is_sound Spells Later count old new
edges_from is_sound later_sound Spells Between Later count old new sound spells moved = record {
  rises = moved.rises;
  within = moved.within;
  spells = λ is edge spelled. moved.spells (sound is) edge (spells is edge spelled);
}

-- edges that stay where they are, over a past that has as many events as before
pub edges_still : (is_sound : Type 0) (Spells Later : Spot → Type 0) (before after : ℕ) (spots : List Spot) → AreWithin spots before → after ≡ before → (is_sound → (spot : Spot) → Spells spot → Later spot) → EdgesMove is_sound Spells Later after spots spots
edges_still is_sound Spells Later before after spots within same goes = record {
  rises = λ edge. omega arith;
  within = subst (λ count. AreWithin spots count) (sym same) within;
  spells = λ is edge spelled. spelled_later Spells Later spots edge (goes is) spelled;
}

-- a refusal that isn't that of a full past ends the engine
pub ends_true : (cause : EngineFault) → (cause ≡ fault.Past past.Full → ⊥) → is_ending cause ≡ true
ends_true (fault.Past past.Disk) other = refl
ends_true (fault.Past (past.Damaged place)) other = refl
ends_true (fault.Past past.Full) other = absurd (other refl)
ends_true (fault.Past past.Memory) other = refl
ends_true (fault.Past past.Ended) other = refl
ends_true (fault.BadState node) other = refl
ends_true fault.Memory other = refl
ends_true fault.Ended other = refl
ends_true fault.Table other = refl

pub not_err : {A E : Type 0} {x : A} {e : E} → IsErrOf (Ok x) e → ⊥
not_err is = cc

pub full_is_not_ended : past.Full ≡ past.Ended → ⊥
full_is_not_ended e = cc

-- what a past refuses, by its causes
pub refused_by : (had_ended is_full : Type 0) (cause : PastFault) → (cause ≡ past.Ended → had_ended) → (cause ≡ past.Full → (had_ended → ⊥) × is_full) → (cause ≡ past.Disk → ⊥) → ((place : ℕ) → cause ≡ past.Damaged place → ⊥) → IsRefusal had_ended is_full (fault.Past cause)
refused_by had_ended is_full past.Disk ended full disk damaged = absurd (disk refl)
refused_by had_ended is_full (past.Damaged place) ended full disk damaged = absurd (damaged place refl)
refused_by had_ended is_full past.Full ended full disk damaged = full refl
refused_by had_ended is_full past.Memory ended full disk damaged = tt
refused_by had_ended is_full past.Ended ended full disk damaged = ended refl

-- A refusal before any row is changed is for want of memory, or that of the past, with its cause.
pub not_bad : (had_ended is_full : Type 0) (cause : EngineFault) (n : ℕ) → IsRefusal had_ended is_full cause → cause ≡ fault.BadState n → ⊥
not_bad had_ended is_full cause n refused is = subst (IsRefusal had_ended is_full) is refused

pub not_damaged : (had_ended is_full : Type 0) (cause : EngineFault) (place : ℕ) → IsRefusal had_ended is_full cause → cause ≡ fault.Past (past.Damaged place) → ⊥
not_damaged had_ended is_full cause place refused is = subst (IsRefusal had_ended is_full) is refused

pub not_table : (had_ended is_full : Type 0) (cause : EngineFault) → IsRefusal had_ended is_full cause → cause ≡ fault.Table → ⊥
not_table had_ended is_full cause refused is = subst (IsRefusal had_ended is_full) is refused

pub not_ended : (had_ended is_full : Type 0) (cause : EngineFault) → IsRefusal had_ended is_full cause → cause ≡ fault.Ended → ⊥
not_ended had_ended is_full cause refused is = subst (IsRefusal had_ended is_full) is refused

pub refused_always : {A : Type 0} (had_ended is_full : Type 0) (cause : EngineFault) → IsRefusal had_ended is_full cause → RefusesAlways {A = A} had_ended is_full (Err cause)
refused_always had_ended is_full fault.Memory refused = (λ ended. inr (inl refl), λ going full. inr (inl refl))
refused_always had_ended is_full (fault.Past past.Memory) refused = (λ ended. inr (inr refl), λ going full. inr (inr refl))
refused_always had_ended is_full (fault.Past past.Ended) refused = (λ ended. inl refl, λ going full. absurd (going refused))
refused_always had_ended is_full (fault.Past past.Full) refused = (λ ended. absurd (refused.0 ended), λ going full. inl refl)
refused_always had_ended is_full (fault.Past past.Disk) refused = absurd refused
refused_always had_ended is_full (fault.Past (past.Damaged place)) refused = absurd refused
refused_always had_ended is_full (fault.BadState node) refused = absurd refused
refused_always had_ended is_full fault.Ended refused = absurd refused
refused_always had_ended is_full fault.Table refused = absurd refused

pub refused_cause : (IsIllegal : ℕ → Type 0) (is_full had_ended : Type 0) (before after : ℕ) (cause : PastFault) → IsRefusal had_ended is_full (fault.Past cause) → HasCause IsIllegal is_full had_ended before after cause
refused_cause IsIllegal is_full had_ended before after past.Disk refused = absurd refused
refused_cause IsIllegal is_full had_ended before after (past.Damaged place) refused = absurd refused
refused_cause IsIllegal is_full had_ended before after past.Full refused = refused.1
refused_cause IsIllegal is_full had_ended before after past.Memory refused = tt
refused_cause IsIllegal is_full had_ended before after past.Ended refused = refused

all_last : (P : Event → Type 0) (events : List Event) (e : Event) → All P (events ++ e ∷ []) → P e
all_last P [] e all = All-head P e [] all
all_last P (x ∷ events) e all = all_last P events e (All-tail P x (events ++ e ∷ []) all)

-- the answers of the nodes are those of the queries
pub answers_are : (queries : List Asked) (plan : Tasks) (events : List Event) (e : Event) (nodes : List ℕ) (answers : List Answer) → plan ≡ plan_for queries → IsFed plan (events ++ e ∷ []) → nodes ≡ nodes_asked plan →
    answers ≡ [] ++ node_answers plan (events ++ e ∷ []) e nodes → answers ≡ answers_to queries (events ++ e ∷ []) e
answers_are queries plan events e nodes answers is fed asked made =
    made ∙ ap (node_answers plan (events ++ e ∷ []) e) asked
    ∙ all_answers queries plan (events ++ e ∷ []) e is (keyed fed.fields e (all_last (IsEventOf fed.fields) events e fed.are)) (all_keyed fed.fields (events ++ e ∷ []) fed.are)

flat_all : (P : ℕ → Type 0) (paths : List (List ℕ)) → All (All P) paths → All P (flat_map (λ path. path) paths)
flat_all P [] all = All-nil P
flat_all P (path ∷ paths) all = All-append P path (flat_map (λ p. p) paths) (All-head (All P) path paths all) (flat_all P paths (All-tail (All P) path paths all))

-- each number of a query's node is that of a node
pub asked_within : (plan : Tasks) (nodes : List ℕ) → IsWhole plan → nodes ≡ nodes_asked plan → All (λ n. n < length plan.aggs) nodes
asked_within plan nodes whole asked = subst (All (λ n. n < length plan.aggs)) (sym asked) (flat_all (λ n. n < length plan.aggs) plan.paths whole.paths)

-- a plan stays built where its edges go on and its tree stays
pub built_on : (plan : Tasks) (old new : Placed) (parts parts' : List FilterPart) (nodes : List ℕ) (keys keys' : List (List ℕ)) → IsBuilt plan old parts nodes keys → new.offsets ≡ old.offsets → length new.spots ≡ length old.spots → parts' ≡ parts → length keys' ≡ length keys →
    IsBuilt plan new parts' nodes keys'
built_on plan old new parts parts' nodes keys keys' built offsets same tree each = record {
  whole = built.whole;
  offsets = offsets ∙ built.offsets;
  same = same ∙ built.same ∙ ap length (sym offsets);
  tree = subst (ArePartsOf plan) (sym tree) built.tree;
  asked = built.asked;
  each = each ∙ built.each;
}
