-- What runs leave that are stopped, one behind the other.
use Rattle.std.proofs.Common.{◌≡◌, ◌⊎◌, inl, inr, ⊎_elim, ℕ, ◌-◌, ◌<◌, ◌≤◌, ◌^◌, List, [], ◌++◌, length, drop, Option, Some, refl, ap, sym, ◌∙◌, subst, arith}
use Rattle.std.specs.List.{Contains}
use Rattle.std.specs.Option.{ForSome}
use Rattle.std.specs.Prelude.{Result, IfOk}
use Rattle.std.proofs.lemmas.List.{append-nil}
use Rattle.std.proofs.lemmas.List.Elements.{Contains-append_left, Contains-append_cases}
use Rattle.rg_bytes.specs.Counts.{Rose}
use Rattle.rg_bytes.specs.Known.{after}
use Rattle.rg_event.specs.declared.event.Event.{Event}
use Rattle.rg_event.specs.declared.value.Value.{Value}
use Rattle.rg_event.specs.Rising.{next_offset}
use Rattle.rg_event.specs.Shapes.{Shape, IsSchema}
use Rattle.rg_reply.specs.Texts.{mark_line}
use Rattle.rg_reply.specs.declared.mark.Mark.TheVariants.{Stored}
use Rattle.rg_host.specs.Image.{Image, NothingPending}
use Rattle.rg_host.specs.Files.{image_of}
use Rattle.rg_host.specs.Lines.{lines_of}
use Rattle.rg_host.specs.Puts.{IsPrefix}
use Rattle.rg_host.specs.Effects.{Effect, now_after, said_after}
use Rattle.rg_host.specs.EffectLaws.{since_sinks, now_counts}
use Rattle.rg_host.specs.Picks.{first_effects}
use Rattle.rg_host.specs.MemHost.{Ledger, now_in, may_in, clock_in, since_in, said_in, begun}
use Rattle.rg_host.specs.Fused.{Fused, of_inner}
use Rattle.rg_config.specs.Plans.{Planned}
use Rattle.rg_checkpoint.specs.Slots.{HasSlot}
use Rattle.rg_log.specs.Log.{HasLegalLog}
use Rattle.rg_log.specs.Filled.{HasEventsFor, IsOfSchemaFor}
use Rattle.rg_run_spec.specs.Accepted.{events_after}
use Rattle.rg_run_spec.specs.Acknowledged.{SaysStored, HoldsStored}
use Rattle.rg_run_spec.specs.Laws.{IsPrefixOf, MayLeave, below}
use Rattle.rg_run_spec.specs.Output.{put_before}
use Rattle.rg_run_spec.specs.Pieces.{whole_pieces}
use Rattle.rg_run_spec.specs.Stores.{Promised, IsKeptInStore}
use Rattle.rg_run_spec.proofs.Laws.{accepted_alike, prefix_then, pieces_prefix, may_leave, accepted_again, left_below}
use Rattle.rg_open.specs.Stores.{store_of, Has, IsOfPlan}
use Rattle.rg_open.specs.Truth.{IsTrueOf, IsTruthfulImage}
use Rattle.rg_task.specs.Terms.{terms_of}
use Rattle.rg_run.specs.Begun.{Begun, course_for}
use Rattle.rg_recover.specs.Ready.{IsReadyRun, begun_by}
use Rattle.rg_run.specs.Reading.{IsLonger}
use Rattle.rg_recover.proofs.Laws.{bare, no_payload, bare_truthful, bare_has, new_host}
use Rattle.rg_host.specs.Picks.{left_after}
use Rattle.rg_host.specs.declared.pick.Pick.{Pick}
use Rattle.rg_commands.specs.Call.{command_of}
use Rattle.rg_commands.specs.declared.command.Command.TheVariants.{Run}
use Rattle.rg_commands.specs.Outcome.{Outcome}
use Rattle.rg_commands.specs.Runs.{ToldRun, IsLastOf, Resumes}
use Rattle.rg_commands.specs.Plan.{IsPlan}
use Rattle.rg_restarts.specs.Twice.{accepted_of, Words, IsGoingOn, IsStartable, AcceptsAlike, IsLeft, IsLastLeft, PutsRest, EndsWell, MayEnd, Runs}
use Rattle.rg_messages.specs.declared.status.Status.{Status}
use Rattle.rg_messages.specs.declared.status.Status.TheVariants.{Ok, Usage, Plan as BadPlan, Store, Read, Write, Disk, Limit, Memory, Gap, Differs}
use Rattle.rg_commands.proofs.Laws.{line_of_status}

-- Before a run.

-- an image with the same log and slots is truthful too
pub read_alike : (u v : Image) → ((f : ℕ) → f < 3 → v f ≡ u f) → IsTruthfulImage u → IsTruthfulImage v
read_alike u v same is =
    let log : v 2 ≡ u 2 = same 2 (omega arith) in
    record {
      log = subst (λ (bytes : List ℕ). HasLegalLog bytes) (sym log) is.log;
      slots = λ i small checkpoint slot. subst (λ (bytes : List ℕ). IsTrueOf bytes checkpoint) (sym log)
          (is.slots i small checkpoint (subst (λ (bytes : List ℕ). HasSlot bytes checkpoint) (same i (omega (arith, small))) slot));
    }

module _ (plan : Planned) (input : List ℕ) (now : Option Image) (may : Image → Type 0) (s : IsGoingOn plan input now may) where
  -- a crash may leave of log and slots only what reads give
  pub left_as_read : (u : Image) → may u → (f : ℕ) → f < 3 → u f ≡ s.image f
  left_as_read u left f small = s.settled f small s.image s.told u left

  pub left_of_plan : (u : Image) → may u → IsOfPlan plan u
  left_of_plan u left = subst (λ (bytes : List ℕ). IsOfSchemaFor plan.shape plan.defaults bytes) (sym (left_as_read u left 2 (omega arith))) s.schema

  pub left_has : (u : Image) → may u → Has plan s.held u
  left_has u left = subst (λ (bytes : List ℕ). HasEventsFor plan.shape plan.defaults s.held bytes) (sym (left_as_read u left 2 (omega arith))) s.has

  abbrev pub ready_for : (said : Option (List ℕ)) (put : List ℕ) → said ≡ Some put → IsReadyRun plan now may said
  ready_for said put told = record {
    openable = record { image = s.image; told = s.told; truthful = λ u left. read_alike s.image u (left_as_read u left) s.truthful; schema = s.schema };
    put = put;
    told = told;
    held = s.held;
    has = s.has;
  }

-- What a run leaves.

module _ (plan : Planned) (b : Begun) (zero : b.first ≡ 0) (on_course : b.held ≡ below (next_offset b.held) (accepted_of plan b.input)) where
  may_be_left : MayLeave (terms_of plan).basis [] 0 (lines_of b.input) b.held
  may_be_left = may_leave (terms_of plan) [] 0 (lines_of b.input) b.held tt (b.held, refl) on_course

  -- over such a store a run accepts in the end what one over no events does
  pub accepted_same : events_after (terms_of plan).basis b.held b.first (lines_of b.input) ≡ accepted_of plan b.input
  accepted_same = ap (λ n. events_after (terms_of plan).basis b.held n (lines_of b.input)) zero ∙ accepted_again (terms_of plan) [] 0 (lines_of b.input) b.held may_be_left

  module _ (status : Status) (last : List ℕ) (last_is : IsLastOf status b last) (start : Image → Type 0) (of_plan : (u : Image) → start u → IsOfPlan plan u) (has : (u : Image) → start u → Has plan b.held u) where
    -- no whole line of a last line says what is stored
    none_stored : (part : List ℕ) (n : ℕ) → IsPrefix part last → n < 2 ^ 64 → SaysStored (whole_pieces part) n → ⊥
    none_stored part n front small says =
        let line = line_of_status b status last last_is in
        let pieces : IsPrefixOf (whole_pieces part) line.ends = pieces_prefix line.ends part line.are (subst (λ (l : List ℕ). IsPrefix part l) (sym line.is) front) in
        line.nothing.not_stored n small (subst (λ (l : List (List ℕ)). Contains l (mark_line (Stored n))) pieces.1 (Contains-append_left (whole_pieces part) pieces.0 (mark_line (Stored n)) says))

    left_of : (u : Image) (put : List ℕ) → IsTruthfulImage u → (start u × IsPrefix put last) ⊎ IsKeptInStore (store_of plan) (course_for plan b) (whole_pieces put) u → IsLeft plan b.held (accepted_of plan b.input) (whole_pieces put) u
    left_of u put truthful (inl begun) = record {
      truthful = truthful;
      schema = of_plan u begun.0;
      events = b.held;
      has = has u begun.0;
      keeps = ([], append-nil b.held);
      begins = may_be_left.begins;
      stored = λ n small says. absurd (none_stored put n begun.1 small says);
    }
    left_of u put truthful (inr kept) = record {
      truthful = truthful;
      schema = kept.schema;
      events = kept.events;
      has = kept.has;
      keeps = kept.keeps;
      begins = subst (λ (es : List Event). IsPrefixOf kept.events es) accepted_same kept.begins;
      stored = subst (λ (es : List Event). HoldsStored (whole_pieces put) es kept.events) accepted_same kept.stored;
    }

    pub left_at : (u : Image) (said : List ℕ) → Promised (store_of plan) (course_for plan b) start last u said → (put : List ℕ) × (said ≡ b.said ++ put) × IsLeft plan b.held (accepted_of plan b.input) (whole_pieces put) u
    left_at u said p = (p.put, p.since, left_of u p.put p.truthful p.image)

-- what a run leaves goes on, where nothing of it is pending
abbrev pub going_on : (plan : Planned) (input : List ℕ) (held : List Event) (lines : List (List ℕ)) (now : Option Image) (may : Image → Type 0) (v : Image) → now ≡ Some v → ((file : ℕ) → NothingPending file now may) → IsLeft plan held (accepted_of plan input) lines v → IsGoingOn plan input now may
going_on plan input held lines now may v told settled left = record {
  image = v;
  told = told;
  settled = λ file small. settled file;
  truthful = left.truthful;
  schema = left.schema;
  held = left.events;
  has = left.has;
  on_course = left_below (terms_of plan) [] 0 (lines_of input) left.events tt (record { keeps = (left.events, refl); begins = left.begins });
}

-- and by each plan that accepts alike
same_accepted : (one two : Planned) (input : List ℕ) → AcceptsAlike one two → accepted_of one input ≡ accepted_of two input
same_accepted one two input alike = sym (accepted_alike (terms_of one).basis (terms_of two).basis [] 0 (lines_of input) (record { fields = ap (λ (shape : Shape). shape.fields) alike.shape; most = alike.most; header = alike.header; grace = alike.grace }))

-- what holds of the schema and the defaults of one
alike_both : (one two : Planned) → AcceptsAlike one two → (P : Shape → List (Option Value) → Type 0) → P one.shape one.defaults → P two.shape two.defaults
alike_both one two alike P holds = subst (λ (defaults : List (Option Value)). P two.shape defaults) alike.defaults (subst (λ (shape : Shape). P shape one.defaults) alike.shape holds)

pub going_on_alike : (one two : Planned) (input : List ℕ) (now : Option Image) (may : Image → Type 0) → AcceptsAlike one two → IsGoingOn one input now may → IsGoingOn two input now may
going_on_alike one two input now may alike s = record {
  image = s.image;
  told = s.told;
  settled = s.settled;
  truthful = s.truthful;
  schema = alike_both one two alike (λ shape defaults. IsOfSchemaFor shape defaults (s.image 2)) s.schema;
  held = s.held;
  has = alike_both one two alike (λ shape defaults. HasEventsFor shape defaults s.held (s.image 2)) s.has;
  on_course = s.on_course ∙ ap (λ (es : List Event). below (next_offset s.held) es) (same_accepted one two input alike);
}

-- what a second run leaves of what a first one left
pub left_then : (plan : Planned) (held mid accepted : List Event) (one two : List (List ℕ)) (u : Image) → IsPrefixOf held mid → HoldsStored one accepted mid → IsLeft plan mid accepted two u → IsLeft plan held accepted (one ++ two) u
left_then plan held mid accepted one two u keeps stored left = record {
  truthful = left.truthful;
  schema = left.schema;
  events = left.events;
  has = left.has;
  keeps = prefix_then held mid left.events keeps left.keeps;
  begins = left.begins;
  stored = λ n small says e among low. ⊎_elim
      (λ first. subst (λ (es : List Event). Contains es e) left.keeps.1 (Contains-append_left mid left.keeps.0 e (stored n small first e among low)))
      (λ second. left.stored n small second e among low)
      (Contains-append_cases one two (mark_line (Stored n)) says);
}

-- A run may begin over a new host in memory.

going_anew : (plan : Planned) (input : List ℕ) → IsSchema plan.shape → IsGoingOn plan input (now_in new_host) (may_in new_host)
going_anew plan input schema = record {
  image = bare;
  told = refl;
  settled = λ file small v is u left.
      let same : bare ≡ v = cc in
      ap (λ (w : Image). w file) (left ∙ same);
  truthful = bare_truthful;
  schema = inl (inl (no_payload 2));
  held = [];
  has = inl (bare_has plan.shape schema);
  on_course = left_below (terms_of plan) [] 0 (lines_of input) [] tt (record { keeps = ([], refl); begins = (accepted_of plan input, refl) });
}

pub startable_anew : (words : Words) (plan input : List ℕ) (asks : Planned) → command_of words ≡ Some (Run 0) → IsPlan plan asks → length input ≤ 2 ^ 50 → IsStartable words plan input new_host
startable_anew words plan input asks names says within = record {
  names_run = names;
  asks = asks;
  says = says;
  within = within;
  store = going_anew asks input says.says.stream.legal;
}

-- Moments of a host in memory.

-- what was put after all of its calls
all_effects : (effects : List Effect) (count : ℕ) → count ≡ length effects → first_effects count effects ≡ effects
all_effects effects count all = let none : length effects - count ≡ 0 = omega (arith, all) in ap (λ n. drop n effects) none

-- what is picked after the last call is left of the host as it stands
pub last_left : {E : Type 0} (host : Ledger) (count : ℕ) → count ≡ clock_in host → (result : Result Ledger E) → IfOk result (λ left. ForSome (now_in left) (λ v. since_in host count (record { image = v; said = said_after (first_effects count host.effects) }))) → IfOk result (λ left. ForSome (now_in left) (λ v. IsLastLeft host v))
last_left host count all result picked =
    let at_end = subst (λ (es : List Effect). IfOk result (λ left. ForSome (now_in left) (λ v. since_in host count (record { image = v; said = said_after es })))) (all_effects host.effects count all) picked in
    subst (λ (n : ℕ). IfOk result (λ left. ForSome (now_in left) (λ v. since_in host n (record { image = v; said = said_after host.effects })))) all at_end

-- it is the image that is picked after all calls
pub picked_last : {E : Type 0} (pick : Pick) (host : Ledger) (count : ℕ) → count ≡ clock_in host → (result : Result Ledger E) → IfOk result (λ left. now_in left ≡ Some (left_after pick (image_of host.first) (first_effects count host.effects))) →
    IfOk result (λ left. now_in left ≡ Some (left_after pick (image_of host.first) host.effects))
picked_last pick host count all result picked = subst (λ (es : List Effect). IfOk result (λ left. now_in left ≡ Some (left_after pick (image_of host.first) es))) (all_effects host.effects count all) picked

-- an image that a crash may leave now is of a moment since an earlier one
pub moment_now : (host : Ledger) (u : Image) (start : ℕ) → start ≤ clock_in host → may_in host u → since_in host start (record { image = u; said = said_after host.effects })
moment_now host u start before left = now_counts (image_of host.first) host.effects start (record { image = u; said = said_after host.effects }) before left refl

-- How a run ends.

pub never_longer : (most : ℕ) (told bytes : List ℕ) → told ≡ bytes → length bytes ≤ most → IsLonger most (Some told) → ⊥
never_longer most told bytes is within longer =
    let size : length told ≡ length bytes = ap (λ (l : List ℕ). length l) is in
    let more : most < length told = longer in
    omega (arith, size, within, more)

pub never_rises : Rose 0 0 → ⊥
never_rises rose = omega (arith, rose)

pub ends_well : (b : Begun) (status : Status) (last : List ℕ) (put_failed disk_failed : Type 0) → IsLastOf status b last → (status ≡ Store → ⊥) → (status ≡ Read → ⊥) → (status ≡ Limit → ⊥) → (status ≡ Gap → ⊥) → (status ≡ Write → put_failed) → (status ≡ Disk → disk_failed) → EndsWell status put_failed disk_failed
ends_well b Ok last A B is store read limit gap write disk = inl refl
ends_well b Usage last A B is store read limit gap write disk = absurd is
ends_well b BadPlan last A B is store read limit gap write disk = absurd is
ends_well b Store last A B is store read limit gap write disk = absurd (store refl)
ends_well b Read last A B is store read limit gap write disk = absurd (read refl)
ends_well b Write last A B is store read limit gap write disk = inr (inr (inl (refl, write refl)))
ends_well b Disk last A B is store read limit gap write disk = inr (inr (inr (refl, disk refl)))
ends_well b Limit last A B is store read limit gap write disk = absurd (limit refl)
ends_well b Memory last A B is store read limit gap write disk = inr (inl refl)
ends_well b Gap last A B is store read limit gap write disk = absurd (gap refl)
ends_well b Differs last A B is store read limit gap write disk = absurd is

-- What a run is told by sources of these bytes.
abbrev pub told_by : (o : Outcome) (plan input : List ℕ) → o.plan.told ≡ Some plan → o.input.told ≡ Some input → (asks : Planned) → IsPlan plan asks → IsReadyRun asks o.host.image o.host.may o.host.said → ToldRun o
told_by o plan input plan_is input_is asks says ready = record {
  plan_bytes = plan;
  plan_is = plan_is;
  asks = asks;
  says = says;
  input_bytes = input;
  input_is = input_is;
  ready = ready;
}

-- A run over a host that is cut off, and one over a host in memory.

abbrev pub RunsFused : Planned → List ℕ → Status → Fused Ledger → Fused Ledger → Type 0
RunsFused plan input status old new = Runs (of_inner now_in) (of_inner may_in) (of_inner clock_in) (of_inner since_in) (of_inner said_in) plan input status old new

abbrev pub RunsInMemory : Planned → List ℕ → Status → Ledger → Ledger → Type 0
RunsInMemory plan input status old new = Runs now_in may_in clock_in since_in said_in plan input status old new

module _ (plan : Planned) (input : List ℕ) (status : Status) where
  -- what may be left once the last call was made
  pub fused_left : (old new : Fused Ledger) → RunsFused plan input status old new → (s : IsGoingOn plan input (now_in old.inner) (may_in old.inner)) → (first : Ledger) → first ≡ new.inner → (v : Image) → IsLastLeft first v
      → (bytes : List ℕ) × (said_in first ≡ after (said_in old.inner) bytes) × IsLeft plan s.held (accepted_of plan input) (whole_pieces bytes) v
  fused_left old new runs s first first_is v at =
      let ready = ready_for plan input (now_in old.inner) (may_in old.inner) s (said_in old.inner) (said_after old.inner.effects) refl in
      let w = runs.has_run ready in
      let later : clock_in old.inner ≤ clock_in new.inner = w.moments.later in
      let last : clock_in first ≡ clock_in new.inner = ap clock_in first_is in
      let since = since_sinks (image_of first.first) first.effects (clock_in old.inner) (clock_in first) (record { image = v; said = said_after first.effects }) (omega (arith, later, last)) at in
      let inside = subst (λ (h : Ledger). since_in h (clock_in old.inner) (record { image = v; said = said_after first.effects })) first_is since in
      let promised = w.moments.each (record { image = v; said = said_after first.effects }) inside in
      let left = left_at plan (begun_by ready w.from 0 input) refl s.on_course status w.last w.last_is (may_in old.inner) (left_of_plan plan input (now_in old.inner) (may_in old.inner) s) (left_has plan input (now_in old.inner) (may_in old.inner) s) v (said_after first.effects) promised in
      (left.0, ap (λ (bytes : List ℕ). Some bytes) left.1, left.2)

  -- what may be left of a host on which no call was made before
  pub memory_left : (old new : Ledger) → RunsInMemory plan input status old new → (s : IsGoingOn plan input (now_in old) (may_in old)) → said_in old ≡ Some [] → (u : Image) → may_in new u → IsLeft plan s.held (accepted_of plan input) (whole_pieces (said_after new.effects)) u
  memory_left old new runs s none u may =
      let ready = ready_for plan input (now_in old) (may_in old) s (said_in old) [] none in
      let w = runs.has_run ready in
      let promised = w.moments.each (record { image = u; said = said_after new.effects }) (moment_now new u (clock_in old) w.moments.later may) in
      let left = left_at plan (begun_by ready w.from 0 input) refl s.on_course status w.last w.last_is (may_in old) (left_of_plan plan input (now_in old) (may_in old) s) (left_has plan input (now_in old) (may_in old) s) u (said_after new.effects) promised in
      let all : said_after new.effects ≡ left.0 = left.1 in
      subst (λ (bytes : List ℕ). IsLeft plan s.held (accepted_of plan input) (whole_pieces bytes) u) (sym all) left.2

-- what is told of an image
pub told_such : (P : Image → Type 0) (now : Option Image) (v : Image) → now ≡ Some v → P v → ForSome now P
told_such P now v told such w is =
    let both : ◌≡◌ {A = Option Image} (Some v) (Some w) = sym told ∙ is in
    let same : v ≡ w = cc in
    subst P same such

-- What is left of a host that a first run left, and a second one went over.
module _ (plan : Planned) (input : List ℕ) (held : List Event) (bytes : List ℕ) (left second : Ledger) (is : left ≡ begun left.first []) (settled : (file : ℕ) → NothingPending file (now_in left) (may_in left))
    (told : ForSome (now_in left) (λ v. IsLeft plan held (accepted_of plan input) (whole_pieces bytes) v)) where
  abbrev is_left : IsLeft plan held (accepted_of plan input) (whole_pieces bytes) (now_after (image_of left.first) left.effects)
  is_left = told (now_after (image_of left.first) left.effects) refl

  abbrev pub store_left : IsGoingOn plan input (now_in left) (may_in left)
  store_left = going_on plan input held (whole_pieces bytes) (now_in left) (may_in left) (now_after (image_of left.first) left.effects) refl settled is_left

  abbrev pub ready_left : IsReadyRun plan (now_in left) (may_in left) (said_in left)
  ready_left = ready_for plan input (now_in left) (may_in left) store_left (said_in left) [] (ap said_in is)

  pub both_left : (status : Status) → RunsInMemory plan input status left second → (u : Image) → may_in second u → IsLeft plan held (accepted_of plan input) (whole_pieces bytes ++ whole_pieces (said_after second.effects)) u
  both_left status runs u may = left_then plan held is_left.events (accepted_of plan input) (whole_pieces bytes) (whole_pieces (said_after second.effects)) u is_left.keeps is_left.stored
      (memory_left plan input status left second runs store_left (ap said_in is) u may)

  pub all_left : (u : Image) → Has plan (events_after (terms_of plan).basis ready_left.held 0 (lines_of input)) u → Has plan (accepted_of plan input) u
  all_left u has = subst (λ (es : List Event). Has plan es u) (accepted_same plan (begun_by ready_left 0 0 input) refl store_left.on_course) has

  pub rest_put : (from : ℕ) × Resumes plan (begun_by ready_left from 0 input) (said_in second) → PutsRest plan input (said_in second)
  rest_put resumes =
      let r = resumes.1 in
      record { held = ready_left.held; from = resumes.0; lines = r.lines; put = r.put; rest = (put_before (terms_of plan) [] 0 (lines_of input) (next_offset ready_left.held), r.rest) }

-- the statuses of both runs
pub first_ends : (status : Status) (A B : Type 0) → EndsWell status A B → MayEnd status
first_ends status A B (inl ok) = inl ok
first_ends status A B (inr (inl memory)) = inr (inr (inr memory))
first_ends status A B (inr (inr (inl write))) = inr (inl write.0)
first_ends status A B (inr (inr (inr disk))) = inr (inr (inl disk.0))

rose_above : (before after_it : ℕ) → before ≡ 0 → Rose before after_it → 0 < after_it
rose_above before after_it none rose = omega (arith, none, rose)

pub second_ends : (status : Status) (old new : Ledger) (first : List (List ℕ)) → old ≡ begun first [] → EndsWell status (Rose old.out_faults new.out_faults) (Rose old.disk_faults new.disk_faults) → (status ≡ Ok) ⊎ (status ≡ Memory) ⊎ (0 < new.disk_faults) ⊎ (0 < new.out_faults)
second_ends status old new first is (inl ok) = inl ok
second_ends status old new first is (inr (inl memory)) = inr (inl memory)
second_ends status old new first is (inr (inr (inl write))) = inr (inr (inr (rose_above old.out_faults new.out_faults (ap (λ (h : Ledger). h.out_faults) is) write.1)))
second_ends status old new first is (inr (inr (inr disk))) = inr (inr (inl (rose_above old.disk_faults new.disk_faults (ap (λ (h : Ledger). h.disk_faults) is) disk.1)))
