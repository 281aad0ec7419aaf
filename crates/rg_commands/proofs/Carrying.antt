-- How a run goes, up to its last line.
use Rattle.std.proofs.Common.{◌≡◌, ◌⊎◌, inl, inr, ⊎_elim, ℕ, ◌<◌, ◌≤◌, ◌^◌, List, [], Option, Some, refl, ap, sym, ◌∙◌, subst, arith}
use Rattle.std.specs.Prelude.{IfSome}
use Rattle.std.specs.Option.{ForSome}
use Rattle.std.proofs.lemmas.List.{append-nil}
use Rattle.rg_config.specs.Plans.{Planned}
use Rattle.rg_event.specs.Rising.{next_offset}
use Rattle.rg_host.specs.Image.{Image}
use Rattle.rg_host.specs.Moments.{Moment, Moments}
use Rattle.rg_host.specs.declared.host.Host.{Ghosts as HostMembers}
use Rattle.rg_host.proofs.Laws.{moments-none}
use Rattle.rg_run_spec.specs.Stores.{StaysOnCourseSince}
use Rattle.rg_open.specs.Stores.{store_of}
use Rattle.rg_open.specs.Opening.{IsFromIn}
use Rattle.rg_run.specs.Turning.{HasStoppedIn}
use Rattle.rg_run.specs.Begun.{Begun, course_for}
use Rattle.rg_run.specs.Reading.{IsLonger}
use Rattle.rg_run.specs.UnderWay.{HasAnswered, HasFinishedIn}
use Rattle.rg_recover.specs.Ran.{IsUnopened, IsLeft}
use Rattle.rg_run.specs.declared.fault.RunFault.{RunFault}
use Rattle.rg_run.specs.declared.fault.RunFault.TheVariants as run
use Rattle.rg_commands.specs.Plan.{IsPlan}
use Rattle.rg_open.specs.Unfit.{HasOtherSchema}
use Rattle.rg_commands.specs.Causes.{IsDamagedAt, IsBadState, IsStoreLine, IsNextOf, cause, causes, LeavesAlone}
use Rattle.rg_commands.specs.declared.command.Command.TheVariants.{Run}
use Rattle.rg_commands.specs.Outcome.{SourceOutcome, HostOutcome, host_outcome, Outcome, outcome}
use Rattle.rg_commands.specs.Call.{EndsRun, TellsNoPlan}
use Rattle.rg_commands.specs.Runs.{ToldRun, begun_in, IsLastOf, Went, RunsStore, RunsBy}
use Rattle.rg_commands.specs.Unread.{UnreadFor}
use Rattle.rg_messages.specs.declared.refusal.Refusal.{Refusal}
use Rattle.rg_messages.specs.declared.status.Status.{Status}
use Rattle.rg_messages.specs.declared.status.Status.TheVariants.{Ok, Usage, Plan as BadPlan, Store, Read, Write, Disk, Limit, Memory, Gap, Differs}
use Rattle.rg_commands.specs.TurnedAway.{EndsFailed}
use Rattle.rg_commands.proofs.Plans.{bytes_ask, legal_of, tells_plan}
use Rattle.rg_commands.proofs.Unread.{never_unread, unread_fails}
use Rattle.rg_commands.proofs.Refusing.{run_at, run_is, run_last}

pub answered_for : (plan : Planned) (b : Begun) (left said : Option (List ℕ)) (limit also : Type 0) → (limit → also) → HasAnswered plan b left said limit → HasAnswered plan b left said also
answered_for plan b left said limit also so h = record { got = h.got; past = h.past; took = h.took; one = h.one; none_past = ⊎_elim (λ none. inl none) (λ is. inr (so is)) h.none_past; put = h.put }

module _ {H : Type 0} (g : HostMembers H) (plan : Planned) (b : Begun) (v : Image) (left : Option (List ℕ)) (old new : H) where
  abbrev OnCourse : Type 0
  OnCourse = Moments g.clock g.since old new (StaysOnCourseSince (store_of plan) (course_for plan b) (g.may old) [])

  -- it came to its end
  pub went_ok : IsFromIn plan v b.from ⊎ (g.said new ≡ g.said old) → OnCourse → HasFinishedIn (store_of plan) (course_for plan b) (g.may new) (g.said new) → b.first ≤ next_offset b.held → Went g plan b v left ⊥ Ok [] old new
  went_ok is_from moments finished no_gap = record {
    is_from = is_from;
    moments = moments;
    finished = λ is. finished;
    stopped = λ not_ok not_write. absurd (not_ok refl);
    answered = λ is. absurd (⊎_elim (λ (e : Ok ≡ Read). absurd (cc e)) (λ (e : Ok ≡ Limit). absurd (cc e)) is);
    last_is = refl;
    no_gap = λ is. no_gap;
  }

  -- it ended at this fault
  module _ (cause : RunFault) (status : Status) (last : List ℕ) (ends : EndsRun b.first cause status last) where
    left_by : (status ≡ Write → ⊥) → IsLeft g.may g.said plan b cause old new → HasStoppedIn (store_of plan) (course_for plan b) (g.may new) (g.said new) ⊎ IsUnopened g.may g.said plan b old new
    left_by not_write (inl is) = absurd (not_write (run_is b.first cause run.Write status Write last (λ e. e.0) ends is))
    left_by not_write (inr stop) = stop

    answered_by : ((cause ≡ run.Read) ⊎ (cause ≡ run.Limit) → HasAnswered plan b left (g.said new) (cause ≡ run.Limit)) → (status ≡ Read) ⊎ (status ≡ Limit) → HasAnswered plan b left (g.said new) (status ≡ Limit)
    answered_by answered (inl is) = answered_for plan b left (g.said new) (cause ≡ run.Limit) (status ≡ Limit) (λ e. run_is b.first cause run.Limit status Limit last (λ h. h.0) ends e) (answered (inl (run_at b.first cause status last ends Read is)))
    answered_by answered (inr is) = answered_for plan b left (g.said new) (cause ≡ run.Limit) (status ≡ Limit) (λ e. is) (answered (inr (run_at b.first cause status last ends Limit is)))

    pub went_err : IsFromIn plan v b.from ⊎ (g.said new ≡ g.said old) → OnCourse → IsLeft g.may g.said plan b cause old new → ((cause ≡ run.Read) ⊎ (cause ≡ run.Limit) → HasAnswered plan b left (g.said new) (cause ≡ run.Limit)) →
        (cause ≡ run.SchemaDiffers → ⊥) → ((n : ℕ) → cause ≡ run.BadState n → ⊥) → ((n : ℕ) → cause ≡ run.Gap n → n ≡ next_offset b.held) → Went g plan b v left ⊥ status last old new
    went_err is_from moments stop answered differs bad next = record {
      is_from = is_from;
      moments = moments;
      finished = λ is. absurd (run_at b.first cause status last ends Ok is);
      stopped = λ not_ok not_write. left_by not_write stop;
      answered = λ is. inl (answered_by answered is);
      last_is = run_last b cause status last ends differs bad next;
      no_gap = λ is. absurd (run_at b.first cause status last ends Ok is);
    }

-- the line of a refused store
pub store_line : (plan : Planned) (old new : Option Image) (alone : Type 0) (first : ℕ) (cause : RunFault) (status : Status) (last : List ℕ) → EndsRun first cause status last → status ≡ Store →
    (cause ≡ run.SchemaDiffers → ForSome old (λ v. HasOtherSchema plan v) × alone) → ((p : ℕ) → cause ≡ run.Damaged p → IsDamagedAt plan old new p) → ((n : ℕ) → cause ≡ run.BadState n → IsBadState plan old n) → IsStoreLine plan old new alone last
store_line plan old new alone first cause status last ends is differs damaged state = ⊎_elim
    (λ other. let h = differs other.0 in inl (other.1, h.0, h.1))
    (λ more. ⊎_elim (λ damage. inr (inl (damage.0, damage.2, damaged damage.0 damage.1))) (λ bad. inr (inr (bad.0, bad.2, state bad.0 bad.1))) more)
    (run_at first cause status last ends Store is)

pub never_store : (first : ℕ) (cause : RunFault) (status : Status) (last : List ℕ) → EndsRun first cause status last → status ≡ Store → (cause ≡ run.SchemaDiffers → ⊥) → ((n : ℕ) → cause ≡ run.BadState n → ⊥) → ((p : ℕ) → cause ≡ run.Damaged p → ⊥) → ⊥
never_store first cause status last ends is differs bad damaged = ⊎_elim
    (λ other. differs other.0)
    (λ more. ⊎_elim (λ damage. damaged damage.0 damage.1) (λ worse. bad worse.0 worse.1) more)
    (run_at first cause status last ends Store is)

-- The causes of a run that ended at this fault.
module _ (o : Outcome) (first : ℕ) (asks : Planned) (legal : IfSome o.plan.told (λ bytes. IsPlan bytes asks)) (fault : RunFault) (last : List ℕ) (told : Option Refusal) where
  pub row_cause : (status : Status) → EndsRun first fault status last → (status ≡ Store → IsStoreLine asks o.host.image o.host.image_after o.input.stays last) → ((n : ℕ) → fault ≡ run.Gap n → IsNextOf asks o.host.image n × (n < first) × o.input.stays) →
      (fault ≡ run.Disk → o.host.disk_failed) → (fault ≡ run.Read → o.input.failed) → (fault ≡ run.Write → o.host.put_failed) → (fault ≡ run.Limit → IsLonger (2 ^ 50) o.input.told) → cause (causes (Some (Run first)) o last told) status
  row_cause Ok ends store gap disk read write limit = absurd (run_at first fault Ok last ends Ok refl)
  row_cause Usage ends store gap disk read write limit = absurd (run_at first fault Usage last ends Usage refl)
  row_cause BadPlan ends store gap disk read write limit = absurd (run_at first fault BadPlan last ends BadPlan refl)
  row_cause Store ends store gap disk read write limit = inr (inl (tt, record { asks = asks; legal = legal; line = store refl }))
  row_cause Read ends store gap disk read write limit = inr (legal_of o.plan.told asks legal, tt, read (run_at first fault Read last ends Read refl))
  row_cause Write ends store gap disk read write limit = ((λ reads. legal_of o.plan.told asks legal), write (run_at first fault Write last ends Write refl))
  row_cause Disk ends store gap disk read write limit = (inr (inl (tt, legal_of o.plan.told asks legal)), disk (run_at first fault Disk last ends Disk refl))
  row_cause Limit ends store gap disk read write limit = inr (legal_of o.plan.told asks legal, tt, limit (run_at first fault Limit last ends Limit refl))
  row_cause Memory ends store gap disk read write limit = tt
  row_cause Gap ends store gap disk read write limit =
      let at = run_at first fault Gap last ends Gap refl in
      let why = gap at.0 at.1 in
      (first, refl, record { asks = asks; legal = legal; next = at.0; next_is = why.0; behind = why.1; line = at.2; left_alone = why.2 })
  row_cause Differs ends store gap disk read write limit = absurd (run_at first fault Differs last ends Differs refl)

-- what a run whose plan was read left alone
pub gone_alone : (first : ℕ) (plan input : SourceOutcome) (h : HostOutcome) (status : Status) (p : Planned) → IfSome plan.told (λ bytes. IsPlan bytes p) → (status ≡ BadPlan → ⊥) → (status ≡ Read → input.failed) → LeavesAlone (Some (Run first)) (outcome plan input h) status
gone_alone first plan input h status p legal no_plan read =
    let taken : (status ≡ BadPlan) ⊎ TellsNoPlan plan.told → ⊥ = λ why. ⊎_elim (λ is. no_plan is) (λ none. tells_plan plan.told p legal none) why in
    record {
      plan_unread = λ unread. absurd (unread tt);
      input_unread = λ no_run. absurd (no_run tt);
      plan_first = λ why. absurd (taken why);
      read_first = λ is. inr (read is);
      files_stay = λ why. absurd (⊎_elim (λ no_run. no_run tt) taken why);
    }

-- a cause of a read that failed
went_for : {H : Type 0} (g : HostMembers H) (plan : Planned) (b : Begun) (v : Image) (left : Option (List ℕ)) (unread : Type 0) (status : Status) (last : List ℕ) (old new : H) →
    Went g plan b v left ⊥ status last old new → Went g plan b v left unread status last old new
went_for g plan b v left unread status last old new w = record {
  is_from = w.is_from;
  moments = w.moments;
  finished = w.finished;
  stopped = w.stopped;
  answered = λ is. ⊎_elim (λ a. inl a) (λ none. absurd none.0) (w.answered is);
  last_is = w.last_is;
  no_gap = w.no_gap;
}

-- The plan was not read: the host is as it was.
module _ {H : Type 0} (g : HostMembers H) (only : (h : H) (m : Moment) → g.since h (g.clock h) m → g.may h m.image × ForSome (g.said h) (λ t. m.said ≡ t)) (sinks : (h : H) (t u : ℕ) (m : Moment) → t ≤ u → g.since h u m → g.since h t m) (old : H)
    (plan input : SourceOutcome) (last : List ℕ) (refusal : Option Refusal) (status : Status) (u : UnreadFor plan last refusal status) where
  fails_last : (b : Begun) → EndsFailed plan.failed status last → IsLastOf status b last
  fails_last b (inl m) = subst (λ s. IsLastOf s b last) (sym m.0) m.1
  fails_last b (inr (inl d)) = absurd (never_unread plan last refusal status u Disk d.0)
  fails_last b (inr (inr read)) = subst (λ s. IsLastOf s b last) (sym read.0.0) read.0.1

  fails_read : (status ≡ Read) ⊎ (status ≡ Limit) → EndsFailed plan.failed status last → plan.failed
  fails_read is (inl m) = absurd (⊎_elim (λ e. let x : Memory ≡ Read = sym m.0 ∙ e in absurd (cc)) (λ e. let x : Memory ≡ Limit = sym m.0 ∙ e in absurd (cc)) is)
  fails_read is (inr (inl d)) = absurd (never_unread plan last refusal status u Disk d.0)
  fails_read is (inr (inr read)) = read.1

  pub went_unread : (new : H) → input.stays → (told : ToldRun (outcome plan input (host_outcome g old new))) (from first : ℕ) → Went g told.asks (begun_in told from first) told.ready.openable.image input.left (input.stays × plan.failed) status last old old
  went_unread new same told from first =
      let fails = unread_fails plan last refusal status u told.plan_bytes told.plan_is told.asks told.says in
      let b = begun_in told from first in
      record {
        is_from = inr refl;
        moments = moments-none g.clock g.since old (StaysOnCourseSince (store_of told.asks) (course_for told.asks b) (g.may old) []) (λ t v m. sinks old t v m)
            (λ m at. let h = only old m at in inl (h.0, ([], ([], refl), h.1 told.ready.put told.ready.told ∙ sym (append-nil b.said))));
        finished = λ ok. absurd (never_unread plan last refusal status u Ok ok);
        stopped = λ not_done not_write. inr (record { said_stays = refl; left = λ u m. inl m });
        answered = λ is. inr ((same, fails_read is fails), refl);
        last_is = fails_last b fails;
        no_gap = λ ok. absurd (never_unread plan last refusal status u Ok ok);
      }

-- A run by the plan that was read, as one by the plan that is asked for.
module _ {H : Type 0} (g : HostMembers H) (first : ℕ) (plan input : SourceOutcome) (status : Status) (last : List ℕ) (old mid new : H) (p : Planned) (legal : IfSome plan.told (λ bytes. IsPlan bytes p)) (goes : RunsStore g first p input status last old mid) where
  pub goes_at : (bytes : List ℕ) (asks : Planned) → plan.told ≡ Some bytes → IsPlan bytes asks → RunsStore g first asks input status last old mid
  goes_at bytes asks is says = subst (λ q. RunsStore g first q input status last old mid) (bytes_ask plan.told p legal bytes asks is says) goes

  pub went_at : (told : ToldRun (outcome plan input (host_outcome g old new))) → (from : ℕ) × Went g told.asks (begun_in told from first) told.ready.openable.image input.left (input.stays × plan.failed) status last old mid
  went_at told =
      let at = goes_at told.plan_bytes told.asks told.plan_is told.says in
      let w = at.went told.ready told.input_bytes told.input_is in
      (w.0, went_for g told.asks (begun_in told w.0 first) told.ready.openable.image input.left (input.stays × plan.failed) status last old mid w.1)
