-- What a log is opened as, what is left of it where its first frame or a growth is written, and what stops that.
use Rattle.std.proofs.Common.{◌≡◌, ◌∙◌, ◌⊎◌, inl, inr, ℕ, ◌+◌, ◌^◌, ◌≤◌, false, List, [], ◌∷◌, ◌++◌, length, Option, Some, None, option_and_then, Result, Ok, Err, IfErr, refl, sym, ap, subst, arith}
use Rattle.std.specs.Prelude.{IsErrOf}
use Rattle.std.specs.Option.{ForSome}
use Rattle.rg_host.specs.Image.{Image, Becomes, InFile, NothingPending}
use Rattle.rg_host.specs.Moments.{Moment, LeavesAll}
use Rattle.rg_host.proofs.Laws.{moments_then, leaves_all-none, leaves_all-then, leaves_all-settled}
use Rattle.rg_event.specs.Shapes.{Shape, IsSchema}
use Rattle.rg_event.specs.declared.value.Value.{Value}
use Rattle.rg_growth.specs.Filling.{Given, IsFilled, growth_to}
use Rattle.rg_growth.specs.Payloads.{IsGrowth}
use Rattle.rg_frame.specs.Calls.{Writes}
use Rattle.rg_frame.specs.Frames.{frames, IsLog, payload_at}
use Rattle.rg_frame.specs.LogState.{LogState, ReachesEnd}
use Rattle.rg_frame.specs.Steps.{Leaves, From, Grows, Grown, Appended}
use Rattle.rg_frame.proofs.Laws.{length-frames, Same, writes-quiet, writes-weaker}
use Rattle.rg_log.specs.declared.entry.LogSoFar.{LogSoFar}
use Rattle.rg_log.specs.declared.summary.LogSummary.{LogSummary}
use Rattle.rg_log.specs.Entries.{nothing, unread, behind, entries_after}
use Rattle.rg_log.specs.Log.{schema_payload}
use Rattle.rg_log.proofs.Laws.{behind_is, first as first_step, growth_step, entries_push, says as all_say}
use Rattle.rg_reservoir.specs.Attached.{IsToGrow, growth_payload, LogOpens, IsOpened, HasView}
use Rattle.rg_reservoir.specs.GrownViews.{growing_at}
use Rattle.rg_reservoir.specs.Heads.{growths_in}
use Rattle.rg_reservoir.specs.HeadsRead.{IsReadLog, HasRead}
use Rattle.rg_reservoir.specs.LogOpened.{IsToWrite, IsAtStart, IsAtEnd, LogOpened, IsLogStop, WritesOpening}
use Rattle.rg_reservoir.specs.Reading.{LeavesLog}
use Rattle.rg_reservoir.specs.Views.{seen_from, plain, passed}
use Rattle.rg_reservoir.specs.declared.fault.ReservoirFault.{ReservoirFault}
use Rattle.rg_reservoir.specs.declared.fault.ReservoirFault.TheVariants.{Disk, Damaged, SchemaDiffers, Full, Ended}
use Rattle.rg_reservoir.specs.declared.first.Opened.{Opened}
use Rattle.rg_reservoir.specs.declared.first.ToWrite.{ToWrite}
use Rattle.rg_reservoir.specs.declared.growing.Growing.{Growing}
use Rattle.rg_reservoir.specs.declared.heads.ReadLog.{ReadLog}
use Rattle.rg_reservoir.proofs.Chains.{some_none}
use Rattle.rg_reservoir.proofs.Gathering.{growths_begun, growths_grown, passed-push}
use Rattle.rg_reservoir.proofs.Listing.{listed, grown_log}

pub one_payload : (place : ℕ) (p q bytes : List ℕ) → payload_at place bytes ≡ Some p → payload_at place bytes ≡ Some q → p ≡ q
one_payload place p q bytes a b = let g : Some p ≡ Some q = sym a ∙ b in cc

becomes_back : {T : Type 0} (a b : Option T) (R : T → T → Type 0) (y : T) → Becomes a b R → b ≡ Some y → (x : T) × (a ≡ Some x) × R x y
becomes_back {T} None b R y p is = let none = p.untold refl in absurd (some_none b y is none)
becomes_back {T} (Some x) b R y p is =
    let t = p.told x refl in
    let g : Some t.0 ≡ Some y = sym t.1 ∙ is in
    let same : t.0 ≡ y = cc in
    (x, refl, subst (λ (z : T). R x z) same t.2)

-- a log of the first frame alone
opened_new : (shape : Shape) (first end : ℕ) (bytes : List ℕ) → IsSchema shape → end ≤ 2 ^ 62 → first ≡ end → IsLog (schema_payload shape ∷ []) end bytes → IsOpened (plain shape) first end nothing bytes
opened_new shape first end bytes legal most is log = record {
  start = schema_payload shape;
  payloads = [];
  log = log;
  has = listed (schema_payload shape ∷ []) end bytes log most;
  say = ap (option_and_then (λ (next : LogSoFar). entries_after next [])) (first_step shape legal);
  growths = sym (growths_begun shape [] [] legal tt);
  first_is = omega (arith, is, log.ends, length-frames (schema_payload shape) []);
}

-- a log that was read, where that schema is in force at its end

known_behind : (shape : Shape) (so_far : LogSoFar) (payloads : List (List ℕ)) → so_far.schema ≡ Some shape → entries_after unread payloads ≡ Some so_far → entries_after unread payloads ≡ Some (behind shape so_far.summary)
known_behind shape so_far payloads known say = say ∙ ap (λ (s : LogSoFar). Some s) (behind_is so_far shape known)

pub read_opened : (shape : Shape) (read : ReadLog) (end : ℕ) (bytes : List ℕ) → read.so_far.schema ≡ Some shape → IsReadLog read end bytes → IsOpened (seen_from shape read.growths) read.first end read.so_far.summary bytes
read_opened shape read end bytes known r = record {
  start = r.start;
  payloads = r.payloads;
  log = r.log;
  has = r.has;
  say = known_behind shape read.so_far (r.start ∷ r.payloads) known r.say;
  growths = r.growths;
  first_is = r.first_is;
}

-- some schema is
pub schema_read : (read : ReadLog) (end : ℕ) (bytes : List ℕ) → IsReadLog read end bytes → read.so_far.schema ≡ None → ⊥
schema_read read end bytes r none = let s = all_say r.start r.payloads read.so_far r.say in some_none _ _ (ap (λ (x : LogSoFar). x.schema) s.is) none

-- the view that the frames of a log give that was opened
pub opened_view : (shape : Shape) (growths : List Growing) (first end : ℕ) (tally : LogSummary) (bytes : List ℕ) → IsOpened (seen_from shape growths) first end tally bytes → HasView shape (seen_from shape growths) bytes
opened_view shape growths first end tally bytes o = inr (o.start ∷ o.payloads, tally, o.has, o.say, ap (seen_from shape) o.growths)

-- where the schema in force grows to another one

abbrev to_grow : (shape : Shape) (defaults : Given) (from : Shape) (values : List Value) (read : ReadLog) (end : ℕ) (bytes : List ℕ) → read.so_far.schema ≡ Some from → IsFilled from shape defaults values → IsReadLog read end bytes → IsToGrow shape defaults bytes
to_grow shape defaults from values read end bytes known fills r = record {
  from = from;
  values = values;
  fills = fills;
  payloads = r.start ∷ r.payloads;
  has = r.has;
  summary = read.so_far.summary;
  say = known_behind from read.so_far (r.start ∷ r.payloads) known r.say;
}

-- a log that was read, with one growth behind it
opened_grown : (shape : Shape) (defaults : Given) (from : Shape) (values : List Value) (read : ReadLog) (end next : ℕ) (p old new : List ℕ) → IsReadLog read end old → read.so_far.schema ≡ Some from → IsFilled from shape defaults values → p ≡ growth_payload shape values
    → Grown p old new → next ≡ end + 9 + length p → IsOpened (seen_from shape (read.growths ++ growing_at end from p values ∷ [])) (passed (growing_at end from p values ∷ []) read.first) next read.so_far.summary new
opened_grown shape defaults from values read end next p old new r known fills is step size =
    let all = r.start ∷ r.payloads in
    let growing = growing_at end from p values in
    let said : IsGrowth from p (growth_to shape values) = record { is = is; of = fills.of } in
    record {
      start = r.start;
      payloads = r.payloads ++ p ∷ [];
      log = grown_log all p end next old new step r.has (sym r.log.ends) size;
      has = step all r.has;
      say = entries_push unread (behind from read.so_far.summary) all p (known_behind from read.so_far all known r.say) ∙ growth_step from read.so_far.summary p (growth_to shape values) said;
      growths = ap (λ (l : List Growing). l ++ growing ∷ []) r.growths ∙ sym (growths_grown end read.so_far from (growth_to shape values) all p r.say r.log.ends known said);
      first_is = ap (passed (growing ∷ [])) r.first_is ∙ sym (passed-push read.growths growing (9 + length r.start));
    }

-- where the writer of a new log stands, once its frames were read

pub at_start : (now then : Option Image) (old new : LogState) → old ≡ record { file = 2; end = 0; ready = false; ended = false } → ReachesEnd old now → then ≡ now → HasRead now then (Ok None) old new → IsAtStart then new
at_start now then old new fresh reaches same h =
    let file : old.file ≡ 2 = ap (λ (l : LogState). l.file) fresh in
    record {
      none = λ v told. subst (λ (f : ℕ). IsLog [] 0 (v f)) file (h.none.1 v (sym same ∙ told));
      stands = (h.same.0 ∙ file, ap (λ (l : LogState). l.end) h.none.0 ∙ ap (λ (l : LogState). l.end) fresh, ap (λ (l : LogState). l.ready) h.none.0, h.same.1 ∙ ap (λ (l : LogState). l.ended) fresh);
      reaches = h.reaches reaches;
    }

pub at_end : (now then : Option Image) (old new : LogState) (read : ReadLog) → old ≡ record { file = 2; end = 0; ready = false; ended = false } → ReachesEnd old now → then ≡ now → HasRead now then (Ok (Some read)) old new → IsAtEnd then new read
at_end now then old new read fresh reaches same h =
    let file : old.file ≡ 2 = ap (λ (l : LogState). l.file) fresh in
    record {
      has_read = λ v told. subst (λ (f : ℕ). IsReadLog read new.end (v f)) file (h.read v (sym same ∙ told));
      few = h.few;
      stands = (h.same.0 ∙ file, h.ready, h.same.1 ∙ ap (λ (l : LogState). l.ended) fresh);
      reaches = h.reaches reaches;
    }

-- What is written, and what is left then.
module _ {H : Type 0} (now : H → Option Image) (may : H → Image → Type 0) (clock : H → ℕ) (since : H → ℕ → Moment → Type 0) (said : H → Option (List ℕ)) (shape : Shape) (defaults : Given) where
  -- calls that wrote nothing
  pub quiet : (old new : H) → LeavesAll now may clock since said old new → Writes now may clock since said 2 (LogOpens shape defaults) old new
  quiet old new leaves = writes-weaker now may clock since said 2 Same (LogOpens shape defaults) old new (writes-quiet now may clock since said 2 old new leaves) (λ w told bytes same. inl (inl same))

  -- and then others
  pub later : (old mid new : H) → LeavesAll now may clock since said old mid → Writes now may clock since said 2 (LogOpens shape defaults) mid new → Writes now may clock since said 2 (LogOpens shape defaults) old new
  later old mid new leaves writes = record {
    moments = moments_then clock since old mid new _ _ _ (quiet old mid leaves).moments writes.moments (λ m has. has) (λ m has. (by m.image has.0, λ s told. has.1 s (leaves.said_stays ∙ told)));
    left = λ v left. by v (writes.left v left);
    said_stays = writes.said_stays ∙ leaves.said_stays;
  }
    where
      by : (v : Image) → Leaves 2 (LogOpens shape defaults) (now mid) (may mid) v → Leaves 2 (LogOpens shape defaults) (now old) (may old) v
      by v left = (
        (left.0.0, leaves.may_stays.no_more left.0.0 left.0.1, left.0.2),
        λ settled w told. left.1 (leaves_all-settled now may clock since said 2 old mid leaves settled) w (leaves.now_stays ∙ told),
      )

  -- the first frame, behind a log without frames
  pub added : (old new : H) (log : LogState) (own : List ℕ) → IsAtStart (now old) log → own ≡ schema_payload shape → Writes now may clock since said log.file (From log.end (Grows own)) old new → Writes now may clock since said 2 (LogOpens shape defaults) old new
  added old new log own at is run =
      let here : Writes now may clock since said 2 (From log.end (Grows own)) old new = subst (λ (f : ℕ). Writes now may clock since said f (From log.end (Grows own)) old new) at.stands.0 run in
      writes-weaker now may clock since said 2 (From log.end (Grows own)) (LogOpens shape defaults) old new here (λ w told bytes step.
      let none = at.none w told in
      inl (inr (listed [] 0 (w 2) none (omega arith), subst (λ (l : List ℕ). Grows l (w 2) bytes) is (step ([], subst (λ (e : ℕ). IsLog [] e (w 2)) (sym at.stands.1) none)))))

  -- one growth, behind a log that was read to its end
  pub grown : (old new : H) (log : LogState) (read : ReadLog) (place : ℕ) (found : ToWrite) (p : List ℕ) → IsAtEnd (now old) log read → IsToWrite read.so_far place shape defaults found → p ≡ found.payload.items
      → Writes now may clock since said log.file (From log.end (Grows p)) old new → Writes now may clock since said 2 (LogOpens shape defaults) old new
  grown old new log read place found p at w is run =
      let here : Writes now may clock since said 2 (From log.end (Grows p)) old new = subst (λ (f : ℕ). Writes now may clock since said f (From log.end (Grows p)) old new) at.stands.0 run in
      writes-weaker now may clock since said 2 (From log.end (Grows p)) (LogOpens shape defaults) old new here (λ v told bytes step.
      let r = at.has_read v told in
      inr (to_grow shape defaults w.from w.values read log.end (v 2) w.known w.fills r, subst (λ (l : List ℕ). Grows l (v 2) bytes) (is ∙ w.payload_is) (step (r.start ∷ r.payloads, r.log))))

  -- a log that was read and not written
  pub log_kept : (old new : H) (log : LogState) (read : ReadLog) → LeavesAll now may clock since said old new → IsAtEnd (now new) log read → read.so_far.schema ≡ Some shape
      → LogOpened now may shape defaults (Ok (record { log = log; growths = read.growths; first = read.first; tally = read.so_far.summary })) old new
  log_kept old new log read leaves at known = record {
    opened = λ w told. read_opened shape read log.end (w 2) known (at.has_read w told);
    view = λ v told. inl (opened_view shape read.growths read.first log.end read.so_far.summary (v 2) (read_opened shape read log.end (v 2) known (at.has_read v (leaves.now_stays ∙ told))));
    opens = record { told = λ v told. (v, leaves.now_stays ∙ told, inl refl); untold = λ none. leaves.now_stays ∙ none };
    settled = leaves_all-settled now may clock since said 2 old new leaves;
    log = (at.stands.0, at.stands.1, at.stands.2, at.few);
    reaches = at.reaches;
  }

  -- one with its first frame
  pub log_begun : (old new : H) (log then : LogState) (own : List ℕ) (growths : List Growing) (first : ℕ) (tally : LogSummary) → IsSchema shape → IsAtStart (now old) log → own ≡ schema_payload shape → growths ≡ [] → first ≡ then.end → then.end ≤ 2 ^ 62 → tally ≡ nothing
      → then ≡ record log { end = log.end + 9 + length own } → Becomes (now old) (now new) (InFile log.file (Appended log.end own then.end)) → NothingPending log.file (now new) (may new) → ReachesEnd then (now new)
      → LogOpened now may shape defaults (Ok (record { log = then; growths = growths; first = first; tally = tally })) old new
  log_begun old new log then own growths first tally legal at is none ends most zero ok appended pending reaches = record {
    opened = λ w told.
        let back = becomes_back _ _ _ w appended told in
        let empty = listed [] 0 (back.0 2) (at.none back.0 back.1) (omega arith) in
        let size : then.end ≡ log.end + 9 + length (schema_payload shape) = ap (λ (l : LogState). l.end) ok ∙ ap (λ (l : List ℕ). log.end + 9 + length l) is in
        let alone : IsLog (schema_payload shape ∷ []) then.end (w 2) = grown_log [] (schema_payload shape) log.end then.end (back.0 2) (w 2) (by back.0 w back.1 back.2) empty at.stands.1 size in
        subst (λ (l : List Growing). IsOpened (seen_from shape l) first then.end tally (w 2)) (sym none)
        (subst (λ (t : LogSummary). IsOpened (seen_from shape []) first then.end t (w 2)) (sym zero) (opened_new shape first then.end (w 2) legal most ends alone));
    view = λ v told. inl (subst (λ (l : List Growing). HasView shape (seen_from shape l) (v 2)) (sym none) (inl (listed [] 0 (v 2) (at.none v told) (omega arith), refl)));
    opens = record { told = λ v told. let t = appended.told v told in (t.0, t.1, inr (inl (at.none v told, sym ends, by v t.0 told t.2))); untold = appended.untold };
    settled = λ settled. subst (λ (f : ℕ). NothingPending f (now new) (may new)) at.stands.0 pending;
    log = (ap (λ (l : LogState). l.file) ok ∙ at.stands.0, ap (λ (l : LogState). l.ready) ok ∙ at.stands.2, ap (λ (l : LogState). l.ended) ok ∙ at.stands.3, omega (arith, ap (λ (t : LogSummary). t.count) zero));
    reaches = reaches;
  }
    where
      by : (v w : Image) → now old ≡ Some v → InFile log.file (Appended log.end own then.end) v w → Grown (schema_payload shape) (v 2) (w 2)
      by v w told step =
          let there : Appended log.end own then.end (v 2) (w 2) = subst (λ (f : ℕ). Appended log.end own then.end (v f) (w f)) at.stands.0 step.there in
          subst (λ (l : List ℕ). Grown l (v 2) (w 2)) is (there ([], subst (λ (e : ℕ). IsLog [] e (v 2)) (sym at.stands.1) (at.none v told))).0

  -- and one with a growth
  pub log_grown : (old new : H) (log then : LogState) (read : ReadLog) (place : ℕ) (found : ToWrite) (p : List ℕ) (growths : List Growing) (first : ℕ) → IsAtEnd (now old) log read → IsToWrite read.so_far place shape defaults found → place ≡ log.end → p ≡ found.payload.items
      → growths ≡ read.growths ++ found.growing ∷ [] → first ≡ passed (found.growing ∷ []) read.first
      → then ≡ record log { end = log.end + 9 + length p } → Becomes (now old) (now new) (InFile log.file (Appended log.end p then.end)) → NothingPending log.file (now new) (may new) → ReachesEnd then (now new)
      → LogOpened now may shape defaults (Ok (record { log = then; growths = growths; first = first; tally = read.so_far.summary })) old new
  log_grown old new log then read place found p growths first at w there is more behind_it ok appended pending reaches = record {
    opened = λ x told.
        let back = becomes_back _ _ _ x appended told in
        let o = opened_grown shape defaults w.from w.values read log.end then.end p (back.0 2) (x 2) (at.has_read back.0 back.1) w.known w.fills payload (by back.0 x back.1 back.2) (ap (λ (l : LogState). l.end) ok) in
        subst (λ (l : List Growing). IsOpened (seen_from shape l) first then.end read.so_far.summary (x 2)) (sym all)
        (subst (λ (n : ℕ). IsOpened (seen_from shape (read.growths ++ growing_at log.end w.from p w.values ∷ [])) n then.end read.so_far.summary (x 2)) (sym (behind_it ∙ ap (λ (g : Growing). passed (g ∷ []) read.first) growing)) o);
    view = λ v told.
        let r = at.has_read v told in
        let in_front = growths_in (r.start ∷ r.payloads) in
        inr (
          to_grow shape defaults w.from w.values read log.end (v 2) w.known w.fills r,
          ap (seen_from shape)
              (all ∙ ap (λ (l : List Growing). l ++ growing_at log.end w.from p w.values ∷ []) r.growths ∙ ap (λ (n : ℕ). in_front ++ growing_at n w.from p w.values ∷ []) (sym r.log.ends)
              ∙ ap (λ (l : List ℕ). in_front ++ growing_at (length (frames (r.start ∷ r.payloads))) w.from l w.values ∷ []) payload),
        );
    opens = record {
      told = λ v told.
          let t = appended.told v told in
          (t.0, t.1, inr (inr (to_grow shape defaults w.from w.values read log.end (v 2) w.known w.fills (at.has_read v told), subst (λ (l : List ℕ). Grown l (v 2) (t.0 2)) payload (by v t.0 told t.2))));
      untold = appended.untold;
    };
    settled = λ settled. subst (λ (f : ℕ). NothingPending f (now new) (may new)) at.stands.0 pending;
    log = (ap (λ (l : LogState). l.file) ok ∙ at.stands.0, ap (λ (l : LogState). l.ready) ok ∙ at.stands.1, ap (λ (l : LogState). l.ended) ok ∙ at.stands.2, at.few);
    reaches = reaches;
  }
    where
      payload : p ≡ growth_payload shape w.values
      payload = is ∙ w.payload_is

      growing : found.growing ≡ growing_at log.end w.from p w.values
      growing = w.growing_is ∙ ap (λ (n : ℕ). growing_at n w.from found.payload.items w.values) there ∙ ap (λ (l : List ℕ). growing_at log.end w.from l w.values) (sym is)

      by : (v x : Image) → now old ≡ Some v → InFile log.file (Appended log.end p then.end) v x → Grown p (v 2) (x 2)
      by v x told step =
          let r = at.has_read v told in
          let added_here : Appended log.end p then.end (v 2) (x 2) = subst (λ (f : ℕ). Appended log.end p then.end (v f) (x f)) at.stands.0 step.there in
          (added_here (r.start ∷ r.payloads, r.log)).0

      all : growths ≡ read.growths ++ growing_at log.end w.from p w.values ∷ []
      all = more ∙ ap (λ (g : Growing). read.growths ++ g ∷ []) growing

  -- the log was opened, after calls that wrote nothing
  pub opened_then : (result : Result Opened ReservoirFault) (old mid new : H) → LeavesAll now may clock since said old mid → LogOpened now may shape defaults result mid new → LogOpened now may shape defaults result old new
  opened_then (Err fault) old mid new leaves o = record { opened = tt; view = tt; opens = tt; settled = tt; log = tt; reaches = tt }
  opened_then (Ok x) old mid new leaves o = record {
    opened = o.opened;
    view = λ v told. o.view v (leaves.now_stays ∙ told);
    opens = record { told = λ v told. o.opens.told v (leaves.now_stays ∙ told); untold = λ none. o.opens.untold (leaves.now_stays ∙ none) };
    settled = λ settled. o.settled (leaves_all-settled now may clock since said 2 old mid leaves settled);
    log = o.log;
    reaches = o.reaches;
  }

  -- What an opening leaves, written or not.
  module _ (disk_faults out_faults : H → ℕ) where
    -- it wrote nothing
    pub opening_quiet : (result : Result Opened ReservoirFault) (old new : H) → LeavesLog now may clock since said disk_faults out_faults old new → WritesOpening now may clock since said disk_faults out_faults shape defaults result old new
    opening_quiet result old new l = record { writes = quiet old new l.leaves; disk_faults_rise = l.disk_faults_rise; out_faults_stay = l.out_faults_stay; untouched = by result }
      where
        by : (r : Result Opened ReservoirFault) → IfErr r (λ e. (e ≡ Disk) ⊎ LeavesAll now may clock since said old new)
        by (Ok x) = tt
        by (Err e) = inr l.leaves

    -- and no call was made
    pub opening_none : (result : Result Opened ReservoirFault) (host : H) → ((t u : ℕ) (m : Moment) → t ≤ u → since host u m → since host t m) → ((m : Moment) → since host (clock host) m → may host m.image × ForSome (said host) (λ s. m.said ≡ s))
        → WritesOpening now may clock since said disk_faults out_faults shape defaults result host host
    opening_none result host sinks only = opening_quiet result host host (record { leaves = leaves_all-none now may clock since said host sinks only; disk_faults_rise = omega arith; out_faults_stay = refl })

    -- it wrote nothing, and then what it may write
    pub opening_then : (result : Result Opened ReservoirFault) (old mid new : H) → LeavesLog now may clock since said disk_faults out_faults old mid → WritesOpening now may clock since said disk_faults out_faults shape defaults result mid new
        → WritesOpening now may clock since said disk_faults out_faults shape defaults result old new
    opening_then result old mid new l o = record {
      writes = later old mid new l.leaves o.writes;
      disk_faults_rise = omega (arith, l.disk_faults_rise, o.disk_faults_rise);
      out_faults_stay = o.out_faults_stay ∙ l.out_faults_stay;
      untouched = by result o.untouched;
    }
      where
        by : (r : Result Opened ReservoirFault) → IfErr r (λ e. (e ≡ Disk) ⊎ LeavesAll now may clock since said mid new) → IfErr r (λ e. (e ≡ Disk) ⊎ LeavesAll now may clock since said old new)
        by (Ok x) left = tt
        by (Err e) (inl disk) = inl disk
        by (Err e) (inr left) = inr (leaves_all-then now may clock since said old mid new l.leaves left)

-- What stops it.

-- the same, after calls that wrote nothing
pub stops_then : {R : Type 0} (Differs : List ℕ → Type 0) (before after : Option Image) (rose further : Type 0) (result : Result R ReservoirFault) → after ≡ before → (rose → further) → IsLogStop Differs after rose result → IsLogStop Differs before further result
stops_then Differs before after rose further result same wider s = record {
  differs = λ e v told. s.differs e v (same ∙ told);
  damaged = λ p e v told. s.damaged p e v (same ∙ told);
  neither = s.neither;
  disk = λ e. wider (s.disk e);
}

disk_only : {R : Type 0} (rose : Type 0) (result : Result R ReservoirFault) (other : ReservoirFault) → (Disk ≡ other → ⊥) → IfErr result (λ e. (e ≡ Disk) × rose) → IsErrOf result other → ⊥
disk_only rose (Ok x) other differs why e = absurd cc
disk_only rose (Err f) other differs why e = differs (sym why.0 ∙ (let same : f ≡ other = cc in same))

disk_rose : {R : Type 0} (rose : Type 0) (result : Result R ReservoirFault) → IfErr result (λ e. (e ≡ Disk) × rose) → IsErrOf result Disk → rose
disk_rose rose (Ok x) why e = absurd cc
disk_rose rose (Err f) why e = why.1

-- a call on the file alone
pub disk_stops : {R : Type 0} (Differs : List ℕ → Type 0) (now : Option Image) (rose : Type 0) (result : Result R ReservoirFault) → IfErr result (λ e. (e ≡ Disk) × rose) → IsLogStop Differs now rose result
disk_stops Differs now rose result why = record {
  differs = λ e. absurd (disk_only rose result SchemaDiffers (λ (d : Disk ≡ SchemaDiffers). cc) why e);
  damaged = λ p e. absurd (disk_only rose result (Damaged p) (λ (d : Disk ≡ Damaged p). cc) why e);
  neither = (disk_only rose result Full (λ (d : Disk ≡ Full). cc) why, disk_only rose result Ended (λ (d : Disk ≡ Ended). cc) why);
  disk = disk_rose rose result why;
}
