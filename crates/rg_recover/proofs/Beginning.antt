-- A run up to its open line.
use Rattle.std.proofs.Common.{◌≡◌, ◌⊎◌, inl, inr, ℕ, List, [], ◌++◌, length, Option, Some, refl, ap, sym, ◌∙◌, subst}
use Rattle.std.specs.Prelude.{⊤}
use Rattle.std.proofs.lemmas.List.{append-nil}
use Rattle.std.specs.Option.{ForSome}
use Rattle.rg_host.specs.Image.{Image}
use Rattle.rg_host.specs.Lines.{ended, lines_of}
use Rattle.rg_host.specs.Moments.{Moment, Moments}
use Rattle.rg_host.proofs.Laws.{moments-weaker}
use Rattle.rg_event.specs.declared.event.Event.{Event}
use Rattle.rg_event.specs.Rising.{IsRising, next_offset}
use Rattle.rg_config.specs.Plans.{Planned}
use Rattle.rg_state.specs.Changes.{Marks}
use Rattle.rg_state.specs.Rows.{Cells}
use Rattle.rg_run_spec.specs.Laws.{IsPrefixOf}
use Rattle.rg_run_spec.specs.Steps.{IsAtRest, IsMidStep, IsStepped}
use Rattle.rg_run_spec.specs.Stores.{Store, Course, IsKeptInStore, IsNear, StaysOnCourseSince}
use Rattle.rg_run_spec.proofs.Laws.{at_rest_first, after_step, mid_step_kept}
use Rattle.rg_log.specs.Filled.{HasEventsFor, IsOfSchemaFor}
use Rattle.rg_log.proofs.Laws.{rising_for}
use Rattle.rg_open.specs.Stores.{HasSaved, IsOfPlan, IsGrownTo, Has, has_fewer, store_of}
use Rattle.rg_open.specs.Truth.{IsTruthfulImage}
use Rattle.rg_open.specs.Within.{IsAsRead, IsInOpening, IsAfterOpening, IsWithinOpening}
use Rattle.rg_reservoir.specs.Kept.{next_of}
use Rattle.rg_recover.specs.Sessions.{Sitting, IsRunning, count_in, events_of, stored_of}
use Rattle.rg_recover.proofs.Sound.{long, log_framed}
use Rattle.rg_task.specs.Terms.{terms_of}
use Rattle.rg_recover.specs.LivingLaws.{running_next}
use Rattle.rg_run.specs.Begun.{course_for}
use Rattle.rg_recover.specs.Ready.{IsReadyRun, begun_by}
use Rattle.rg_recover.specs.Opened.{IsToBegin}
use Rattle.rg_recover.specs.Ran.{IsUnopened}

module _ {H : Type 0} (now : H → Option Image) (may : H → Image → Type 0) (clock : H → ℕ) (since : H → ℕ → Moment → Type 0) (said : H → Option (List ℕ)) (plan : Planned) (old : H) (ready : IsReadyRun plan (now old) (may old) (said old)) (from first : ℕ) (input : List ℕ) where
  abbrev pub course : Course
  course = course_for plan (begun_by ready from first input)

  abbrev v : Image
  v = ready.openable.image

  abbrev P : Moment → Type 0
  P = StaysOnCourseSince (store_of plan) course (may old) []

  rising : IsRising ready.held
  rising = rising_for plan.shape plan.defaults ready.held (v 2) ready.has

  -- the store of the plan, where any schema may be in force
  abbrev any : Store Image
  any = record { IsTruthful = IsTruthfulImage; IsOfSchema = IsOfPlan plan; IsGrown = λ u. ⊤; HasEvents = Has plan; HasSaved = HasSaved plan; has_fewer = has_fewer plan }

  in_any : (keep : Option ℕ) (from_may : Image → Type 0) (u : Image) → IsMidStep (store_of plan) keep [] from_may u → IsMidStep any keep [] from_may u
  in_any keep from_may u w = record { from = w.from; left = w.left; truthful = w.truthful; schema = w.schema; grown = λ is. tt; events = w.events; slots = w.slots }

  stepped_any : (keep : Option ℕ) (from_may : Image → Type 0) (u : Image) → IsStepped (store_of plan) keep [] from_may u → IsStepped any keep [] from_may u
  stepped_any keep from_may u w = record { from = w.from; left = w.left; truthful = w.truthful; schema = w.schema; grown = λ is. tt; events = w.events; slots = w.slots }

  of_any : (u : Image) → IsKeptInStore any course [] u → IsKeptInStore (store_of plan) course [] u
  of_any u k = record { truthful = k.truthful; schema = k.schema; events = k.events; has = k.has; begins = k.begins; keeps = k.keeps; near = k.near; stored = k.stored; saved = k.saved }

  -- each image that reads as the host reads has the events
  at_read : (keep : Option ℕ) → IsAtRest any course [] ready.held keep (IsAsRead v (may old))
  at_read keep = at_rest_first Image any (terms_of plan) ready.put ready.held from first (lines_of input) keep (IsAsRead v (may old))
      (λ u h. ready.openable.truthful u h.0)
      (λ u h. subst (λ (bytes : List ℕ). IsOfSchemaFor plan.shape plan.defaults bytes) (sym h.3) ready.openable.schema)
      (λ u h. tt)
      (λ u h. subst (λ (bytes : List ℕ). HasEventsFor plan.shape plan.defaults ready.held bytes) (sym h.3) ready.has)
      rising

  begins : (keep : Option ℕ) → IsPrefixOf (ready.held ++ []) course.accepted
  begins keep = subst (λ (l : List Event). IsPrefixOf l course.accepted) (sym (append-nil ready.held)) (at_read keep).begins

  near : IsNear course [] (ready.held ++ [])
  near = inl (append-nil ready.held)

  nothing_said : ready.put ≡ course.said ++ ended []
  nothing_said = sym (append-nil ready.put)

  module _ (keep : Option ℕ) (opened : H) (within : IsWithinOpening may clock since said plan keep v old opened) where
    mid_kept : (u : Image) → IsMidStep (store_of plan) keep [] (IsAsRead v (may old)) u → IsKeptInStore (store_of plan) course [] u
    mid_kept u mid = of_any u (mid_step_kept Image any course [] ready.held [] keep (IsAsRead v (may old)) u (at_read keep) (begins keep) near (in_any keep (IsAsRead v (may old)) u mid))

    each : (m : Moment) → IsInOpening plan keep v (may old) m.image × ForSome (said old) (λ s. m.said ≡ s) → P m
    each m (inl left, says) = inl (left, ([], ([], refl), says ready.put ready.told ∙ sym (append-nil ready.put)))
    each m (inr mid, says) = inr (record { put = []; since = says ready.put ready.told ∙ nothing_said; text = inl (ended course.text, refl); kept = mid_kept m.image mid.0; grown = inr ([], refl) })

    pub opening_moments : Moments clock since old opened P
    opening_moments = moments-weaker clock since old opened (λ m. IsInOpening plan keep v (may old) m.image × ForSome (said old) (λ s. m.said ≡ s)) P within.moments each

    kept_by : (u : Image) → IsInOpening plan keep v (may old) u → may old u ⊎ IsKeptInStore (store_of plan) course [] u
    kept_by u (inl left) = inl left
    kept_by u (inr mid) = inr (mid_kept u mid.0)

    pub unopened : IsUnopened may said plan (begun_by ready from first input) old opened
    unopened = record { said_stays = within.said_stays; left = λ u left. kept_by u (within.left u left) }

    told_opened : said opened ≡ Some ready.put
    told_opened = within.said_stays ∙ ready.told

    -- the store is opened
    module _ (stepped : (u : Image) → may opened u → IsAfterOpening plan keep v (may old) u) where
      at_any : IsAtRest any course [] ready.held keep (may opened)
      at_any = subst (λ (l : List Event). IsAtRest any course [] l keep (may opened)) (append-nil ready.held)
          (after_step Image any course [] ready.held [] keep (IsAsRead v (may old)) (may opened) (at_read keep) (begins keep) near (λ u left. stepped_any keep (IsAsRead v (may old)) u (stepped u left).0))

      at_open : ((u : Image) → may opened u → IsGrownTo plan u) → IsAtRest (store_of plan) course [] ready.held keep (may opened)
      at_open grown = record {
        truthful = at_any.truthful;
        schema = at_any.schema;
        grown = grown;
        has = at_any.has;
        rising = at_any.rising;
        begins = at_any.begins;
        keeps = at_any.keeps;
        near = at_any.near;
        stored_by = at_any.stored_by;
        saved_by = at_any.saved_by;
      }

      module _ {T : Type 0} (Tells : T → Type 0) (cell : T → Cells) (named there : T → Marks) (s : Sitting T) (keep_is : s.keep ≡ keep) (running : IsRunning plan (now opened) (may opened) Tells cell named there s)
          (events : events_of (now opened) s ≡ ready.held) (stored : stored_of (now opened) s ≡ ready.held) (left : Option (List ℕ)) (next count offset : ℕ) where
        grown : (u : Image) → may opened u → IsGrownTo plan u
        grown u at = let log = running.ready.in_step.reservoir in log_framed (now opened) (may opened) s.reservoir log.sound log.going plan.shape log.shape log.file u at

        pub to_begin : left ≡ Some input → next ≡ next_offset ready.held → count ≡ length ready.held → offset ≡ first → IsToBegin plan (begun_by ready from first input) left next count from offset (now opened) (may opened) (said opened) Tells cell named there s
        to_begin comes next_is count_is offset_is = record {
          at_rest = subst (λ (k : Option ℕ). IsAtRest (store_of plan) course [] ready.held k (may opened)) (sym keep_is) (at_open grown);
          told = told_opened;
          comes = comes;
          offset_is = offset_is;
          running = running;
          events = events;
          stored = stored;
          next_is = next_is;
          count_is = count_is;
          from_is = refl;
        }

-- the numbers of an opened store
pub numbers : {T : Type 0} (plan : Planned) (now : Option Image) (may : Image → Type 0) (Tells : T → Type 0) (cell : T → Cells) (named there : T → Marks) (s : Sitting T) → IsRunning plan now may Tells cell named there s → (held : List Event) → events_of now s ≡ held → (next count : ℕ) → next ≡ next_of s.reservoir → count ≡ count_in s.reservoir → (next ≡ next_offset held) × (count ≡ length held)
numbers plan now may Tells cell named there s running held events next count next_is count_is = (next_is ∙ running_next plan now may Tells cell named there s running ∙ ap next_offset events, count_is ∙ sym (long now s.reservoir) ∙ ap length events)
