-- How a run goes with its last line.
use Rattle.std.proofs.Common.{◌≡◌, ◌⊎◌, inl, inr, ⊎_elim, ℕ, ◌<◌, ◌≤◌, ◌^◌, ◌-◌, List, [], ◌∷◌, ◌++◌, length, Option, Some, refl, ap, sym, ◌∙◌, subst, arith, append_assoc, length-append}
use Rattle.std.specs.Option.{ForSome}
use Rattle.std.specs.List.{Contains}
use Rattle.std.proofs.lemmas.List.{append-nil}
use Rattle.std.proofs.lemmas.List.Elements.{Contains-append_left}
use Rattle.rg_bytes.specs.Counts.{Rose}
use Rattle.rg_bytes.specs.Known.{after}
use Rattle.rg_event.specs.Rising.{next_offset}
use Rattle.rg_event.specs.declared.event.Event.{Event}
use Rattle.rg_reply.specs.Texts.{mark_line}
use Rattle.rg_reply.specs.declared.mark.Mark.TheVariants.{Saved}
use Rattle.rg_host.specs.Image.{Image}
use Rattle.rg_host.specs.Lines.{ended}
use Rattle.rg_host.specs.Moments.{Moment, Moments, LeavesFiles}
use Rattle.rg_host.specs.Puts.{IsPrefix, IsPartWay, Puts}
use Rattle.rg_host.specs.declared.host.Host.{Ghosts as HostMembers}
use Rattle.rg_host.proofs.Laws.{moments-weaker, moments-both, moments_then}
use Rattle.rg_config.specs.Plans.{Planned}
use Rattle.rg_run_spec.specs.Accepted.{events_after}
use Rattle.rg_run_spec.specs.Acknowledged.{SavesLast}
use Rattle.rg_run_spec.specs.Laws.{IsPrefixOf, below}
use Rattle.rg_run_spec.specs.Output.{Terms, open_line, out, put_before, unstopped}
use Rattle.rg_run_spec.specs.Pieces.{whole_pieces}
use Rattle.rg_run_spec.specs.Stores.{Course, Promised, IsKeptInStore, IsOnCourse, StaysOnCourseSince}
use Rattle.rg_run_spec.specs.Turns.{IsStopped}
use Rattle.rg_run_spec.proofs.Laws.{line_among, on_course_last, on_course_since_wider, promised, last_saved, part_way_more, told_since, pieces_prefix, may_leave, out_again}
use Rattle.rg_open.specs.Stores.{store_of}
use Rattle.rg_open.specs.Truth.{IsTruthfulImage}
use Rattle.rg_open.specs.Opening.{IsFromIn}
use Rattle.rg_run.specs.Turning.{HasStoppedIn}
use Rattle.rg_task.specs.Terms.{terms_of}
use Rattle.rg_run.specs.Begun.{Begun, course_for, lines_in}
use Rattle.rg_recover.specs.Ran.{IsUnopened}
use Rattle.rg_messages.specs.Statuses.{last_line}
use Rattle.rg_commands.specs.Outcome.{host_outcome}
use Rattle.rg_commands.specs.Runs.{Went, IsLastOf, IsToldFrom, IsComplete, EndsWhole, EndsAnswered, IsAtMostOneAhead, HasLastSaved, Resumes, RunsOn}
use Rattle.rg_commands.specs.Texts.{PutsLast}
use Rattle.rg_messages.specs.declared.status.Status.{Status}
use Rattle.rg_messages.specs.declared.status.Status.TheVariants.{Ok, Usage, Plan as BadPlan, Store, Read, Write, Disk, Limit, Memory, Gap, Differs}
use Rattle.rg_commands.proofs.Ends.{put_rose, whole}
use Rattle.rg_commands.proofs.LastLines.{line_of_status}

-- a status is Ok, Write or another one
abbrev Kind : Status → Type 0
Kind status = (status ≡ Ok) ⊎ (status ≡ Write) ⊎ ((status ≡ Ok → ⊥) × (status ≡ Write → ⊥))

kind : (status : Status) → Kind status
kind Ok = inl refl
kind Usage = inr (inr ((λ e. absurd (cc e)), (λ e. absurd (cc e))))
kind BadPlan = inr (inr ((λ e. absurd (cc e)), (λ e. absurd (cc e))))
kind Store = inr (inr ((λ e. absurd (cc e)), (λ e. absurd (cc e))))
kind Read = inr (inr ((λ e. absurd (cc e)), (λ e. absurd (cc e))))
kind Write = inr (inl refl)
kind Disk = inr (inr ((λ e. absurd (cc e)), (λ e. absurd (cc e))))
kind Limit = inr (inr ((λ e. absurd (cc e)), (λ e. absurd (cc e))))
kind Memory = inr (inr ((λ e. absurd (cc e)), (λ e. absurd (cc e))))
kind Gap = inr (inr ((λ e. absurd (cc e)), (λ e. absurd (cc e))))
kind Differs = inr (inr ((λ e. absurd (cc e)), (λ e. absurd (cc e))))

quiet_at : (b : Begun) (status known : Status) (last : List ℕ) → status ≡ known → IsLastOf status b last → IsLastOf known b last
quiet_at b status known last is line = subst (λ s. IsLastOf s b last) is line

-- what a run puts that goes on
rest_of : (terms : Terms) (lines : List (Option (List ℕ))) (held : List Event) → held ≡ below (next_offset held) (events_after terms.basis [] 0 lines) → put_before terms [] 0 lines (next_offset held) ++ out terms held 0 lines ≡ unstopped terms lines
rest_of terms lines held is =
    let n : next_offset held ≡ next_offset held - 0 = omega arith in
    ap (λ k. put_before terms [] 0 lines k ++ out terms held 0 lines) n ∙ sym (out_again terms [] 0 lines held (may_leave terms [] 0 lines held tt (held, refl) is))

module _ {H : Type 0} (g : HostMembers H) (plan : Planned) (b : Begun) (v : Image) (left : Option (List ℕ)) (unread : Type 0) (status : Status) (last : List ℕ) (old mid new : H)
    (went : Went g plan b v left unread status last old mid) (told : g.said old ≡ Some b.said) where
  abbrev may : H → Image → Type 0
  may = g.may

  abbrev clock : H → ℕ
  clock = g.clock

  abbrev since : H → ℕ → Moment → Type 0
  since = g.since

  abbrev said : H → Option (List ℕ)
  said = g.said

  abbrev course : Course
  course = course_for plan b

  abbrev P : List ℕ → Moment → Type 0
  P line = StaysOnCourseSince (store_of plan) course (may old) line

  wider : (line : List ℕ) → Moments clock since old mid (P line)
  wider line = moments-weaker clock since old mid (P []) (P line) went.moments (λ m h. on_course_since_wider Image (store_of plan) course (may old) line m.image m.said h)

  open_nonempty : (line : List ℕ) (lines : List (List ℕ)) (s : List ℕ) → Some (s ++ ended (line ∷ lines)) ≡ Some s → ⊥
  open_nonempty line lines s e =
      let same : s ++ ended (line ∷ lines) ≡ s = cc in
      let size : length (s ++ ended (line ∷ lines)) ≡ length s = ap length same in
      omega (arith, size, length-append s (ended (line ∷ lines)), length-append line (10 ∷ ended lines))

  -- a run that put its open line
  opened_from : (lines : List (List ℕ)) → said mid ≡ Some (b.said ++ ended (open_line b.held b.from ∷ lines)) → IsFromIn plan v b.from
  opened_from lines put = ⊎_elim (λ is. is) (λ same. absurd (open_nonempty (open_line b.held b.from) lines b.said (sym put ∙ same ∙ told))) went.is_from

  -- The last line was put, or a prefix of it.
  module _ (silent : last ≡ [] → new ≡ mid) (part : List ℕ) (front : IsPrefix part last) (puts : Puts said clock since mid new part) (leaves : LeavesFiles g.now may clock since mid new) where
    stays : last ≡ [] → Moments clock since old new (P last)
    stays none = subst (λ (h : H). Moments clock since old h (P last)) (sym (silent none)) (wider last)

    -- moments while the last line is put
    while : (s : List ℕ) → said mid ≡ Some s → Moments clock since mid new (λ m. may mid m.image × IsPartWay s last m.said)
    while s is = moments-weaker clock since mid new (λ m. may mid m.image × ForSome (said mid) (λ t. IsPartWay t part m.said)) (λ m. may mid m.image × IsPartWay s last m.said)
        (moments-both clock since mid new (λ m. may mid m.image) (λ m. ForSome (said mid) (λ t. IsPartWay t part m.said)) leaves.moments puts.moments)
        (λ m h. (h.0, part_way_more s part last m.said front (h.1 s is)))

    after_stop : HasStoppedIn (store_of plan) course (may mid) (said mid) → Moments clock since old new (P last)
    after_stop stop =
        let line = line_of_status b status last went.last_is in
        subst (λ (l : List ℕ). Moments clock since old new (P l)) line.is
        (told_since H clock since may (store_of plan) (terms_of plan) course (may old) line.ends old mid new stop.put went.moments stop.stopped line.are line.nothing
        (subst (λ (l : List ℕ). Moments clock since mid new (λ m. may mid m.image × IsPartWay stop.put l m.said)) (sym line.is) (while stop.put stop.told)))

    unopened_stop : IsStopped (store_of plan) course (λ u. IsKeptInStore (store_of plan) course [] u) b.said
    unopened_stop = record { lines = []; more = course.text; said_is = sym (append-nil b.said); are_lines = tt; of_text = refl; kept = λ u kept. kept; grown = inr refl }

    after_none : IsUnopened may said plan b old mid → Moments clock since old new (P last)
    after_none un =
        let line = line_of_status b status last went.last_is in
        let holds : (m : Moment) → may mid m.image × IsPartWay b.said last m.said → P last m =
        λ m h. ⊎_elim
        (λ begun. inl (begun, h.1))
        (λ kept. inr (subst (λ (l : List ℕ). IsOnCourse (store_of plan) course l m.image m.said) line.is
        (on_course_last Image (store_of plan) course line.ends (λ u. IsKeptInStore (store_of plan) course [] u) b.said m.image m.said unopened_stop line.are line.nothing kept (subst (λ (l : List ℕ). IsPartWay b.said l m.said) (sym line.is) h.1))))
        (un.left m.image h.0) in
        moments_then clock since old mid new (P last) (λ m. may mid m.image × IsPartWay b.said last m.said) (P last) (wider last) (while b.said (un.said_stays ∙ told)) (λ m h. h) holds

    -- all moments, with the last line
    pub on_course : Moments clock since old new (P last)
    on_course = ⊎_elim
        (λ ok. stays (quiet_at b status Ok last ok went.last_is))
        (λ more. ⊎_elim
        (λ write. stays (quiet_at b status Write last write went.last_is))
        (λ other. ⊎_elim (λ stop. after_stop stop) (λ none. after_none none) (went.stopped other.0 other.1)) more)
        (kind status)

    module _ (truthful : (u : Image) → may old u → IsTruthfulImage u) where
      pub all_promised : Moments clock since old new (λ m. Promised (store_of plan) course (may old) last m.image m.said)
      all_promised = moments-weaker clock since old new (P last) (λ m. Promised (store_of plan) course (may old) last m.image m.said) on_course (λ m h. promised Image (store_of plan) course (may old) last m.image m.said truthful h)

      ahead_of : (m : Moment) → Promised (store_of plan) course (may old) last m.image m.said → IsAtMostOneAhead plan b (may old) last m
      ahead_of m h = record { put = h.put; since = h.since; events = ⊎_elim (λ start. inl start) (λ kept. inr (kept.events, kept.has, kept.near)) h.image }

      pub one_ahead : Moments clock since old new (IsAtMostOneAhead plan b (may old) last)
      one_ahead = moments-weaker clock since old new (λ m. Promised (store_of plan) course (may old) last m.image m.said) (IsAtMostOneAhead plan b (may old) last) all_promised ahead_of

      none_saved : (put : List ℕ) (count : ℕ) → IsPrefix put last → count < 2 ^ 64 → SavesLast (whole_pieces put) count → ⊥
      none_saved put count prefix small saves =
          let line = line_of_status b status last went.last_is in
          let pieces : IsPrefixOf (whole_pieces put) line.ends = pieces_prefix line.ends put line.are (subst (λ (l : List ℕ). IsPrefix put l) (sym line.is) prefix) in
          let says : Contains (whole_pieces put) (mark_line (Saved count)) = line_among (whole_pieces put) saves.front saves.back (mark_line (Saved count)) saves.is in
          line.nothing.not_saved count small (subst (λ (l : List (List ℕ)). Contains l (mark_line (Saved count))) pieces.1 (Contains-append_left (whole_pieces put) pieces.0 (mark_line (Saved count)) says))

      saved_of : (m : Moment) → Promised (store_of plan) course (may old) last m.image m.said → HasLastSaved plan b m
      saved_of m h = record {
        put = h.put;
        since = h.since;
        saved = λ count small saves. ⊎_elim
            (λ start. absurd (none_saved h.put count start.1 small saves))
            (λ kept. last_saved Image (store_of plan) course (whole_pieces h.put) count m.image small saves kept)
            h.image;
      }

      pub slots_saved : Moments clock since old new (HasLastSaved plan b)
      slots_saved = moments-weaker clock since old new (λ m. Promised (store_of plan) course (may old) last m.image m.said) (HasLastSaved plan b) all_promised saved_of

    -- What was put, where the last line is whole.

    grown : Puts said clock since mid new last → (s : List ℕ) → said mid ≡ Some s → said new ≡ Some (s ++ last)
    grown whole s is = whole.grows ∙ ap (λ t. after t last) is

    whole_stop : Puts said clock since mid new last → HasStoppedIn (store_of plan) course (may mid) (said mid) → EndsWhole plan b last (said new)
    whole_stop whole stop =
        let s = stop.stopped in
        record {
          put = ended s.lines ++ last;
          since = grown whole stop.put stop.told ∙ ap (λ (l : List ℕ). Some (l ++ last)) s.said_is ∙ ap (λ (l : List ℕ). Some l) (append_assoc b.said (ended s.lines) last);
          stops = record { lines = s.lines; more = s.more; of_text = s.of_text; is = refl };
        }

    whole_none : Puts said clock since mid new last → IsUnopened may said plan b old mid → EndsWhole plan b last (said new)
    whole_none whole un = record {
      put = last;
      since = grown whole b.said (un.said_stays ∙ told);
      stops = record { lines = []; more = course.text; of_text = refl; is = refl };
    }

    whole_done : status ≡ Ok → EndsWhole plan b last (said new)
    whole_done ok =
        let f = went.finished ok in
        let none : last ≡ [] = quiet_at b status Ok last ok went.last_is in
        record {
          put = ended course.text;
          since = ap said (silent none) ∙ f.told ∙ ap (λ (l : List ℕ). Some l) f.done.said_is;
          stops = record { lines = course.text; more = []; of_text = append-nil course.text; is = sym (ap (λ (l : List ℕ). ended course.text ++ l) none ∙ append-nil (ended course.text)) };
        }

    pub ends_whole : (rose : Type 0) → (status ≡ Write → rose) → Puts said clock since mid new last ⊎ rose → EndsWhole plan b last (said new) ⊎ rose
    ends_whole rose write (inr is) = inr is
    ends_whole rose write (inl whole) = ⊎_elim
        (λ ok. inl (whole_done ok))
        (λ more. ⊎_elim (λ is. inr (write is)) (λ other. ⊎_elim (λ stop. inl (whole_stop whole stop)) (λ none. inl (whole_none whole none)) (went.stopped other.0 other.1)) more)
        (kind status)

    -- from where it went on
    pub told_from : IsToldFrom plan v b last (said new)
    told_from = ⊎_elim (λ is. inl is) (λ same. inr (part, front, puts.grows ∙ ap (λ t. after t part) (same ∙ told))) went.is_from

    pub ends_at : (is : (status ≡ Read) ⊎ (status ≡ Limit)) → last ≡ last_line status
    ends_at (inl is) = quiet_at b status Read last is went.last_is ∙ ap last_line (sym is)
    ends_at (inr is) = quiet_at b status Limit last is went.last_is ∙ ap last_line (sym is)

    pub ends_answered : (rose : Type 0) → (status ≡ Read) ⊎ (status ≡ Limit) → Puts said clock since mid new last ⊎ rose →
        (IsFromIn plan v b.from × EndsAnswered plan b left (last_line status) (said new) (status ≡ Limit)) ⊎ (unread × (said new ≡ after (said old) (last_line status))) ⊎ rose
    ends_answered rose is (inr failed) = inr (inr failed)
    ends_answered rose is (inl whole) = ⊎_elim
        (λ answered. inl (opened_from _ answered.put, record { before = said mid; answered = answered; put = λ s told_mid. grown whole s told_mid ∙ ap (λ (l : List ℕ). Some (s ++ l)) (ends_at is) }))
        (λ failed. inr (inl (failed.0, whole.grows ∙ ap (λ t. after t last) failed.1 ∙ ap (λ (l : List ℕ). after (said old) l) (ends_at is))))
        (went.answered is)

  -- The run came to its end.

  pub completed : status ≡ Ok → IsComplete plan b v (may mid) (said mid)
  completed ok =
      let f = went.finished ok in
      let put : said mid ≡ Some (b.said ++ ended course.text) = f.told ∙ ap (λ (l : List ℕ). Some l) f.done.said_is in
      record {
        is_from = opened_from (out (terms_of plan) b.held b.first (lines_in b)) put;
        put = put;
        truthful = f.done.truthful;
        has = f.done.has;
        grown = f.done.grown;
      }

  pub resumed : status ≡ Ok → b.first ≡ 0 → b.held ≡ below (next_offset b.held) (events_after (terms_of plan).basis [] 0 (lines_in b)) → Resumes plan b (said mid)
  resumed ok zero held =
      let f = went.finished ok in
      record {
        lines = out (terms_of plan) b.held b.first (lines_in b);
        put = f.told ∙ ap (λ (l : List ℕ). Some l) f.done.said_is;
        rest = subst (λ n. put_before (terms_of plan) [] 0 (lines_in b) (next_offset b.held) ++ out (terms_of plan) b.held n (lines_in b) ≡ unstopped (terms_of plan) (lines_in b)) (sym zero) (rest_of (terms_of plan) (lines_in b) b.held held);
      }

  -- All that a run promises, with its last line.
  pub runs_on : (e : PutsLast g last mid new) → g.out_faults old ≤ g.out_faults mid → ((u : Image) → may old u → IsTruthfulImage u) → (status ≡ Write → Rose (g.out_faults old) (g.out_faults mid)) → RunsOn plan b v left unread (host_outcome g old new) status last
  runs_on e later truthful failed =
      let all = whole g old mid new last e later in
      let at_end : status ≡ Ok → new ≡ mid = λ ok. e.silent (quiet_at b status Ok last ok went.last_is) in
      record {
        is_last = went.last_is;
        complete_run = λ ok. subst (λ h. IsComplete plan b v (may h) (said h)) (sym (at_end ok)) (completed ok);
        told_from = told_from e.silent e.line.part e.line.front e.line.puts e.leaves;
        every_moment = all_promised e.silent e.line.part e.line.front e.line.puts e.leaves truthful;
        last_line_run = ends_whole e.silent e.line.part e.line.front e.line.puts e.leaves (Rose (g.out_faults old) (g.out_faults new)) (λ is. put_rose g old mid new last e later (failed is)) all;
        no_reply_lost = one_ahead e.silent e.line.part e.line.front e.line.puts e.leaves truthful;
        saved_kept = slots_saved e.silent e.line.part e.line.front e.line.puts e.leaves truthful;
        replies_put = λ is. ends_answered e.silent e.line.part e.line.front e.line.puts e.leaves (Rose (g.out_faults old) (g.out_faults new)) is all;
        resumes = λ ok zero held. subst (λ h. Resumes plan b (said h)) (sym (at_end ok)) (resumed ok zero held);
        gap_always = went.no_gap;
      }
