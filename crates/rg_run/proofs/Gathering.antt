-- Lines that are gathered, and put together.
use Rattle.std.proofs.Common.{◌≡◌, inl, inr, ⊎_elim, ℕ, List, [], ◌∷◌, ◌++◌, Option, refl, sym, ◌∙◌, ap, subst, append_assoc}
use Rattle.std.proofs.lemmas.List.{append-nil, append_cancel_left}
use Rattle.std.proofs.lemmas.List.Elements.{Contains-append_left, Contains-append_right}
use Rattle.std.specs.List.{Contains}
use Rattle.rg_host.specs.Image.{Image}
use Rattle.rg_host.specs.Lines.{ended}
use Rattle.rg_host.specs.Moments.{Moment, Moments, LeavesFiles, LeavesAll}
use Rattle.rg_host.specs.Puts.{IsPrefix, IsPartWay, Puts}
use Rattle.rg_host.proofs.Laws.{ended-append, moments-weaker}
use Rattle.rg_event.specs.declared.event.Event.{Event}
use Rattle.rg_reply.specs.Texts.{mark_line}
use Rattle.rg_reply.specs.declared.mark.Mark.TheVariants.{Stored, Saved}
use Rattle.rg_config.specs.Plans.{Planned}
use Rattle.rg_run_spec.specs.Output.{Terms}
use Rattle.rg_run_spec.specs.Ahead.{out_from}
use Rattle.rg_run_spec.specs.Laws.{IsPrefixOf}
use Rattle.rg_run_spec.specs.Pieces.{whole_pieces, AreLines}
use Rattle.rg_run_spec.specs.Stores.{Store, Course, IsNear, IsKeptInStore, StaysOnCourse}
use Rattle.rg_run_spec.specs.Steps.{IsAtRest, MarksHold}
use Rattle.rg_run_spec.specs.Turns.{IsBetween}
use Rattle.rg_run_spec.proofs.Laws.{put as putting, rest_fewer, rest_kept, rest_more, marks_prefix, Item, are-append, pieces_then, pieces_prefix}
use Rattle.rg_task.specs.State.{State}
use Rattle.rg_task.specs.Terms.{terms_of}
use Rattle.rg_task.specs.View.{View, Keeps}
use Rattle.rg_run.specs.Turning.{IsGathered, IsAwaiting, IsMidTurn, IsHeld, HasStopped}

-- the lines of whole lines are these
pieces_of : (lines : List (List ℕ)) → AreLines lines → whole_pieces (ended lines) ≡ lines
pieces_of lines are = ap (λ (t : List ℕ). whole_pieces t) (sym (append-nil (ended lines))) ∙ pieces_then lines [] are ∙ append-nil lines

no_bytes : (line rest : List ℕ) → line ++ 10 ∷ rest ≡ [] → ⊥
no_bytes [] rest is = cc
no_bytes (byte ∷ line) rest is = cc

no_lines : (lines : List (List ℕ)) → ended lines ≡ [] → lines ≡ []
no_lines [] is = refl
no_lines (line ∷ lines) is = absurd (no_bytes line (ended lines) is)

pub nothing_before : {A : Type 0} (front rest : List A) → front ++ rest ≡ [] → front ≡ []
nothing_before [] rest is = refl
nothing_before (x ∷ front) rest is = absurd (cc)

-- where there are no lines nothing was put of them
none_put : (first rest : List (List ℕ)) (part more : List ℕ) → part ++ more ≡ ended rest → first ++ rest ≡ [] → IsPrefix (ended first ++ part) []
none_put first rest part more of none =
    let front : first ≡ [] = nothing_before first rest none in
    let back : rest ≡ [] = ap (λ (l : List (List ℕ)). l ++ rest) (sym front) ∙ none in
    let nil : part ≡ [] = nothing_before part more (of ∙ ap ended back) in
    ([], append-nil (ended first ++ part) ∙ ap (λ (l : List (List ℕ)). ended l ++ part) front ∙ nil)

-- the same moment, where what was said is written so
abbrev pub between_at : {Image : Type 0} {store : Store Image} {terms : Terms} {course : Course} {events : List Event} {offset : ℕ} {items : List (Option (List ℕ))} {stored : List Event} {keep : Option ℕ} {may : Image → Type 0} {said now : List ℕ} →
    IsBetween store terms course events offset items stored keep may said → now ≡ said → IsBetween store terms course events offset items stored keep may now
between_at b is = record {
  lines = b.lines;
  said_is = is ∙ b.said_is;
  are_lines = b.are_lines;
  text = b.text;
  accepted = b.accepted;
  of_events = b.of_events;
  count = b.count;
  answers_ahead = b.answers_ahead;
  events_ahead = b.events_ahead;
  at_rest = b.at_rest;
}

-- where fewer images may be left
abbrev pub between_fewer : {Image : Type 0} {store : Store Image} {terms : Terms} {course : Course} {events : List Event} {offset : ℕ} {items : List (Option (List ℕ))} {stored : List Event} {keep : Option ℕ} {may next : Image → Type 0} {said : List ℕ} →
    IsBetween store terms course events offset items stored keep may said → ((v : Image) → next v → may v) → IsBetween store terms course events offset items stored keep next said
between_fewer {Image} {store} {terms} {course} {events} {offset} {items} {stored} {keep} {may} {next} b fewer = record {
  lines = b.lines;
  said_is = b.said_is;
  are_lines = b.are_lines;
  text = b.text;
  accepted = b.accepted;
  of_events = b.of_events;
  count = b.count;
  answers_ahead = b.answers_ahead;
  events_ahead = b.events_ahead;
  at_rest = rest_fewer Image store course b.lines stored keep may next b.at_rest fewer;
}

-- the lines that were told are those that are put, and then those that are gathered
pub told_are : (course : Course) (stored : List Event) (put gathered : List ℕ) (g : IsGathered course stored put gathered) (lines : List (List ℕ)) → AreLines lines → put ++ gathered ≡ course.said ++ ended lines → g.first ++ g.rest ≡ lines
told_are course stored put gathered g lines are is =
    let all = g.first ++ g.rest in
    let same : ended all ≡ ended lines = append_cancel_left course.said (ended all) (ended lines)
    (ap (λ (l : List ℕ). course.said ++ l) (ended-append g.first g.rest) ∙ sym (append_assoc course.said (ended g.first) (ended g.rest))
    ∙ ap (λ (l : List ℕ). l ++ ended g.rest) (sym g.put_is) ∙ ap (λ (l : List ℕ). put ++ l) (sym g.gathered_is) ∙ is) in
    sym (pieces_of all (are-append g.first g.rest g.are_first g.are_rest)) ∙ ap (λ (t : List ℕ). whole_pieces t) same ∙ pieces_of lines are

-- with nothing gathered they are those that are put
pub all_put_are : (course : Course) (stored : List Event) (put : List ℕ) (g : IsGathered course stored put []) (lines : List (List ℕ)) → AreLines lines → put ++ [] ≡ course.said ++ ended lines → g.first ≡ lines
all_put_are course stored put g lines are is =
    sym (append-nil g.first) ∙ ap (λ (l : List (List ℕ)). g.first ++ l) (sym (no_lines g.rest (sym g.gathered_is))) ∙ told_are course stored put [] g lines are is

-- once all is put, the events that are stored are near it
pub put_apart : (course : Course) (stored : List Event) (put : List ℕ) (lines : List (List ℕ)) → AreLines lines → put ≡ course.said ++ ended lines → IsNear course lines stored → IsGathered course stored put []
put_apart course stored put lines are is near = record { first = lines; rest = []; put_is = is; gathered_is = refl; are_first = are; are_rest = tt; near = near }

module _ (store : Store Image) (course : Course) (lines : List (List ℕ)) (stored : List Event) (keep : Option ℕ) (may : Image → Type 0) (put gathered : List ℕ) (at_rest : IsAtRest store course lines stored keep may) (g : IsGathered course stored put gathered) (whole : g.first ++ g.rest ≡ lines) where
  in_front : (line : List ℕ) → Contains g.first line → Contains lines line
  in_front line has = subst (λ (l : List (List ℕ)). Contains l line) whole (Contains-append_left g.first g.rest line has)

  in_rest : (line : List ℕ) → Contains g.rest line → Contains lines line
  in_rest line has = subst (λ (l : List (List ℕ)). Contains l line) whole (Contains-append_right g.first g.rest line has)

  -- the store is at rest with the lines that are put
  pub front_at_rest : IsAtRest store course g.first stored keep may
  front_at_rest = record {
    truthful = at_rest.truthful;
    schema = at_rest.schema;
    grown = at_rest.grown;
    has = at_rest.has;
    rising = at_rest.rising;
    begins = at_rest.begins;
    keeps = at_rest.keeps;
    near = g.near;
    stored_by = λ n small says. at_rest.stored_by n small (in_front (mark_line (Stored n)) says);
    saved_by = λ count small says. at_rest.saved_by count small (in_front (mark_line (Saved count)) says);
  }

  -- and what the gathered ones say is so
  rest_marks : MarksHold store stored keep may g.rest
  rest_marks = record {
    stored_by = λ n small says. at_rest.stored_by n small (in_rest (mark_line (Stored n)) says);
    saved_by = λ count small says. at_rest.saved_by count small (in_rest (mark_line (Saved count)) says);
  }

  pub kept_with : (v : Image) → may v → (some : List (List ℕ)) → IsPrefixOf some g.rest → IsKeptInStore store course (g.first ++ some) v
  kept_with v left some begins =
      rest_kept Image store course (g.first ++ some) stored keep may v
      (rest_more Image store course g.first some stored keep may front_at_rest (marks_prefix Image store course some g.rest stored keep may begins rest_marks)) left

module _ {K : Type 0} (view : View K) (plan : Planned) (course : Course) (offset : ℕ) (t : K) (gathered : List ℕ) where
  pub awaiting_held : (items : List Item) → IsAwaiting view plan course offset items t gathered → IsHeld view plan course t gathered
  awaiting_held items a =
      let g = a.apart in
      let b = a.between in
      let more = out_from (terms_of plan) (view.at t).events offset items in
      let whole = told_are course (view.at t).stored a.put gathered g b.lines b.are_lines b.said_is in
      record {
        put = a.put;
        told = a.told;
        first = g.first;
        rest = g.rest;
        more = more;
        put_is = g.put_is;
        gathered_is = g.gathered_is;
        are_first = g.are_first;
        are_rest = g.are_rest;
        of_text = sym (append_assoc g.first g.rest more) ∙ ap (λ (l : List (List ℕ)). l ++ more) whole ∙ b.text;
        kept = λ v left some begins. kept_with (view.store plan) course b.lines (view.at t).stored (view.at t).keep (view.may t) a.put gathered b.at_rest g whole v left some begins;
        grown = inl b.at_rest.grown;
      }

  pub mid_held : (item : Item) (items : List Item) (start : K) → IsMidTurn view plan course offset item items start t gathered → IsHeld view plan course t gathered
  mid_held item items start m =
      let g = m.apart in
      let b = m.between in
      let more = out_from (terms_of plan) (view.at start).events offset (item ∷ items) in
      let whole = told_are course (view.at t).stored m.put gathered g b.lines b.are_lines b.said_is in
      record {
        put = m.put;
        told = m.told;
        first = g.first;
        rest = g.rest;
        more = more;
        put_is = g.put_is;
        gathered_is = g.gathered_is;
        are_first = g.are_first;
        are_rest = g.are_rest;
        of_text = sym (append_assoc g.first g.rest more) ∙ ap (λ (l : List (List ℕ)). l ++ more) whole ∙ b.text;
        kept = λ v left some begins. kept_with (view.store plan) course b.lines (view.at t).stored (view.at t).keep (view.may t) m.put gathered m.at_rest g whole v left some begins;
        grown = inl m.at_rest.grown;
      }

-- a run that stopped with nothing gathered
pub stopped_held : {K : Type 0} (view : View K) (plan : Planned) (course : Course) (t : K) → HasStopped view plan course t → IsHeld view plan course t []
stopped_held view plan course t stop =
    let lines = stop.stopped.lines in
    record {
      put = stop.put;
      told = stop.told;
      first = lines;
      rest = [];
      more = stop.stopped.more;
      put_is = stop.stopped.said_is;
      gathered_is = refl;
      are_first = stop.stopped.are_lines;
      are_rest = tt;
      of_text = stop.stopped.of_text;
      kept = λ v left some begins.
          subst (λ (l : List (List ℕ)). IsKeptInStore (view.store plan) course l v) (sym (ap (λ (l : List (List ℕ)). lines ++ l) (nothing_before some begins.0 begins.1) ∙ append-nil lines)) (stop.stopped.kept v left);
      grown = ⊎_elim (λ all. inl all) (λ none. inr (append-nil lines ∙ none)) stop.stopped.grown;
    }

module _ {K : Type 0} (view : View K) (plan : Planned) (course : Course) where
  -- after a call that leaves all as it was
  pub held_still : (old new : K) (gathered : List ℕ) → IsHeld view plan course old gathered → LeavesAll view.now view.may view.clock view.since view.said old new → IsHeld view plan course new gathered
  held_still old new gathered h leaves = record {
    put = h.put;
    told = leaves.said_stays ∙ h.told;
    first = h.first;
    rest = h.rest;
    more = h.more;
    put_is = h.put_is;
    gathered_is = h.gathered_is;
    are_first = h.are_first;
    are_rest = h.are_rest;
    of_text = h.of_text;
    kept = λ v left some begins. h.kept v (leaves.may_stays.no_more v left) some begins;
    grown = ⊎_elim (λ all. inl (λ v left. all v (leaves.may_stays.no_more v left))) (λ none. inr none) h.grown;
  }

  module _ (old new : K) (gathered : List ℕ) (h : IsHeld view plan course old gathered) where
    -- while some of what is gathered is put
    on_course : (w : Moment) → view.may old w.image → IsPartWay h.put gathered w.said → StaysOnCourse (view.store plan) course [] w
    on_course w left way =
        let part = way.0 in
        let rest = way.1.0 in
        let of_rest : part ++ rest ≡ ended h.rest = way.1.1 ∙ h.gathered_is in
        record {
          put = ended h.first ++ part;
          since = way.2 ∙ ap (λ (l : List ℕ). l ++ part) h.put_is ∙ append_assoc course.said (ended h.first) part;
          text = inl (
            rest ++ ended h.more,
            append_assoc (ended h.first) part (rest ++ ended h.more)
                ∙ ap (λ (l : List ℕ). ended h.first ++ l) (sym (append_assoc part rest (ended h.more)) ∙ ap (λ (l : List ℕ). l ++ ended h.more) of_rest ∙ sym (ended-append h.rest h.more))
                ∙ sym (ended-append h.first (h.rest ++ h.more)) ∙ ap ended h.of_text,
          );
          kept = subst (λ (l : List (List ℕ)). IsKeptInStore (view.store plan) course l w.image) (sym (pieces_then h.first part h.are_first)) (h.kept w.image left (whole_pieces part) (pieces_prefix h.rest part h.are_rest (rest, of_rest)));
          grown = ⊎_elim (λ all. inl (all w.image left)) (λ none. inr (none_put h.first h.rest part rest of_rest none)) h.grown;
        }

    -- no call, or one that leaves all as it was
    pub quiet_moments : LeavesAll view.now view.may view.clock view.since view.said old new → Moments view.clock view.since old new (StaysOnCourse (view.store plan) course [])
    quiet_moments leaves =
        moments-weaker view.clock view.since old new _ (StaysOnCourse (view.store plan) course []) leaves.moments
        (λ w at. on_course w at.0 ([], (gathered, refl), at.1 h.put h.told ∙ sym (append-nil h.put)))

    module _ (files : LeavesFiles view.now view.may view.clock view.since old new) where
      pub held_moments : (part : List ℕ) × IsPrefix part gathered × Puts view.said view.clock view.since old new part → Moments view.clock view.since old new (StaysOnCourse (view.store plan) course [])
      held_moments p =
          let puts = putting K view.now view.may view.clock view.since view.said old new h.put p.0 h.told files p.2 in
          moments-weaker view.clock view.since old new (λ w. view.may old w.image × IsPartWay h.put p.0 w.said) (StaysOnCourse (view.store plan) course []) puts.moments
          (λ w at. on_course w at.0 (at.1.0, (at.1.1.0 ++ p.1.0, sym (append_assoc at.1.0 at.1.1.0 p.1.0) ∙ ap (λ (l : List ℕ). l ++ p.1.0) at.1.1.1 ∙ p.1.1), at.1.2))

      pub held_stopped : Puts view.said view.clock view.since old new gathered → HasStopped view plan course new
      held_stopped all =
          let puts = putting K view.now view.may view.clock view.since view.said old new h.put gathered h.told files all in
          record {
            put = h.put ++ gathered;
            told = puts.told;
            stopped = record {
              lines = h.first ++ h.rest;
              more = h.more;
              said_is = ap (λ (l : List ℕ). l ++ gathered) h.put_is ∙ ap (λ (l : List ℕ). (course.said ++ ended h.first) ++ l) h.gathered_is ∙ append_assoc course.said (ended h.first) (ended h.rest)
                  ∙ ap (λ (l : List ℕ). course.said ++ l) (sym (ended-append h.first h.rest));
              are_lines = are-append h.first h.rest h.are_first h.are_rest;
              of_text = append_assoc h.first h.rest h.more ∙ h.of_text;
              kept = λ v left. h.kept v (puts.fewer v left) h.rest ([], append-nil h.rest);
              grown = ⊎_elim (λ all. inl (λ v left. all v (puts.fewer v left))) (λ none. inr none) h.grown;
            };
          }

  module _ (offset : ℕ) (old new : K) (gathered : List ℕ) (files : LeavesFiles view.now view.may view.clock view.since old new) (keeps : Keeps view old new) (all : Puts view.said view.clock view.since old new gathered) where
    -- between two lines, all that is gathered is put
    pub awaiting_put : (items : List Item) → IsAwaiting view plan course offset items old gathered → IsAwaiting view plan course offset items new []
    awaiting_put items a =
        let puts = putting K view.now view.may view.clock view.since view.said old new a.put gathered a.told files all in
        let put = a.put ++ gathered in
        let b = a.between in
        let s = view.at old in
        record {
          running = keeps.running plan a.running;
          put = put;
          told = puts.told;
          between = subst (λ (x : State). IsBetween (view.store plan) (terms_of plan) course x.events offset items x.stored x.keep (view.may new) (put ++ [])) (sym keeps.at_stays)
              (between_fewer (between_at b (append-nil put)) puts.fewer);
          apart = subst (λ (x : State). IsGathered course x.stored put []) (sym keeps.at_stays) (put_apart course s.stored put b.lines b.are_lines b.said_is b.at_rest.near);
        }

    -- and so within a turn
    pub mid_put : (item : Item) (items : List Item) (start : K) → IsMidTurn view plan course offset item items start old gathered → IsMidTurn view plan course offset item items start new []
    mid_put item items start m =
        let puts = putting K view.now view.may view.clock view.since view.said old new m.put gathered m.told files all in
        let put = m.put ++ gathered in
        let b = m.between in
        let s = view.at old in
        record {
          running = keeps.running plan m.running;
          put = put;
          told = puts.told;
          between = between_at b (append-nil put);
          at_rest = subst (λ (x : State). IsAtRest (view.store plan) course b.lines x.stored x.keep (view.may new)) (sym keeps.at_stays)
              (rest_fewer Image (view.store plan) course b.lines s.stored s.keep (view.may old) (view.may new) m.at_rest puts.fewer);
          apart = subst (λ (x : State). IsGathered course x.stored put []) (sym keeps.at_stays) (put_apart course s.stored put b.lines b.are_lines b.said_is m.at_rest.near);
          follows = ap (λ (x : State). x.events) keeps.at_stays ∙ m.follows;
        }

-- nothing changed at all, or twice in turn
pub keeps_none : {K : Type 0} (view : View K) (t : K) → Keeps view t t
keeps_none view t = record { at_stays = refl; roomy = λ is. is; running = λ plan is. is; node = λ plan n is. is; placed = λ plan is. is; illegal = λ place is. is; asks_illegal = λ is. is; goes = view.goes_same t }
