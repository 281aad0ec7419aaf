-- What each call within a request keeps.
use Rattle.std.proofs.Common.{◌≡◌, inl, inr, ℕ, ◌^◌, ◌<◌, List, [], ◌∷◌, ◌++◌, length, Option, Some, refl, sym, ◌∙◌, ap, subst, arith, append_assoc, length-append}
use Rattle.std.proofs.lemmas.List.{append-nil}
use Rattle.std.proofs.lemmas.List.Elements.{Contains-append_left}
use Rattle.std.specs.List.{Contains}
use Rattle.rg_event.specs.declared.event.Event.{Event}
use Rattle.rg_reply.specs.Texts.{mark_line}
use Rattle.rg_reply.specs.declared.mark.Mark.TheVariants.{Stored, Saved}
use Rattle.rg_config.specs.Plans.{Planned}
use Rattle.rg_host.specs.Image.{Image}
use Rattle.rg_host.specs.Moments.{Moment, Moments, LeavesFiles, LeavesAll}
use Rattle.rg_host.specs.Puts.{IsPrefix, IsPartWay, Puts}
use Rattle.rg_host.proofs.Laws.{moments-weaker, leaves_all-none}
use Rattle.rg_run_spec.specs.Laws.{IsPrefixOf}
use Rattle.rg_run_spec.specs.Pieces.{AreLines}
use Rattle.rg_run_spec.specs.Stores.{Store, Course, IsNear, IsKeptInStore}
use Rattle.rg_run_spec.specs.Steps.{IsAtRest, IsMidStep, MarksHold}
use Rattle.rg_run_spec.proofs.Laws.{told_moments, put as putting, near_more, rest_kept, mid_step_kept, after_step, rest_fewer, rest_more, are-append}
use Rattle.rg_task.specs.State.{State}
use Rattle.rg_task.specs.Stepping.{IsWithinStep, IsStored, IsAllSaved}
use Rattle.rg_task.specs.View.{View, Keeps, OnlyNow, Sinks}
use Rattle.rg_run.specs.Turning.{HasWay}
use Rattle.rg_run.proofs.Laws.{rest_saved}
use Rattle.rg_serve_spec.specs.Frames.{Reply, text_of, framed, frames_of, lines_in, AreSmall}
use Rattle.rg_serve_spec.specs.Errands.{Errand, replies_of, course_of, StaysOnErrand}
use Rattle.rg_serve_spec.proofs.Laws.{lines_all, frames-append, lines-append, reads_some}
use Rattle.rg_serve.specs.Serving.{IsSplit, IsHeld, IsWithin, HasHalted}

no_frames : (replies : List Reply) → frames_of replies ≡ [] → replies ≡ []
no_frames [] is = refl
no_frames (reply ∷ replies) is = absurd (let count = ap (λ (l : List ℕ). length l) is in omega (arith, count, length-append (framed (text_of reply)) (frames_of replies)))

split_put : (e : Errand) (replies first rest : List Reply) (gathered : List ℕ) → IsSplit e replies first rest gathered → IsSplit e replies replies [] []
split_put e replies first rest gathered s = record { whole = append-nil replies; gathered_is = refl; of_replies = s.of_replies; small = s.small; lines = s.lines }

-- the store is at rest with fewer lines put
pub rest_front : (store : Store Image) (course : Course) (front lines : List (List ℕ)) (stored : List Event) (keep : Option ℕ) (may : Image → Type 0) → IsPrefixOf front lines → IsNear course front stored → IsAtRest store course lines stored keep may → IsAtRest store course front stored keep may
rest_front store course front lines stored keep may begins near at_rest = record {
  truthful = at_rest.truthful;
  schema = at_rest.schema;
  grown = at_rest.grown;
  has = at_rest.has;
  rising = at_rest.rising;
  begins = at_rest.begins;
  keeps = at_rest.keeps;
  near = near;
  stored_by = λ n small says. at_rest.stored_by n small (among (mark_line (Stored n)) says);
  saved_by = λ count small says. at_rest.saved_by count small (among (mark_line (Saved count)) says);
}
  where
    among : (line : List ℕ) → Contains front line → Contains lines line
    among line has = subst (λ (l : List (List ℕ)). Contains l line) begins.1 (Contains-append_left front begins.0 line has)

module _ {K : Type 0} (view : View K) (plan : Planned) (e : Errand) where
  -- a moment within a request holds the replies that are gathered
  abbrev pub held_within : (replies : List Reply) (t : K) (gathered : List ℕ) → IsWithin view plan e replies t gathered → IsHeld view plan e t gathered
  held_within replies t gathered w = record {
    replies = replies;
    first = w.first;
    rest = w.rest;
    split = w.split;
    told = w.told;
    kept = λ v left some begins.
        let front = w.first ++ some in
        let whole : front ++ begins.0 ≡ replies = append_assoc w.first some begins.0 ∙ ap (λ (l : List Reply). w.first ++ l) begins.1 ∙ w.split.whole in
        let lines : IsPrefixOf (lines_in front) (lines_in replies) = (lines_in begins.0, sym (lines-append front begins.0) ∙ ap lines_in whole) in
        let near : IsNear (course_of e) (lines_in front) (view.at t).stored =
        subst (λ (l : List (List ℕ)). IsNear (course_of e) l (view.at t).stored) (sym (lines-append w.first some)) (near_more (course_of e) (lines_in w.first) (lines_in some) (view.at t).stored w.near) in
        rest_kept Image (view.store plan) (course_of e) (lines_in front) (view.at t).stored (view.at t).keep (view.may t) v
        (rest_front (view.store plan) (course_of e) (lines_in front) (lines_in replies) (view.at t).stored (view.at t).keep (view.may t) lines near w.at_rest) left;
    grown = w.at_rest.grown;
  }

  module _ (old new : K) (gathered : List ℕ) (h : IsHeld view plan e old gathered) where
    -- while some of what is gathered is put
    on_errand : (m : Moment) → view.may old m.image → IsPartWay (e.said ++ frames_of h.first) gathered m.said → StaysOnErrand (view.store plan) e [] m
    on_errand m left way =
        let part = way.0 in
        let back = way.1.0 in
        let more = h.split.of_replies in
        let of_rest : part ++ back ≡ frames_of h.rest = way.1.1 ∙ h.split.gathered_is in
        let small : AreSmall (h.first ++ h.rest) = subst AreSmall (sym h.split.whole) h.split.small in
        let lines : AreLines (lines_in (h.first ++ h.rest)) = subst (λ (l : List Reply). AreLines (lines_in l)) (sym h.split.whole) h.split.lines in
        let reads = reads_some h.first h.rest part small lines (back, of_rest) in
        record {
          put = frames_of h.first ++ part;
          since = way.2 ∙ append_assoc e.said (frames_of h.first) part;
          framed = inl (
            back ++ frames_of more.0,
            append_assoc (frames_of h.first) part (back ++ frames_of more.0)
                ∙ ap (λ (l : List ℕ). frames_of h.first ++ l) (sym (append_assoc part back (frames_of more.0)) ∙ ap (λ (l : List ℕ). l ++ frames_of more.0) of_rest)
                ∙ sym (append_assoc (frames_of h.first) (frames_of h.rest) (frames_of more.0)) ∙ ap (λ (l : List ℕ). l ++ frames_of more.0) (sym (frames-append h.first h.rest) ∙ ap frames_of h.split.whole)
                ∙ sym (frames-append h.replies more.0) ∙ ap frames_of more.1,
          );
          kept = subst (λ (l : List (List ℕ)). IsKeptInStore (view.store plan) (course_of e) l m.image) (sym reads.lines) (h.kept m.image left reads.some reads.begins);
          grown = inl (h.grown m.image left);
        }

    -- no call, or one that leaves all as it was
    pub quiet_moments : LeavesAll view.now view.may view.clock view.since view.said old new → Moments view.clock view.since old new (StaysOnErrand (view.store plan) e [])
    quiet_moments leaves =
        moments-weaker view.clock view.since old new _ (StaysOnErrand (view.store plan) e []) leaves.moments
        (λ m at. on_errand m at.0 ([], (gathered, refl), at.1 (e.said ++ frames_of h.first) h.told ∙ sym (append-nil (e.said ++ frames_of h.first))))

    pub held_still : LeavesAll view.now view.may view.clock view.since view.said old new → IsHeld view plan e new gathered
    held_still leaves = record {
      replies = h.replies;
      first = h.first;
      rest = h.rest;
      split = h.split;
      told = leaves.said_stays ∙ h.told;
      kept = λ v left some begins. h.kept v (leaves.may_stays.no_more v left) some begins;
      grown = λ v left. h.grown v (leaves.may_stays.no_more v left);
    }

    module _ (files : LeavesFiles view.now view.may view.clock view.since old new) where
      pub held_moments : (part : List ℕ) × IsPrefix part gathered × Puts view.said view.clock view.since old new part → Moments view.clock view.since old new (StaysOnErrand (view.store plan) e [])
      held_moments p =
          let s = e.said ++ frames_of h.first in
          let puts = putting K view.now view.may view.clock view.since view.said old new s p.0 h.told files p.2 in
          moments-weaker view.clock view.since old new (λ m. view.may old m.image × IsPartWay s p.0 m.said) (StaysOnErrand (view.store plan) e []) puts.moments
          (λ m at. on_errand m at.0 (at.1.0, (at.1.1.0 ++ p.1.0, sym (append_assoc at.1.0 at.1.1.0 p.1.0) ∙ ap (λ (l : List ℕ). l ++ p.1.0) at.1.1.1 ∙ p.1.1), at.1.2))

      told_all : Puts view.said view.clock view.since old new gathered → view.said new ≡ Some (e.said ++ frames_of h.replies)
      told_all all =
          let puts = putting K view.now view.may view.clock view.since view.said old new (e.said ++ frames_of h.first) gathered h.told files all in
          puts.told ∙ ap (λ (l : List ℕ). Some l)
          (append_assoc e.said (frames_of h.first) gathered ∙ ap (λ (l : List ℕ). e.said ++ l) (ap (λ (l : List ℕ). frames_of h.first ++ l) h.split.gathered_is ∙ sym (frames-append h.first h.rest) ∙ ap frames_of h.split.whole))

      pub held_halted : Puts view.said view.clock view.since old new gathered → HasHalted view plan e new
      held_halted all =
          record {
            replies = h.replies;
            of_replies = h.split.of_replies;
            told = told_all all;
            kept = λ v left. subst (λ (l : List Reply). IsKeptInStore (view.store plan) (course_of e) (lines_in l) v) h.split.whole (h.kept v (files.may_stays.no_more v left) h.rest ([], append-nil h.rest));
            grown = λ v left. h.grown v (files.may_stays.no_more v left);
          }

  -- all that is gathered is put
  pub put_within : (replies : List Reply) (old new : K) (gathered : List ℕ) → LeavesFiles view.now view.may view.clock view.since old new → Keeps view old new → Puts view.said view.clock view.since old new gathered
      → IsWithin view plan e replies old gathered → IsWithin view plan e replies new []
  put_within replies old new gathered files keeps all w =
      let s = view.at old in
      record {
        running = keeps.running plan w.running;
        first = replies;
        rest = [];
        split = split_put e replies w.first w.rest gathered w.split;
        told = told_all old new gathered (held_within replies old gathered w) files all;
        at_rest = subst (λ (x : State). IsAtRest (view.store plan) (course_of e) (lines_in replies) x.stored x.keep (view.may new)) (sym keeps.at_stays)
            (rest_fewer Image (view.store plan) (course_of e) (lines_in replies) s.stored s.keep (view.may old) (view.may new) w.at_rest (λ v left. files.may_stays.no_more v left));
        near = subst (λ (x : State). IsNear (course_of e) (lines_in replies) x.stored) (sym keeps.at_stays) w.at_rest.near;
        begins = subst (λ (x : State). IsPrefixOf x.events (course_of e).accepted) (sym keeps.at_stays) w.begins;
        near_events = subst (λ (x : State). IsNear (course_of e) (lines_in replies) x.events) (sym keeps.at_stays) w.near_events;
      }

  -- with nothing gathered all are put
  all_put : (replies : List Reply) (t : K) (w : IsWithin view plan e replies t []) → w.first ≡ replies
  all_put replies t w = sym (append-nil w.first) ∙ ap (λ (l : List Reply). w.first ++ l) (sym (no_frames w.rest (sym w.split.gathered_is))) ∙ w.split.whole

  pub told_whole : (replies : List Reply) (t : K) → IsWithin view plan e replies t [] → view.said t ≡ Some (e.said ++ frames_of replies)
  told_whole replies t w = w.told ∙ ap (λ (l : List Reply). Some (e.said ++ frames_of l)) (all_put replies t w)

  -- no call is on the errand
  pub still_moments : OnlyNow view → Sinks view → (replies : List Reply) (t : K) (gathered : List ℕ) → IsWithin view plan e replies t gathered → Moments view.clock view.since t t (StaysOnErrand (view.store plan) e [])
  still_moments only sinks replies t gathered w =
      quiet_moments t t gathered (held_within replies t gathered w) (leaves_all-none view.now view.may view.clock view.since view.said t (sinks t) (only t))

  -- A step on the disk, once all is put.
  module _ (replies : List Reply) (old new : K) (w : IsWithin view plan e replies old []) (step : IsWithinStep view.may view.clock view.since view.said (view.store plan) (view.at old).keep (view.at old).chunk old new) where
    told_is : view.said old ≡ Some (e.said ++ frames_of replies)
    told_is = w.told ∙ ap (λ (l : List Reply). Some (e.said ++ frames_of l)) (all_put replies old w)

    mid_kept : (v : Image) → IsMidStep (view.store plan) (view.at old).keep (view.at old).chunk (view.may old) v → IsKeptInStore (view.store plan) (course_of e) (lines_in replies) v
    mid_kept v mid =
        let begins : IsPrefixOf ((view.at old).stored ++ (view.at old).chunk) (course_of e).accepted = subst (λ (l : List Event). IsPrefixOf l (course_of e).accepted) (sym (view.whole old)) w.begins in
        let near : IsNear (course_of e) (lines_in replies) ((view.at old).stored ++ (view.at old).chunk) = subst (λ (l : List Event). IsNear (course_of e) (lines_in replies) l) (sym (view.whole old)) w.near_events in
        mid_step_kept Image (view.store plan) (course_of e) (lines_in replies) (view.at old).stored (view.at old).chunk (view.at old).keep (view.may old) v w.at_rest begins near mid

    mid_grown : (v : Image) → IsMidStep (view.store plan) (view.at old).keep (view.at old).chunk (view.may old) v → (view.store plan).IsGrown v
    mid_grown v mid = mid.grown (w.at_rest.grown mid.from mid.left)

    at_whole : (m : Moment) → IsMidStep (view.store plan) (view.at old).keep (view.at old).chunk (view.may old) m.image → m.said ≡ e.said ++ frames_of replies → StaysOnErrand (view.store plan) e [] m
    at_whole m mid is =
        let more = w.split.of_replies in
        record {
          put = frames_of replies;
          since = is;
          framed = inl (frames_of more.0, sym (frames-append replies more.0) ∙ ap frames_of more.1);
          kept = subst (λ (l : List (List ℕ)). IsKeptInStore (view.store plan) (course_of e) l m.image) (sym (lines_all replies w.split.small w.split.lines)) (mid_kept m.image mid);
          grown = inl (mid_grown m.image mid);
        }

    pub step_moments : Moments view.clock view.since old new (StaysOnErrand (view.store plan) e [])
    step_moments =
        let P : Image → Type 0 = IsMidStep (view.store plan) (view.at old).keep (view.at old).chunk (view.may old) in
        let s = e.said ++ frames_of replies in
        moments-weaker view.clock view.since old new (λ m. P m.image × (m.said ≡ s)) (StaysOnErrand (view.store plan) e []) (told_moments K view.now view.may view.clock view.since view.said old new P s told_is step.moments)
        (λ m at. at_whole m at.0 at.1)

    pub step_halted : HasHalted view plan e new
    step_halted = record {
      replies = replies;
      of_replies = w.split.of_replies;
      told = step.said_stays ∙ told_is;
      kept = λ v left. mid_kept v (step.left v left);
      grown = λ v left. mid_grown v (step.left v left);
    }

    pub step_held : IsHeld view plan e new []
    step_held = record {
      replies = replies;
      first = replies;
      rest = [];
      split = split_put e replies w.first w.rest [] w.split;
      told = step.said_stays ∙ told_is;
      kept = λ v left some begins. subst (λ (l : List Reply). IsKeptInStore (view.store plan) (course_of e) (lines_in l) v) (sym (ap (λ (l : List Reply). replies ++ l) (nothing some begins.0 begins.1) ∙ append-nil replies)) (mid_kept v (step.left v left));
      grown = λ v left. mid_grown v (step.left v left);
    }
      where
        nothing : (front back : List Reply) → front ++ back ≡ [] → front ≡ []
        nothing [] back is = refl
        nothing (x ∷ front) back is = absurd cc

    -- what wasn't stored is stored, or nothing more is
    module _ (stored : IsStored (view.store plan) (view.at old).keep (view.at old).chunk (view.at old).stored (view.at new).stored (view.may old) (view.may new)) where
      rest_stored : IsAtRest (view.store plan) (course_of e) (lines_in replies) (view.at new).stored (view.at old).keep (view.may new)
      rest_stored =
          let es = (view.at old).stored in
          elim stored.whole [
            | inl none ↦
                let same : es ++ stored.more ≡ es = ap (λ (l : List Event). es ++ l) none ∙ append-nil es in
                subst (λ (l : List Event). IsAtRest (view.store plan) (course_of e) (lines_in replies) l (view.at old).keep (view.may new)) (sym stored.grown)
                (after_step Image (view.store plan) (course_of e) (lines_in replies) es stored.more (view.at old).keep (view.may old) (view.may new) w.at_rest
                (subst (λ (l : List Event). IsPrefixOf l (course_of e).accepted) (sym same) w.at_rest.begins) (subst (λ (l : List Event). IsNear (course_of e) (lines_in replies) l) (sym same) w.at_rest.near) stored.left)
            | inr chunk ↦
                let same : es ++ stored.more ≡ (view.at old).events = ap (λ (l : List Event). es ++ l) chunk ∙ view.whole old in
                subst (λ (l : List Event). IsAtRest (view.store plan) (course_of e) (lines_in replies) l (view.at old).keep (view.may new)) (sym stored.grown)
                (after_step Image (view.store plan) (course_of e) (lines_in replies) es stored.more (view.at old).keep (view.may old) (view.may new) w.at_rest
                (subst (λ (l : List Event). IsPrefixOf l (course_of e).accepted) (sym same) w.begins) (subst (λ (l : List Event). IsNear (course_of e) (lines_in replies) l) (sym same) w.near_events) stored.left)
          ]

      within_at : (keep : Option ℕ) → IsAtRest (view.store plan) (course_of e) (lines_in replies) (view.at new).stored keep (view.may new) → (view.at new).keep ≡ keep → view.runs plan new
          → IsPrefixOf (view.at new).events (course_of e).accepted → IsNear (course_of e) (lines_in replies) (view.at new).events → IsWithin view plan e replies new []
      within_at keep at_rest same running begins near = record {
        running = running;
        first = replies;
        rest = [];
        split = split_put e replies w.first w.rest [] w.split;
        told = step.said_stays ∙ told_is;
        at_rest = subst (λ (k : Option ℕ). IsAtRest (view.store plan) (course_of e) (lines_in replies) (view.at new).stored k (view.may new)) (sym same) at_rest;
        near = at_rest.near;
        begins = begins;
        near_events = near;
      }

      pub step_within : (view.at new).keep ≡ (view.at old).keep → view.runs plan new → IsPrefixOf (view.at new).events (course_of e).accepted → IsNear (course_of e) (lines_in replies) (view.at new).events → IsWithin view plan e replies new []
      step_within same running begins near = within_at (view.at old).keep rest_stored same running begins near

      pub save_within : IsAllSaved (view.store plan) (view.may new) (view.at new) → view.runs plan new → IsPrefixOf (view.at new).events (course_of e).accepted → IsNear (course_of e) (lines_in replies) (view.at new).events → IsWithin view plan e replies new []
      save_within saved running begins near = within_at (view.at new).keep (rest_saved view plan new saved (course_of e) (lines_in replies) (view.at old).keep rest_stored) refl running begins near

  -- a call that leaves all as it was
  pub quiet_within : (replies : List Reply) (old new : K) (gathered : List ℕ) → LeavesAll view.now view.may view.clock view.since view.said old new → (view.at new).stored ≡ (view.at old).stored → (view.at new).keep ≡ (view.at old).keep → view.runs plan new
      → IsPrefixOf (view.at new).events (course_of e).accepted → IsNear (course_of e) (lines_in replies) (view.at new).events → IsWithin view plan e replies old gathered → IsWithin view plan e replies new gathered
  quiet_within replies old new gathered leaves stored keep running begins near w = record {
    running = running;
    first = w.first;
    rest = w.rest;
    split = w.split;
    told = leaves.said_stays ∙ w.told;
    at_rest = subst (λ (l : List Event). IsAtRest (view.store plan) (course_of e) (lines_in replies) l (view.at new).keep (view.may new)) (sym stored)
        (subst (λ (k : Option ℕ). IsAtRest (view.store plan) (course_of e) (lines_in replies) (view.at old).stored k (view.may new)) (sym keep)
        (rest_fewer Image (view.store plan) (course_of e) (lines_in replies) (view.at old).stored (view.at old).keep (view.may old) (view.may new) w.at_rest (λ v left. leaves.may_stays.no_more v left)));
    near = subst (λ (l : List Event). IsNear (course_of e) (lines_in w.first) l) (sym stored) w.near;
    begins = begins;
    near_events = near;
  }

  -- A line is taken: no file was written, or all was put.
  module _ (replies : List Reply) (old new : K) (gathered : List ℕ) (w : IsWithin view plan e replies old gathered) (way : HasWay view old gathered)
      (step : IsWithinStep view.may view.clock view.since view.said (view.store plan) (view.at old).keep (view.at old).chunk old new)
      (roomy : view.roomy old → LeavesAll view.now view.may view.clock view.since view.said old new × ((view.at new).stored ≡ (view.at old).stored)) where
    none_gathered : gathered ≡ [] → IsWithin view plan e replies old []
    none_gathered none = subst (λ (l : List ℕ). IsWithin view plan e replies old l) none w

    pub line_moments : Moments view.clock view.since old new (StaysOnErrand (view.store plan) e [])
    line_moments = elim way [
      | inl room ↦ quiet_moments old new gathered (held_within replies old gathered w) (roomy room).0
      | inr none ↦ step_moments replies old new (none_gathered none) step
    ]

    pub line_held : IsHeld view plan e new gathered
    line_held = elim way [
      | inl room ↦ held_still old new gathered (held_within replies old gathered w) (roomy room).0
      | inr none ↦ subst (λ (l : List ℕ). IsHeld view plan e new l) (sym none) (step_held replies old new (none_gathered none) step)
    ]

    pub line_within : IsStored (view.store plan) (view.at old).keep (view.at old).chunk (view.at old).stored (view.at new).stored (view.may old) (view.may new) → (view.at new).keep ≡ (view.at old).keep → view.runs plan new
        → IsPrefixOf (view.at new).events (course_of e).accepted → IsNear (course_of e) (lines_in replies) (view.at new).events → IsWithin view plan e replies new gathered
    line_within stored keep running begins near = elim way [
      | inl room ↦ quiet_within replies old new gathered (roomy room).0 (roomy room).1 keep running begins near w
      | inr none ↦ subst (λ (l : List ℕ). IsWithin view plan e replies new l) (sym none) (step_within replies old new (none_gathered none) step stored keep running begins near)
    ]

  -- the frame of a reply is gathered
  pub told_within : (replies : List Reply) (reply : Reply) (t : K) (gathered : List ℕ) → IsWithin view plan e replies t gathered → MarksHold (view.store plan) (view.at t).stored (view.at t).keep (view.may t) reply
      → IsPrefixOf (replies ++ reply ∷ []) (replies_of e) → length (text_of reply) < 2 ^ 32 → AreLines reply → IsWithin view plan e (replies ++ reply ∷ []) t (gathered ++ framed (text_of reply))
  told_within replies reply t gathered w marks of_replies small lines =
      let more = replies ++ reply ∷ [] in
      let lines_are : lines_in more ≡ lines_in replies ++ reply = lines-append replies (reply ∷ []) ∙ ap (λ (l : List (List ℕ)). lines_in replies ++ l) (append-nil reply) in
      record {
        running = w.running;
        first = w.first;
        rest = w.rest ++ reply ∷ [];
        split = record {
          whole = sym (append_assoc w.first w.rest (reply ∷ [])) ∙ ap (λ (l : List Reply). l ++ reply ∷ []) w.split.whole;
          gathered_is = ap (λ (l : List ℕ). l ++ framed (text_of reply)) w.split.gathered_is ∙ ap (λ (l : List ℕ). frames_of w.rest ++ l) (sym (append-nil (framed (text_of reply)))) ∙ sym (frames-append w.rest (reply ∷ []));
          of_replies = of_replies;
          small = small_more replies w.split.small;
          lines = subst AreLines (sym lines_are) (are-append (lines_in replies) reply w.split.lines lines);
        };
        told = w.told;
        at_rest = subst (λ (l : List (List ℕ)). IsAtRest (view.store plan) (course_of e) l (view.at t).stored (view.at t).keep (view.may t)) (sym lines_are)
            (rest_more Image (view.store plan) (course_of e) (lines_in replies) reply (view.at t).stored (view.at t).keep (view.may t) w.at_rest marks);
        near = w.near;
        begins = w.begins;
        near_events = subst (λ (l : List (List ℕ)). IsNear (course_of e) l (view.at t).events) (sym lines_are) (near_more (course_of e) (lines_in replies) reply (view.at t).events w.near_events);
      }
    where
      small_more : (some : List Reply) → AreSmall some → AreSmall (some ++ reply ∷ [])
      small_more [] all = (small, tt)
      small_more (one ∷ some) all = (all.0, small_more some all.1)
