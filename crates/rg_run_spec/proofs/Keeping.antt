-- What each step of a run keeps.
use Rattle.std.proofs.Common.{◌≡◌, inl, inr, ℕ, ◌≤◌, List, [], ◌∷◌, ◌++◌, length, Option, Some, refl, sym, ap, subst, arith, length-append}
use Rattle.std.proofs.lemmas.List.{append-nil}
use Rattle.std.proofs.lemmas.List.Elements.{Contains-append_cases, Contains-append_left}
use Rattle.std.specs.List.{Contains}
use Rattle.rg_event.specs.declared.event.Event.{Event}
use Rattle.rg_event.specs.Rising.{next_offset, IsRising}
use Rattle.rg_reply.specs.Texts.{mark_line}
use Rattle.rg_reply.specs.declared.mark.Mark.TheVariants.{Stored, Saved}
use Rattle.rg_host.specs.Lines.{ended}
use Rattle.rg_host.specs.Puts.{IsPrefix}
use Rattle.rg_run_spec.specs.Laws.{IsPrefixOf}
use Rattle.rg_run_spec.specs.Pieces.{whole_pieces, AreLines}
use Rattle.rg_run_spec.specs.Stores.{Store, Course, IsNear, IsKeptInStore}
use Rattle.rg_run_spec.specs.Steps.{IsAtRest, IsMidStep, IsStepped, IsSavedTo, MarksHold}
use Rattle.rg_run_spec.proofs.Offsets.{next_behind}
use Rattle.rg_run_spec.proofs.Orders.{rising_back, prefix_rising}
use Rattle.rg_run_spec.proofs.Acknowledging.{holds_below}
use Rattle.rg_run_spec.proofs.Texts.{pieces_then, pieces_prefix}
use Rattle.rg_run_spec.proofs.Prefixes.{prefix_more}

-- the next offset only grows
pub next_grows : (front back : List Event) → IsRising (front ++ back) → next_offset front ≤ next_offset (front ++ back)
next_grows front [] rising = omega (arith, ap next_offset (append-nil front))
next_grows front (x ∷ back) rising = omega (arith, next_behind (next_offset front) front x back (rising_back front (x ∷ back) rising))

begins_rising : (front whole : List Event) → IsPrefixOf front whole → IsRising whole → IsRising front
begins_rising front whole begins rising = prefix_rising front begins.0 (subst IsRising (sym begins.1) rising)

-- more was put
pub near_more : (course : Course) (lines more : List (List ℕ)) (events : List Event) → IsNear course lines events → IsNear course (lines ++ more) events
near_more course lines more events (inl same) = inl same
near_more course lines more events (inr n) = inr (n.0, n.1, n.2, n.3, prefix_more (course.answers n.0) lines more n.4, n.5)

module _ (Image : Type 0) (store : Store Image) (course : Course) where
  -- the image has these events, and the kept slot is as it was in one that might be left
  kept_with : (lines : List (List ℕ)) (stored events : List Event) (keep : Option ℕ) (may : Image → Type 0) (v from : Image) → IsAtRest store course lines stored keep may → may from →
      store.IsTruthful v → store.IsOfSchema v → store.HasEvents events v → IsPrefixOf events course.accepted → IsPrefixOf course.held events → IsNear course lines events → next_offset stored ≤ next_offset events →
      ((slot count : ℕ) → keep ≡ Some slot → store.HasSaved slot count from → store.HasSaved slot count v) → IsKeptInStore store course lines v
  kept_with lines stored events keep may v from at_rest left truthful schema has begins keeps near grows slots = record {
    truthful = truthful;
    schema = schema;
    events = events;
    has = has;
    begins = begins;
    keeps = keeps;
    near = near;
    stored = λ n small says. holds_below events course.accepted n at_rest.rising begins (omega (arith, grows, at_rest.stored_by n small says));
    saved = λ count small says. let h = at_rest.saved_by count small says in (h.1.0, slots h.1.0 count h.1.1 (h.1.2 from left));
  }

  pub rest_kept : (lines : List (List ℕ)) (stored : List Event) (keep : Option ℕ) (may : Image → Type 0) (v : Image) → IsAtRest store course lines stored keep may → may v → IsKeptInStore store course lines v
  rest_kept lines stored keep may v at_rest left =
      kept_with lines stored stored keep may v v at_rest left (at_rest.truthful v left) (at_rest.schema v left) (at_rest.has v left) at_rest.begins at_rest.keeps at_rest.near (omega arith) (λ slot count is has. has)

  -- a step on the disk: the log gets a chunk, or a slot is written
  pub mid_step_kept : (lines : List (List ℕ)) (stored chunk : List Event) (keep : Option ℕ) (may : Image → Type 0) (v : Image) → IsAtRest store course lines stored keep may → IsPrefixOf (stored ++ chunk) course.accepted → IsNear course lines (stored ++ chunk) → IsMidStep store keep chunk may v → IsKeptInStore store course lines v
  mid_step_kept lines stored chunk keep may v at_rest begins near w =
      let truthful = w.truthful (at_rest.truthful w.from w.left) in
      let schema = w.schema (at_rest.schema w.from w.left) in
      elim (w.events stored (at_rest.has w.from w.left)) [
        | inl has ↦ kept_with lines stored stored keep may v w.from at_rest w.left truthful schema has at_rest.begins at_rest.keeps at_rest.near (omega arith) w.slots
        | inr has ↦ kept_with lines stored (stored ++ chunk) keep may v w.from at_rest w.left truthful schema has begins (prefix_more course.held stored chunk at_rest.keeps) near (next_grows stored chunk (begins_rising (stored ++ chunk) course.accepted begins at_rest.rising)) w.slots
      ]

  -- once the chunk is stored
  pub after_step : (lines : List (List ℕ)) (stored chunk : List Event) (keep : Option ℕ) (may next : Image → Type 0) → IsAtRest store course lines stored keep may → IsPrefixOf (stored ++ chunk) course.accepted → IsNear course lines (stored ++ chunk) → ((v : Image) → next v → IsStepped store keep chunk may v) → IsAtRest store course lines (stored ++ chunk) keep next
  after_step lines stored chunk keep may next at_rest begins near after = record {
    truthful = λ v left. let a = after v left in a.truthful (at_rest.truthful a.from a.left);
    schema = λ v left. let a = after v left in a.schema (at_rest.schema a.from a.left);
    grown = λ v left. let a = after v left in a.grown (at_rest.grown a.from a.left);
    has = λ v left. let a = after v left in a.events stored (at_rest.has a.from a.left);
    rising = at_rest.rising;
    begins = begins;
    keeps = prefix_more course.held stored chunk at_rest.keeps;
    near = near;
    stored_by = λ n small says. omega (arith, at_rest.stored_by n small says, next_grows stored chunk (begins_rising (stored ++ chunk) course.accepted begins at_rest.rising));
    saved_by = λ count small says. let h = at_rest.saved_by count small says in
        (omega (arith, h.0, length-append stored chunk), (h.1.0, h.1.1, λ v left. let a = after v left in a.slots h.1.0 count h.1.1 (h.1.2 a.from a.left)));
  }

  -- once a checkpoint of all that is stored is saved
  pub after_save : (lines : List (List ℕ)) (stored : List Event) (keep : Option ℕ) (slot : ℕ) (may next : Image → Type 0) → IsAtRest store course lines stored keep may → ((v : Image) → next v → IsSavedTo store slot (length stored) may v) → IsAtRest store course lines stored (Some slot) next
  after_save lines stored keep slot may next at_rest saved = record {
    truthful = λ v left. let a = saved v left in a.truthful (at_rest.truthful a.from a.left);
    schema = λ v left. let a = saved v left in a.schema (at_rest.schema a.from a.left);
    grown = λ v left. let a = saved v left in a.grown (at_rest.grown a.from a.left);
    has = λ v left. let a = saved v left in a.events stored (at_rest.has a.from a.left);
    rising = at_rest.rising;
    begins = at_rest.begins;
    keeps = at_rest.keeps;
    near = at_rest.near;
    stored_by = at_rest.stored_by;
    saved_by = λ count small says. let h = at_rest.saved_by count small says in
        (h.0, (slot, refl, λ v left. store.has_fewer slot count (length stored) v h.0 (saved v left).saved));
  }

  -- fewer images may be left
  pub rest_fewer : (lines : List (List ℕ)) (stored : List Event) (keep : Option ℕ) (may next : Image → Type 0) → IsAtRest store course lines stored keep may → ((v : Image) → next v → may v) → IsAtRest store course lines stored keep next
  rest_fewer lines stored keep may next at_rest fewer = record {
    truthful = λ v left. at_rest.truthful v (fewer v left);
    schema = λ v left. at_rest.schema v (fewer v left);
    grown = λ v left. at_rest.grown v (fewer v left);
    has = λ v left. at_rest.has v (fewer v left);
    rising = at_rest.rising;
    begins = at_rest.begins;
    keeps = at_rest.keeps;
    near = at_rest.near;
    stored_by = at_rest.stored_by;
    saved_by = λ count small says. let h = at_rest.saved_by count small says in (h.0, (h.1.0, h.1.1, λ v left. h.1.2 v (fewer v left)));
  }

  -- more lines were put, whose marks hold
  pub rest_more : (lines more : List (List ℕ)) (stored : List Event) (keep : Option ℕ) (may : Image → Type 0) → IsAtRest store course lines stored keep may → MarksHold store stored keep may more → IsAtRest store course (lines ++ more) stored keep may
  rest_more lines more stored keep may at_rest marks = record {
    truthful = at_rest.truthful;
    schema = at_rest.schema;
    grown = at_rest.grown;
    has = at_rest.has;
    rising = at_rest.rising;
    begins = at_rest.begins;
    keeps = at_rest.keeps;
    near = near_more course lines more stored at_rest.near;
    stored_by = λ n small says. elim (Contains-append_cases lines more (mark_line (Stored n)) says) [
      | inl old ↦ at_rest.stored_by n small old
      | inr new ↦ marks.stored_by n small new
    ];
    saved_by = λ count small says. elim (Contains-append_cases lines more (mark_line (Saved count)) says) [
      | inl old ↦ at_rest.saved_by count small old
      | inr new ↦ marks.saved_by count small new
    ];
  }

  pub marks_prefix : (front whole : List (List ℕ)) (stored : List Event) (keep : Option ℕ) (may : Image → Type 0) → IsPrefixOf front whole → MarksHold store stored keep may whole → MarksHold store stored keep may front
  marks_prefix front whole stored keep may begins marks = record {
    stored_by = λ n small says. marks.stored_by n small (among (mark_line (Stored n)) says);
    saved_by = λ count small says. marks.saved_by count small (among (mark_line (Saved count)) says);
  }
    where
      among : (line : List ℕ) → Contains front line → Contains whole line
      among line has = subst (λ (l : List (List ℕ)). Contains l line) begins.1 (Contains-append_left front begins.0 line has)

  -- while lines are put
  pub put_kept : (lines more : List (List ℕ)) (part : List ℕ) (stored : List Event) (keep : Option ℕ) (may : Image → Type 0) (v : Image) → IsAtRest store course lines stored keep may → AreLines lines → AreLines more → MarksHold store stored keep may more → IsPrefix part (ended more) → may v → IsKeptInStore store course (whole_pieces (ended lines ++ part)) v
  put_kept lines more part stored keep may v at_rest are are_more marks front left =
      subst (λ (l : List (List ℕ)). IsKeptInStore store course l v) (sym (pieces_then lines part are))
      (rest_kept (lines ++ whole_pieces part) stored keep may v (rest_more lines (whole_pieces part) stored keep may at_rest (marks_prefix (whole_pieces part) more stored keep may (pieces_prefix more part are_more front) marks)) left)
