-- Calls on a host as steps of a store.
use Rattle.std.proofs.Common.{◌≡◌, ◌≢◌, ◌⊎◌, inl, inr, ◌≤◌, ℕ, List, [], ◌++◌, Option, Some, None, refl, sym, ◌∙◌, ap, subst}
use Rattle.std.proofs.lemmas.List.{append-nil}
use Rattle.std.specs.Option.{ForSome}
use Rattle.rg_host.specs.Image.{Image, Becomes, InFile, NothingPending}
use Rattle.rg_host.specs.Moments.{Moment, LeavesAll}
use Rattle.rg_host.proofs.Laws.{moments-weaker, moments_then, leaves_all-none}
use Rattle.rg_event.specs.declared.event.Event.{Event}
use Rattle.rg_frame.specs.Calls.{Writes}
use Rattle.rg_frame.specs.Steps.{Leaves, OthersStay}
use Rattle.rg_run_spec.specs.Stores.{Store}
use Rattle.rg_run_spec.specs.Steps.{IsMidStep, IsStepped}
use Rattle.rg_run_spec.proofs.Laws.{same_mid_step, same_stepped, stepped_then_mid_step}
use Rattle.rg_task.specs.Stepping.{IsWithinStep, IsStored}

-- an image after a step is one within it
pub mid_of : (store : Store Image) (keep : Option ℕ) (chunk : List Event) (may : Image → Type 0) (u : Image) → IsStepped store keep chunk may u → IsMidStep store keep chunk may u
mid_of store keep chunk may u step = record {
  from = step.from;
  left = step.left;
  truthful = step.truthful;
  schema = step.schema;
  grown = step.grown;
  events = λ es has. inr (step.events es has);
  slots = step.slots;
}

-- the same may be left after a call that leaves the files as they are
pub still_stepped : (store : Store Image) (keep : Option ℕ) (chunk : List Event) (may next : Image → Type 0) (u : Image) → ((v : Image) → next v → may v) → IsStepped store keep chunk next u → IsStepped store keep chunk may u
still_stepped store keep chunk may next u fewer step = record {
  from = step.from;
  left = fewer step.from step.left;
  truthful = step.truthful;
  schema = step.schema;
  grown = step.grown;
  events = step.events;
  slots = step.slots;
}

-- nothing of a file is pending that a call left as it was while it wrote another one
pub settled_beside : (file : ℕ) (now then : Option Image) (may after : Image → Type 0) (Step : List ℕ → List ℕ → Type 0) → Becomes now then (InFile 2 Step) → ((u : Image) → after u → OthersStay 2 may u) → file ≢ 2
    → NothingPending file now may → NothingPending file then after
settled_beside file (Some w) then may after Step step others apart settled = λ v told u left.
    let becomes = step.told w refl in
    let same : becomes.0 ≡ v = let both : ◌≡◌ {A = Option Image} (Some becomes.0) (Some v) = sym becomes.1 ∙ told in cc in
    let was = others u left in
    was.2 file apart ∙ settled w refl was.0 was.1 ∙ sym (becomes.2.elsewhere file apart) ∙ ap (λ (i : Image). i file) same
settled_beside file None then may after Step step others apart settled = λ v told u left.
    absurd (let none : ◌≡◌ {A = Option Image} None (Some v) = sym (step.untold refl) ∙ told in cc)

-- within a step that adds nothing is within one that adds a chunk
pub widen_mid : (store : Store Image) (keep : Option ℕ) (chunk : List Event) (may : Image → Type 0) (u : Image) → IsMidStep store keep [] may u → IsMidStep store keep chunk may u
widen_mid store keep chunk may u step = record {
  from = step.from;
  left = step.left;
  truthful = step.truthful;
  schema = step.schema;
  grown = step.grown;
  events = λ es has. by es (step.events es has);
  slots = step.slots;
}
  where
    by : (es : List Event) → store.HasEvents es u ⊎ store.HasEvents (es ++ []) u → store.HasEvents es u ⊎ store.HasEvents (es ++ chunk) u
    by es (inl has) = inl has
    by es (inr has) = inl (subst (λ (l : List Event). store.HasEvents l u) (append-nil es) has)

-- within a step behind one that was done
pub mid_behind : (store : Store Image) (keep : Option ℕ) (chunk more : List Event) (may next : Image → Type 0) (u : Image) → (more ≡ []) ⊎ (more ≡ chunk) → ((v : Image) → next v → IsStepped store keep more may v) → IsMidStep store keep [] next u → IsMidStep store keep chunk may u
mid_behind store keep chunk more may next u (inl none) stepped step =
    widen_mid store keep chunk may u (stepped_then_mid_step Image store keep [] may next u (subst (λ (l : List Event). (v : Image) → next v → IsStepped store keep l may v) none stepped) step)
mid_behind store keep chunk more may next u (inr all) stepped step =
    stepped_then_mid_step Image store keep chunk may next u (subst (λ (l : List Event). (v : Image) → next v → IsStepped store keep l may v) all stepped) step

module _ {H : Type 0} (now : H → Option Image) (may : H → Image → Type 0) (clock : H → ℕ) (since : H → ℕ → Moment → Type 0) (said : H → Option (List ℕ)) where
  -- a call that writes one file, by steps of the store
  pub writes_within : (store : Store Image) (keep : Option ℕ) (chunk : List Event) (file : ℕ) (Step : List ℕ → List ℕ → Type 0) (old new : H) → Writes now may clock since said file Step old new
      → ((u : Image) → Leaves file Step (now old) (may old) u → IsMidStep store keep chunk (may old) u) → IsWithinStep may clock since said store keep chunk old new
  writes_within store keep chunk file Step old new writes step = record {
    moments = moments-weaker clock since old new (λ m. Leaves file Step (now old) (may old) m.image × ForSome (said old) (λ s. m.said ≡ s)) (λ m. IsMidStep store keep chunk (may old) m.image × ForSome (said old) (λ s. m.said ≡ s)) writes.moments
        (λ m h. (step m.image h.0, h.1));
    left = λ u left. step u (writes.left u left);
    said_stays = writes.said_stays;
  }

  -- a call that leaves all as it was
  pub quiet_within : (store : Store Image) (keep : Option ℕ) (chunk : List Event) (old new : H) → LeavesAll now may clock since said old new → IsWithinStep may clock since said store keep chunk old new
  quiet_within store keep chunk old new leaves = record {
    moments = moments-weaker clock since old new (λ m. may old m.image × ForSome (said old) (λ s. m.said ≡ s)) (λ m. IsMidStep store keep chunk (may old) m.image × ForSome (said old) (λ s. m.said ≡ s)) leaves.moments
        (λ m h. (same_mid_step Image store keep chunk (may old) m.image h.0, h.1));
    left = λ u left. same_mid_step Image store keep chunk (may old) u (leaves.may_stays.no_more u left);
    said_stays = leaves.said_stays;
  }

  -- no call
  pub still_within : ((h : H) (m : Moment) → since h (clock h) m → may h m.image × ForSome (said h) (λ s. m.said ≡ s)) → ((h : H) (t u : ℕ) (m : Moment) → t ≤ u → since h u m → since h t m)
      → (store : Store Image) (keep : Option ℕ) (chunk : List Event) (host : H) → IsWithinStep may clock since said store keep chunk host host
  still_within only sinks store keep chunk host = quiet_within store keep chunk host host (leaves_all-none now may clock since said host (sinks host) (only host))

  -- a step that was done, and then a call that leaves all as it was
  pub within_then : (store : Store Image) (keep : Option ℕ) (chunk : List Event) (old mid new : H) → IsWithinStep may clock since said store keep chunk old mid → ((u : Image) → may mid u → IsStepped store keep chunk (may old) u)
      → LeavesAll now may clock since said mid new → IsWithinStep may clock since said store keep chunk old new
  within_then store keep chunk old mid new first stepped leaves = record {
    moments = moments_then clock since old mid new _ _ _ first.moments leaves.moments (λ m h. h) (λ m h. (mid_of store keep chunk (may old) m.image (stepped m.image h.0), λ s is. h.1 s (first.said_stays ∙ is)));
    left = λ u left. mid_of store keep chunk (may old) u (stepped u (leaves.may_stays.no_more u left));
    said_stays = leaves.said_stays ∙ first.said_stays;
  }

  -- nothing was stored
  pub quiet_stored : (store : Store Image) (keep : Option ℕ) (chunk before after : List Event) (old new : H) → LeavesAll now may clock since said old new → after ≡ before → IsStored store keep chunk before after (may old) (may new)
  quiet_stored store keep chunk before after old new leaves same = record {
    more = [];
    whole = inl refl;
    grown = same ∙ sym (append-nil before);
    left = λ u left. same_stepped Image store keep (may old) u (leaves.may_stays.no_more u left);
  }

  -- the chunk was
  pub chunk_stored : (store : Store Image) (keep : Option ℕ) (chunk before after : List Event) (old mid new : H) → ((u : Image) → may mid u → IsStepped store keep chunk (may old) u) → LeavesAll now may clock since said mid new → after ≡ before ++ chunk
      → IsStored store keep chunk before after (may old) (may new)
  chunk_stored store keep chunk before after old mid new stepped leaves same = record {
    more = chunk;
    whole = inr refl;
    grown = same;
    left = λ u left. stepped u (leaves.may_stays.no_more u left);
  }

  -- no call stores nothing
  pub still_stored : (store : Store Image) (keep : Option ℕ) (chunk events : List Event) (host : H) → IsStored store keep chunk events events (may host) (may host)
  still_stored store keep chunk events host = record { more = []; whole = inl refl; grown = sym (append-nil events); left = λ u left. same_stepped Image store keep (may host) u left }

  -- a step that was done, and then one that adds nothing
  pub within_more : (store : Store Image) (keep : Option ℕ) (chunk more : List Event) (old mid new : H) → (more ≡ []) ⊎ (more ≡ chunk) → IsWithinStep may clock since said store keep chunk old mid → ((u : Image) → may mid u → IsStepped store keep more (may old) u)
      → IsWithinStep may clock since said store keep [] mid new → IsWithinStep may clock since said store keep chunk old new
  within_more store keep chunk more old mid new whole first stepped second = record {
    moments = moments_then clock since old mid new _ _ _ first.moments second.moments (λ m h. h) (λ m h. (mid_behind store keep chunk more (may old) (may mid) m.image whole stepped h.0, λ s is. h.1 s (first.said_stays ∙ is)));
    left = λ u left. mid_behind store keep chunk more (may old) (may mid) u whole stepped (second.left u left);
    said_stays = second.said_stays ∙ first.said_stays;
  }
