-- What a sound reservoir leaves on the disk, as steps of the store of its plan.
use Rattle.std.proofs.Common.{◌≡◌, ◌≢◌, ◌∙◌, inl, inr, ℕ, ◌^◌, ◌≤◌, ◌==◌, Bool, true, false, List, [], ◌++◌, length, Option, Some, refl, sym, ap, subst}
use Rattle.std.proofs.lemmas.Bool.Decides.{Decides-eqb}
use Rattle.rg_host.specs.Image.{Image, NothingPending}
use Rattle.rg_event.specs.Rising.{IsRising}
use Rattle.rg_event.specs.Shapes.{Shape, IsSchema}
use Rattle.rg_event.specs.declared.event.Event.{Event}
use Rattle.rg_frame.specs.Frames.{EndsAt}
use Rattle.rg_frame.specs.Steps.{Leaves, From, Grows, Grown}
use Rattle.rg_frame.proofs.Laws.{payloads_one}
use Rattle.rg_chunk.specs.Chunks.{chunk_bytes}
use Rattle.rg_cache.specs.Cache.{Cache}
use Rattle.rg_log.specs.Log.{joined, IsChunkOf, HasEvents, IsInForce}
use Rattle.rg_log.proofs.Laws.{one_list}
use Rattle.rg_reservoir.specs.declared.kept.Kept.{Kept}
use Rattle.rg_reservoir.specs.Attached.{LogOpens}
use Rattle.rg_reservoir.specs.Kept.{Base, all_events, IsRight, Adds, Added}
use Rattle.rg_reservoir.proofs.Laws.{rises, fewer, is_chunk, ends_at, stored_is}
use Rattle.rg_config.specs.Plans.{Planned}
use Rattle.rg_run_spec.specs.Steps.{IsMidStep, IsStepped}
use Rattle.rg_open.specs.Truth.{MayGrow}
use Rattle.rg_open.specs.Stores.{store_of}
use Rattle.rg_open.proofs.Steps.{for_some, stays_mid, stays_stepped, commit_mid, commit_stepped, first_mid, first_stepped, growth_mid, growth_stepped}

-- where one file is as it was, and so are the others
all_same : (file : ℕ) (u v : Image) → ((f : ℕ) → f ≢ file → v f ≡ u f) → v file ≡ u file → (f : ℕ) → v f ≡ u f
all_same file u v others same f = by (f == file) refl
  where
    by : (at : Bool) → (f == file) ≡ at → v f ≡ u f
    by true at = subst (λ (n : ℕ). v n ≡ u n) (sym ((Decides-eqb f file).0 at)) same
    by false at = others f (λ e. let yes : (f == file) ≡ true = (Decides-eqb f file).1 e in absurd cc)

module _ (plan : Planned) (v : Image) (may : Image → Type 0) (b : Base) (opened : List Event) (next time : ℕ) (cache : Cache Kept) (right : IsRight v may b opened next time cache) (file : b.file ≡ 2) (shape : b.shape ≡ plan.shape) where
  pub pending : NothingPending 2 (Some v) may
  pending = for_some v (λ (w : Image). (u : Image) → may u → u 2 ≡ w 2) (λ u left. subst (λ (f : ℕ). u f ≡ v f) file (right.settled u left))

  pub framed : IsInForce plan.shape (v 2)
  framed = subst (λ (s : Shape). IsInForce s (v 2)) shape (subst (λ (f : ℕ). IsInForce b.shape (v f)) file right.framed)

  pub has_events : HasEvents plan.shape (joined right.chunks) (v 2)
  has_events = subst (λ (s : Shape). HasEvents s (joined right.chunks) (v 2)) shape (subst (λ (f : ℕ). HasEvents b.shape (joined right.chunks) (v f)) file right.legal)

  pub schema : IsSchema plan.shape
  schema = has_events.1.schema

  pub all_are : all_events (Some v) b opened ≡ joined right.chunks ++ opened
  all_are = ap (λ (l : List Event). l ++ opened) (stored_is v may b opened next time cache right)

  module _ (few : length opened ≤ 4096) where
    may_grow : 1 ≤ length opened → (u : Image) → may u → MayGrow plan.shape opened (u 2)
    may_grow some u left = subst (MayGrow plan.shape opened) (sym (pending v refl u left)) (record {
      framed = framed;
      rises = λ events is. subst (λ (l : List Event). IsRising (l ++ opened)) (one_list payloads_one plan.shape plan.shape (joined right.chunks) events (v 2) has_events is) (rises v may b opened next time cache right some few);
      fits = λ events is. subst (λ (l : List Event). length (l ++ opened) ≤ 2 ^ 40) (one_list payloads_one plan.shape plan.shape (joined right.chunks) events (v 2) has_events is) (fewer v may b opened next time cache right some few);
    })

    chunk_is : 1 ≤ length opened → IsChunkOf plan.shape (chunk_bytes b.shape.fields opened) opened
    chunk_is some = subst (λ (s : Shape). IsChunkOf s (chunk_bytes b.shape.fields opened) opened) shape (is_chunk v may b opened next time cache right some few)

    pub ends_in : EndsAt b.end (v 2)
    ends_in = subst (λ (f : ℕ). EndsAt b.end (v f)) file (ends_at v may b opened next time cache right)

    adds : (u : Image) → Leaves 2 (From b.end (Adds b.shape.fields opened)) (Some v) may u → Adds b.shape.fields opened (v 2) (u 2)
    adds u left = left.1 pending v refl ends_in

    -- a moment of a commit
    pub commit_left : (keep : Option ℕ) (u : Image) → Leaves 2 (From b.end (Adds b.shape.fields opened)) (Some v) may u → IsMidStep (store_of plan) keep opened may u
    commit_left keep u left = by (adds u left)
      where
        x : Image
        x = left.0.0

        same : x 2 ≡ v 2
        same = pending v refl x left.0.1

        by : Adds b.shape.fields opened (v 2) (u 2) → IsMidStep (store_of plan) keep opened may u
        by (inl old) = stays_mid plan keep opened may x u left.0.1 (all_same 2 x u left.0.2 (old ∙ sym same))
        by (inr new) = commit_mid plan schema keep (chunk_bytes b.shape.fields opened) opened may x u left.0.1 left.0.2 (may_grow new.0 x left.0.1) (chunk_is new.0) (subst (λ (bytes : List ℕ). Grows (chunk_bytes b.shape.fields opened) bytes (u 2)) (sym same) new.1)

    -- an image after it
    pub committed_left : (keep : Option ℕ) (w : Image) (after : Image → Type 0) (end : ℕ) → Added b.shape.fields opened end (v 2) (w 2) → NothingPending 2 (Some w) after → ((u : Image) → after u → Leaves 2 (From b.end (Adds b.shape.fields opened)) (Some v) may u)
        → (u : Image) → after u → IsStepped (store_of plan) keep opened may u
    committed_left keep w after end added settled left u one = by added
      where
        l : Leaves 2 (From b.end (Adds b.shape.fields opened)) (Some v) may u
        l = left u one

        x : Image
        x = l.0.0

        same : x 2 ≡ v 2
        same = pending v refl x l.0.1

        read : u 2 ≡ w 2
        read = settled w refl u one

        by : Added b.shape.fields opened end (v 2) (w 2) → IsStepped (store_of plan) keep opened may u
        by (inl none) = stays_stepped plan keep opened may x u none.0 l.0.1 (all_same 2 x u l.0.2 (read ∙ none.1 ∙ sym same))
        by (inr new) = commit_stepped plan schema keep (chunk_bytes b.shape.fields opened) opened may x u l.0.1 l.0.2 (may_grow new.0 x l.0.1) (chunk_is new.0)
            (subst (λ (bytes : List ℕ). Grown (chunk_bytes b.shape.fields opened) bytes (u 2)) (sym same) (subst (λ (bytes : List ℕ). Grown (chunk_bytes b.shape.fields opened) (v 2) bytes) (sym read) new.1))

-- Opening a log: it is as it was, or the schema's frame comes behind a log without a frame, or a growth behind one that grows to the schema.
module _ (plan : Planned) (legal : IsSchema plan.shape) (keep : Option ℕ) (v : Image) (may : Image → Type 0) (settled : NothingPending 2 (Some v) may) where
  pub open_left : (u : Image) → Leaves 2 (LogOpens plan.shape plan.defaults) (Some v) may u → IsMidStep (store_of plan) keep [] may u
  open_left u left = by (subst (λ (bytes : List ℕ). LogOpens plan.shape plan.defaults bytes (u 2)) (sym same) (left.1 settled v refl))
    where
      x : Image
      x = left.0.0

      same : x 2 ≡ v 2
      same = settled v refl x left.0.1

      by : LogOpens plan.shape plan.defaults (x 2) (u 2) → IsMidStep (store_of plan) keep [] may u
      by (inl (inl old)) = stays_mid plan keep [] may x u left.0.1 (all_same 2 x u left.0.2 old)
      by (inl (inr new)) = first_mid plan legal keep may x u left.0.1 left.0.2 new.0 new.1
      by (inr new) = growth_mid plan keep may x u left.0.1 left.0.2 new.0 new.1

  pub opened_left : (u : Image) → Leaves 2 (LogOpens plan.shape plan.defaults) (Some v) may u → IsStepped (store_of plan) keep [] may u
  opened_left u left = by (subst (λ (bytes : List ℕ). LogOpens plan.shape plan.defaults bytes (u 2)) (sym same) (left.1 settled v refl))
    where
      x : Image
      x = left.0.0

      same : x 2 ≡ v 2
      same = settled v refl x left.0.1

      by : LogOpens plan.shape plan.defaults (x 2) (u 2) → IsStepped (store_of plan) keep [] may u
      by (inl (inl old)) = stays_stepped plan keep [] may x u refl left.0.1 (all_same 2 x u left.0.2 old)
      by (inl (inr new)) = first_stepped plan legal keep may x u left.0.1 left.0.2 new.0 new.1
      by (inr new) = growth_stepped plan keep may x u left.0.1 left.0.2 new.0 new.1
