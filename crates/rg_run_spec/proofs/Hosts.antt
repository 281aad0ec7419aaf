-- What the calls on a host promise, as the steps of a run take it.
use Rattle.std.proofs.Common.{◌≡◌, ◌⊎◌, inl, inr, ℕ, List, [], ◌++◌, Option, Some, sym, ◌∙◌, ap, subst, append_assoc}
use Rattle.std.proofs.lemmas.List.{append-nil}
use Rattle.std.specs.Option.{ForSome}
use Rattle.rg_bytes.specs.Known.{after}
use Rattle.rg_event.specs.declared.event.Event.{Event}
use Rattle.rg_host.specs.Image as host
use Rattle.rg_host.specs.Moments.{Moment, Moments, LeavesFiles, LeavesAll}
use Rattle.rg_host.specs.Puts.{IsPrefix, IsPartWay, Puts}
use Rattle.rg_host.proofs.Laws.{moments-weaker, moments-both}
use Rattle.rg_run_spec.specs.Stores.{Store}
use Rattle.rg_run_spec.specs.Steps.{IsMidStep, IsStepped}

module _ (Image : Type 0) (store : Store Image) where
  -- an image that might be left already
  pub same_mid_step : (keep : Option ℕ) (chunk : List Event) (may : Image → Type 0) (v : Image) → may v → IsMidStep store keep chunk may v
  same_mid_step keep chunk may v left = record { from = v; left = left; truthful = λ is. is; schema = λ is. is; grown = λ is. is; events = λ es has. inl has; slots = λ slot count is has. has }

  pub same_stepped : (keep : Option ℕ) (may : Image → Type 0) (v : Image) → may v → IsStepped store keep [] may v
  same_stepped keep may v left = record {
    from = v;
    left = left;
    truthful = λ is. is;
    schema = λ is. is;
    grown = λ is. is;
    events = λ es has. subst (λ (l : List Event). store.HasEvents l v) (sym (append-nil es)) has;
    slots = λ slot count is has. has;
  }

  grown_by : (es chunk : List Event) (v : Image) → store.HasEvents (es ++ chunk) v ⊎ store.HasEvents ((es ++ chunk) ++ []) v → store.HasEvents es v ⊎ store.HasEvents (es ++ chunk) v
  grown_by es chunk v (inl has) = inr has
  grown_by es chunk v (inr has) = inr (subst (λ (l : List Event). store.HasEvents l v) (append-nil (es ++ chunk)) has)

  -- within a step that adds nothing, after one that added a chunk
  pub stepped_then_mid_step : (keep : Option ℕ) (chunk : List Event) (may next : Image → Type 0) (v : Image) → ((u : Image) → next u → IsStepped store keep chunk may u) → IsMidStep store keep [] next v → IsMidStep store keep chunk may v
  stepped_then_mid_step keep chunk may next v steps w =
      let a = steps w.from w.left in
      record {
        from = a.from;
        left = a.left;
        truthful = λ is. w.truthful (a.truthful is);
        schema = λ is. w.schema (a.schema is);
        grown = λ is. w.grown (a.grown is);
        events = λ es has. grown_by es chunk v (w.events (es ++ chunk) (a.events es has));
        slots = λ slot count is has. w.slots slot count is (a.slots slot count is has);
      }

  -- one step after another
  pub stepped_then : (keep : Option ℕ) (chunk more : List Event) (may next : Image → Type 0) (v : Image) → ((u : Image) → next u → IsStepped store keep chunk may u) → IsStepped store keep more next v → IsStepped store keep (chunk ++ more) may v
  stepped_then keep chunk more may next v steps w =
      let a = steps w.from w.left in
      record {
        from = a.from;
        left = a.left;
        truthful = λ is. w.truthful (a.truthful is);
        schema = λ is. w.schema (a.schema is);
        grown = λ is. w.grown (a.grown is);
        events = λ es has. subst (λ (l : List Event). store.HasEvents l v) (append_assoc es chunk more) (w.events (es ++ chunk) (a.events es has));
        slots = λ slot count is has. w.slots slot count is (a.slots slot count is has);
      }

pub part_way_more : (s part bytes now : List ℕ) → IsPrefix part bytes → IsPartWay s part now → IsPartWay s bytes now
part_way_more s part bytes now prefix way =
    (way.0, (way.1.0 ++ prefix.0, sym (append_assoc way.0 way.1.0 prefix.0) ∙ ap (λ (l : List ℕ). l ++ prefix.0) way.1.1 ∙ prefix.1), way.2)

module _ (H : Type 0) (now : H → Option host.Image) (may : H → host.Image → Type 0) (clock : H → ℕ) (since : H → ℕ → Moment → Type 0) (said : H → Option (List ℕ)) where
  -- where a host tells what was put, its moments say it
  pub told_moments : (old new : H) (P : host.Image → Type 0) (s : List ℕ) → said old ≡ Some s → Moments clock since old new (λ m. P m.image × ForSome (said old) (λ t. m.said ≡ t)) → Moments clock since old new (λ m. P m.image × (m.said ≡ s))
  told_moments old new P s told run = moments-weaker clock since old new (λ m. P m.image × ForSome (said old) (λ t. m.said ≡ t)) (λ m. P m.image × (m.said ≡ s)) run (λ m h. (h.0, h.1 s told))

  -- A call that leaves all as it was.
  pub record Quiet (store : Store host.Image) (keep : Option ℕ) (chunk : List Event) (old new : H) (s : List ℕ) : Type 0 where
    pub moments : Moments clock since old new (λ m. IsMidStep store keep chunk (may old) m.image × (m.said ≡ s))
    pub steps : (v : host.Image) → may new v → IsStepped store keep [] (may old) v
    pub told : said new ≡ Some s

  pub quiet : (store : Store host.Image) (keep : Option ℕ) (chunk : List Event) (old new : H) (s : List ℕ) → said old ≡ Some s → LeavesAll now may clock since said old new → Quiet store keep chunk old new s
  quiet store keep chunk old new s told leaves = record {
    moments = moments-weaker clock since old new (λ m. may old m.image × ForSome (said old) (λ t. m.said ≡ t)) (λ m. IsMidStep store keep chunk (may old) m.image × (m.said ≡ s)) leaves.moments
        (λ m h. (same_mid_step host.Image store keep chunk (may old) m.image h.0, h.1 s told));
    steps = λ v left. same_stepped host.Image store keep (may old) v (leaves.may_stays.no_more v left);
    told = leaves.said_stays ∙ told;
  }

  -- A call that puts these bytes and leaves the files.
  pub record Put (old new : H) (s bytes : List ℕ) : Type 0 where
    pub moments : Moments clock since old new (λ m. may old m.image × IsPartWay s bytes m.said)
    pub fewer : (v : host.Image) → may new v → may old v
    pub told : said new ≡ Some (s ++ bytes)

  pub put : (old new : H) (s bytes : List ℕ) → said old ≡ Some s → LeavesFiles now may clock since old new → Puts said clock since old new bytes → Put old new s bytes
  put old new s bytes told leaves puts = record {
    moments = moments-weaker clock since old new (λ m. may old m.image × ForSome (said old) (λ t. IsPartWay t bytes m.said)) (λ m. may old m.image × IsPartWay s bytes m.said)
        (moments-both clock since old new (λ m. may old m.image) (λ m. ForSome (said old) (λ t. IsPartWay t bytes m.said)) leaves.moments puts.moments)
        (λ m h. (h.0, h.1 s told));
    fewer = λ v left. leaves.may_stays.no_more v left;
    told = puts.grows ∙ ap (λ t. after t bytes) told;
  }
