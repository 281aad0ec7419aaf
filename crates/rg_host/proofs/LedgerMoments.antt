-- What one call on a host in memory does, and what held at each moment of it.
use Rattle.std.proofs.Common.{◌≡◌, ◌⊎◌, inl, inr, ⊎_elim, ℕ, List, [], ◌∷◌, ◌++◌, length, Some, refl, sym, ◌∙◌, ap, subst, arith}
use Rattle.std.proofs.lemmas.List.{append-nil}
use Rattle.std.specs.Option.{ForSome}
use Rattle.rg_host.specs.Image.{Image, InFile, Torn, IsAfter, SameOutcomes}
use Rattle.rg_host.specs.Files.{image_of}
use Rattle.rg_host.specs.Moments.{Moment, Moments, LeavesFiles, LeavesAll}
use Rattle.rg_host.specs.Puts.{IsPartWay, Puts}
use Rattle.rg_host.specs.Effects.{Effect, nothing, wrote, failed_write, synced, put, may_after, put_by, said_after, IsWithin, IsSince}
use Rattle.rg_host.specs.EffectLaws.{only_now, since_sinks, torn_in-same}
use Rattle.rg_host.specs.CallTrace.{Trace}
use Rattle.rg_host.specs.MemHost.{Ledger, now_in, may_in, clock_in, since_in, said_in}
use Rattle.rg_host.proofs.Runs.{moments-none, same_outcomes}

prefix_of-nothing : (part rest : List ℕ) → part ++ rest ≡ [] → part ≡ []
prefix_of-nothing [] rest is = refl
prefix_of-nothing (byte ∷ part) rest is = absurd (cc is)

-- nothing was put, where a prefix of no bytes was
part_way-nothing : (said now : List ℕ) → IsPartWay said [] now → now ≡ said
part_way-nothing said now way = way.2 ∙ ap (λ (l : List ℕ). said ++ l) (prefix_of-nothing way.0 way.1.0 way.1.1) ∙ append-nil said

module _ (first : Image) where
  abbrev since : List Effect → ℕ → Moment → Type 0
  since effects t m = IsSince first effects t m

  within_call : (effect : Effect) (past : List Effect) (m : Moment) → IsSince first (effect ∷ past) (length past) m → IsWithin first effect past m
  within_call effect past m (inl (le, may, said)) = (inr may, (put_by effect, ([], append-nil (put_by effect)), said))
  within_call effect past m (inr (inl (le, within))) = within
  within_call effect past m (inr (inr earlier)) =
      let only = only_now first past m earlier in
      (inl only.0, ([], (put_by effect, refl), only.1 ∙ sym (append-nil (said_after past))))

  not_earlier : (effect : Effect) (past : List Effect) (t : ℕ) (m : Moment) → IsSince first (effect ∷ past) t m → IsSince first past t m ⊎ IsSince first (effect ∷ past) (length past) m
  not_earlier effect past t m (inl (le, may, said)) = inr (inl (omega arith, may, said))
  not_earlier effect past t m (inr (inl (le, within))) = inr (inr (inl (omega arith, within)))
  not_earlier effect past t m (inr (inr earlier)) = inl earlier

  one_call : (effect : Effect) (past : List Effect) (P : Moment → Type 0) → ((m : Moment) → IsWithin first effect past m → P m) → Moments (λ l. length l) since past (effect ∷ past) P
  one_call effect past P within = record {
    later = omega arith;
    each = λ m now. within m (within_call effect past m now);
    nothing_else = λ t m le was. not_earlier effect past t m was;
    keeps = λ t m le was. inr (inr was);
    adds = λ t m le now. since_sinks first (effect ∷ past) t (length past) m le now;
  }

  no_call : (effects : List Effect) (P : Moment → Type 0) → ((m : Moment) → may_after first effects m.image → m.said ≡ said_after effects → P m) → Moments (λ l. length l) since effects effects P
  no_call effects P here = moments-none (λ l. length l) since effects P (λ t u m le was. since_sinks first effects t u m le was) (λ m now. let only = only_now first effects m now in here m only.0 only.1)

said_told : (said now : List ℕ) → now ≡ said → ForSome (Some said) (λ s. now ≡ s)
said_told said now is = λ s told. is ∙ (let same : said ≡ s = cc in same)

abbrev pub first_in : Ledger → List (List ℕ)
first_in host = host.first

abbrev pub effects_in : Ledger → List Effect
effects_in host = host.effects

abbrev pub first_of : Trace → List (List ℕ)
first_of trace = trace.first

abbrev pub effects_of : Trace → List Effect
effects_of trace = trace.effects

module _ (old new : Ledger) (first : new.first ≡ old.first) where
  -- the moments of a host are those of its effects
  along : (effects : List Effect) (P : Moment → Type 0) → new.effects ≡ effects → Moments (λ l. length l) (since (image_of old.first)) old.effects effects P → Moments clock_in since_in old new P
  along effects P is run =
      let run = subst (λ (l : List Effect). Moments (λ l. length l) (since (image_of old.first)) old.effects l P) (sym is) run in
      let into : (t : ℕ) (m : Moment) → since_in new t m → IsSince (image_of old.first) new.effects t m = λ t m now. subst (λ (f : List (List ℕ)). IsSince (image_of f) new.effects t m) first now in
      let back : (t : ℕ) (m : Moment) → IsSince (image_of old.first) new.effects t m → since_in new t m = λ t m now. subst (λ (f : List (List ℕ)). IsSince (image_of f) new.effects t m) (sym first) now in
      record {
        later = run.later;
        each = λ m now. run.each m (into (clock_in old) m now);
        nothing_else = λ t m le now. ⊎_elim (λ was. inl was) (λ late. inr (back (clock_in old) m late)) (run.nothing_else t m le (into t m now));
        keeps = λ t m le was. back t m (run.keeps t m le was);
        adds = λ t m le now. back t m (run.adds t m le (into (clock_in old) m now));
      }

  module _ (same : new.effects ≡ old.effects) where
    now_same : now_in new ≡ now_in old
    now_same = rw (first, same) refl

    may_same : SameOutcomes (may_in old) (may_in new)
    may_same = rw (first, same) (same_outcomes (may_in old))

    said_same : said_in new ≡ said_in old
    said_same = rw same refl

    -- a call that was not noted
    pub unnoted-leaves_all : LeavesAll now_in may_in clock_in since_in said_in old new
    unnoted-leaves_all = record {
      now_stays = now_same;
      may_stays = may_same;
      said_stays = said_same;
      moments = along old.effects _ same (no_call (image_of old.first) old.effects _ (λ m may said. (may, said_told (said_after old.effects) m.said said)));
    }

    pub unnoted-leaves_files : LeavesFiles now_in may_in clock_in since_in old new
    unnoted-leaves_files = record { now_stays = now_same; may_stays = may_same; moments = along old.effects _ same (no_call (image_of old.first) old.effects _ (λ m may said. may)) }

    pub unnoted-puts : Puts said_in clock_in since_in old new []
    unnoted-puts = record {
      grows = said_same ∙ ap (λ (l : List ℕ). Some l) (sym (append-nil (said_after old.effects)));
      moments = along old.effects _ same (no_call (image_of old.first) old.effects _ (λ m may said s told. ([], ([], refl), said_told (said_after old.effects) m.said said s told ∙ sym (append-nil s))));
    }

    pub unnoted-write : (file at n : ℕ) → Moments clock_in since_in old new (λ m. IsAfter (InFile file (Torn at n)) (may_in old) m.image × ForSome (said_in old) (λ s. m.said ≡ s))
    unnoted-write file at n = along old.effects _ same (no_call (image_of old.first) old.effects _ (λ m may said. ((m.image, may, torn_in-same file at n m.image), said_told (said_after old.effects) m.said said)))

  module _ (effect : Effect) (more : new.effects ≡ effect ∷ old.effects) where
    -- a call that put nothing, after which a crash leaves no more than before it
    noted-moments : put_by effect ≡ [] → ((v : Image) → may_after (image_of old.first) (effect ∷ old.effects) v → may_in old v) → Moments clock_in since_in old new (λ m. may_in old m.image × ForSome (said_in old) (λ s. m.said ≡ s))
    noted-moments none fewer = along (effect ∷ old.effects) _ more (one_call (image_of old.first) effect old.effects _ (λ m within. (
      ⊎_elim (λ before. before) (λ late. fewer m.image late) within.0,
      said_told (said_after old.effects) m.said (part_way-nothing (said_after old.effects) m.said (subst (λ (l : List ℕ). IsPartWay (said_after old.effects) l m.said) none within.1)),
    )))

    -- a write of n bytes
    noted-write : (file at n : ℕ) → put_by effect ≡ [] → ((v : Image) → may_after (image_of old.first) (effect ∷ old.effects) v → IsAfter (InFile file (Torn at n)) (may_in old) v)
        → Moments clock_in since_in old new (λ m. IsAfter (InFile file (Torn at n)) (may_in old) m.image × ForSome (said_in old) (λ s. m.said ≡ s))
    noted-write file at n none torn = along (effect ∷ old.effects) _ more (one_call (image_of old.first) effect old.effects _ (λ m within. (
      ⊎_elim (λ before. (m.image, before, torn_in-same file at n m.image)) (λ late. torn m.image late) within.0,
      said_told (said_after old.effects) m.said (part_way-nothing (said_after old.effects) m.said (subst (λ (l : List ℕ). IsPartWay (said_after old.effects) l m.said) none within.1)),
    )))

  -- a call that changed nothing
  pub nothing-leaves_all : new.effects ≡ nothing ∷ old.effects → LeavesAll now_in may_in clock_in since_in said_in old new
  nothing-leaves_all more = record {
    now_stays = rw (first, more) refl;
    may_stays = rw (first, more) (same_outcomes (may_in old));
    said_stays = rw more (ap (λ (l : List ℕ). Some l) (append-nil (said_after old.effects)));
    moments = noted-moments nothing more refl (λ v left. left);
  }

  pub nothing-leaves_files : new.effects ≡ nothing ∷ old.effects → LeavesFiles now_in may_in clock_in since_in old new
  nothing-leaves_files more = record {
    now_stays = rw (first, more) refl;
    may_stays = rw (first, more) (same_outcomes (may_in old));
    moments = along (nothing ∷ old.effects) _ more (one_call (image_of old.first) nothing old.effects _ (λ m within. ⊎_elim (λ before. before) (λ late. late) within.0));
  }

  pub nothing-puts : new.effects ≡ nothing ∷ old.effects → Puts said_in clock_in since_in old new []
  nothing-puts more = record {
    grows = rw more refl;
    moments = along (nothing ∷ old.effects) _ more (one_call (image_of old.first) nothing old.effects _ (λ m within s told. subst (λ (l : List ℕ). IsPartWay l [] m.said) (let same : said_after old.effects ≡ s = cc in same) within.1));
  }

  -- a sync that is done
  pub synced-moments : (file : ℕ) → new.effects ≡ synced file ∷ old.effects → Moments clock_in since_in old new (λ m. may_in old m.image × ForSome (said_in old) (λ s. m.said ≡ s))
  synced-moments file more = noted-moments (synced file) more refl (λ v left. left.0)

  -- a write, done or failed
  pub wrote-moments : (file at : ℕ) (bytes : List ℕ) → new.effects ≡ wrote file at bytes ∷ old.effects
      → Moments clock_in since_in old new (λ m. IsAfter (InFile file (Torn at (length bytes))) (may_in old) m.image × ForSome (said_in old) (λ s. m.said ≡ s))
  wrote-moments file at bytes more = noted-write (wrote file at bytes) more file at (length bytes) refl (λ v left. left)

  pub failed_write-moments : (file at n : ℕ) → new.effects ≡ failed_write file at n ∷ old.effects
      → Moments clock_in since_in old new (λ m. IsAfter (InFile file (Torn at n)) (may_in old) m.image × ForSome (said_in old) (λ s. m.said ≡ s))
  failed_write-moments file at n more = noted-write (failed_write file at n) more file at n refl (λ v left. left)

  -- a put that is done
  module _ (bytes : List ℕ) (more : new.effects ≡ put bytes ∷ old.effects) where
    pub put-puts : Puts said_in clock_in since_in old new bytes
    put-puts = record {
      grows = rw more refl;
      moments = along (put bytes ∷ old.effects) _ more (one_call (image_of old.first) (put bytes) old.effects _ (λ m within s told. subst (λ (l : List ℕ). IsPartWay l bytes m.said) (let same : said_after old.effects ≡ s = cc in same) within.1));
    }

    pub put-leaves_files : LeavesFiles now_in may_in clock_in since_in old new
    put-leaves_files = record {
      now_stays = rw (first, more) refl;
      may_stays = rw (first, more) (same_outcomes (may_in old));
      moments = along (put bytes ∷ old.effects) _ more (one_call (image_of old.first) (put bytes) old.effects _ (λ m within. ⊎_elim (λ before. before) (λ late. late) within.0));
    }
