-- How calls that write one file join.
use Rattle.std.proofs.Common.{◌≡◌, ◌≢◌, ℕ, ◌≤◌, List, [], Option, Some, None, refl, sym, ◌∙◌, subst, arith}
use Rattle.std.specs.Option.{ForSome}
use Rattle.std.specs.Prelude.{⊤}
use Rattle.rg_host.specs.Image.{Image, Becomes, InFile, Torn, IsAfter, Follows, NothingPending}
use Rattle.rg_host.specs.Moments.{Moment, Moments, LeavesAll}
use Rattle.rg_host.proofs.Laws.{moments_then, moments-weaker, leaves_all-none, leaves_all-then}
use Rattle.rg_frame.specs.Calls.{Writes, ReadsOnly}
use Rattle.rg_frame.specs.Frames.{HasPayloads, EndsAt}
use Rattle.rg_frame.specs.Steps.{Leaves, From}

-- the file is as it was
abbrev pub Same : List ℕ → List ℕ → Type 0
Same old new = new ≡ old

-- an image that a crash could leave at the start
pub leaves-start : (file : ℕ) (now : Option Image) (may : Image → Type 0) (v : Image) → may v → Leaves file Same now may v
leaves-start file now may v left = ((v, left, λ other differs. refl), λ settled w told. settled w told v left)

pub leaves-weaker : (file : ℕ) (P R : List ℕ → List ℕ → Type 0) (now : Option Image) (may : Image → Type 0) → ((w : Image) → now ≡ Some w → (bytes : List ℕ) → P (w file) bytes → R (w file) bytes) → (v : Image) → Leaves file P now may v → Leaves file R now may v
leaves-weaker file P R now may wider v left = (left.0, λ settled w told. wider w told (v file) (left.1 settled w told))

-- one step after others
leaves-after : (file : ℕ) (P Q R : List ℕ → List ℕ → Type 0) (now : Option Image) (may mid : Image → Type 0) → ((u : Image) → mid u → Leaves file P now may u)
    → ((w : Image) → now ≡ Some w → (b c : List ℕ) → P (w file) b → Q b c → R (w file) c) → (v : Image) → IsAfter (InFile file Q) mid v → Leaves file R now may v
leaves-after file P Q R now may mid before join v from =
    let was = before from.0 from.1 in (
      (was.0.0, was.0.1, λ other differs. from.2.elsewhere other differs ∙ was.0.2 other differs),
      λ settled w told. join w told (from.0 file) (v file) (was.1 settled w told) from.2.there,
    )

-- what holds where it is told, after a change
pub for_some-after : {T : Type 0} (old new : Option T) (Step : T → T → Type 0) (P Q : T → Type 0) → ForSome old P → Becomes old new Step → ((x y : T) → P x → Step x y → Q y) → ForSome new Q
for_some-after None new Step P Q here step join = λ y is. absurd (cc (step.untold refl, is))
for_some-after (Some x) new Step P Q here step join = λ y is. let z = step.told x refl in subst (λ w. Q w) (cc (z.1, is)) (join x z.0 (here x refl) z.2)

module _ {H : Type 0} (now : H → Option Image) (may : H → Image → Type 0) (clock : H → ℕ) (since : H → ℕ → Moment → Type 0) (said : H → Option (List ℕ)) where
  -- calls that leave all
  pub writes-quiet : (file : ℕ) (old new : H) → LeavesAll now may clock since said old new → Writes now may clock since said file Same old new
  writes-quiet file old new quiet = record {
    moments = moments-weaker clock since old new _ _ quiet.moments (λ m has. (leaves-start file (now old) (may old) m.image has.0, has.1));
    left = λ v left. leaves-start file (now old) (may old) v (quiet.may_stays.no_more v left);
    said_stays = quiet.said_stays;
  }

  -- before the first call
  pub writes-none : (file : ℕ) (host : H) → ((t u : ℕ) (m : Moment) → t ≤ u → since host u m → since host t m) → ((m : Moment) → since host (clock host) m → may host m.image × ForSome (said host) (λ s. m.said ≡ s)) → Writes now may clock since said file Same host host
  writes-none file host sinks only = writes-quiet file host host (leaves_all-none now may clock since said host sinks only)

  -- the same, said with less
  pub writes-weaker : (file : ℕ) (P R : List ℕ → List ℕ → Type 0) (old new : H) → Writes now may clock since said file P old new → ((w : Image) → now old ≡ Some w → (bytes : List ℕ) → P (w file) bytes → R (w file) bytes) → Writes now may clock since said file R old new
  writes-weaker file P R old new run wider =
      let less : (v : Image) → Leaves file P (now old) (may old) v → Leaves file R (now old) (may old) v = leaves-weaker file P R (now old) (may old) wider in
      record {
        moments = moments-weaker clock since old new _ _ run.moments (λ m has. (less m.image has.0, has.1));
        left = λ v left. less v (run.left v left);
        said_stays = run.said_stays;
      }

  -- one write more, whose torn forms have R
  pub writes-more : (file at n : ℕ) (P R : List ℕ → List ℕ → Type 0) (old mid new : H) → Writes now may clock since said file P old mid
      → Follows (InFile file (Torn at n)) (may mid) (may new) → Moments clock since mid new (λ m. IsAfter (InFile file (Torn at n)) (may mid) m.image × ForSome (said mid) (λ s. m.said ≡ s)) → said new ≡ said mid
      → ((w : Image) → now old ≡ Some w → (bytes : List ℕ) → P (w file) bytes → R (w file) bytes) → ((w : Image) → now old ≡ Some w → (b c : List ℕ) → P (w file) b → Torn at n b c → R (w file) c) → Writes now may clock since said file R old new
  writes-more file at n P R old mid new run follows moments silent wider torn =
      let less : (v : Image) → Leaves file P (now old) (may old) v → Leaves file R (now old) (may old) v = leaves-weaker file P R (now old) (may old) wider in
      let more : (v : Image) → IsAfter (InFile file (Torn at n)) (may mid) v → Leaves file R (now old) (may old) v = leaves-after file P (Torn at n) R (now old) (may old) (may mid) run.left torn in
      record {
        moments = moments_then clock since old mid new _ _ _ run.moments moments (λ m has. (less m.image has.0, has.1)) (λ m has. (more m.image has.0, λ s is. has.1 s (run.said_stays ∙ is)));
        left = λ v left. more v (follows v left);
        said_stays = silent ∙ run.said_stays;
      }

  -- a sync
  pub writes-sync : (file : ℕ) (R : List ℕ → List ℕ → Type 0) (old mid new : H) → Writes now may clock since said file R old mid
      → ((v : Image) → may new v → may mid v) → Moments clock since mid new (λ m. may mid m.image × ForSome (said mid) (λ s. m.said ≡ s)) → said new ≡ said mid → Writes now may clock since said file R old new
  writes-sync file R old mid new run fewer moments silent = record {
    moments = moments_then clock since old mid new _ _ _ run.moments moments (λ m has. has) (λ m has. (run.left m.image has.0, λ s is. has.1 s (run.said_stays ∙ is)));
    left = λ v left. run.left v (fewer v left);
    said_stays = silent ∙ run.said_stays;
  }

  -- one call more with a promise of its own
  pub writes-then : (file : ℕ) (P S Q R : List ℕ → List ℕ → Type 0) (old mid new : H) → Writes now may clock since said file P old mid
      → (NothingPending file (now old) (may old) → NothingPending file (now mid) (may mid)) → Becomes (now old) (now mid) (InFile file S) → Writes now may clock since said file Q mid new
      → ((w : Image) → now old ≡ Some w → (bytes : List ℕ) → P (w file) bytes → R (w file) bytes) → ((w : Image) → now old ≡ Some w → (b c : List ℕ) → S (w file) b → Q b c → R (w file) c) → Writes now may clock since said file R old new
  writes-then file P S Q R old mid new run pending became call wider join =
      let less : (v : Image) → Leaves file P (now old) (may old) v → Leaves file R (now old) (may old) v = leaves-weaker file P R (now old) (may old) wider in
      let more : (v : Image) → Leaves file Q (now mid) (may mid) v → Leaves file R (now old) (may old) v = λ v left. leaves-became v left in
      record {
        moments = moments_then clock since old mid new _ _ _ run.moments call.moments (λ m has. (less m.image has.0, has.1)) (λ m has. (more m.image has.0, λ s is. has.1 s (run.said_stays ∙ is)));
        left = λ v left. more v (call.left v left);
        said_stays = call.said_stays ∙ run.said_stays;
      }
    where
      leaves-became : (v : Image) → Leaves file Q (now mid) (may mid) v → Leaves file R (now old) (may old) v
      leaves-became v left =
          let was = run.left left.0.0 left.0.1 in (
            (was.0.0, was.0.1, λ other differs. left.0.2 other differs ∙ was.0.2 other differs),
            λ settled w told. let one = became.told w told in join w told (one.0 file) (v file) one.2.there (left.1 (pending settled) one.0 one.1),
          )

  -- the step of an append, where the frame list ended at its place
  pub writes-from : (file end : ℕ) (R : List ℕ → List ℕ → Type 0) (old new : H) → Writes now may clock since said file (From end R) old new → ForSome (now old) (λ v. EndsAt end (v file)) → Writes now may clock since said file R old new
  writes-from file end R old new run ends = writes-weaker file (From end R) R old new run (λ w told bytes step. step (ends w told))

  -- of another file nothing is pending, where nothing was
  pub writes-others : (file other : ℕ) (S R : List ℕ → List ℕ → Type 0) (old new : H) → other ≢ file → Becomes (now old) (now new) (InFile file S) → Writes now may clock since said file R old new → NothingPending other (now old) (may old) → NothingPending other (now new) (may new)
  writes-others file other S R old new differs became run settled = for_some-after (now old) (now new) (InFile file S) (λ v. (u : Image) → may old u → u other ≡ v other) (λ v. (u : Image) → may new u → u other ≡ v other) settled became (λ x y here step u left.
      let was = (run.left u left).0 in
      was.2 other differs ∙ here was.0 was.1 ∙ sym (step.elsewhere other differs))

-- Calls that only read.
module _ {H : Type 0} (now : H → Option Image) (may : H → Image → Type 0) (clock : H → ℕ) (since : H → ℕ → Moment → Type 0) (said : H → Option (List ℕ)) (disk out looks : H → ℕ) where
  -- before the first one
  pub reads_only-none : (host : H) → ((t u : ℕ) (m : Moment) → t ≤ u → since host u m → since host t m) → ((m : Moment) → since host (clock host) m → may host m.image × ForSome (said host) (λ s. m.said ≡ s)) →
      ReadsOnly now may clock since said disk out looks host host
  reads_only-none host sinks only = record {
    leaves = leaves_all-none now may clock since said host sinks only;
    disk_faults = omega arith;
    out_faults = refl;
    reads = omega arith;
  }

  -- one after another
  pub reads_only-then : (old mid new : H) → ReadsOnly now may clock since said disk out looks old mid → ReadsOnly now may clock since said disk out looks mid new → ReadsOnly now may clock since said disk out looks old new
  reads_only-then old mid new first second = record {
    leaves = leaves_all-then now may clock since said old mid new first.leaves second.leaves;
    disk_faults = omega (arith, first.disk_faults, second.disk_faults);
    out_faults = second.out_faults ∙ first.out_faults;
    reads = omega (arith, first.reads, second.reads);
  }

  -- one that asks for a file's length, and then another
  pub reads_only-behind : (old mid new : H) → LeavesAll now may clock since said old mid → disk old ≤ disk mid → out mid ≡ out old → looks mid ≡ looks old → ReadsOnly now may clock since said disk out looks mid new →
      ReadsOnly now may clock since said disk out looks old new
  reads_only-behind old mid new leaves faults same read second =
      reads_only-then old mid new (record { leaves = leaves; disk_faults = faults; out_faults = same; reads = omega (arith, read) }) second

-- one file changes, and then again
pub in_file-then : (file : ℕ) (P Q R : List ℕ → List ℕ → Type 0) (old mid new : Option Image) → Becomes old mid (InFile file P) → Becomes mid new (InFile file Q) → ((a b c : List ℕ) → P a b → Q b c → R a c) → Becomes old new (InFile file R)
in_file-then file P Q R old mid new first second join = record {
  told = λ x is.
      let y = first.told x is in
      let z = second.told y.0 y.1 in
      (z.0, z.1, record { there = join (x file) (y.0 file) (z.0 file) y.2.there z.2.there; elsewhere = λ other differs. z.2.elsewhere other differs ∙ y.2.elsewhere other differs });
  untold = λ none. second.untold (first.untold none);
}

-- one file changes, where something is known of it
pub in_file-where : (file : ℕ) (P : List ℕ → Type 0) (S R : List ℕ → List ℕ → Type 0) (old new : Option Image) → ForSome old (λ v. P (v file)) → Becomes old new (InFile file S) → ((a b : List ℕ) → P a → S a b → R a b) → Becomes old new (InFile file R)
in_file-where file P S R old new here step join = record {
  told = λ x is. let y = step.told x is in (y.0, y.1, record { there = join (x file) (y.0 file) (here x is) y.2.there; elsewhere = y.2.elsewhere });
  untold = step.untold;
}

-- nothing changes in a file without a frame
pub becomes-none : (file : ℕ) (old new : Option Image) → new ≡ old → ForSome old (λ v. HasPayloads [] (v file)) → Becomes old new (InFile file (λ _ bytes. HasPayloads [] bytes))
becomes-none file old new same none = record { told = λ x is. (x, same ∙ is, record { there = none x is; elsewhere = λ other differs. refl }); untold = λ untold. same ∙ untold }

-- no other file than this one changes, whatever becomes of it

pub others-stay : (file : ℕ) (old new : Option Image) → new ≡ old → Becomes old new (InFile file (λ _ _. ⊤))
others-stay file old new same = record { told = λ x is. (x, same ∙ is, record { there = tt; elsewhere = λ other differs. refl }); untold = λ none. same ∙ none }

pub others-then : (file : ℕ) (P Q : List ℕ → List ℕ → Type 0) (old mid new : Option Image) → Becomes old mid (InFile file P) → Becomes mid new (InFile file Q) → Becomes old new (InFile file (λ _ _. ⊤))
others-then file P Q old mid new first second = in_file-then file P Q (λ _ _. ⊤) old mid new first second (λ a b c p q. tt)

-- a file that stays takes a step that leaves it
pub becomes-kept : (file : ℕ) (Step : List ℕ → List ℕ → Type 0) (old new : Option Image) → new ≡ old → ForSome old (λ v. Step (v file) (v file)) → Becomes old new (InFile file Step)
becomes-kept file Step old new same kept = record {
  told = λ v told. (v, same ∙ told, record { there = kept v told; elsewhere = λ f other. refl });
  untold = λ none. same ∙ none;
}
