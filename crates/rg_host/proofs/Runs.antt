-- How runs of calls on a host join.
use Rattle.std.proofs.Common.{◌≡◌, ◌≢◌, inl, inr, ⊎_elim, ℕ, ◌≤◌, List, Option, Some, None, refl, sym, ◌∙◌, ap, subst, arith}
use Rattle.std.specs.Option.{ForSome}
use Rattle.rg_host.specs.Image.{Image, Becomes, InFile, Follows, SameOutcomes, NothingPending}
use Rattle.rg_host.specs.Moments.{Moment, Moments, LeavesFiles, LeavesAll}

-- a crash may leave the same images

pub same_outcomes : (may : Image → Type 0) → SameOutcomes may may
same_outcomes may = record { no_more = λ v left. left; no_fewer = λ v left. left }

pub same_outcomes-then : (old mid new : Image → Type 0) → SameOutcomes old mid → SameOutcomes mid new → SameOutcomes old new
same_outcomes-then old mid new first second = record {
  no_more = λ v left. first.no_more v (second.no_more v left);
  no_fewer = λ v left. second.no_fewer v (first.no_fewer v left);
}

-- what a told value becomes

pub becomes-same : {T : Type 0} (told : Option T) (Step : T → T → Type 0) → ((x : T) → Step x x) → Becomes told told Step
becomes-same told Step same = record { told = λ x is. (x, is, same x); untold = λ none. none }

pub becomes-then : {T : Type 0} (old mid new : Option T) (P Q R : T → T → Type 0) → Becomes old mid P → Becomes mid new Q → ((x y z : T) → P x y → Q y z → R x z) → Becomes old new R
becomes-then old mid new P Q R first second join = record {
  told = λ x is. let y = first.told x is in let z = second.told y.0 y.1 in (z.0, z.1, join x y.0 z.0 y.2 z.2);
  untold = λ none. second.untold (first.untold none);
}

pub becomes-weaker : {T : Type 0} (old new : Option T) (P R : T → T → Type 0) → Becomes old new P → ((x y : T) → P x y → R x y) → Becomes old new R
becomes-weaker old new P R step weaker = record { told = λ x is. let y = step.told x is in (y.0, y.1, weaker x y.0 y.2); untold = step.untold }

-- the same, where nothing changes before or after the step
pub becomes-after : {T : Type 0} (old mid new : Option T) (Step : T → T → Type 0) → mid ≡ old → Becomes mid new Step → Becomes old new Step
becomes-after old mid new Step same step = subst (λ v. Becomes v new Step) same step

pub becomes-before : {T : Type 0} (old mid new : Option T) (Step : T → T → Type 0) → Becomes old mid Step → new ≡ mid → Becomes old new Step
becomes-before old mid new Step step same = subst (λ v. Becomes old v Step) (sym same) step

-- of a file nothing is pending where the same is told and a crash leaves no more
pub nothing_pending-kept : (file : ℕ) (old new : Option Image) (may_old may_new : Image → Type 0) → new ≡ old → ((v : Image) → may_new v → may_old v) → NothingPending file old may_old → NothingPending file new may_new
nothing_pending-kept file old new may_old may_new same fewer settled = λ v told u left. settled v (sym same ∙ told) u (fewer u left)

-- nor of another file than the one that changes
pub nothing_pending-elsewhere : (file other : ℕ) (P Q : List ℕ → List ℕ → Type 0) (old new : Option Image) (may_old may_new : Image → Type 0) → other ≢ file
    → Becomes old new (InFile file P) → Follows (InFile file Q) may_old may_new → NothingPending other old may_old → NothingPending other new may_new
nothing_pending-elsewhere file other P Q (Some w) new may_old may_new differs step follows settled = λ v told u left.
    let becomes = step.told w refl in
    let same : becomes.0 ≡ v = let both : ◌≡◌ {A = Option Image} (Some becomes.0) (Some v) = sym becomes.1 ∙ told in cc in
    let was = follows u left in
    was.2.elsewhere other differs ∙ settled w refl was.0 was.1 ∙ sym (becomes.2.elsewhere other differs) ∙ ap (λ (i : Image). i other) same
nothing_pending-elsewhere file other P Q None new may_old may_new differs step follows settled = λ v told u left.
    absurd (let none : ◌≡◌ {A = Option Image} None (Some v) = sym (step.untold refl) ∙ told in cc)

module _ {H : Type 0} (clock : H → ℕ) (since : H → ℕ → Moment → Type 0) where
  -- before the first call
  pub moments-none : (host : H) (P : Moment → Type 0) → ((t u : ℕ) (m : Moment) → t ≤ u → since host u m → since host t m) → ((m : Moment) → since host (clock host) m → P m) → Moments clock since host host P
  moments-none host P sinks here = record {
    later = omega arith;
    each = here;
    nothing_else = λ t m le was. inl was;
    keeps = λ t m le was. was;
    adds = λ t m le now. sinks t (clock host) m le now;
  }

  -- one run after another: each moment has what follows from either part
  pub moments_then : (old mid new : H) (P Q R : Moment → Type 0) → Moments clock since old mid P → Moments clock since mid new Q → ((m : Moment) → P m → R m) → ((m : Moment) → Q m → R m) → Moments clock since old new R
  moments_then old mid new P Q R first second by_first by_second = record {
    later = omega (arith, first.later, second.later);
    each = λ m now. ⊎_elim (λ was. by_first m (first.each m was)) (λ late. by_second m (second.each m late)) (second.nothing_else (clock old) m first.later now);
    nothing_else = λ t m le now. ⊎_elim
        (λ was. ⊎_elim (λ early. inl early) (λ mid_way. inr (second.keeps (clock old) m first.later mid_way)) (first.nothing_else t m le was))
        (λ late. inr (second.adds (clock old) m first.later late))
        (second.nothing_else t m (omega (arith, le, first.later)) now);
    keeps = λ t m le was. second.keeps t m (omega (arith, le, first.later)) (first.keeps t m le was);
    adds = λ t m le now. ⊎_elim
        (λ was. second.keeps t m (omega (arith, le, first.later)) (first.adds t m le was))
        (λ late. second.adds t m (omega (arith, le, first.later)) late)
        (second.nothing_else (clock old) m first.later now);
  }

  -- each moment has what follows from what it has
  pub moments-weaker : (old new : H) (P R : Moment → Type 0) → Moments clock since old new P → ((m : Moment) → P m → R m) → Moments clock since old new R
  moments-weaker old new P R run weaker = record { later = run.later; each = λ m now. weaker m (run.each m now); nothing_else = run.nothing_else; keeps = run.keeps; adds = run.adds }

  -- each moment has both
  pub moments-both : (old new : H) (P Q : Moment → Type 0) → Moments clock since old new P → Moments clock since old new Q → Moments clock since old new (λ m. P m × Q m)
  moments-both old new P Q first second = record { later = first.later; each = λ m now. (first.each m now, second.each m now); nothing_else = first.nothing_else; keeps = first.keeps; adds = first.adds }

  -- Calls that put nothing, one after another.
  pub moments-silent : (old mid new : H) (P Q : Image → Type 0) (said mid_said : Option (List ℕ)) → Moments clock since old mid (λ m. P m.image × ForSome said (λ s. m.said ≡ s)) → Moments clock since mid new (λ m. Q m.image × ForSome mid_said (λ s. m.said ≡ s))
      → mid_said ≡ said → ((v : Image) → Q v → P v) → Moments clock since old new (λ m. P m.image × ForSome said (λ s. m.said ≡ s))
  moments-silent old mid new P Q said mid_said first second same fewer = moments_then old mid new _ _ _ first second (λ m has. has) (λ m has. (fewer m.image has.0, λ s is. has.1 s (same ∙ is)))

module _ {H : Type 0} (now : H → Option Image) (may : H → Image → Type 0) (clock : H → ℕ) (since : H → ℕ → Moment → Type 0) where
  pub leaves_files-none : (host : H) → ((t u : ℕ) (m : Moment) → t ≤ u → since host u m → since host t m) → ((m : Moment) → since host (clock host) m → may host m.image) → LeavesFiles now may clock since host host
  leaves_files-none host sinks only = record { now_stays = refl; may_stays = same_outcomes (may host); moments = moments-none clock since host _ sinks only }

  pub leaves_files-then : (old mid new : H) → LeavesFiles now may clock since old mid → LeavesFiles now may clock since mid new → LeavesFiles now may clock since old new
  leaves_files-then old mid new first second = record {
    now_stays = second.now_stays ∙ first.now_stays;
    may_stays = same_outcomes-then (may old) (may mid) (may new) first.may_stays second.may_stays;
    moments = moments_then clock since old mid new _ _ _ first.moments second.moments (λ m left. left) (λ m left. first.may_stays.no_more m.image left);
  }

  module _ (said : H → Option (List ℕ)) where
    pub leaves_all-none : (host : H) → ((t u : ℕ) (m : Moment) → t ≤ u → since host u m → since host t m) → ((m : Moment) → since host (clock host) m → may host m.image × ForSome (said host) (λ s. m.said ≡ s)) → LeavesAll now may clock since said host host
    leaves_all-none host sinks only = record { now_stays = refl; may_stays = same_outcomes (may host); said_stays = refl; moments = moments-none clock since host _ sinks only }

    pub leaves_all-then : (old mid new : H) → LeavesAll now may clock since said old mid → LeavesAll now may clock since said mid new → LeavesAll now may clock since said old new
    leaves_all-then old mid new first second = record {
      now_stays = second.now_stays ∙ first.now_stays;
      may_stays = same_outcomes-then (may old) (may mid) (may new) first.may_stays second.may_stays;
      said_stays = second.said_stays ∙ first.said_stays;
      moments = moments-silent clock since old mid new (may old) (may mid) (said old) (said mid) first.moments second.moments first.said_stays (λ v left. first.may_stays.no_more v left);
    }

    -- of a file of which nothing was pending, nothing is
    pub leaves_all-settled : (file : ℕ) (old new : H) → LeavesAll now may clock since said old new → NothingPending file (now old) (may old) → NothingPending file (now new) (may new)
    leaves_all-settled file old new leaves settled = nothing_pending-kept file (now old) (now new) (may old) (may new) leaves.now_stays leaves.may_stays.no_more settled
