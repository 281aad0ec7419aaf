-- What a look leaves, said more loosely: from an impl's clauses to its trait's.
use mathlib.Core.List.{[], ◌∷◌}
use mathlib.Core.Option.{Option}
use seplogic.Ra.Ura.{Ura}
use base.Logic.{SProp, ent, sep, ex, wand, all, all_i, wand_i, ex_i, emp, emp∗, via, snd∗, mono_l, comm∗}
use base.Fml.{Fml, fex, GName}
use base.Stored.{Gv}
use types.Logic.{Logic, sem}
use types.Kit.{‵, ◌$◌, ◌∵◌, !, qed, fpick, fpack, done}
use denote.Follow.{follows_by, such_by}
use borrow.Fn.Refines.{Turns}

module _ {M : Type 1} {𝓤 : Ura M} (𝓛 : Logic 𝓤) (D E : Type 0) (c : D → Gv) (d : E → Gv) (γ : GName) (m : Option GName) (P : E → D → Type 0) where
  abbrev Ends : (D → Type 0) → Type 0
  Ends Q = (s : (E → D) × D) × ((w : E) → P w (s.0 w)) × Q s.1

  abbrev follows_at : (Q : D → Type 0) → Ends Q → Fml
  follows_at Q s = follows_by D E c d γ m s.0.0 s.0.1

  -- a lender that ends so ends as what follows from it
  pub such_weaker : (P₀ P₁ : D → Type 0) → ((x : D) → P₀ x → P₁ x) → ent 𝓤 (sem 𝓛 (such_by D E c d γ m P P₀)) (sem 𝓛 (such_by D E c d γ m P P₁))
  unfolding such_by
  such_weaker P₀ P₁ less = qed 𝓛 (‵ (fex (Ends P₀) (follows_at P₀)) ∷ []) ∵ fpick ! (λ s. fpack ! (Ends P₁) (follows_at P₁) (s.0, s.1, less s.0.1 s.2) $ done !)

-- clauses that ask the same and ensure no less
pub gives_more : {M : Type 1} (𝓤 : Ura M) (P : SProp 𝓤) (R X : Type 0) (A B : R → X → SProp 𝓤) → ((r : R) (e : X) → ent 𝓤 (A r e) (B r e)) → ent 𝓤 P (ex 𝓤 (λ (g : Unit {0}). sep 𝓤 P (Turns 𝓤 R X A B)))
gives_more 𝓤 P R X A B less =
    let W : SProp 𝓤 = Turns 𝓤 R X A B in
    let kept : ent 𝓤 (emp 𝓤) W = all_i 𝓤 (λ (r : R). all 𝓤 (λ (e : X). wand 𝓤 (A r e) (B r e))) (λ r. all_i 𝓤 (λ (e : X). wand 𝓤 (A r e) (B r e)) (λ e. wand_i 𝓤 (emp 𝓤) (A r e) (B r e) (via 𝓤 (A r e) (snd∗ 𝓤 (emp 𝓤) (A r e)) (less r e)))) in
    via 𝓤 (sep 𝓤 P W) (via 𝓤 (sep 𝓤 W P) (via 𝓤 (sep 𝓤 (emp 𝓤) P) (emp∗ 𝓤 P) (mono_l 𝓤 P kept)) (comm∗ 𝓤 W P)) (ex_i 𝓤 (λ (g : Unit {0}). sep 𝓤 P W) tt)
