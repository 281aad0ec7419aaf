-- A call that leaves all leaves the files, and puts nothing.
use Rattle.std.proofs.Common.{◌≡◌, ◌∙◌, ℕ, List, [], Option, Some, None, refl, sym, ap}
use Rattle.std.proofs.lemmas.List.{append-nil}
use Rattle.rg_bytes.specs.Known.{after}
use Rattle.rg_host.specs.Image.{Image}
use Rattle.rg_host.specs.Moments.{Moment, LeavesFiles, LeavesAll}
use Rattle.rg_host.specs.Puts.{Puts}
use Rattle.rg_host.proofs.Laws.{moments-weaker}

nothing_after : (said : Option (List ℕ)) → said ≡ after said []
nothing_after (Some told) = ap (λ v. Some v) (sym (append-nil told))
nothing_after None = refl

module _ {H : Type 0} (now : H → Option Image) (may : H → Image → Type 0) (clock : H → ℕ) (since : H → ℕ → Moment → Type 0) (said : H → Option (List ℕ)) (old new : H) (leaves : LeavesAll now may clock since said old new) where
  pub leaves_files : LeavesFiles now may clock since old new
  leaves_files = record { now_stays = leaves.now_stays; may_stays = leaves.may_stays; moments = moments-weaker clock since old new _ _ leaves.moments (λ m has. has.0) }

  pub puts_nothing : Puts said clock since old new []
  puts_nothing = record {
    grows = leaves.said_stays ∙ nothing_after (said old);
    moments = moments-weaker clock since old new _ _ leaves.moments (λ m has s is. ([], ([], refl), has.1 s is ∙ sym (append-nil s)));
  }
