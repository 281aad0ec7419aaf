-- What a commit may leave of the log, and what it leaves.
use Rattle.std.proofs.Common.{◌≡◌, inl, inr, ℕ, ◌≤◌, List, [], ◌∷◌, length, Option, refl, subst, arith}
use Rattle.std.specs.Option.{ForSome}
use Rattle.rg_host.specs.Image.{Image, Becomes, InFile}
use Rattle.rg_host.specs.Moments.{Moment}
use Rattle.rg_host.proofs.Laws.{moments-none, moments-weaker, becomes-weaker}
use Rattle.rg_event.specs.declared.event.Event.{Event}
use Rattle.rg_event.specs.declared.schema.Field.{Field}
use Rattle.rg_frame.specs.Calls.{Writes}
use Rattle.rg_frame.specs.Steps.{Leaves, From, Grows, Appended}
use Rattle.rg_chunk.specs.Chunks.{chunk_bytes}
use Rattle.rg_reservoir.specs.Kept.{Adds, Added}

module _ {H : Type 0} (now : H → Option Image) (may : H → Image → Type 0) (clock : H → ℕ) (since : H → ℕ → Moment → Type 0) (said : H → Option (List ℕ)) where
  -- no call on the host
  pub none_left : (fields : List Field) (end : ℕ) (opened : List Event) (host : H) → ((t u : ℕ) (m : Moment) → t ≤ u → since host u m → since host t m) → ((m : Moment) → since host (clock host) m → may host m.image × ForSome (said host) (λ s. m.said ≡ s))
      → Writes now may clock since said 2 (From end (Adds fields opened)) host host
  none_left fields end opened host sinks only = record {
    moments = moments-none clock since host _ sinks (λ m here. let has = only m here in (same m.image has.0, has.1));
    left = same;
    said_stays = refl;
  }
    where
      same : (v : Image) → may host v → Leaves 2 (From end (Adds fields opened)) (now host) (may host) v
      same v left = ((v, left, λ f other. refl), λ settled w told ends. inl (settled w told v left))

  -- an append of the open chunk
  pub adds_some : (fields : List Field) (file end : ℕ) (opened : List Event) (payload : List ℕ) (old new : H) → file ≡ 2 → 1 ≤ length opened → payload ≡ chunk_bytes fields opened → Writes now may clock since said file (From end (Grows payload)) old new → Writes now may clock since said 2 (From end (Adds fields opened)) old new
  adds_some fields file end opened payload old new at some written first =
      let writes : Writes now may clock since said 2 (From end (Grows payload)) old new = subst (λ (n : ℕ). Writes now may clock since said n (From end (Grows payload)) old new) at first in
      record {
        moments = moments-weaker clock since old new _ _ writes.moments (λ m has. (more m.image has.0, has.1));
        left = λ v left. more v (writes.left v left);
        said_stays = writes.said_stays;
      }
    where
      more : (v : Image) → Leaves 2 (From end (Grows payload)) (now old) (may old) v → Leaves 2 (From end (Adds fields opened)) (now old) (may old) v
      more v left = (left.0, λ settled w told ends. inr (some, subst (λ (p : List ℕ). Grows p (w 2) (v 2)) written (left.1 settled w told ends)))

no_events : (opened : List Event) → length opened ≡ 0 → opened ≡ []
no_events [] none = refl
no_events (e ∷ es) none = absurd (omega arith)

pub none_added : (fields : List Field) (opened : List Event) (end next : ℕ) (now : Option Image) → length opened ≡ 0 → Becomes now now (InFile 2 (From end (Added fields opened next)))
none_added fields opened end next now none = record { told = λ v told. (v, told, record { there = λ ends. inl (no_events opened none, refl); elsewhere = λ f other. refl }); untold = λ no_image. no_image }

pub some_added : (fields : List Field) (file end next : ℕ) (opened : List Event) (payload : List ℕ) (old new : Option Image) → file ≡ 2 → 1 ≤ length opened → payload ≡ chunk_bytes fields opened → Becomes old new (InFile file (Appended end payload next)) → Becomes old new (InFile 2 (From end (Added fields opened next)))
some_added fields file end next opened payload old new at some written first =
    let step : Becomes old new (InFile 2 (Appended end payload next)) = subst (λ (n : ℕ). Becomes old new (InFile n (Appended end payload next))) at first in
    let whole : Becomes old new (InFile 2 (Appended end (chunk_bytes fields opened) next)) = subst (λ (p : List ℕ). Becomes old new (InFile 2 (Appended end p next))) written step in
    becomes-weaker old new _ _ whole (λ x y is. record { there = λ ends. let a = is.there ends in inr (some, a.0, a.1); elsewhere = is.elsewhere })
