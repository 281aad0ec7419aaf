-- The events of a chunk, one after another.
use Rattle.std.proofs.Common.{◌≡◌, ◌∙◌, ℕ, ◌+◌, ◌<◌, List, [], ◌∷◌, ◌++◌, length, take, get_or, Some, None, ap, sym, arith, append_assoc}
use Rattle.std.proofs.lemmas.List.{take_more}
use Rattle.std.proofs.lemmas.Option.{slice_get_within, slice_get-get_or}
use Rattle.std.specs.Prelude.{slice_get}
use Rattle.rg_event.specs.declared.event.Event.{Event}

pub has_event : (chunk : List Event) (i : ℕ) → i < length chunk → slice_get chunk i ≡ None → ⊥
has_event [] i within none = omega (arith, within)
has_event (x ∷ chunk) i within none = let e : Some (get_or (x ∷ chunk) i x) ≡ None = sym (slice_get-get_or (x ∷ chunk) i x within) ∙ none in cc

take_next : (chunk : List Event) (i : ℕ) (x : Event) → slice_get chunk i ≡ Some x → take (i + 1) chunk ≡ take i chunk ++ x ∷ []
take_next chunk i x is =
    let within = slice_get_within chunk i x is in
    let e : Some (get_or chunk i x) ≡ Some x = sym (slice_get-get_or chunk i x within) ∙ is in
    let same : get_or chunk i x ≡ x = cc in
    take_more chunk i x within ∙ ap (λ y. take i chunk ++ y ∷ []) same

pub pushed : (before old new chunk : List Event) (i : ℕ) (x : Event) → slice_get chunk i ≡ Some x → old ≡ before ++ take i chunk → new ≡ old ++ x ∷ [] → new ≡ before ++ take (i + 1) chunk
pushed before old new chunk i x is so_far more =
    more ∙ ap (λ (l : List Event). l ++ x ∷ []) so_far ∙ append_assoc before (take i chunk) (x ∷ []) ∙ ap (λ (l : List Event). before ++ l) (sym (take_next chunk i x is))
