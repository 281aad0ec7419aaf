-- How the buffers of a trace grow with a call.
use Rattle.std.proofs.Common.{◌≡◌, ℕ, ◌^◌, ◌≤◌, IsTrue, List, [], ◌∷◌, ◌++◌, length, map, Vec, refl, sym, ◌∙◌, ap, subst}
use Rattle.std.proofs.lemmas.List.{reverse-append}
use Rattle.std.specs.List.{list_all}
use Rattle.std.specs.declared.alloc.Global.{Global}
use Rattle.rg_host.specs.Files.{files_of, image_of, bytes_at}
use Rattle.rg_host.specs.Effects.{Effect, now_after, said_after}
use Rattle.rg_host.specs.CallTrace.{IsKept, is_named, effect_of, effects_of}
use Rattle.rg_host.specs.declared.call.Call.{Call}
use Rattle.rg_host.proofs.FileLists.{image_of-files_of}

-- one call more
pub effects_of_more : (calls : List Call) (call : Call) → effects_of (calls ++ call ∷ []) ≡ effect_of call ∷ effects_of calls
effects_of_more calls call = ap (map effect_of) (reverse-append calls (call ∷ []))

-- before the first call
pub kept-none : (first files : List (Vec ℕ Global)) (output : List ℕ) (calls : List Call) → output ≡ [] → calls ≡ [] → length first ≤ 8 → length files ≡ 8
    → ((file : ℕ) → bytes_at files file ≡ bytes_at first file) → ((file : ℕ) → length (bytes_at files file) ≤ 2 ^ 62) → IsKept first files output calls
kept-none first files output calls no_output no_calls few eight same small =
    let none : effects_of calls ≡ [] = ap effects_of no_calls in
    record {
      few = few;
      eight = eight;
      now = λ file. same file ∙ sym (image_of-files_of first file) ∙ ap (λ (l : List Effect). now_after (image_of (files_of first)) l file) (sym none);
      small = small;
      said = no_output ∙ ap said_after (sym none);
      named = subst (λ (l : List Call). IsTrue (list_all is_named l)) (sym no_calls) refl;
    }
