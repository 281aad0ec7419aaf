use Rattle.std.proofs.Common.{◌≡◌, ◌≤◌, ◌∙◌, ℕ, List, IsTrue, Vec, length, take, sym, ap, subst, arith}
use Rattle.std.specs.List.{list_all}
use Rattle.std.specs.declared.alloc.Global.{Global}
use Rattle.rg_host.specs.CallTrace.{Trace, effects_of, is_named}
use Rattle.rg_host.specs.Effects.{Effect}
use Rattle.rg_host.specs.Files.{bytes_at, files_of, image_of}
use Rattle.rg_host.specs.Picks.{left_after, first_effects}
use Rattle.rg_host.specs.declared.call.Call.{Call}
use Rattle.rg_host.proofs.PickLaws.{effects_of-first, length-effects_of, list_all-first}
use Rattle.rg_host.proofs.Results.{if_ok_of}
use Rattle.rg_host.proofs.call_trace.CallTrace.left_after.Goals as goal

pub replay-requires-clause-named : goal.replay-requires-clause-named
replay-requires-clause-named c =
    subst (λ (l : List Call). IsTrue (list_all is_named (take c.args.calls l))) (sym c.deref-2.ensures.value) (list_all-first is_named c.self.inside.calls.items c.args.calls c.self.invariant.named)

pub returns-clause-left : goal.returns-clause-left
returns-clause-left c =
    let calls = c.self.inside.calls.items in
    let within : c.args.calls ≤ length calls = omega (arith, c.requires, length-effects_of calls, ap (λ (t : Trace). length t.effects) c.self.view_is) in
    let files : files_of c.deref.result.now ≡ c.args.self.now.first = ap files_of c.deref.ensures.value ∙ ap (λ (t : Trace). t.first) c.self.view_is in
    let effects : effects_of (take c.args.calls c.deref-2.result.now) ≡ first_effects c.args.calls c.args.self.now.effects =
    ap (λ (l : List Call). effects_of (take c.args.calls l)) c.deref-2.ensures.value ∙ effects_of-first calls c.args.calls within ∙ ap (λ (t : Trace). first_effects c.args.calls t.effects) c.self.view_is in
    let Was : Vec (Vec ℕ Global) Global → Type 0 = λ copies. (file : ℕ) → bytes_at copies.items file ≡ left_after c.args.pick (image_of (files_of c.deref.result.now)) (effects_of (take c.args.calls c.deref-2.result.now)) file in
    let Is : Vec (Vec ℕ Global) Global → Type 0 = λ copies. (file : ℕ) → bytes_at copies.items file ≡ left_after c.args.pick (image_of c.args.self.now.first) (first_effects c.args.calls c.args.self.now.effects) file in
    if_ok_of c.replay.result Was Is c.replay.ensures.left (λ copies left file.
    left file ∙ ap (λ (l : List (List ℕ)). left_after c.args.pick (image_of l) (effects_of (take c.args.calls c.deref-2.result.now)) file) files ∙ ap (λ (l : List Effect). left_after c.args.pick (image_of c.args.self.now.first) l file) effects)
