use Rattle.std.proofs.Common.{◌≡◌, ◌∙◌, ℕ, List, Option, Some, sym, ap, subst}
use Rattle.std.specs.Option.{ForSome}
use Rattle.rg_host.specs.Effects.{may_after, said_after}
use Rattle.rg_host.specs.Files.{files_of, image_of}
use Rattle.rg_host.specs.Image.{Image}
use Rattle.rg_host.specs.MemHost.{Ledger, begun, now_in, since_in}
use Rattle.rg_host.specs.Picks.{left_after, first_effects}
use Rattle.rg_host.proofs.FileLists.{image_of-files_of}
use Rattle.rg_host.proofs.PickLaws.{since-left, may_after-left}
use Rattle.rg_host.proofs.Results.{if_ok_of}
use Rattle.rg_host.proofs.memory_host.MemHost.stop_image.Goals as goal

pub returns-clause-image : goal.returns-clause-image
returns-clause-image c =
    let kept : image_of (files_of c.in_ok-files.files.items) ≡ left_after c.args.pick (image_of c.self.inside.trace.first) (first_effects c.args.call c.self.inside.trace.effects) =
    λ i file. (image_of-files_of c.in_ok-files.files.items file ∙ c.in_ok-files.ensures.left file) i in
    let picked = kept ∙ ap (λ (host : Ledger). left_after c.args.pick (image_of host.first) (first_effects c.args.call host.effects)) c.self.view_is in
    let Was : Ledger → Type 0 = λ host. host ≡ begun c.of_files.result c.new.result.items in
    let Is : Ledger → Type 0 = λ host. now_in host ≡ Some (left_after c.args.pick (image_of c.args.self.now.first) (first_effects c.args.call c.args.self.now.effects)) in
    if_ok_of c.new-2.result Was Is c.new-2.ensures.begun (λ host is. ap now_in is ∙ ap (λ (files : List (List ℕ)). Some (image_of files)) c.of_files.ensures ∙ ap (λ (v : Image). Some v) picked)

pub returns-clause-moment : goal.returns-clause-moment
returns-clause-moment c =
    let past = first_effects c.args.call c.args.self.now.effects in
    let left = left_after c.args.pick (image_of c.args.self.now.first) past in
    let kept : image_of (files_of c.in_ok-files.files.items) ≡ left_after c.args.pick (image_of c.self.inside.trace.first) (first_effects c.args.call c.self.inside.trace.effects) =
    λ i file. (image_of-files_of c.in_ok-files.files.items file ∙ c.in_ok-files.ensures.left file) i in
    let picked : image_of (files_of c.in_ok-files.files.items) ≡ left = kept ∙ ap (λ (host : Ledger). left_after c.args.pick (image_of host.first) (first_effects c.args.call host.effects)) c.self.view_is in
    let Was : Ledger → Type 0 = λ host. host ≡ begun c.of_files.result c.new.result.items in
    let Is : Ledger → Type 0 = λ host. ForSome (now_in host) (λ v. since_in c.args.self.now c.args.call (record { image = v; said = said_after past })) in
    if_ok_of c.new-2.result Was Is c.new-2.ensures.begun (λ host is v told.
    let now : now_in host ≡ Some left = ap now_in is ∙ ap (λ (files : List (List ℕ)). Some (image_of files)) c.of_files.ensures ∙ ap (λ (v : Image). Some v) picked in
    let same : left ≡ v = let both : ◌≡◌ {A = Option Image} (Some left) (Some v) = sym now ∙ told in cc in
    subst (λ (w : Image). since_in c.args.self.now c.args.call (record { image = w; said = said_after past })) same (since-left c.args.pick (image_of c.args.self.now.first) c.args.self.now.effects c.args.call c.requires))

pub returns-clause-after : goal.returns-clause-after
returns-clause-after c =
    let past = first_effects c.args.call c.args.self.now.effects in
    let left = left_after c.args.pick (image_of c.args.self.now.first) past in
    let kept : image_of (files_of c.in_ok-files.files.items) ≡ left_after c.args.pick (image_of c.self.inside.trace.first) (first_effects c.args.call c.self.inside.trace.effects) =
    λ i file. (image_of-files_of c.in_ok-files.files.items file ∙ c.in_ok-files.ensures.left file) i in
    let picked : image_of (files_of c.in_ok-files.files.items) ≡ left = kept ∙ ap (λ (host : Ledger). left_after c.args.pick (image_of host.first) (first_effects c.args.call host.effects)) c.self.view_is in
    let Was : Ledger → Type 0 = λ host. host ≡ begun c.of_files.result c.new.result.items in
    let Is : Ledger → Type 0 = λ host. ForSome (now_in host) (λ v. may_after (image_of c.args.self.now.first) past v) in
    if_ok_of c.new-2.result Was Is c.new-2.ensures.begun (λ host is v told.
    let now : now_in host ≡ Some left = ap now_in is ∙ ap (λ (files : List (List ℕ)). Some (image_of files)) c.of_files.ensures ∙ ap (λ (v : Image). Some v) picked in
    let same : left ≡ v = let both : ◌≡◌ {A = Option Image} (Some left) (Some v) = sym now ∙ told in cc in
    subst (λ (w : Image). may_after (image_of c.args.self.now.first) past w) same (may_after-left c.args.pick (image_of c.args.self.now.first) past))
