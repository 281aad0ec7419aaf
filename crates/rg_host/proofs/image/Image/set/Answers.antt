use Rattle.std.proofs.Common.{◌∙◌, ℕ, List, ap}
use Rattle.rg_host.specs.Files.{image_of}
use Rattle.rg_host.proofs.FileLists.{set_there, set_elsewhere}
use Rattle.rg_host.proofs.image.Image.set.Goals as goal

pub returns-clause-there : goal.returns-clause-there
returns-clause-there c = set_there _ _ _ c.in_ok-add_missing.ensures.there

pub returns-clause-elsewhere : goal.returns-clause-elsewhere
returns-clause-elsewhere c = λ other differs.
    set_elsewhere _ _ _ other c.in_ok-add_missing.ensures.there differs
    ∙ ap (λ (l : List (List ℕ)). image_of l other) (c.in_ok-add_missing.ensures.same ∙ c.self.view_is)
