-- Which spots a reservoir names, and where its log is damaged.
use Rattle.std.specs.Prelude.{◌≡◌, ◌⊎◌, ℕ, Bool, true, false, List, [], ◌∷◌, Option, Some}
use Rattle.std.specs.Option.{ForSome}
use Rattle.rg_host.specs.Image.{Image}
use Rattle.rg_event.specs.declared.event.Event.{Event}
use Rattle.rg_past.specs.declared.past.Spot.{Spot}
use Rattle.rg_frame.specs.Frames.{HasPayloads}
use Rattle.rg_reservoir.specs.Attached.{IsBadFrame}
use Rattle.rg_reservoir.specs.Chain.{IsIllegalBy}
use Rattle.rg_reservoir.specs.Kept.{Base, view_of, Spells}
use Rattle.rg_reservoir.specs.Naming.{IsNamed}

-- the host tells its image, and file 2 has a frame list
abbrev pub IsListed : Option Image → Type 0
IsListed now = (v : Image) × (payloads : List (List ℕ)) × (now ≡ Some v) × HasPayloads payloads (v 2)

-- the heads of the chunks in file 2 and its growths name the spot, and its number is at most that of the committed events
pub record HeadsName (now : Option Image) (b : Base) (spot : Spot) : Type 0 where
  pub image : Image
  pub payloads : List (List ℕ)
  pub told : now ≡ Some image
  pub has : HasPayloads payloads (image 2)
  pub is : IsNamed payloads b.committed spot

-- heads and growths name it, where the log hasn't ended and no event is in the open chunk; else it is spelled
abbrev pub NamesIn : Option Image → Base → Bool → List Event → Spot → Type 0
NamesIn now b true opened spot = Spells now b opened spot
NamesIn now b false [] spot = HeadsName now b spot
NamesIn now b false (event ∷ opened) spot = Spells now b (event ∷ opened) spot

-- no legal chunk of the schema that is in force there stands at that place, behind an open gate; or the frame there isn't what its place asks for
abbrev pub IsDamagedIn : Option Image → Base → ℕ → Type 0
IsDamagedIn now b place = ForSome now (λ v. IsIllegalBy (view_of b) place (v b.file)) ⊎ ForSome now (λ v. IsBadFrame place (v 2))
