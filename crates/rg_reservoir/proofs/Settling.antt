-- Where no growth stands: at the places that a spot is settled to, at those of chunks, and at the end.
use Rattle.std.proofs.Common.{◌≡◌, ◌∙◌, inl, inr, ℕ, ◌+◌, ◌≤◌, ◌<◌, ◌==◌, Bool, true, false, List, [], ◌∷◌, length, Option, Some, None, refl, sym, ap, subst, arith, if◌then◌else◌}
use Rattle.std.proofs.lemmas.Bool.{cases_lt, eqb-false, ne_eqb}
use Rattle.rg_host.specs.Image.{Image}
use Rattle.rg_event.specs.Shapes.{Shape}
use Rattle.rg_event.specs.declared.event.Event.{Event}
use Rattle.rg_frame.specs.Frames.{payload_at}
use Rattle.rg_cache.specs.Cache.{Cache}
use Rattle.rg_log.specs.Log.{schema_payload}
use Rattle.rg_log.specs.Stages.{Stage, chunk, growth}
use Rattle.rg_reservoir.specs.Chain.{Chain}
use Rattle.rg_log.specs.Entries.{entry_of}
use Rattle.rg_log.specs.declared.entry.Entry.{Entry}
use Rattle.rg_log.specs.declared.entry.Entry.TheVariants.{Schema, Chunk, Growth}
use Rattle.rg_reservoir.specs.GrownViews.{growths_from, IsViewOf}
use Rattle.rg_reservoir.specs.Heads.{with_growing, growths_by, growths_in}
use Rattle.rg_reservoir.specs.Kept.{Base, view_of, IsRight, InChunk}
use Rattle.rg_reservoir.specs.Views.{View, passed}
use Rattle.rg_reservoir.specs.declared.growing.Growing.{Growing}
use Rattle.rg_reservoir.specs.declared.kept.Kept.{Kept}
use Rattle.rg_reservoir.proofs.Viewing.{parts, passed_behind}

-- the growths stand one behind another, from that place on
abbrev Rise : ℕ → List Growing → Type 0
Rise place [] = Unit {0}
Rise place (g ∷ growths) = (place ≤ g.place) × (g.place < g.next) × Rise g.next growths

rise_sooner : (growths : List Growing) (place next : ℕ) → place ≤ next → Rise next growths → Rise place growths
rise_sooner [] place next le rise = tt
rise_sooner (g ∷ growths) place next le rise = (omega (arith, le, rise.0), rise.1, rise.2)

-- as those of a frame list do
listed_rise : (place : ℕ) (shape : Shape) (payloads : List (List ℕ)) (stages : List Stage) → Rise place (growths_from place shape payloads stages)
listed_rise place shape [] stages = tt
listed_rise place shape (p ∷ payloads) [] = tt
listed_rise place shape (p ∷ payloads) (chunk events ∷ stages) =
    rise_sooner (growths_from (place + 9 + length p) shape payloads stages) place (place + 9 + length p) (omega arith) (listed_rise (place + 9 + length p) shape payloads stages)
listed_rise place shape (p ∷ payloads) (growth grown ∷ stages) = (omega arith, omega arith, listed_rise (place + 9 + length p) grown.to payloads stages)

-- and those among any frames, by what these say
said_rise : (place : ℕ) (schema : Option Shape) (payloads : List (List ℕ)) → Rise place (growths_by place schema payloads)
said_rise place schema [] = tt
said_rise place schema (p ∷ payloads) = by (λ shape. said_rise (place + 9 + length p) shape payloads) schema (entry_of schema p)
  where
    further : ((shape : Option Shape) → Rise (place + 9 + length p) (growths_by (place + 9 + length p) shape payloads)) → (shape : Option Shape) → Rise place (growths_by (place + 9 + length p) shape payloads)
    further rest shape = rise_sooner (growths_by (place + 9 + length p) shape payloads) place (place + 9 + length p) (omega arith) (rest shape)

    by : ((shape : Option Shape) → Rise (place + 9 + length p) (growths_by (place + 9 + length p) shape payloads)) → (known : Option Shape) (said : Option Entry) → Rise place (with_growing place p known said (λ shape. growths_by (place + 9 + length p) shape payloads))
    by rest known None = tt
    by rest known (Some (Schema shape)) = further rest (Some shape)
    by rest known (Some (Chunk head)) = further rest known
    by rest None (Some (Growth grown)) = further rest (Some grown.to)
    by rest (Some from) (Some (Growth grown)) = (omega arith, omega arith, rest (Some grown.to))

-- none stands in front of the first one
passed_in_front : (growths : List Growing) (place q : ℕ) → Rise place growths → q < place → passed growths q ≡ q
passed_in_front [] place q rise lt = refl
passed_in_front (g ∷ growths) place q rise lt =
    ap (λ (b : Bool). passed growths (if b then g.next else q)) (ne_eqb g.place q (λ e. omega (arith, e, rise.0, lt))) ∙ passed_in_front growths g.next q rise.2 (omega (arith, rise.0, rise.1, lt))

-- and none where others were passed
passed_twice : (growths : List Growing) (place q : ℕ) → Rise place growths → passed growths (passed growths q) ≡ passed growths q
passed_twice [] place q rise = refl
passed_twice (g ∷ growths) place q rise = by (g.place == q) refl (λ (at : ℕ). passed_twice growths g.next at rise.2)
  where
    past : (at : ℕ) → (g.place ≡ passed growths at → ⊥) → passed growths (passed growths at) ≡ passed growths at → passed (g ∷ growths) (passed growths at) ≡ passed growths at
    past at differs again = ap (λ (b : Bool). passed growths (if b then g.next else passed growths at)) (ne_eqb g.place (passed growths at) differs) ∙ again

    apart : (g.place ≡ q → ⊥) → g.place ≡ passed growths q → ⊥
    apart differs same = elim (cases_lt g.place q) [
      | inl lt ↦ omega (arith, lt, same, passed_behind growths q)
      | inr le ↦ differs (same ∙ passed_in_front growths g.next q rise.2 (omega (arith, le, rise.1)))
    ]

    by : (b : Bool) → (g.place == q) ≡ b → ((at : ℕ) → passed growths (passed growths at) ≡ passed growths at) → passed (g ∷ growths) (passed growths (if b then g.next else q)) ≡ passed growths (if b then g.next else q)
    by true is again = past g.next (λ same. omega (arith, same, rise.1, passed_behind growths g.next)) (again g.next)
    by false is again = past q (apart (eqb-false g.place q is)) (again q)

-- behind the growths among any frames that stand at a place there stands no other one
pub said_twice : (growths : List Growing) (payloads : List (List ℕ)) → growths ≡ growths_in payloads → (q : ℕ) → passed growths (passed growths q) ≡ passed growths q
said_twice growths payloads are q = subst (λ (l : List Growing). passed l (passed l q) ≡ passed l q) (sym are) (passed_twice (growths_in payloads) 0 q (said_rise 0 None payloads))

-- behind the growths that stand at a place there stands no other one
pub view_settles : (view : View) (stages : List Stage) (bytes : List ℕ) → IsViewOf view stages bytes → (q : ℕ) → passed view.growths (passed view.growths q) ≡ passed view.growths q
view_settles view stages bytes v q =
    let start = 9 + length (schema_payload v.begun) in
    subst (λ (u : View). passed u.growths (passed u.growths q) ≡ passed u.growths q) (sym v.is) (passed_twice (growths_from start v.begun v.payloads stages) start q (listed_rise start v.begun v.payloads stages))

-- nor behind a chunk, where the next one stands
pub chain_rests : (view : View) (bytes : List ℕ) (place : ℕ) (chunks : List (List Event)) (end : ℕ) → ((q : ℕ) → passed view.growths (passed view.growths q) ≡ passed view.growths q) → passed view.growths place ≡ place → Chain view bytes place chunks end → passed view.growths end ≡ end
chain_rests view bytes place [] end settles rests chain = subst (λ (p : ℕ). passed view.growths p ≡ p) chain rests
chain_rests view bytes place (c ∷ chunks) end settles rests chain =
    let k = parts view place (payload_at place bytes) c chain.0 chain.1 in
    chain_rests view bytes chain.0 chunks end settles (subst (λ (p : ℕ). passed view.growths p ≡ p) k.next_is (settles (place + 9 + length k.payload))) chain.2

module _ (v : Image) (may : Image → Type 0) (b : Base) (opened : List Event) (next time : ℕ) (cache : Cache Kept) (right : IsRight v may b opened next time cache) where
  pub settles : (q : ℕ) → passed b.growths (passed b.growths q) ≡ passed b.growths q
  settles q = view_settles (view_of b) right.stages (v b.file) right.view q

  pub first_rests : passed b.growths b.first ≡ b.first
  first_rests = subst (λ (p : ℕ). passed b.growths p ≡ p) (sym right.first_is) (settles (9 + length (schema_payload right.view.begun)))

  pub end_rests : passed b.growths b.end ≡ b.end
  end_rests = chain_rests (view_of b) (v b.file) b.first right.chunks b.end settles first_rests right.chain

  pub chunk_rests : (place index number : ℕ) → InChunk b (v b.file) place index number → passed b.growths place ≡ place
  chunk_rests place index number i = chain_rests (view_of b) (v b.file) b.first i.chunks place settles first_rests i.chain
