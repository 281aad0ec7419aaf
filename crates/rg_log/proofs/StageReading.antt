-- The stages of a frame list are told by its bytes: a payload says one stage.
use Rattle.std.proofs.Common.{◌≡◌, ◌∙◌, ℕ, List, [], ◌∷◌, ◌++◌, length, Option, Some, None, Ok, Err, refl, sym, ap, subst}
use Rattle.std.specs.Int.{w32, to_be_bytes}
use Rattle.rg_bytes.specs.Reading.{list_bytes, u8_at, u32_at}
use Rattle.rg_bytes.proofs.Laws.{u8_read}
use Rattle.rg_event.specs.Codec.{Reading}
use Rattle.rg_event.specs.Shapes.{Shape, schema_text}
use Rattle.rg_event.specs.Tagged.{tagged_bytes}
use Rattle.rg_event.specs.declared.codec.EventFault.TheVariants.{Short}
use Rattle.rg_event.specs.declared.event.Event.{Event}
use Rattle.rg_growth.specs.Payloads.{IsGrowth, growth_of}
use Rattle.rg_growth.specs.declared.growth.Growth.{Growth}
use Rattle.rg_growth.proofs.Laws.{growth_back}
use Rattle.rg_chunk.specs.Chunks.{chunk_of}
use Rattle.rg_chunk.specs.Heads.{layout_said, headed_at, stamp_at, head_at, head_of, head_for}
use Rattle.rg_chunk.specs.declared.head.Layout.{Layout}
use Rattle.rg_chunk.specs.declared.head.ChunkHead.{ChunkHead}
use Rattle.rg_chunk.proofs.Laws.{chunk_head}
use Rattle.rg_log.specs.Payloads.{IsChunkOf}
use Rattle.rg_log.specs.Stages.{Stage, chunk, growth, shape_after, in_force, IsStage, AreStages, HasStages}
use Rattle.rg_log.proofs.Decoded.{both_read, same_pair}
use Rattle.rg_log.proofs.Shapes.{same_some, one_shape}

not_headed : (said : Option Layout) (head : ChunkHead) (left : List ℕ) (out : Layout × ChunkHead) (rest : List ℕ) → said ≡ None → headed_at said head left ≡ Ok (out, rest) → ⊥
not_headed None head left out rest none e = absurd cc
not_headed (Some layout) head left out rest none e = absurd cc

no_head_at : (bytes : List ℕ) (said : Layout × ChunkHead) (left : List ℕ) → head_at (71 ∷ bytes) ≡ Ok (said, left) → ⊥
unfolding head_at
no_head_at bytes said left is =
    let one = both_read (u8_at Short (71 ∷ bytes)) _ said left is in
    let two = both_read (u32_at Short one.left) _ said left one.more in
    let three = both_read (stamp_at two.left) _ said left two.more in
    let four = both_read (stamp_at three.left) _ said left three.more in
    let tag : one.value ≡ 71 = (same_pair (u8_at Short (71 ∷ bytes)) one.value 71 one.left bytes one.is (u8_read Short (71 ∷ bytes) 71 bytes refl)).0 in
    let head : ChunkHead = record { count = two.value; first_offset = three.value.0; first_time = three.value.1; last_offset = four.value.0; last_time = four.value.1 } in
    not_headed (layout_said one.value) head four.left said left (ap layout_said tag) four.more

-- no head of a chunk begins with the byte 47 in hexadecimal
no_head : (bytes : List ℕ) → head_of (71 ∷ bytes) ≡ None
no_head bytes = by (head_at (71 ∷ bytes)) refl
  where
    by : (r : Reading (Layout × ChunkHead)) → head_at (71 ∷ bytes) ≡ r → head_of (71 ∷ bytes) ≡ None
    by (Ok (said, left)) is = absurd (no_head_at bytes said left is)
    by (Err fault) is = rw is refl

-- the payload of a growth has no head of a chunk
pub growth_headless : (shape : Shape) (payload : List ℕ) (grown : Growth) → IsGrowth shape payload grown → head_of payload ≡ None
growth_headless shape payload grown is =
    let text = schema_text grown.to in
    ap head_of is.is ∙ no_head ((to_be_bytes w32 (length text) ++ text) ++ list_bytes tagged_bytes grown.values)

pub growth_read : (shape : Shape) (payload : List ℕ) (grown : Growth) → IsGrowth shape payload grown → growth_of shape payload ≡ Some grown
growth_read shape payload grown is = ap (growth_of shape) is.is ∙ growth_back shape grown is.of

-- so a growth is no chunk
not_both : (shape : Shape) (payload : List ℕ) (events : List Event) (grown : Growth) → IsChunkOf shape payload events → IsGrowth shape payload grown → ⊥
not_both shape payload events grown events_said growth_said =
    let head : head_of payload ≡ Some (head_for events) = chunk_head shape.fields payload events events_said.said in
    absurd (let e : None ≡ Some (head_for events) = sym (growth_headless shape payload grown growth_said) ∙ head in cc)

one_growth : (shape : Shape) (payload : List ℕ) (a b : Growth) → IsGrowth shape payload a → IsGrowth shape payload b → a ≡ b
one_growth shape payload a b x y = same_some (growth_of shape payload) a b (growth_read shape payload a x) (growth_read shape payload b y)

pub one_stage : (shape : Shape) (payload : List ℕ) (a b : Stage) → IsStage shape payload a → IsStage shape payload b → a ≡ b
one_stage shape payload (chunk a) (chunk b) x y = ap (λ (l : List Event). chunk l) (same_some (chunk_of shape.fields payload) a b x.said y.said)
one_stage shape payload (chunk a) (growth b) x y = absurd (not_both shape payload a b x y)
one_stage shape payload (growth a) (chunk b) x y = absurd (not_both shape payload b a y x)
one_stage shape payload (growth a) (growth b) x y = ap (λ (g : Growth). growth g) (one_growth shape payload a b x y)

pub one_stages : (shape : Shape) (payloads : List (List ℕ)) (a b : List Stage) → AreStages shape payloads a → AreStages shape payloads b → a ≡ b
one_stages shape [] [] [] x y = refl
one_stages shape [] [] (t ∷ b) x y = absurd y
one_stages shape [] (s ∷ a) b x y = absurd x
one_stages shape (p ∷ payloads) [] b x y = absurd x
one_stages shape (p ∷ payloads) (s ∷ a) [] x y = absurd y
one_stages shape (p ∷ payloads) (s ∷ a) (t ∷ b) x y =
    let e : s ≡ t = one_stage shape p s t x.0 y.0 in
    let rest : a ≡ b = one_stages (shape_after shape t) payloads a b (subst (λ (u : Stage). AreStages (shape_after shape u) payloads a) e x.1) y.1 in
    ap (λ (u : Stage). u ∷ a) e ∙ ap (λ (l : List Stage). t ∷ l) rest

pub record OneLog (first : List ℕ) (payloads : List (List ℕ)) (shape other : Shape) (a b : List Stage) : Type 0 where
  pub stages : a ≡ b
  pub shapes : shape ≡ other

pub one_log : (first : List ℕ) (payloads : List (List ℕ)) (shape other : Shape) (a b : List Stage) → HasStages shape (first ∷ payloads) a → HasStages other (first ∷ payloads) b → OneLog first payloads shape other a b
one_log first payloads shape other a b x y =
    let begun : x.0 ≡ y.0 = one_shape x.0 y.0 x.1 y.1 (sym x.2 ∙ y.2) in
    let same : a ≡ b = one_stages y.0 payloads a b (subst (λ (s : Shape). AreStages s payloads a) begun x.3) y.3 in
    record { stages = same; shapes = sym x.4 ∙ ap (λ (s : Shape). in_force s a) begun ∙ ap (in_force y.0) same ∙ y.4 }

pub stages_by : (payloads : List (List ℕ)) (shape other : Shape) (a b : List Stage) → HasStages shape payloads a → HasStages other payloads b → a ≡ b
stages_by [] shape other a b x y = x ∙ sym y
stages_by (first ∷ payloads) shape other a b x y = (one_log first payloads shape other a b x y).stages
