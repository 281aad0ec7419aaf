-- What the step that judges each frame makes of a schema's frame, of a chunk and of a growth.
use Rattle.std.proofs.Common.{◌≡◌, ◌∙◌, ℕ, ◌+◌, Bool, true, false, List, take, Option, Some, None, option_map, option_and_then, if◌then◌else◌, refl, sym, ap, arith}
use Rattle.rg_event.specs.Shapes.{Shape, IsSchema}
use Rattle.rg_growth.specs.Payloads.{IsGrowth, growth_of}
use Rattle.rg_growth.specs.declared.growth.Growth.{Growth as TheGrowth}
use Rattle.rg_chunk.specs.Heads.{head_of, head_for}
use Rattle.rg_chunk.specs.declared.head.ChunkHead.{ChunkHead}
use Rattle.rg_chunk.proofs.Laws.{chunk_head}
use Rattle.rg_log.specs.Entries.{nothing, may_follow, added, told_by, unread, behind, count_of, shape_behind, head_or, further_entry, entry_of, with_entry, entry_after}
use Rattle.rg_log.specs.Payloads.{schema_payload, schema_of}
use Rattle.rg_log.specs.Stages.{Stage, chunk, growth, shape_after, IsStage}
use Rattle.rg_log.specs.declared.entry.Entry.{Entry}
use Rattle.rg_log.specs.declared.entry.Entry.TheVariants.{Schema, Chunk, Growth}
use Rattle.rg_log.specs.declared.entry.LogSoFar.{LogSoFar}
use Rattle.rg_log.specs.declared.summary.LogSummary.{LogSummary}
use Rattle.rg_log.proofs.ChunkHeads.{head_same}
use Rattle.rg_log.proofs.Exact.{schema_is}
use Rattle.rg_log.proofs.Reading.{schema_said}
use Rattle.rg_log.proofs.Shapes.{same_some}
use Rattle.rg_log.proofs.StageReading.{growth_headless, growth_read}

pub schema_read : (payload : List ℕ) (shape : Shape) → IsSchema shape → payload ≡ schema_payload shape → schema_of payload ≡ Some shape
schema_read payload shape legal is = ap schema_of is ∙ schema_said shape legal

pub no_schema : (payload : List ℕ) → ((shape : Shape) → IsSchema shape → payload ≡ schema_payload shape → ⊥) → schema_of payload ≡ None
no_schema payload none = by (schema_of payload) refl
  where
    by : (o : Option Shape) → schema_of payload ≡ o → o ≡ None
    by None is = refl
    by (Some shape) is = let s = schema_is payload shape is in absurd (none shape s.0 s.1)

-- the first frame

abbrev first_step : Option Shape → Option LogSoFar
first_step said = option_and_then (with_entry unread) (option_map (λ (shape : Shape). Schema shape) said)

pub first : (shape : Shape) → IsSchema shape → entry_after unread (schema_payload shape) ≡ Some (behind shape nothing)
first shape legal = ap first_step (schema_said shape legal)

abbrev IsFirst : List ℕ → LogSoFar → Type 0
IsFirst payload next = (shape : Shape) × IsSchema shape × (payload ≡ schema_payload shape) × (next ≡ behind shape nothing)

pub only_first : (payload : List ℕ) (next : LogSoFar) → entry_after unread payload ≡ Some next → IsFirst payload next
only_first payload next is = by (schema_of payload) refl is
  where
    by : (o : Option Shape) → schema_of payload ≡ o → first_step o ≡ Some next → IsFirst payload next
    by None said e = absurd (let f : None ≡ Some next = e in cc)
    by (Some shape) said e = let s = schema_is payload shape said in (shape, s.0, s.1, sym (same_some (Some (behind shape nothing)) (behind shape nothing) next refl e))

-- where it takes no first frame, there is none of a schema
pub no_first : (payload : List ℕ) → entry_after unread payload ≡ None → (shape : Shape) → IsSchema shape → payload ≡ schema_payload shape → ⊥
no_first payload none shape legal is = absurd (let f : Some (behind shape nothing) ≡ None = sym (first shape legal) ∙ ap (entry_after unread) (sym is) ∙ none in cc)

-- each further frame

-- what stands behind some frames is known by the schema in force there and by what the chunks come to
pub behind_is : (so_far : LogSoFar) (shape : Shape) → so_far.schema ≡ Some shape → so_far ≡ behind shape so_far.summary
behind_is so_far shape is = λ i. record { schema = is i; summary = so_far.summary }

-- a chunk is one by its head
pub head_entry : (shape : Shape) (payload : List ℕ) (head : ChunkHead) → head_of payload ≡ Some head → further_entry shape payload ≡ Some (Chunk head)
head_entry shape payload head is = ap (λ (o : Option ChunkHead). head_or o (growth_of shape payload)) is

-- so by the first 37 bytes of its payload
pub front_entry : (shape : Shape) (front payload : List ℕ) (head : ChunkHead) → head_of front ≡ Some head → take 37 front ≡ take 37 payload → further_entry shape payload ≡ Some (Chunk head)
front_entry shape front payload head is same = head_entry shape payload head (sym (head_same front payload same) ∙ is)

-- what is no chunk is what is read of it as a growth
pub growth_entry : (shape : Shape) (payload : List ℕ) (said : Option TheGrowth) → head_of payload ≡ None → growth_of shape payload ≡ said → further_entry shape payload ≡ option_map (λ (g : TheGrowth). Growth g) said
growth_entry shape payload said headless is = ap (λ (o : Option ChunkHead). head_or o (growth_of shape payload)) headless ∙ ap (option_map (λ (g : TheGrowth). Growth g)) is

-- what the frame of a stage is
abbrev pub entry_for : Stage → Entry
entry_for (chunk c) = Chunk (head_for c)
entry_for (growth g) = Growth g

pub entry_said : (shape : Shape) (payload : List ℕ) (stage : Stage) → IsStage shape payload stage → further_entry shape payload ≡ Some (entry_for stage)
entry_said shape payload (chunk c) is = head_entry shape payload (head_for c) (chunk_head shape.fields payload c is.said)
entry_said shape payload (growth g) is = growth_entry shape payload (Some g) (growth_headless shape payload g is) (growth_read shape payload g is)

-- which schema is in force behind it
pub shape_same : (shape : Shape) (stage : Stage) → shape_behind shape (entry_for stage) ≡ shape_after shape stage
shape_same shape (chunk c) = refl
shape_same shape (growth g) = refl

abbrev step_by : LogSoFar → Option Entry → Option LogSoFar
step_by so_far entry = option_and_then (with_entry so_far) entry

pub chunk_step : (shape : Shape) (summary : LogSummary) (payload : List ℕ) (head : ChunkHead) → head_of payload ≡ Some head → entry_after (behind shape summary) payload ≡ option_map (behind shape) (told_by summary (Some head))
chunk_step shape summary payload head is = ap (step_by (behind shape summary)) (head_entry shape payload head is)

pub growth_step : (shape : Shape) (summary : LogSummary) (payload : List ℕ) (grown : TheGrowth) → IsGrowth shape payload grown → entry_after (behind shape summary) payload ≡ Some (behind grown.to summary)
growth_step shape summary payload grown is = ap (step_by (behind shape summary)) (entry_said shape payload (growth grown) is)

pub no_step : (shape : Shape) (summary : LogSummary) (payload : List ℕ) → head_of payload ≡ None → growth_of shape payload ≡ None → entry_after (behind shape summary) payload ≡ None
no_step shape summary payload headless ungrown = ap (step_by (behind shape summary)) (growth_entry shape payload None headless ungrown)

-- a frame that is a chunk is one by the first 37 bytes of its payload
pub front : (shape : Shape) (a b : List ℕ) (head : ChunkHead) → take 37 a ≡ take 37 b → further_entry shape a ≡ Some (Chunk head) → further_entry shape b ≡ Some (Chunk head)
front shape a b head same is = by (head_of a) refl is
  where
    not_grown : (o : Option TheGrowth) → option_map (λ (g : TheGrowth). Growth g) o ≡ Some (Chunk head) → further_entry shape b ≡ Some (Chunk head)
    not_grown None e = absurd cc
    not_grown (Some g) e = absurd cc

    by : (o : Option ChunkHead) → head_of a ≡ o → head_or o (growth_of shape a) ≡ Some (Chunk head) → further_entry shape b ≡ Some (Chunk head)
    by None said e = not_grown (growth_of shape a) e
    by (Some h) said e = ap (λ (o : Option ChunkHead). head_or o (growth_of shape b)) (sym (head_same a b same) ∙ said) ∙ e

-- it counts its events, and says which schema is in force behind it
abbrev IsCounted : Shape → LogSummary → List ℕ → LogSoFar → Type 0
IsCounted shape summary payload next =
    (entry : Entry) × (further_entry shape payload ≡ Some entry) × (next.summary.count ≡ summary.count + count_of entry) × (next.schema ≡ Some (shape_behind shape entry))

pub counted : (shape : Shape) (summary : LogSummary) (payload : List ℕ) (next : LogSoFar) → entry_after (behind shape summary) payload ≡ Some next → IsCounted shape summary payload next
counted shape summary payload next is = by (further_entry shape payload) refl is
  where
    left : (entry : Entry) (other : Shape) → further_entry shape payload ≡ Some entry → count_of entry ≡ 0 → shape_behind shape entry ≡ other → Some (behind other summary) ≡ Some next → IsCounted shape summary payload next
    left entry other said none moved e =
        let same : behind other summary ≡ next = same_some (Some (behind other summary)) (behind other summary) next refl e in
        let count : summary.count ≡ next.summary.count = ap (λ (s : LogSoFar). s.summary.count) same in
        (entry, said, omega (arith, count, none), ap (λ (s : LogSoFar). s.schema) (sym same) ∙ ap (λ (s : Shape). Some s) (sym moved))

    may : (head : ChunkHead) (b : Bool) → further_entry shape payload ≡ Some (Chunk head) → option_map (behind shape) (if b then Some (added summary head) else None) ≡ Some next → IsCounted shape summary payload next
    may head false said e = absurd (let f : None ≡ Some next = e in cc)
    may head true said e =
        let same : behind shape (added summary head) ≡ next = same_some (Some (behind shape (added summary head))) (behind shape (added summary head)) next refl e in
        (Chunk head, said, ap (λ (s : LogSoFar). s.summary.count) (sym same), ap (λ (s : LogSoFar). s.schema) (sym same))

    by : (o : Option Entry) → further_entry shape payload ≡ o → step_by (behind shape summary) o ≡ Some next → IsCounted shape summary payload next
    by None said e = absurd (let f : None ≡ Some next = e in cc)
    by (Some (Schema other)) said e = left (Schema other) other said refl refl e
    by (Some (Chunk head)) said e = may head (may_follow summary head) said e
    by (Some (Growth g)) said e = left (Growth g) g.to said refl refl e

-- what a frame is, and what it makes of the frames before it, is what they say with it
pub further : (payload : List ℕ) (old new : LogSoFar) (entry : Entry) → entry_of old.schema payload ≡ Some entry → with_entry old entry ≡ Some new → entry_after old payload ≡ Some new
further payload old new entry is with = ap (option_and_then (with_entry old)) is ∙ with

-- and where it may not follow
pub not_further : (payload : List ℕ) (old : LogSoFar) (entry : Entry) → entry_of old.schema payload ≡ Some entry → with_entry old entry ≡ None → entry_after old payload ≡ None
not_further payload old entry is with = ap (option_and_then (with_entry old)) is ∙ with

-- or is none
pub no_further : (payload : List ℕ) (old : LogSoFar) → entry_of old.schema payload ≡ None → entry_after old payload ≡ None
no_further payload old is = ap (option_and_then (with_entry old)) is
