-- The growths among the frames of a log, gathered one after another.
use Rattle.std.proofs.Common.{◌≡◌, ◌∙◌, ℕ, ◌+◌, ◌^◌, ◌≤◌, ◌==◌, List, [], ◌∷◌, ◌++◌, length, Option, Some, None, option_map, option_and_then, refl, sym, ap, subst, arith, append_assoc, if◌then◌else◌}
use Rattle.std.proofs.Math.Bridge.{le_prop}
use Rattle.std.proofs.lemmas.List.{append-nil}
use Rattle.std.proofs.lemmas.List.Elements.{All-nil, All-cons}
use Rattle.rg_event.specs.Shapes.{Shape, IsSchema}
use Rattle.rg_event.specs.declared.value.Value.{Value}
use Rattle.rg_growth.specs.Payloads.{IsGrowth, growth_of}
use Rattle.rg_growth.specs.declared.growth.Growth.{Growth as TheGrowth}
use Rattle.rg_frame.specs.Frames.{frames, FitsFrame, Begins, IsLog, HasPayloads}
use Rattle.rg_frame.proofs.Laws.{length-frames}
use Rattle.rg_chunk.specs.Heads.{head_of, head_for}
use Rattle.rg_chunk.specs.declared.head.ChunkHead.{ChunkHead}
use Rattle.rg_chunk.proofs.Laws.{chunk_head}
use Rattle.rg_log.specs.declared.entry.Entry.{Entry}
use Rattle.rg_log.specs.declared.entry.Entry.TheVariants.{Schema, Chunk, Growth}
use Rattle.rg_log.specs.declared.entry.LogSoFar.{LogSoFar}
use Rattle.rg_log.specs.declared.summary.LogSummary.{LogSummary}
use Rattle.rg_log.specs.Entries.{unread, told_by, head_or, entry_of, with_entry, entry_after, entries_after}
use Rattle.rg_log.specs.Log.{schema_payload}
use Rattle.rg_log.specs.Stages.{Stage, chunk, growth, AreStages}
use Rattle.rg_log.proofs.Laws.{two_steps, schema_said, growth_headless, growth_read}
use Rattle.rg_reservoir.specs.Heads.{EntryAt, IsPassed, with_growing, growths_by, growths_in, Gathered, GrowsWith}
use Rattle.rg_reservoir.specs.HeadsRead.{IsReadLog}
use Rattle.rg_reservoir.specs.GrownViews.{growing_at, growths_from}
use Rattle.rg_reservoir.specs.Views.{passed}
use Rattle.rg_reservoir.specs.declared.growing.Growing.{Growing}
use Rattle.rg_reservoir.proofs.Heading.{passed_start, step_passed, passed_more}
use Rattle.rg_reservoir.proofs.Listing.{list_goes_on}

-- a growth is known by its place, the next one, the schema in front of it and its values
growing_same : (place next : ℕ) (from : Shape) (payload : List ℕ) (values : List Value) (behind : place ≤ next) → next ≡ place + 9 + length payload → record { place = place; next = next; from = from; values = values; behind = behind } ≡ growing_at place from payload values
growing_same place next from payload values behind is =
    subst (λ (n : ℕ). (b : place ≤ n) → record { place = place; next = n; from = from; values = values; behind = b } ≡ growing_at place from payload values) (sym is)
    (λ b. ap {B = Growing} (λ (c : place ≤ place + 9 + length payload). record { place = place; next = place + 9 + length payload; from = from; values = values; behind = c }) (le_prop b (growing_at place from payload values).behind)) behind

-- the same of a copy of the schema
pub growing_kept : (place next : ℕ) (from known : Shape) (payload : List ℕ) (values : List Value) (behind : place ≤ next) → known ≡ from → next ≡ place + 9 + length payload → record { place = place; next = next; from = known; values = values; behind = behind } ≡ growing_at place from payload values
growing_kept place next from known payload values behind same is = growing_same place next known payload values behind is ∙ ap (λ (s : Shape). growing_at place s payload values) same

-- the growth that a frame is, if it is one, and the schema in force behind it

abbrev own : ℕ → List ℕ → Option Shape → Entry → List Growing
own place p schema (Schema shape) = []
own place p schema (Chunk head) = []
own place p None (Growth g) = []
own place p (Some from) (Growth g) = growing_at place from p g.values ∷ []

abbrev schema_behind : Option Shape → Entry → Option Shape
schema_behind schema (Schema shape) = Some shape
schema_behind schema (Chunk head) = schema
schema_behind schema (Growth g) = Some g.to

own_first : (place : ℕ) (p : List ℕ) (schema : Option Shape) (entry : Entry) (further : Option Shape → List Growing) → with_growing place p schema (Some entry) further ≡ own place p schema entry ++ further (schema_behind schema entry)
own_first place p schema (Schema shape) further = refl
own_first place p schema (Chunk head) further = refl
own_first place p None (Growth g) further = refl
own_first place p (Some from) (Growth g) further = refl

schema_is : (so_far next : LogSoFar) (entry : Entry) → with_entry so_far entry ≡ Some next → next.schema ≡ schema_behind so_far.schema entry
schema_is so_far next (Schema shape) e =
    let f : Some (record { schema = Some shape; summary = so_far.summary }) ≡ Some next = e in
    let same : record { schema = Some shape; summary = so_far.summary } ≡ next = cc in
    ap (λ (s : LogSoFar). s.schema) (sym same)
schema_is so_far next (Chunk head) e = by (told_by so_far.summary (Some head)) e
  where
    by : (o : Option LogSummary) → option_map (λ (summary : LogSummary). record { schema = so_far.schema; summary = summary }) o ≡ Some next → next.schema ≡ so_far.schema
    by None f = absurd (let g : None ≡ Some next = f in cc)
    by (Some summary) f =
        let g : Some (record { schema = so_far.schema; summary = summary }) ≡ Some next = f in
        let same : record { schema = so_far.schema; summary = summary } ≡ next = cc in
        ap (λ (s : LogSoFar). s.schema) (sym same)
schema_is so_far next (Growth g) e =
    let f : Some (record { schema = Some g.to; summary = so_far.summary }) ≡ Some next = e in
    let same : record { schema = Some g.to; summary = so_far.summary } ≡ next = cc in
    ap (λ (s : LogSoFar). s.schema) (sym same)

-- a frame that was passed is one
pub entry_passed : (so_far next : LogSoFar) (p : List ℕ) → entry_after so_far p ≡ Some next → IsPassed (entry_of so_far.schema p) so_far next
entry_passed so_far next p e = by (entry_of so_far.schema p) e
  where
    by : (o : Option Entry) → option_and_then (with_entry so_far) o ≡ Some next → IsPassed o so_far next
    by None f = absurd (let g : None ≡ Some next = f in cc)
    by (Some entry) f = (entry, refl, f)

-- the growths among one frame that was passed, and others behind it
growths_step : (place : ℕ) (so_far next : LogSoFar) (p : List ℕ) (payloads : List (List ℕ)) (passed : IsPassed (entry_of so_far.schema p) so_far next)
    → growths_by place so_far.schema (p ∷ payloads) ≡ own place p so_far.schema passed.0 ++ growths_by (place + 9 + length p) next.schema payloads
growths_step place so_far next p payloads passed =
    let further : Option Shape → List Growing = λ schema. growths_by (place + 9 + length p) schema payloads in
    ap (λ (o : Option Entry). with_growing place p so_far.schema o further) passed.1 ∙ own_first place p so_far.schema passed.0 further
    ∙ ap (λ (o : Option Shape). own place p so_far.schema passed.0 ++ growths_by (place + 9 + length p) o payloads) (sym (schema_is so_far next passed.0 passed.2))

-- with one frame more
growths-push : (place end : ℕ) (so_far last : LogSoFar) (payloads : List (List ℕ)) (p : List ℕ) → entries_after so_far payloads ≡ Some last → end ≡ place + length (frames payloads)
    → growths_by place so_far.schema (payloads ++ p ∷ []) ≡ growths_by place so_far.schema payloads ++ growths_by end last.schema (p ∷ [])
growths-push place end so_far last [] p say is =
    let f : Some so_far ≡ Some last = say in
    let same : so_far ≡ last = cc in
    let at : place ≡ end = omega (arith, is) in
    ap (λ (s : LogSoFar). growths_by place s.schema (p ∷ [])) same ∙ ap (λ (n : ℕ). growths_by n last.schema (p ∷ [])) at
growths-push place end so_far last (q ∷ payloads) p say is =
    let s = two_steps (entry_after so_far q) (λ (next : LogSoFar). entries_after next payloads) last say in
    let passed = entry_passed so_far s.next q s.is in
    let front = own place q so_far.schema passed.0 in
    let tail = growths_by end last.schema (p ∷ []) in
    growths_step place so_far s.next q (payloads ++ p ∷ []) passed
    ∙ ap (λ (l : List Growing). front ++ l) (growths-push (place + 9 + length q) end s.next last payloads p s.more (omega (arith, is, length-frames q payloads)))
    ∙ sym (append_assoc front (growths_by (place + 9 + length q) s.next.schema payloads) tail)
    ∙ ap (λ (l : List Growing). l ++ tail) (sym (growths_step place so_far s.next q payloads passed))

-- what a frame adds that was gathered
added_is : (place next : ℕ) (schema : Option Shape) (entry : Entry) (p : List ℕ) (old new : List Growing) → next ≡ place + 9 + length p → GrowsWith place next schema (Some entry) old new → new ≡ old ++ own place p schema entry
added_is place next None (Schema shape) p old new is with = with ∙ sym (append-nil old)
added_is place next (Some from) (Schema shape) p old new is with = with ∙ sym (append-nil old)
added_is place next None (Chunk head) p old new is with = with ∙ sym (append-nil old)
added_is place next (Some from) (Chunk head) p old new is with = with ∙ sym (append-nil old)
added_is place next None (Growth g) p old new is with = with ∙ sym (append-nil old)
added_is place next (Some from) (Growth g) p old new is with = with.1 ∙ ap (λ (x : Growing). old ++ x ∷ []) (growing_same place next from p g.values with.0 is)

pub gathered_start : (bytes : List ℕ) → Gathered bytes 0 unread []
gathered_start bytes = record { passed = passed_start bytes; are = refl }

pub gathered_more : (bytes : List ℕ) (end next : ℕ) (old new : LogSoFar) (entry : Option Entry) (growths more : List Growing) (g : Gathered bytes end old growths) → next ≤ 2 ^ 62 → (h : EntryAt bytes g.passed.payloads old.schema end next entry)
    → IsPassed entry old new → GrowsWith end next old.schema entry growths more → Gathered bytes next new more
gathered_more bytes end next old new entry growths more g small h goes with =
    let p = g.passed in
    let one = entry_passed old new h.payload (step_passed h.payload old new entry h.says goes) in
    let same : entry ≡ Some one.0 = h.says ∙ one.1 in
    let added : more ≡ growths ++ own end h.payload old.schema one.0 = added_is end next old.schema one.0 h.payload growths more h.next_is (subst (λ (o : Option Entry). GrowsWith end next old.schema o growths more) same with) in
    record {
      passed = passed_more bytes end next old new entry p small h goes;
      are =
          added ∙ ap (λ (l : List Growing). l ++ own end h.payload old.schema one.0) g.are
          ∙ ap (λ (l : List Growing). growths_in p.payloads ++ l) (sym (growths_step end old new h.payload [] one ∙ append-nil _))
          ∙ sym (growths-push 0 end unread old p.payloads h.payload p.say (omega (arith, p.begins.ends)));
    }

-- what was gathered, to the end of the frames, is what the frames of the log say; its first frame stood there first
pub read_log : (bytes : List ℕ) (end next first : ℕ) (so_far : LogSoFar) (growths : List Growing) (start : List ℕ) (g : Gathered bytes end so_far growths) → IsLog g.passed.payloads end bytes → HasPayloads g.passed.payloads bytes → Begins (start ∷ []) next bytes → FitsFrame start
    → first ≡ passed growths (9 + length start) → IsReadLog (record { so_far = so_far; growths = growths; first = first }) end bytes
read_log bytes end next first so_far growths start g log has begins fits is =
    let m = list_goes_on g.passed.payloads (start ∷ []) next bytes begins (All-cons FitsFrame start [] fits (All-nil FitsFrame)) has in
    record {
      start = start;
      payloads = m.0;
      log = subst (λ (l : List (List ℕ)). IsLog l end bytes) m.1 log;
      has = subst (λ (l : List (List ℕ)). HasPayloads l bytes) m.1 has;
      say = ap (entries_after unread) (sym m.1) ∙ g.passed.say;
      growths = g.are ∙ ap growths_in m.1;
      first_is = is;
    }

-- the growth that was found, with what is kept of it
pub grows_with : (place next : ℕ) (schema : Option Shape) (entry : Option Entry) (from : Shape) (g : TheGrowth) (known : Shape) (values : List Value) (behind : place ≤ next) (old new : List Growing) → schema ≡ Some from → entry ≡ Some (Growth g) → known ≡ from → values ≡ g.values
    → new ≡ old ++ record { place = place; next = next; from = known; values = values; behind = behind } ∷ [] → GrowsWith place next schema entry old new
grows_with place next schema entry from g known values behind old new is_schema is_entry same also is =
    subst (λ (o : Option Shape). GrowsWith place next o entry old new) (sym is_schema)
    (subst (λ (o : Option Entry). GrowsWith place next (Some from) o old new) (sym is_entry)
    (behind, is ∙ ap (λ (s : Shape). old ++ record { place = place; next = next; from = s; values = values; behind = behind } ∷ []) same ∙ ap (λ (v : List Value). old ++ record { place = place; next = next; from = from; values = v; behind = behind } ∷ []) also))

-- The growths among the frames of a legal log are those of its stages.

chunk_said : (shape : Shape) (place : ℕ) (p : List ℕ) (head : ChunkHead) (further : Option Shape → List Growing) → head_of p ≡ Some head → with_growing place p (Some shape) (entry_of (Some shape) p) further ≡ further (Some shape)
chunk_said shape place p head further is = ap (λ (o : Option ChunkHead). with_growing place p (Some shape) (head_or o (growth_of shape p)) further) is

growth_said : (shape : Shape) (place : ℕ) (p : List ℕ) (g : TheGrowth) (further : Option Shape → List Growing) → head_of p ≡ None → growth_of shape p ≡ Some g → with_growing place p (Some shape) (entry_of (Some shape) p) further ≡ growing_at place shape p g.values ∷ further (Some g.to)
growth_said shape place p g further none is =
    ap (λ (o : Option ChunkHead). with_growing place p (Some shape) (head_or o (growth_of shape p)) further) none
    ∙ ap (λ (o : Option TheGrowth). with_growing place p (Some shape) (option_map (λ (g : TheGrowth). Growth g) o) further) is

growths_staged : (place : ℕ) (shape : Shape) (payloads : List (List ℕ)) (stages : List Stage) → AreStages shape payloads stages → growths_by place (Some shape) payloads ≡ growths_from place shape payloads stages
growths_staged place shape [] [] are = refl
growths_staged place shape [] (s ∷ stages) are = absurd are
growths_staged place shape (p ∷ payloads) [] are = absurd are
growths_staged place shape (p ∷ payloads) (chunk c ∷ stages) are =
    chunk_said shape place p (head_for c) (λ schema. growths_by (place + 9 + length p) schema payloads) (chunk_head shape.fields p c are.0.said) ∙ growths_staged (place + 9 + length p) shape payloads stages are.1
growths_staged place shape (p ∷ payloads) (growth g ∷ stages) are =
    growth_said shape place p g (λ schema. growths_by (place + 9 + length p) schema payloads) (growth_headless shape p g are.0) (growth_read shape p g are.0)
    ∙ ap (λ (l : List Growing). growing_at place shape p g.values ∷ l) (growths_staged (place + 9 + length p) g.to payloads stages are.1)

-- behind the frame of the schema that it begins with
pub growths_begun : (begun : Shape) (payloads : List (List ℕ)) (stages : List Stage) → IsSchema begun → AreStages begun payloads stages → growths_in (schema_payload begun ∷ payloads) ≡ growths_from (9 + length (schema_payload begun)) begun payloads stages
growths_begun begun payloads stages legal are =
    let ours = schema_payload begun in
    let further : Option Shape → List Growing = λ schema. growths_by (0 + 9 + length ours) schema payloads in
    let place : 0 + 9 + length ours ≡ 9 + length ours = omega arith in
    ap (λ (o : Option Shape). with_growing 0 ours None (option_map (λ (shape : Shape). Schema shape) o) further) (schema_said begun legal)
    ∙ ap (λ (n : ℕ). growths_by n (Some begun) payloads) place ∙ growths_staged (9 + length ours) begun payloads stages are

-- the growths of a frame list, and one more behind them
pub growths_grown : (end : ℕ) (so_far : LogSoFar) (from : Shape) (grown : TheGrowth) (payloads : List (List ℕ)) (p : List ℕ) → entries_after unread payloads ≡ Some so_far → length (frames payloads) ≡ end → so_far.schema ≡ Some from → IsGrowth from p grown
    → growths_in (payloads ++ p ∷ []) ≡ growths_in payloads ++ growing_at end from p grown.values ∷ []
growths_grown end so_far from grown payloads p say ends known said =
    let further : Option Shape → List Growing = λ schema. growths_by (end + 9 + length p) schema [] in
    let one : growths_by end so_far.schema (p ∷ []) ≡ growing_at end from p grown.values ∷ [] =
    ap (λ (o : Option Shape). growths_by end o (p ∷ [])) known ∙ growth_said from end p grown further (growth_headless from p grown said) (growth_read from p grown said) in
    growths-push 0 end unread so_far payloads p say (omega (arith, ends)) ∙ ap (λ (l : List Growing). growths_in payloads ++ l) one

-- the place behind some growths that stand there, and then one more
pub passed-push : (growths : List Growing) (growing : Growing) (place : ℕ) → passed (growths ++ growing ∷ []) place ≡ passed (growing ∷ []) (passed growths place)
passed-push [] growing place = refl
passed-push (g ∷ growths) growing place = passed-push growths growing (if g.place == place then g.next else place)
