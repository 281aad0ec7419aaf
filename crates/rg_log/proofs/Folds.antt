-- Frames that are taken one after another, and what those of a legal log say.
use Rattle.std.proofs.Common.{◌≡◌, ◌∙◌, ℕ, ◌+◌, ◌^◌, ◌≤◌, List, [], ◌∷◌, ◌++◌, length, Option, Some, None, option_map, option_and_then, refl, sym, ap, subst, arith, append_assoc}
use Rattle.std.proofs.lemmas.List.{append-nil}
use Rattle.rg_event.specs.Rising.{IsRising}
use Rattle.rg_event.specs.Shapes.{Shape, IsSchema}
use Rattle.rg_event.specs.declared.event.Event.{Event}
use Rattle.rg_event.specs.declared.value.Value.{Value}
use Rattle.rg_growth.specs.Payloads.{growth_of}
use Rattle.rg_growth.specs.declared.growth.Growth.{Growth as TheGrowth}
use Rattle.rg_chunk.specs.Extended.{all_extended}
use Rattle.rg_chunk.specs.Heads.{head_of, head_for, first_stamp, last_stamp}
use Rattle.rg_chunk.specs.declared.head.ChunkHead.{ChunkHead}
use Rattle.rg_chunk.proofs.Laws.{chunk_head}
use Rattle.rg_log.specs.Entries.{nothing, told_by, summary_of, unread, behind, shape_behind, head_or, further_entry, entry_after, entries_after}
use Rattle.rg_log.specs.Payloads.{schema_payload}
use Rattle.rg_log.specs.Stages.{Stage, chunk, growth, shape_after, in_force, AreStages, values_of, logged, HasStages}
use Rattle.rg_log.specs.declared.entry.Entry.{Entry}
use Rattle.rg_log.specs.declared.entry.Entry.TheVariants.{Chunk, Growth}
use Rattle.rg_log.specs.declared.entry.LogSoFar.{LogSoFar}
use Rattle.rg_log.specs.declared.summary.LogSummary.{LogSummary}
use Rattle.rg_log.proofs.ChunkHeads.{chunk_size}
use Rattle.rg_log.proofs.Entries.{first, only_first, behind_is, entry_for, entry_said, shape_same, chunk_step, growth_step, counted}
use Rattle.rg_log.proofs.Extending.{length-extended}
use Rattle.rg_log.proofs.GrowthBytes.{growth_legal}
use Rattle.rg_log.proofs.Shapes.{same_some}
use Rattle.rg_log.proofs.Staging.{split, logged-of, logged-join, length-join}
use Rattle.rg_log.proofs.Summaries.{legal_told}

abbrev on_by : List (List ℕ) → Option LogSoFar → Option LogSoFar
on_by payloads so_far = option_and_then (λ (next : LogSoFar). entries_after next payloads) so_far

-- some frames, and then others

pub entries_append : (so_far : LogSoFar) (p q : List (List ℕ)) → entries_after so_far (p ++ q) ≡ option_and_then (λ (next : LogSoFar). entries_after next q) (entries_after so_far p)
entries_append so_far [] q = refl
entries_append so_far (payload ∷ p) q = by (entry_after so_far payload) (λ (next : LogSoFar). entries_append next p q)
  where
    by : (o : Option LogSoFar) → ((next : LogSoFar) → entries_after next (p ++ q) ≡ on_by q (entries_after next p)) → on_by (p ++ q) o ≡ on_by q (on_by p o)
    by None further = refl
    by (Some next) further = further next

-- one alone
pub entries_one : (so_far : LogSoFar) (payload : List ℕ) → entries_after so_far (payload ∷ []) ≡ entry_after so_far payload
entries_one so_far payload = by (entry_after so_far payload)
  where
    by : (o : Option LogSoFar) → on_by [] o ≡ o
    by None = refl
    by (Some next) = refl

-- two steps, one behind the other
pub record TwoSteps (o : Option LogSoFar) (on : LogSoFar → Option LogSoFar) (last : LogSoFar) : Type 0 where
  pub next : LogSoFar
  pub is : o ≡ Some next
  pub more : on next ≡ Some last

pub two_steps : (o : Option LogSoFar) (on : LogSoFar → Option LogSoFar) (last : LogSoFar) → option_and_then on o ≡ Some last → TwoSteps o on last
two_steps None on last e = absurd (let f : None ≡ Some last = e in cc)
two_steps (Some next) on last e = record { next = next; is = refl; more = e }

-- where all are taken, so are those in front of a place, and then those behind it
pub entries_parted : (so_far last : LogSoFar) (p q : List (List ℕ)) → entries_after so_far (p ++ q) ≡ Some last → TwoSteps (entries_after so_far p) (λ (next : LogSoFar). entries_after next q) last
entries_parted so_far last p q is = two_steps (entries_after so_far p) (λ (next : LogSoFar). entries_after next q) last (sym (entries_append so_far p q) ∙ is)

-- with a frame more
pub entries_push : (so_far next : LogSoFar) (p : List (List ℕ)) (payload : List ℕ) → entries_after so_far p ≡ Some next → entries_after so_far (p ++ payload ∷ []) ≡ entry_after next payload
entries_push so_far next p payload is = entries_append so_far p (payload ∷ []) ∙ ap (on_by (payload ∷ [])) is ∙ entries_one next payload

-- which schema is in force behind frames that are taken: a legal one

entry_legal : (shape : Shape) (payload : List ℕ) (entry : Entry) → IsSchema shape → further_entry shape payload ≡ Some entry → IsSchema (shape_behind shape entry)
entry_legal shape payload entry legal is = by (head_of payload) is
  where
    grown : (o : Option TheGrowth) → growth_of shape payload ≡ o → option_map (λ (g : TheGrowth). Growth g) o ≡ Some entry → IsSchema (shape_behind shape entry)
    grown None said e = absurd (let f : None ≡ Some entry = e in cc)
    grown (Some g) said e = subst (λ (x : Entry). IsSchema (shape_behind shape x)) (same_some (Some (Growth g)) (Growth g) entry refl e) (growth_legal shape payload g said)

    by : (o : Option ChunkHead) → head_or o (growth_of shape payload) ≡ Some entry → IsSchema (shape_behind shape entry)
    by None e = grown (growth_of shape payload) refl e
    by (Some head) e = subst (λ (x : Entry). IsSchema (shape_behind shape x)) (same_some (Some (Chunk head)) (Chunk head) entry refl e) legal

-- some frames say this: which schema is in force, and what the chunks come to
pub record Says (last : LogSoFar) : Type 0 where
  pub shape : Shape
  pub legal : IsSchema shape
  pub is : last ≡ behind shape last.summary

says_on : (shape : Shape) (summary : LogSummary) (last : LogSoFar) (payloads : List (List ℕ)) → IsSchema shape → entries_after (behind shape summary) payloads ≡ Some last → Says last
says_on shape summary last [] legal e =
    let same : behind shape summary ≡ last = same_some (Some (behind shape summary)) (behind shape summary) last refl e in
    record { shape = shape; legal = legal; is = behind_is last shape (ap (λ (s : LogSoFar). s.schema) (sym same)) }
says_on shape summary last (p ∷ payloads) legal e =
    let t = two_steps (entry_after (behind shape summary) p) (λ (next : LogSoFar). entries_after next payloads) last e in
    let c = counted shape summary p t.next t.is in
    let other = shape_behind shape c.0 in
    says_on other t.next.summary last payloads (entry_legal shape p c.0 legal c.1) (ap (λ (s : LogSoFar). entries_after s payloads) (sym (behind_is t.next other c.3)) ∙ t.more)

pub says : (start : List ℕ) (payloads : List (List ℕ)) (last : LogSoFar) → entries_after unread (start ∷ payloads) ≡ Some last → Says last
says p payloads last e =
    let t = two_steps (entry_after unread p) (λ (next : LogSoFar). entries_after next payloads) last e in
    let f = only_first p t.next t.is in
    says_on f.0 t.next.summary last payloads f.1 (ap (λ (s : LogSoFar). entries_after s payloads) (sym (behind_is t.next f.0 (ap (λ (s : LogSoFar). s.schema) f.3))) ∙ t.more)

-- and of a log with these stages it is that of the last one, whether or not its events rise

says_stages : (shape : Shape) (summary : LogSummary) (last : LogSoFar) (payloads : List (List ℕ)) (stages : List Stage) → AreStages shape payloads stages → entries_after (behind shape summary) payloads ≡ Some last → last.schema ≡ Some (in_force shape stages)
says_stages shape summary last [] [] are e = ap (λ (s : LogSoFar). s.schema) (sym (same_some (Some (behind shape summary)) (behind shape summary) last refl e))
says_stages shape summary last [] (s ∷ stages) are e = absurd are
says_stages shape summary last (p ∷ payloads) [] are e = absurd are
says_stages shape summary last (p ∷ payloads) (s ∷ stages) are e =
    let t = two_steps (entry_after (behind shape summary) p) (λ (next : LogSoFar). entries_after next payloads) last e in
    let c = counted shape summary p t.next t.is in
    let entry : c.0 ≡ entry_for s = same_some (further_entry shape p) c.0 (entry_for s) c.1 (entry_said shape p s are.0) in
    let other = shape_after shape s in
    let schema : t.next.schema ≡ Some other = c.3 ∙ ap (λ (x : Entry). Some (shape_behind shape x)) entry ∙ ap (λ (x : Shape). Some x) (shape_same shape s) in
    says_stages other t.next.summary last payloads stages are.1 (ap (λ (x : LogSoFar). entries_after x payloads) (sym (behind_is t.next other schema)) ∙ t.more)

pub says_in_force : (shape : Shape) (payloads : List (List ℕ)) (stages : List Stage) (last : LogSoFar) → HasStages shape payloads stages → 1 ≤ length payloads → entries_after unread payloads ≡ Some last → last.schema ≡ Some shape
says_in_force shape [] stages last has some e = absurd (omega (arith, some))
says_in_force shape (p ∷ payloads) stages last has some e =
    let begun : entries_after unread (p ∷ payloads) ≡ entries_after (behind has.0 nothing) payloads = ap (λ (q : List ℕ). entries_after unread (q ∷ payloads)) has.2 ∙ ap (on_by payloads) (first has.0 has.1) in
    says_stages has.0 nothing last payloads stages has.3 (sym begun ∙ e) ∙ ap (λ (s : Shape). Some s) has.4

-- the frames of a legal log are taken, one after another

first_same : (values : List Value) (c : List Event) → first_stamp (all_extended values c) ≡ first_stamp c
first_same values [] = refl
first_same values (e ∷ c) = refl

last_same : (values : List Value) (c : List Event) → last_stamp (all_extended values c) ≡ last_stamp c
last_same values [] = refl
last_same values (x ∷ []) = refl
last_same values (x ∷ (y ∷ c)) = last_same values (y ∷ c)

-- further values change no head
head_extended : (values : List Value) (c : List Event) → head_for (all_extended values c) ≡ head_for c
head_extended values c = λ i. record {
  count = length-extended values c i;
  first_offset = (first_same values c i).0;
  first_time = (first_same values c i).1;
  last_offset = (last_same values c i).0;
  last_time = (last_same values c i).1;
}

legal_stages : (shape : Shape) (before : List Event) (payloads : List (List ℕ)) (stages : List Stage) → AreStages shape payloads stages → IsRising (before ++ logged stages) → length (before ++ logged stages) ≤ 2 ^ 40
    → entries_after (behind shape (summary_of before)) payloads ≡ Some (behind (in_force shape stages) (summary_of (before ++ logged stages)))
legal_stages shape before [] [] are rising few = ap (λ (l : List Event). Some (behind shape (summary_of l))) (sym (append-nil before))
legal_stages shape before [] (s ∷ stages) are rising few = absurd are
legal_stages shape before (p ∷ payloads) [] are rising few = absurd are
legal_stages shape before (p ∷ payloads) (chunk c ∷ stages) are rising few =
    let own = all_extended (values_of stages) c in
    let joins : before ++ (own ++ logged stages) ≡ (before ++ own) ++ logged stages = sym (append_assoc before own (logged stages)) in
    let some : 1 ≤ length own = omega (arith, (chunk_size shape.fields p c are.0.said).0, length-extended (values_of stages) c) in
    let told : told_by (summary_of before) (Some (head_for own)) ≡ Some (summary_of (before ++ own)) =
    legal_told (in_force shape stages).fields before own (logged stages) some rising few (logged-of shape (p ∷ payloads) (chunk c ∷ stages) are) in
    let step : entry_after (behind shape (summary_of before)) p ≡ Some (behind shape (summary_of (before ++ own))) =
    chunk_step shape (summary_of before) p (head_for c) (chunk_head shape.fields p c are.0.said)
    ∙ ap (λ (h : ChunkHead). option_map (behind shape) (told_by (summary_of before) (Some h))) (sym (head_extended (values_of stages) c)) ∙ ap (option_map (behind shape)) told in
    ap (on_by payloads) step ∙ legal_stages shape (before ++ own) payloads stages are.1 (subst IsRising joins rising) (subst (λ (l : List Event). length l ≤ 2 ^ 40) joins few)
    ∙ ap (λ (l : List Event). Some (behind (in_force shape stages) (summary_of l))) (sym joins)
legal_stages shape before (p ∷ payloads) (growth g ∷ stages) are rising few =
    ap (on_by payloads) (growth_step shape (summary_of before) p g are.0) ∙ legal_stages g.to before payloads stages are.1 rising few

pub legal : (shape : Shape) (payloads : List (List ℕ)) (stages : List Stage) → HasStages shape payloads stages → 1 ≤ length payloads → IsRising (logged stages) → length (logged stages) ≤ 2 ^ 40
    → entries_after unread payloads ≡ Some (behind shape (summary_of (logged stages)))
legal shape [] stages has some rising few = absurd (omega (arith, some))
legal shape (p ∷ payloads) stages has some rising few =
    ap (λ (q : List ℕ). entries_after unread (q ∷ payloads)) has.2 ∙ ap (on_by payloads) (first has.0 has.1) ∙ legal_stages has.0 [] payloads stages has.3 rising few
    ∙ ap (λ (s : Shape). Some (behind s (summary_of (logged stages)))) has.4

-- and so are those in front of any place behind the first one, and then those behind it

rising-front : (a b : List Event) → IsRising (a ++ b) → IsRising a
rising-front [] b rising = tt
rising-front (x ∷ []) b rising = tt
rising-front (x ∷ (y ∷ a)) b rising = (rising.0, rising.1, rising-front (y ∷ a) b rising.2)

rising-before : (values : List Value) (events : List Event) → IsRising (all_extended values events) → IsRising events
rising-before values [] rising = tt
rising-before values (x ∷ []) rising = tt
rising-before values (x ∷ (y ∷ events)) rising = (rising.0, rising.1, rising-before values (y ∷ events) rising.2)

-- what the frames of a log say in front of a place, and behind it
pub record SaidAt (shape : Shape) (start : List ℕ) (earlier later : List (List ℕ)) (stages : List Stage) : Type 0 where
  pub begun : Shape
  pub schema : IsSchema begun
  pub start_is : start ≡ schema_payload begun
  pub before : List Stage
  pub after : List Stage
  pub is : stages ≡ before ++ after
  pub before_are : AreStages begun earlier before
  pub after_are : AreStages (in_force begun before) later after
  pub say : entries_after unread (start ∷ earlier) ≡ Some (behind (in_force begun before) (summary_of (logged before)))
  pub rest : entries_after (behind (in_force begun before) (summary_of (logged before))) later ≡ Some (behind shape (summary_of (logged stages)))

pub said_at : (shape : Shape) (start : List ℕ) (earlier later : List (List ℕ)) (stages : List Stage) → HasStages shape (start ∷ (earlier ++ later)) stages → IsRising (logged stages) → length (logged stages) ≤ 2 ^ 40 → SaidAt shape start earlier later stages
said_at shape p earlier later stages has rising few =
    let r = split has.0 earlier later stages has.3 in
    let whole : IsRising (all_extended (values_of r.after) (logged r.before) ++ logged r.after) = subst IsRising (ap logged r.is ∙ logged-join r.before r.after) rising in
    let front : IsRising (logged r.before) = rising-before (values_of r.after) (logged r.before) (rising-front (all_extended (values_of r.after) (logged r.before)) (logged r.after) whole) in
    let size : length (logged stages) ≡ length (logged r.before) + length (logged r.after) = ap (λ (l : List Stage). length (logged l)) r.is ∙ length-join r.before r.after in
    let say : entries_after unread (p ∷ earlier) ≡ Some (behind (in_force has.0 r.before) (summary_of (logged r.before))) =
    legal (in_force has.0 r.before) (p ∷ earlier) r.before (has.0, has.1, has.2, r.before_are, refl) (omega arith) front (omega (arith, few, size)) in
    record {
      begun = has.0;
      schema = has.1;
      start_is = has.2;
      before = r.before;
      after = r.after;
      is = r.is;
      before_are = r.before_are;
      after_are = r.after_are;
      say = say;
      rest = sym (entries_append unread (p ∷ earlier) later ∙ ap (on_by later) say) ∙ legal shape (p ∷ (earlier ++ later)) stages has (omega arith) rising few;
    }
