-- What a reservoir holds of a legal log that was opened.
use Rattle.std.proofs.Common.{◌≡◌, ◌∙◌, ◌⊎◌, inl, inr, ℕ, ◌+◌, List, [], ◌∷◌, length, Some, None, refl, sym, ap, subst, arith}
use Rattle.std.proofs.lemmas.List.{append-nil}
use Rattle.rg_host.specs.Image.{Image}
use Rattle.rg_event.specs.declared.event.Event.{Event}
use Rattle.rg_event.specs.Rising.{IsRising, next_offset, last_time}
use Rattle.rg_event.specs.Shapes.{Shape, IsSchema}
use Rattle.rg_growth.specs.Filling.{Given}
use Rattle.rg_growth.proofs.Laws.{not_itself}
use Rattle.rg_frame.specs.Frames.{frames, HasPayloads}
use Rattle.rg_frame.proofs.Laws.{payloads_one}
use Rattle.rg_cache.specs.Cache.{Cache, item_at}
use Rattle.rg_log.specs.declared.summary.LogSummary.{LogSummary}
use Rattle.rg_log.specs.declared.entry.LogSoFar.{LogSoFar}
use Rattle.rg_log.specs.Entries.{behind, summary_of}
use Rattle.rg_log.specs.Filled.{HasEventsFor}
use Rattle.rg_log.specs.Log.{schema_payload, joined, HasEvents, IsInForce}
use Rattle.rg_log.specs.Stages.{Stage, logged, HasStages}
use Rattle.rg_log.proofs.Laws.{unframed_events, grown_for, legal as legal_says, begun_log, in_force_of}
use Rattle.rg_reservoir.specs.Attached.{Opens, IsOpened, IsOther, IsForeign, IsBadFrame}
use Rattle.rg_reservoir.specs.Chain.{chunk_in, chunk_at, Chain}
use Rattle.rg_reservoir.specs.GrownViews.{growths_from, IsViewOf}
use Rattle.rg_reservoir.specs.Heads.{growths_in}
use Rattle.rg_reservoir.specs.Kept.{Base, view_of, stored, all_events, IsSoundIn}
use Rattle.rg_reservoir.specs.Views.{View, seen_from, passed}
use Rattle.rg_reservoir.specs.declared.growing.Growing.{Growing}
use Rattle.rg_reservoir.specs.declared.kept.Kept.{Kept}
use Rattle.rg_reservoir.proofs.Chains.{some_none}
use Rattle.rg_reservoir.proofs.Committed.{stored_by}
use Rattle.rg_reservoir.proofs.Committing.{log_at}
use Rattle.rg_reservoir.proofs.Gathering.{growths_begun}
use Rattle.rg_reservoir.proofs.GrownViews.{reads}
use Rattle.rg_reservoir.proofs.Legal.{not_bad, not_other, other_for, unframed_for, said_in_force, grows_not, to_grow_in_force, not_to_grow}
use Rattle.rg_reservoir.proofs.Listing.{listed}

-- a legal log without a frame has no event
pub no_events : (shape : Shape) (events : List Event) (bytes : List ℕ) → HasEvents shape events bytes → HasPayloads [] bytes → events ≡ []
no_events shape events bytes x none = sym x.2 ∙ ap logged (subst (λ (l : List (List ℕ)). HasStages shape l x.0) (payloads_one x.1.payloads [] bytes x.1.has none) x.1.log)

-- a schema that a log has events for is a legal one
schema_legal : (shape : Shape) (defaults : Given) (events : List Event) (bytes : List ℕ) → HasEventsFor shape defaults events bytes → IsSchema shape
schema_legal shape defaults events bytes (inl has) = has.1.schema
schema_legal shape defaults events bytes (inr has) = has.fills.of.grows.legal

-- where the schema is in force at the end of the frames, these are the log's own events: no schema grows to itself
own_then : (shape : Shape) (defaults : Given) (growths : List Growing) (first end : ℕ) (tally : LogSummary) (events : List Event) (bytes : List ℕ) → IsOpened (seen_from shape growths) first end tally bytes → HasEventsFor shape defaults events bytes → HasEvents shape events bytes
own_then shape defaults growths first end tally events bytes o (inl has) = has
own_then shape defaults growths first end tally events bytes o (inr has) =
    let same : has.from ≡ shape = said_in_force shape has.from (o.start ∷ o.payloads) tally bytes o.has o.say has.framed in
    absurd (grows_not has.from shape shape defaults has.values same has.fills.filled_is (not_itself shape defaults))

-- what was legal for the schema and its defaults is legal behind the first frame, or a growth, with the same events
pub events_then : (shape : Shape) (defaults : Given) (growths : List Growing) (first end : ℕ) (tally : LogSummary) (events : List Event) (old new : List ℕ)
    → HasEventsFor shape defaults events old → Opens shape defaults first end old new → IsOpened (seen_from shape growths) first end tally new → HasEvents shape events new
events_then shape defaults growths first end tally events old new has (inl same) o = own_then shape defaults growths first end tally events new o (subst (λ (l : List ℕ). HasEventsFor shape defaults events l) (sym same) has)
events_then shape defaults growths first end tally events old new has (inr (inl (none, ends, step))) o =
    let frameless = listed [] 0 old none (omega arith) in
    subst (λ (l : List Event). HasEvents shape l new) (sym (unframed_events payloads_one shape defaults events old frameless has)) (begun_log shape old new (schema_legal shape defaults events old has) frameless step).1
events_then shape defaults growths first end tally events old new has (inr (inr (g, step))) o = grown_for payloads_one g.from shape defaults g.values events old new g.fills (to_grow_in_force shape defaults events old g has) has step

-- the schema of a log that was opened is that of each list of events that it has
pub opened_schema : (known shape : Shape) (growths : List Growing) (first end : ℕ) (tally : LogSummary) (events : List Event) (bytes : List ℕ) → IsOpened (seen_from known growths) first end tally bytes → HasEvents shape events bytes → known ≡ shape
opened_schema known shape growths first end tally events bytes o has = sym (said_in_force known shape (o.start ∷ o.payloads) tally bytes o.has o.say (in_force_of payloads_one shape events bytes (o.start, o.payloads, o.has) has))

-- the view that the heads and growths of a legal log give is that of its stages
abbrev pub view_by_heads : (view : View) (stages : List Stage) (start : List ℕ) (payloads : List (List ℕ)) (bytes : List ℕ) → HasPayloads (start ∷ payloads) bytes → HasStages view.shape (start ∷ payloads) stages → view.growths ≡ growths_in (start ∷ payloads) → IsViewOf view stages bytes
view_by_heads view stages start payloads bytes has log are = record {
  begun = log.0;
  legal = log.1;
  payloads = payloads;
  has = subst (λ (p : List ℕ). HasPayloads (p ∷ payloads) bytes) log.2 has;
  are = log.3;
  is =
      ap (seen_from view.shape) (are ∙ ap (λ (p : List ℕ). growths_in (p ∷ payloads)) log.2 ∙ growths_begun log.0 payloads stages log.1 log.3)
      ∙ ap (λ (s : Shape). seen_from s (growths_from (9 + length (schema_payload log.0)) log.0 payloads stages)) (sym log.4);
}

pub attached :
    (w : Image) (after : Image → Type 0) (b : Base) (tally : LogSummary) (cache : Cache Kept) (events : List Event) → IsOpened (view_of b) b.first b.end tally (w b.file) → HasEvents b.shape events (w b.file) → b.committed ≡ tally.count
    → ((q : ℕ) → item_at q cache ≡ None) → ((u : Image) → after u → u b.file ≡ w b.file) → IsSoundIn w after b [] tally.next tally.time cache × (all_events (Some w) b [] ≡ events)
attached w after b tally cache events o x count empty settled =
    let bytes = w b.file in
    let log : HasStages b.shape (o.start ∷ o.payloads) x.0 = subst (λ (l : List (List ℕ)). HasStages b.shape l x.0) (payloads_one x.1.payloads (o.start ∷ o.payloads) bytes x.1.has o.has) x.1.log in
    let view : IsViewOf (view_of b) x.0 bytes = view_by_heads (view_of b) x.0 o.start o.payloads bytes o.has log o.growths in
    let r = reads (view_of b) x.0 bytes view in
    let lists : r.first ∷ r.payloads ≡ o.start ∷ o.payloads = payloads_one (r.first ∷ r.payloads) (o.start ∷ o.payloads) bytes r.has o.has in
    let first : r.first ≡ o.start = cc in
    let from : passed b.growths (9 + length r.first) ≡ b.first = ap (λ (l : List ℕ). passed b.growths (9 + length l)) first ∙ sym o.first_is in
    let to : length (frames (r.first ∷ r.payloads)) ≡ b.end = ap (λ (l : List (List ℕ)). length (frames l)) lists ∙ o.log.ends in
    let chain : Chain (view_of b) bytes b.first r.chunks b.end =
    subst (λ (n : ℕ). Chain (view_of b) bytes b.first r.chunks n) to (subst (λ (n : ℕ). Chain (view_of b) bytes n r.chunks (length (frames (r.first ∷ r.payloads)))) from r.chain) in
    let have : joined r.chunks ≡ events = r.have ∙ x.2 in
    let said : Some (behind b.shape tally) ≡ Some (behind b.shape (summary_of (logged x.0))) = sym o.say ∙ legal_says b.shape (o.start ∷ o.payloads) x.0 log (omega arith) x.1.rising x.1.few in
    let both : behind b.shape tally ≡ behind b.shape (summary_of (logged x.0)) = cc in
    let told : tally ≡ summary_of (joined r.chunks) = ap (λ (s : LogSoFar). s.summary) both ∙ ap summary_of (sym r.have) in
    let counted : length (joined r.chunks) ≡ b.committed = sym (ap (λ (t : LogSummary). t.count) told) ∙ sym count in
    let at = log_at (o.start ∷ o.payloads) b.end bytes o.log in
    let none : chunk_at (view_of b) b.end bytes ≡ None = ap (chunk_in (view_of b) b.end) at.none in
    let stored_is : stored (Some w) b ≡ joined r.chunks = stored_by w b r.chunks chain none counted in
    let all_is : all_events (Some w) b [] ≡ joined r.chunks = append-nil _ ∙ stored_is in
    let framed : IsInForce b.shape bytes = (o.start, o.payloads, x.0, o.has, log) in
    let rising : IsRising (joined r.chunks) = subst IsRising (sym r.have) x.1.rising in (
      record {
        each = λ u left. (
          events,
          subst (λ (l : List ℕ). HasEvents b.shape events l) (sym (settled u left)) x,
          subst (λ (l : List ℕ). IsInForce b.shape l) (sym (settled u left)) framed,
          ([], sym have ∙ sym stored_is ∙ sym (append-nil _)),
          ([], all_is ∙ have ∙ sym (append-nil _)),
        );
        right = λ going. record {
          settled = settled;
          stages = x.0;
          view = view;
          first_is = o.first_is ∙ ap (λ (l : List ℕ). passed b.growths (9 + length l)) log.2;
          chunks = r.chunks;
          chain = chain;
          ends = at.closed;
          payloads = o.start ∷ o.payloads;
          has = o.has;
          end_is = sym o.log.ends;
          legal = subst (λ (l : List Event). HasEvents b.shape l bytes) (sym have) x;
          framed = framed;
          counted = counted;
          cached = λ place kept held. absurd (some_none _ _ held (empty place));
          inside = λ place kept held. absurd (some_none _ _ held (empty place));
          rising = subst IsRising (sym all_is) rising;
          next_is = ap (λ (t : LogSummary). t.next) told ∙ ap next_offset (sym all_is);
          time_is = ap (λ (t : LogSummary). t.time) told ∙ ap last_time (sym all_is);
          fits = tt;
          few = omega (arith, counted, ap length have, ap length x.2, x.1.few);
        };
      },
      all_is ∙ have,
    )

-- a log that was opened is whole, and no other schema is in force at its end
pub opened_ours : (shape : Shape) (growths : List Growing) (first end : ℕ) (tally : LogSummary) (bytes : List ℕ) → IsOpened (seen_from shape growths) first end tally bytes → IsOther shape bytes ⊎ ((p : ℕ) × IsBadFrame p bytes) → ⊥
opened_ours shape growths first end tally bytes o (inl other) = not_other shape (o.start ∷ o.payloads) (behind shape tally) bytes o.has o.say (inr refl) other
opened_ours shape growths first end tally bytes o (inr (p, bad)) = not_bad (o.start ∷ o.payloads) (behind shape tally) p bytes o.has o.say bad

-- so it wasn't foreign, nor bad, before it was written
pub refused : (shape : Shape) (defaults : Given) (growths : List Growing) (first end : ℕ) (tally : LogSummary) (old new : List ℕ) → Opens shape defaults first end old new → IsOpened (seen_from shape growths) first end tally new → IsForeign shape defaults old ⊎ ((p : ℕ) × IsBadFrame p old) → ⊥
refused shape defaults growths first end tally old new (inl same) o why = opened_ours shape growths first end tally new o (other_for shape defaults new (subst (λ (l : List ℕ). IsForeign shape defaults l ⊎ ((p : ℕ) × IsBadFrame p l)) (sym same) why))
refused shape defaults growths first end tally old new (inr (inl (none, ends, step))) o why = unframed_for shape defaults old (listed [] 0 old none (omega arith)) why
refused shape defaults growths first end tally old new (inr (inr (g, step))) o why = not_to_grow shape defaults old g why
