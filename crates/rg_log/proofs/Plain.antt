-- A log without a growth is what it was before schemas grew.
use Rattle.std.proofs.Common.{◌≡◌, ◌∙◌, ℕ, ◌≤◌, ◌^◌, List, [], ◌∷◌, ◌++◌, length, Option, Some, None, refl, sym, ap, subst}
use Rattle.std.proofs.lemmas.List.Elements.{All-nil, All-cons, All-head, All-tail, All-append}
use Rattle.std.specs.Prelude.{◌↔◌, All}
use Rattle.rg_event.specs.Codec.{IsEventOf}
use Rattle.rg_event.specs.Rising.{IsRising}
use Rattle.rg_event.specs.Shapes.{Shape, IsSchema}
use Rattle.rg_event.specs.declared.event.Event.{Event}
use Rattle.rg_event.specs.declared.value.Value.{Value}
use Rattle.rg_chunk.specs.Chunks.{chunk_of}
use Rattle.rg_chunk.specs.Extended.{all_extended}
use Rattle.rg_log.specs.Log.{schema_payload, joined, IsLegalLog, HasEvents}
use Rattle.rg_log.specs.Plain.{with_chunk, chunks_of, HasChunks, IsPlainLog, HasPlainEvents}
use Rattle.rg_log.specs.Stages.{in_force, AreStages, values_of, logged, plain, HasStages}
use Rattle.rg_log.proofs.Extending.{extended-none}
use Rattle.rg_log.proofs.Summaries.{all_behind}

-- the first chunk of some, and the others
pub record Parted (o : Option (List Event)) (rest : Option (List (List Event))) (chunks : List (List Event)) : Type 0 where
  pub chunk : List Event
  pub more : List (List Event)
  pub chunk_is : o ≡ Some chunk
  pub more_is : rest ≡ Some more
  pub is : chunks ≡ chunk ∷ more

pub part : (o : Option (List Event)) (rest : Option (List (List Event))) (chunks : List (List Event)) → with_chunk o rest ≡ Some chunks → Parted o rest chunks
part None rest chunks is = absurd cc
part (Some chunk) None chunks is = absurd cc
part (Some chunk) (Some more) chunks is = record { chunk = chunk; more = more; chunk_is = refl; more_is = refl; is = cc }

all_before : (P : Event → Type 0) (a b : List Event) → All P (a ++ b) → All P a
all_before P [] b all = All-nil P
all_before P (x ∷ a) b all = All-cons P x a (All-head P x (a ++ b) all) (all_before P a b (All-tail P x (a ++ b) all))

plain_values : (chunks : List (List Event)) → values_of (plain chunks) ≡ []
plain_values [] = refl
plain_values (c ∷ chunks) = plain_values chunks

plain_shape : (shape : Shape) (chunks : List (List Event)) → in_force shape (plain chunks) ≡ shape
plain_shape shape [] = refl
plain_shape shape (c ∷ chunks) = plain_shape shape chunks

pub plain_logged : (chunks : List (List Event)) → logged (plain chunks) ≡ joined chunks
plain_logged [] = refl
plain_logged (c ∷ chunks) =
    ap (λ (v : List Value). all_extended v c ++ logged (plain chunks)) (plain_values chunks) ∙ ap (λ (l : List Event). l ++ logged (plain chunks)) (extended-none c)
    ∙ ap (λ (l : List Event). c ++ l) (plain_logged chunks)

plain_are : (shape : Shape) (payloads : List (List ℕ)) (chunks : List (List Event)) → chunks_of shape.fields payloads ≡ Some chunks → All (IsEventOf shape.fields) (joined chunks) → AreStages shape payloads (plain chunks)
plain_are shape [] chunks is all = let none : [] ≡ chunks = cc in subst (λ (l : List (List Event)). AreStages shape [] (plain l)) none tt
plain_are shape (p ∷ payloads) chunks is all =
    let f = part (chunk_of shape.fields p) (chunks_of shape.fields payloads) chunks is in
    let both : All (IsEventOf shape.fields) (f.chunk ++ joined f.more) = subst (λ (l : List (List Event)). All (IsEventOf shape.fields) (joined l)) f.is all in
    subst (λ (l : List (List Event)). AreStages shape (p ∷ payloads) (plain l)) (sym f.is) (
      record { said = f.chunk_is; of = all_before (IsEventOf shape.fields) f.chunk (joined f.more) both },
      plain_are shape payloads f.more f.more_is (all_behind (IsEventOf shape.fields) f.chunk (joined f.more) both),
    )

are_chunks : (shape : Shape) (payloads : List (List ℕ)) (chunks : List (List Event)) → AreStages shape payloads (plain chunks) → chunks_of shape.fields payloads ≡ Some chunks
are_chunks shape [] [] are = refl
are_chunks shape [] (c ∷ chunks) are = absurd are
are_chunks shape (p ∷ payloads) [] are = absurd are
are_chunks shape (p ∷ payloads) (c ∷ chunks) are =
    ap (λ (o : Option (List Event)). with_chunk o (chunks_of shape.fields payloads)) are.0.said ∙ ap (with_chunk (Some c)) (are_chunks shape payloads chunks are.1)

are_of : (shape : Shape) (payloads : List (List ℕ)) (chunks : List (List Event)) → AreStages shape payloads (plain chunks) → All (IsEventOf shape.fields) (joined chunks)
are_of shape [] [] are = All-nil (IsEventOf shape.fields)
are_of shape [] (c ∷ chunks) are = absurd are
are_of shape (p ∷ payloads) [] are = absurd are
are_of shape (p ∷ payloads) (c ∷ chunks) are = All-append (IsEventOf shape.fields) c (joined chunks) are.0.of (are_of shape payloads chunks are.1)

-- the frame list says these chunks exactly where it says them as stages
pub has_plain : (shape : Shape) (payloads : List (List ℕ)) (chunks : List (List Event)) → IsSchema shape → HasChunks shape payloads chunks → All (IsEventOf shape.fields) (joined chunks) → HasStages shape payloads (plain chunks)
has_plain shape [] chunks schema none all = ap plain none
has_plain shape (first ∷ payloads) chunks schema log all = (shape, schema, log.0, plain_are shape payloads chunks log.1 all, plain_shape shape chunks)

record HasPlain (shape : Shape) (payloads : List (List ℕ)) (chunks : List (List Event)) : Type 0 where
  pub log : HasChunks shape payloads chunks
  pub of : All (IsEventOf shape.fields) (joined chunks)

no_chunks : (chunks : List (List Event)) → plain chunks ≡ [] → chunks ≡ []
no_chunks [] none = refl
no_chunks (c ∷ chunks) none = absurd cc

plain_has : (shape : Shape) (payloads : List (List ℕ)) (chunks : List (List Event)) → HasStages shape payloads (plain chunks) → HasPlain shape payloads chunks
plain_has shape [] chunks none =
    let is : chunks ≡ [] = no_chunks chunks none in
    record { log = is; of = subst (λ (l : List (List Event)). All (IsEventOf shape.fields) (joined l)) (sym is) (All-nil (IsEventOf shape.fields)) }
plain_has shape (first ∷ payloads) chunks has =
    let is : has.0 ≡ shape = sym (plain_shape has.0 chunks) ∙ has.4 in
    let are : AreStages shape payloads (plain chunks) = subst (λ (s : Shape). AreStages s payloads (plain chunks)) is has.3 in
    record { log = (has.2 ∙ ap schema_payload is, are_chunks shape payloads chunks are); of = are_of shape payloads chunks are }

pub as_before : (shape : Shape) (chunks : List (List Event)) (bytes : List ℕ) → IsPlainLog shape chunks bytes ↔ IsLegalLog shape (plain chunks) bytes
as_before shape chunks bytes = (to, back)
  where
    to : IsPlainLog shape chunks bytes → IsLegalLog shape (plain chunks) bytes
    to log =
        record {
          schema = log.schema;
          payloads = log.payloads;
          has = log.has;
          log = has_plain shape log.payloads chunks log.schema log.log log.of;
          rising = subst IsRising (sym (plain_logged chunks)) log.rising;
          few = subst (λ (l : List Event). length l ≤ 2 ^ 40) (sym (plain_logged chunks)) log.few;
        }

    back : IsLegalLog shape (plain chunks) bytes → IsPlainLog shape chunks bytes
    back log =
        let p = plain_has shape log.payloads chunks log.log in
        record {
          schema = log.schema;
          payloads = log.payloads;
          has = log.has;
          log = p.log;
          of = p.of;
          rising = subst IsRising (plain_logged chunks) log.rising;
          few = subst (λ (l : List Event). length l ≤ 2 ^ 40) (plain_logged chunks) log.few;
        }

pub events_before : (shape : Shape) (events : List Event) (bytes : List ℕ) → HasPlainEvents shape events bytes → HasEvents shape events bytes
events_before shape events bytes x = (plain x.0, (as_before shape x.0 bytes).0 x.1, plain_logged x.0 ∙ x.2)
