-- The frames of a log, found and judged one after another.
use Rattle.std.proofs.Common.{◌≡◌, ◌∙◌, ◌⊎◌, inl, inr, ℕ, ◌+◌, ◌^◌, ◌≤◌, ◌<◌, min, nat_le, Bool, true, false, List, [], ◌∷◌, ◌++◌, length, take, drop, Option, Some, option_and_then, refl, sym, ap, subst, arith, append_assoc, length-append}
use Rattle.std.proofs.lemmas.Bool.Decides.{nat_tests}
use Rattle.std.proofs.lemmas.List.{drop_at, take_all, take-take}
use Rattle.std.proofs.lemmas.List.Elements.{All-nil}
use Rattle.std.specs.Int.{to_be_bytes, w64}
use Rattle.rg_event.specs.Shapes.{Shape}
use Rattle.rg_frame.specs.Frames.{frames, body, FitsFrame, Begins, IsLog, payload_at}
use Rattle.rg_frame.specs.Looks.{HoldsFrame, IsTorn, Next}
use Rattle.rg_frame.proofs.Laws.{frames-push, fits_push, holds_payload, torn_payload}
use Rattle.rg_log.specs.declared.entry.Entry.{Entry}
use Rattle.rg_log.specs.declared.entry.LogSoFar.{LogSoFar}
use Rattle.rg_log.specs.Entries.{unread, entry_of, with_entry, entry_after}
use Rattle.rg_log.proofs.Laws.{entries_push}
use Rattle.rg_reservoir.specs.Heads.{Passed, IsOpenGate, IsBadFrame, EntryAt, IsPassed, CannotPass}
use Rattle.rg_reservoir.proofs.Chains.{some_none}

pub begins_none : (bytes : List ℕ) → Begins [] 0 bytes
begins_none bytes = record { rest = bytes; ends = refl; is = refl; goes = inl refl }

-- what stands in front of the last frame's end
pub begins_more : (payloads : List (List ℕ)) (p : List ℕ) (place next : ℕ) (bytes : List ℕ) → length (frames payloads) ≡ place → next ≤ 2 ^ 62 → Begins (payloads ++ p ∷ []) next bytes
    → (payload_at place bytes ≡ Some p) × (next ≡ place + 9 + length p) × IsOpenGate place bytes
begins_more payloads p place next bytes ends most begins =
    let is : bytes ≡ frames payloads ++ (1 ∷ (body p ++ begins.rest)) = begins.is ∙ ap (λ (l : List ℕ). l ++ begins.rest) (frames-push payloads p) ∙ append_assoc (frames payloads) (1 ∷ body p) begins.rest in
    let size : next ≡ place + 9 + length p = sym begins.ends ∙ ap length (frames-push payloads p) ∙ omega (arith, ends, length-append (frames payloads) (1 ∷ body p), length-append (to_be_bytes w64 (length p)) p) in
    let behind : drop place bytes ≡ 1 ∷ (body p ++ begins.rest) = ap (λ (l : List ℕ). drop place l) is ∙ drop_at (frames payloads) (1 ∷ (body p ++ begins.rest)) place ends in
    let more : 0 < length begins.rest = some begins.goes in (
      holds_payload place p bytes (record { rest = begins.rest; is = behind; more = more }) (omega (arith, size, most)),
      size,
      record { rest = body p ++ begins.rest; is = behind; longer = omega (arith, ap length is, length-append (frames payloads) (1 ∷ (body p ++ begins.rest)), length-append (body p) begins.rest, more) },
    )
  where
    some : (payloads ++ p ∷ [] ≡ []) ⊎ (0 < length begins.rest) → 0 < length begins.rest
    some (inl none) = absurd (omega (arith, ap length none, length-append payloads (p ∷ [])))
    some (inr more) = more

front_same : (size n : ℕ) (front payload : List ℕ) → length payload ≡ size → length front ≡ 37 → n ≡ min 37 size → take (min (length front) size) front ≡ take (min (length front) size) payload → take 37 (take n front) ≡ take 37 payload
front_same size n front payload long whole cut same =
    let m : min (length front) size ≡ n = omega (arith, whole, cut) in
    let e : take n front ≡ take n payload = subst (λ (k : ℕ). take k front ≡ take k payload) m same in
    ap (λ (l : List ℕ). take 37 l) e ∙ by (nat_le size 37) refl
  where
    by : (b : Bool) → nat_le size 37 ≡ b → take 37 (take n payload) ≡ take 37 payload
    by true t = let le : size ≤ 37 = grind (arith, nat_tests) in ap (λ (l : List ℕ). take 37 l) (take_all n payload (omega (arith, le, cut, long)))
    by false f = let lt : 37 < size = grind (arith, nat_tests) in let n37 : n ≡ 37 = omega (arith, lt, cut) in ap (λ (k : ℕ). take 37 (take k payload)) n37 ∙ take-take 37 37 payload (omega arith)

-- a chunk that was found by the first bytes of its payload
pub chunk_found : (payloads : List (List ℕ)) (place next size n : ℕ) (front bytes : List ℕ) (schema : Option Shape) (entry : Entry) → ((payload : List ℕ) → take 37 (take n front) ≡ take 37 payload → entry_of schema payload ≡ Some entry) → length front ≡ 37 → n ≡ min 37 size
    → Begins payloads place bytes → next ≤ 2 ^ 62 → Next payloads size front next bytes → EntryAt bytes payloads schema place next (Some entry)
chunk_found payloads place next size n front bytes schema entry tells whole cut b most found =
    let m = begins_more payloads found.payload place next bytes b.ends most found.begins in
    record {
      payload = found.payload;
      here = m.0;
      gate = m.2;
      next_is = m.1;
      says = sym (tells found.payload (front_same size n front found.payload found.size_is whole cut found.first));
      begins = found.begins;
    }

-- another frame, whose payload was read whole
pub whole_found : (payloads : List (List ℕ)) (place next size : ℕ) (front bytes : List ℕ) (schema : Option Shape) (entry : Option Entry) → ((payload : List ℕ) → payload_at place bytes ≡ Some payload → entry ≡ entry_of schema payload)
    → Begins payloads place bytes → next ≤ 2 ^ 62 → Next payloads size front next bytes → EntryAt bytes payloads schema place next entry
whole_found payloads place next size front bytes schema entry tells b most found =
    let m = begins_more payloads found.payload place next bytes b.ends most found.begins in
    record { payload = found.payload; here = m.0; gate = m.2; next_is = m.1; says = tells found.payload m.0; begins = found.begins }

-- a payload that was read is the one at its place
pub read_whole : (place next : ℕ) (out payload bytes : List ℕ) → HoldsFrame place out bytes → next < 2 ^ 62 → next ≡ place + 9 + length out → payload_at place bytes ≡ Some payload → out ≡ payload
read_whole place next out payload bytes holds small is here =
    let g : Some out ≡ Some payload = sym (holds_payload place out bytes holds (omega (arith, small, is))) ∙ here in
    cc

-- before the first frame
abbrev pub passed_start : (bytes : List ℕ) → Passed bytes 0 unread
passed_start bytes = record { payloads = []; begins = begins_none bytes; fit = All-nil FitsFrame; say = refl }

-- the step that a frame makes which was passed
pub step_passed : (payload : List ℕ) (old new : LogSoFar) (entry : Option Entry) → entry ≡ entry_of old.schema payload → IsPassed entry old new → entry_after old payload ≡ Some new
step_passed payload old new entry says passed = ap (option_and_then (with_entry old)) (sym says ∙ passed.1) ∙ passed.2

abbrev pub passed_more : (bytes : List ℕ) (end next : ℕ) (old new : LogSoFar) (entry : Option Entry) (p : Passed bytes end old) → next ≤ 2 ^ 62 → (h : EntryAt bytes p.payloads old.schema end next entry) → IsPassed entry old new → Passed bytes next new
passed_more bytes end next old new entry p small h passed = record {
  payloads = p.payloads ++ h.payload ∷ [];
  begins = h.begins;
  fit = fits_push p.payloads h.payload p.fit (omega (arith, h.next_is, small));
  say = entries_push unread old p.payloads h.payload p.say ∙ step_passed h.payload old new entry h.says passed;
}

bad_entry : (bytes : List ℕ) (end next : ℕ) (so_far : LogSoFar) (entry : Option Entry) (p : Passed bytes end so_far) (h : EntryAt bytes p.payloads so_far.schema end next entry) → CannotPass entry so_far → IsBadFrame end bytes
bad_entry bytes end next so_far entry p h none = record {
  so_far = so_far;
  passed = p;
  gate = h.gate;
  bad = λ q here.
      let g : Some h.payload ≡ Some q = sym h.here ∙ here in
      let same : h.payload ≡ q = cc in
      ap (entry_after so_far) (sym same) ∙ ap (option_and_then (with_entry so_far)) (sym h.says) ∙ none;
}

pub torn_frame : (bytes : List ℕ) (end : ℕ) (so_far : LogSoFar) → Passed bytes end so_far → IsTorn end bytes → IsBadFrame end bytes
torn_frame bytes end so_far p torn = record {
  so_far = so_far;
  passed = p;
  gate = record { rest = torn.rest; is = torn.is; longer = torn.longer };
  bad = λ q here. absurd (some_none _ _ here (torn_payload end bytes torn));
}

-- the same of a file's bytes by another name

pub entry_on : (bytes same : List ℕ) (end next : ℕ) (so_far : LogSoFar) (entry : Option Entry) → bytes ≡ same → (p : Passed same end so_far) → ((payloads : List (List ℕ)) → Begins payloads end bytes → EntryAt bytes payloads so_far.schema end next entry)
    → EntryAt same p.payloads so_far.schema end next entry
entry_on bytes same end next so_far entry is p found = subst (λ (l : List ℕ). EntryAt l p.payloads so_far.schema end next entry) is (found p.payloads (subst (λ (l : List ℕ). Begins p.payloads end l) (sym is) p.begins))

pub bad_on : (bytes same : List ℕ) (end next : ℕ) (so_far : LogSoFar) (entry : Option Entry) → bytes ≡ same → Passed same end so_far → ((payloads : List (List ℕ)) → Begins payloads end bytes → EntryAt bytes payloads so_far.schema end next entry) → CannotPass entry so_far → IsBadFrame end same
bad_on bytes same end next so_far entry is p found none = bad_entry same end next so_far entry p (entry_on bytes same end next so_far entry is p found) none

pub torn_on : (bytes same : List ℕ) (end : ℕ) (so_far : LogSoFar) → bytes ≡ same → Passed same end so_far → IsTorn end bytes → IsBadFrame end same
torn_on bytes same end so_far is p torn = torn_frame same end so_far p (subst (λ (l : List ℕ). IsTorn end l) is torn)

pub ends_on : (bytes same : List ℕ) (end : ℕ) (so_far : LogSoFar) → bytes ≡ same → (p : Passed same end so_far) → ((payloads : List (List ℕ)) → Begins payloads end bytes → IsLog payloads end bytes) → IsLog p.payloads end same
ends_on bytes same end so_far is p log = subst (λ (l : List ℕ). IsLog p.payloads end l) is (log p.payloads (subst (λ (l : List ℕ). Begins p.payloads end l) (sym is) p.begins))
