-- Parts of events whose times never fall.
use Rattle.std.proofs.Common.{◌≡◌, ◌⊎◌, ℕ, zero, suc, ◌≤◌, ◌<◌, ◌+◌, Bool, true, false, not, ◌&&◌, cond, nat_le, List, [], ◌∷◌, ◌++◌, length, take, drop, filter, refl, inl, inr, ap, sym, ◌∙◌, arith}
use Rattle.std.specs.Prelude.{⊤}
use Rattle.std.proofs.lemmas.Bool.{le-leb, leb-true}
use Rattle.std.proofs.lemmas.List.{append-nil}
use Rattle.rg_event.specs.declared.event.Event.{Event}
use Rattle.rg_event.specs.Rising.{last_time, IsRising}
use Rattle.rg_window.specs.Passing.{has_come, passing, passed}
use Rattle.rg_engine.specs.Windows.{position}
use Rattle.rg_engine.proofs.Plain.{is_false}

pub true_false : true ≡ false → ⊥
true_false e = cc

pub le_or : (a b : ℕ) → (b ≤ a) ⊎ (a < b)
le_or a b = grind arith

not_le : (a b : ℕ) → nat_le a b ≡ false → b < a
not_le a b e = elim (le_or b a) [ inl h ↦ absurd (true_false (sym (le-leb a b h) ∙ e)) | inr h ↦ h ]

-- Times

-- no time is below that one, and they never fall
abbrev pub TimesFrom : ℕ → List Event → Type 0
TimesFrom since [] = ⊤
TimesFrom since (x ∷ events) = (since ≤ x.time) × TimesFrom x.time events

rising_after : (x : Event) (events : List Event) → IsRising (x ∷ events) → TimesFrom x.time events
rising_after x [] h = tt
rising_after x (y ∷ events) h = (h.1, rising_after y events h.2)

pub rising_times : (events : List Event) → IsRising events → TimesFrom 0 events
rising_times [] h = tt
rising_times (x ∷ events) h = (omega arith, rising_after x events h)

pub times_lower : (since before : ℕ) (events : List Event) → before ≤ since → TimesFrom since events → TimesFrom before events
times_lower since before [] l h = tt
times_lower since before (x ∷ events) l h = (omega (arith, h.0), h.1)

pub times_front : (since : ℕ) (front more : List Event) → TimesFrom since (front ++ more) → TimesFrom since front
times_front since [] more h = tt
times_front since (x ∷ front) more h = (h.0, times_front x.time front more h.1)

times_behind : (x : Event) (front more : List Event) → TimesFrom x.time (front ++ more) → TimesFrom (last_time (x ∷ front)) more
times_behind x [] more h = h
times_behind x (y ∷ front) more h = times_behind y front more h.1

-- what follows has times from the last one on
pub times_more : (front more : List Event) → TimesFrom 0 (front ++ more) → TimesFrom (last_time front) more
times_more [] more h = h
times_more (x ∷ front) more h = times_behind x front more h.1

times_drop : (since n : ℕ) (events : List Event) → TimesFrom since events → TimesFrom since (drop n events)
times_drop since zero events h = h
times_drop since (suc n) [] h = tt
times_drop since (suc n) (x ∷ events) h = times_drop since n events (times_lower x.time since events h.0 h.1)

-- How far an edge has come

drop_by : (o t : ℕ) (x : Event) (xs : List Event) (p : ℕ) → (p ≤ length (passing o t xs) → p + length (passing o t (drop p xs)) ≡ length (passing o t xs)) → (b : Bool) →
    suc p ≤ length (cond b (x ∷ passing o t xs) []) → suc p + length (passing o t (drop p xs)) ≡ length (cond b (x ∷ passing o t xs) [])
drop_by o t x xs p f true l = let k = f (omega arith) in omega arith
drop_by o t x xs p f false l = absurd (omega arith)

pub passing_drop : (o t : ℕ) (xs : List Event) (p : ℕ) → p ≤ length (passing o t xs) → p + length (passing o t (drop p xs)) ≡ length (passing o t xs)
passing_drop o t xs zero l = omega arith
passing_drop o t [] (suc p) l = absurd (omega arith)
passing_drop o t (x ∷ xs) (suc p) l = drop_by o t x xs p (passing_drop o t xs p) (has_come o t x) l

take_by : (x : Event) (xs ys : List Event) (b : Bool) → ys ≡ take (length ys) xs → cond b (x ∷ ys) [] ≡ take (length (cond b (x ∷ ys) [])) (x ∷ xs)
take_by x xs ys true e = ap (λ v. x ∷ v) e
take_by x xs ys false e = refl

passing_take : (o t : ℕ) (xs : List Event) → passing o t xs ≡ take (length (passing o t xs)) xs
passing_take o t [] = refl
passing_take o t (x ∷ xs) = take_by x xs (passing o t xs) (has_come o t x) (passing_take o t xs)

slice_by : (o t : ℕ) (x : Event) (xs ys : List Event) (p : ℕ) → (p ≤ length ys → passing o t (drop p xs) ≡ drop p (take (length ys) xs)) → (b : Bool) →
    suc p ≤ length (cond b (x ∷ ys) []) → passing o t (drop p xs) ≡ drop (suc p) (take (length (cond b (x ∷ ys) [])) (x ∷ xs))
slice_by o t x xs ys p f true l = f (omega arith)
slice_by o t x xs ys p f false l = absurd (omega arith)

-- what an edge passes is a slice
pub passed_slice : (o t : ℕ) (xs : List Event) (p : ℕ) → p ≤ length (passing o t xs) → passed xs t o p ≡ drop p (take (length (passing o t xs)) xs)
passed_slice o t xs zero l = passing_take o t xs
passed_slice o t [] (suc p) l = absurd (omega arith)
passed_slice o t (x ∷ xs) (suc p) l = slice_by o t x xs (passing o t xs) p (passed_slice o t xs p) (has_come o t x) l

abbrev no_events : List Event
no_events = []

nil_slice : (b a : ℕ) → drop b (take a no_events) ≡ no_events
nil_slice zero zero = refl
nil_slice zero (suc a) = refl
nil_slice (suc b) zero = refl
nil_slice (suc b) (suc a) = refl

-- two slices, the second of which begins where the first one ends
pub slice_join : (xs : List Event) (b a c : ℕ) → b ≤ a → a ≤ c → drop b (take a xs) ++ drop a (take c xs) ≡ drop b (take c xs)
slice_join [] b a c h k = rw (nil_slice b a, nil_slice a c, nil_slice b c) refl
slice_join (x ∷ xs) zero zero c h k = refl
slice_join (x ∷ xs) zero (suc a) zero h k = absurd (omega arith)
slice_join (x ∷ xs) zero (suc a) (suc c) h k = ap (λ v. x ∷ v) (slice_join xs 0 a c (omega arith) (omega arith))
slice_join (x ∷ xs) (suc b) zero c h k = absurd (omega arith)
slice_join (x ∷ xs) (suc b) (suc a) zero h k = absurd (omega arith)
slice_join (x ∷ xs) (suc b) (suc a) (suc c) h k = slice_join xs b a c (omega arith) (omega arith)

-- Later times, greater offsets

come_later : (o t u : ℕ) (x : Event) → t ≤ u → has_come o t x ≡ true → has_come o u x ≡ true
come_later o t u x l e = le-leb (x.time + o) u (let k = leb-true (x.time + o) t e in omega arith)

come_sooner : (o q t : ℕ) (x : Event) → o ≤ q → has_come q t x ≡ true → has_come o t x ≡ true
come_sooner o q t x l e = le-leb (x.time + o) t (let k = leb-true (x.time + q) t e in omega arith)

two_by : (x : Event) (ys zs : List Event) (b c : Bool) → (b ≡ true → c ≡ true) → length ys ≤ length zs → length (cond b (x ∷ ys) []) ≤ length (cond c (x ∷ zs) [])
two_by x ys zs true true f l = omega arith
two_by x ys zs true false f l = absurd (true_false (sym (f refl)))
two_by x ys zs false c f l = omega arith

pub passing_later : (o t u : ℕ) (xs ys : List Event) → t ≤ u → length (passing o t xs) ≤ length (passing o u (xs ++ ys))
passing_later o t u [] ys l = omega arith
passing_later o t u (x ∷ xs) ys l = two_by x (passing o t xs) (passing o u (xs ++ ys)) (has_come o t x) (has_come o u x) (come_later o t u x l) (passing_later o t u xs ys l)

pub passing_sooner : (o q t : ℕ) (xs : List Event) → o ≤ q → length (passing q t xs) ≤ length (passing o t xs)
passing_sooner o q t [] l = omega arith
passing_sooner o q t (x ∷ xs) l = two_by x (passing q t xs) (passing o t xs) (has_come q t x) (has_come o t x) (come_sooner o q t x l) (passing_sooner o q t xs l)

within_by : (x : Event) (ys xs : List Event) (b : Bool) → length ys ≤ length xs → length (cond b (x ∷ ys) []) ≤ length (x ∷ xs)
within_by x ys xs true l = omega arith
within_by x ys xs false l = omega arith

pub passing_within : (o t : ℕ) (xs : List Event) → length (passing o t xs) ≤ length xs
passing_within o t [] = omega arith
passing_within o t (x ∷ xs) = within_by x (passing o t xs) xs (has_come o t x) (passing_within o t xs)

-- Events that an edge hasn't come to

not_come : (o t since : ℕ) (x : Event) → since ≤ x.time → t < since + o → has_come o t x ≡ false
not_come o t since x h l = is_false (has_come o t x) (λ e. let m = leb-true (x.time + o) t e in absurd (omega arith))

none_by : (b c : Bool) (x : Event) (ys : List Event) → b ≡ false → ys ≡ [] → cond (b && c) (x ∷ ys) ys ≡ []
none_by true c x ys e f = absurd (true_false e)
none_by false c x ys e f = f

none_yet : (o t since : ℕ) (p : Event → Bool) (xs : List Event) → TimesFrom since xs → t < since + o → filter (λ x. has_come o t x && p x) xs ≡ []
none_yet o t since p [] h l = refl
none_yet o t since p (x ∷ xs) h l =
    none_by (has_come o t x) (p x) x (filter (λ y. has_come o t y && p y) xs) (not_come o t since x h.0 l) (none_yet o t x.time p xs h.1 (omega (arith, h.0)))

stop_by : (x : Event) (ys : List Event) (b : Bool) → b ≡ false → cond b (x ∷ ys) [] ≡ []
stop_by x ys true e = absurd (true_false e)
stop_by x ys false e = refl

pub passing_none : (o t since : ℕ) (xs : List Event) → TimesFrom since xs → t < since + o → passing o t xs ≡ []
passing_none o t since [] h l = refl
passing_none o t since (x ∷ xs) h l = stop_by x (passing o t xs) (has_come o t x) (not_come o t since x h.0 l)

-- A window is a slice

in_by : (o t : ℕ) (x : Event) (xs : List Event) (b : Bool) → filter (λ y. has_come o t y && true) xs ≡ take (length (passing o t xs)) xs → (b ≡ false → filter (λ y. has_come o t y && true) xs ≡ []) →
    cond (b && true) (x ∷ filter (λ y. has_come o t y && true) xs) (filter (λ y. has_come o t y && true) xs) ≡ take (length (cond b (x ∷ passing o t xs) [])) (x ∷ xs)
in_by o t x xs true h f = ap (λ v. x ∷ v) h
in_by o t x xs false h f = f refl

-- of a window that nothing leaves, from the front
pub window_front : (o t since : ℕ) (xs : List Event) → TimesFrom since xs → filter (λ x. has_come o t x && true) xs ≡ take (length (passing o t xs)) xs
window_front o t since [] h = refl
window_front o t since (x ∷ xs) h =
    in_by o t x xs (has_come o t x) (window_front o t x.time xs h.1) (λ e. none_yet o t x.time (λ _. true) xs h.1 (not_le (x.time + o) t e))

slice_in : (o q t : ℕ) (x : Event) (xs : List Event) (a b : Bool) → (b ≡ true → a ≡ true) →
    filter (λ y. has_come o t y && not (has_come q t y)) xs ≡ drop (length (passing q t xs)) (take (length (passing o t xs)) xs) →
    (a ≡ false → filter (λ y. has_come o t y && not (has_come q t y)) xs ≡ []) → (b ≡ false → passing q t xs ≡ []) →
    cond (a && not b) (x ∷ filter (λ y. has_come o t y && not (has_come q t y)) xs) (filter (λ y. has_come o t y && not (has_come q t y)) xs)
    ≡ drop (length (cond b (x ∷ passing q t xs) [])) (take (length (cond a (x ∷ passing o t xs) [])) (x ∷ xs))
slice_in o q t x xs true true g h k m = h
slice_in o q t x xs true false g h k m = ap (λ v. x ∷ v) (h ∙ ap (λ v. drop (length v) (take (length (passing o t xs)) xs)) (m refl))
slice_in o q t x xs false true g h k m = absurd (true_false (sym (g refl)))
slice_in o q t x xs false false g h k m = k refl

-- of one that events leave
pub window_slice : (o q t since : ℕ) (xs : List Event) → o ≤ q → TimesFrom since xs → filter (λ x. has_come o t x && not (has_come q t x)) xs ≡ drop (length (passing q t xs)) (take (length (passing o t xs)) xs)
window_slice o q t since [] l h = refl
window_slice o q t since (x ∷ xs) l h =
    slice_in o q t x xs (has_come o t x) (has_come q t x) (come_sooner o q t x l) (window_slice o q t x.time xs l h.1)
    (λ e. none_yet o t x.time (λ y. not (has_come q t y)) xs h.1 (not_le (x.time + o) t e))
    (λ e. passing_none q t x.time xs h.1 (not_le (x.time + q) t e))

-- The position of an edge is how far it comes

pos_by : (o t : ℕ) (x : Event) (xs : List Event) (b : Bool) → filter (has_come o t) xs ≡ passing o t xs → (b ≡ false → passing o t xs ≡ []) → cond b (x ∷ filter (has_come o t) xs) (filter (has_come o t) xs) ≡ cond b (x ∷ passing o t xs) []
pos_by o t x xs true h f = ap (λ v. x ∷ v) h
pos_by o t x xs false h f = h ∙ f refl

filter_passing : (o t since : ℕ) (xs : List Event) → TimesFrom since xs → filter (has_come o t) xs ≡ passing o t xs
filter_passing o t since [] h = refl
filter_passing o t since (x ∷ xs) h = pos_by o t x xs (has_come o t x) (filter_passing o t x.time xs h.1) (λ e. passing_none o t x.time xs h.1 (not_le (x.time + o) t e))

pub position_passing : (o t since : ℕ) (xs : List Event) → TimesFrom since xs → position xs t o ≡ length (passing o t xs)
position_passing o t since xs h = ap length (filter_passing o t since xs h)

-- Before the last time nothing more passes

front_by : (x : Event) (xs ys : List Event) (b : Bool) → xs ≡ ys → cond b (x ∷ xs) [] ≡ cond b (x ∷ ys) []
front_by x xs ys b e = ap (λ v. cond b (x ∷ v) []) e

passing_front : (o t : ℕ) (front more : List Event) → passing o t more ≡ [] → passing o t (front ++ more) ≡ passing o t front
passing_front o t [] more e = e
passing_front o t (x ∷ front) more e = front_by x (passing o t (front ++ more)) (passing o t front) (has_come o t x) (passing_front o t front more e)

no_length : (xs : List Event) → length xs ≤ 0 → xs ≡ []
no_length [] l = refl
no_length (x ∷ xs) l = absurd (omega arith)

beyond_by : (o t : ℕ) (x : Event) (xs : List Event) (p : ℕ) (b : Bool) → has_come o t x ≡ b → TimesFrom x.time xs → (length (passing o t xs) ≤ p → passing o t (drop p xs) ≡ []) → length (cond b (x ∷ passing o t xs) []) ≤ suc p → passing o t (drop p xs) ≡ []
beyond_by o t x xs p true e h f l = f (omega arith)
beyond_by o t x xs p false e h f l = passing_none o t x.time (drop p xs) (times_drop x.time p xs h) (not_le (x.time + o) t e)

beyond : (o t since : ℕ) (xs : List Event) (p : ℕ) → TimesFrom since xs → length (passing o t xs) ≤ p → passing o t (drop p xs) ≡ []
beyond o t since xs zero h l = no_length (passing o t xs) l
beyond o t since [] (suc p) h l = refl
beyond o t since (x ∷ xs) (suc p) h l = beyond_by o t x xs p (has_come o t x) refl h.1 (beyond o t x.time xs p h.1) l

-- an edge that stands where it had come to at the last time passes nothing at a time before it
pub passed_before : (front more : List Event) (o t p : ℕ) → TimesFrom 0 (front ++ more) → t < last_time front → p ≡ length (passing o (last_time front) front) → passed (front ++ more) t o p ≡ []
passed_before front more o t p h l e =
    let none : passing o t more ≡ [] = passing_none o t (last_time front) more (times_more front more h) (omega arith) in
    beyond o t 0 (front ++ more) p h (omega (arith, ap length (passing_front o t front more none), passing_later o t (last_time front) front [] (omega arith), ap (λ v. length (passing o (last_time front) v)) (append-nil front)))
