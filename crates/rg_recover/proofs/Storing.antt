-- A chunk that was stored, or was open still, and then a call that leaves the files.
use Rattle.std.proofs.Common.{◌≡◌, ◌⊎◌, inl, inr, ℕ, ◌≤◌, ◌<◌, false, List, [], ◌∷◌, ◌++◌, length, Option, refl, sym, ◌∙◌, ap, subst, arith, length-append}
use Rattle.std.specs.Option.{ForSome}
use Rattle.rg_host.specs.Image.{Image}
use Rattle.rg_host.specs.Moments.{Moment, LeavesAll}
use Rattle.rg_host.proofs.Laws.{leaves_all-none}
use Rattle.rg_event.specs.declared.event.Event.{Event}
use Rattle.rg_past.specs.declared.past.Spot.{Spot}
use Rattle.rg_run_spec.specs.Stores.{Store}
use Rattle.rg_open.specs.Stores.{store_of}
use Rattle.rg_reservoir.specs.Kept.{Base, base, view_of, opened, room_of, cache_of, stored, all_events}
use Rattle.rg_reservoir.specs.GoingLaws.{all_long}
use Rattle.rg_reservoir.specs.Reached.{AsksIllegal}
use Rattle.rg_reservoir.specs.declared.reservoir.Reservoir.{Reservoir}
use Rattle.rg_task.specs.Stepping.{IsWithinStep, IsStored}
use Rattle.rg_recover.specs.Storing.{HasStored, KeepsLog}
use Rattle.rg_recover.proofs.Stays.{slots_quiet}
use Rattle.rg_recover.proofs.Within.{quiet_within, within_more, still_stored}

module _ {H : Type 0} (now : H → Option Image) (may : H → Image → Type 0) (clock : H → ℕ) (since : H → ℕ → Moment → Type 0) (said : H → Option (List ℕ)) where
  -- nothing was done
  pub still_has : (r : Reservoir) (h : H) → (base r).ended ≡ false → HasStored now may r r h h
  still_has r h going = record {
    going = going;
    step = λ plan keep log. still_stored now may clock since said (store_of plan) keep (opened r) (stored (now h) (base r)) h;
    log = λ plan log. log;
    in_step = λ plan cells spots texts is. is;
    slots = slots_quiet (now h) (now h) (may h) (may h) refl (λ u left. left);
    spelled = λ sound spot is. is;
    events = λ sound. refl;
  }

  -- a call that did nothing leaves all
  pub leaves_same : ((h : H) (m : Moment) → since h (clock h) m → may h m.image × ForSome (said h) (λ s. m.said ≡ s)) → ((h : H) (t u : ℕ) (m : Moment) → t ≤ u → since h u m → since h t m) → (old new : H) → new ≡ old → LeavesAll now may clock since said old new
  leaves_same only sinks old new same = subst (λ (h : H). LeavesAll now may clock since said old h) (sym same) (leaves_all-none now may clock since said old (sinks old) (only old))

  module _ (store : Store Image) (keep : Option ℕ) (chunk before after : List Event) (old mid new : H) (done : IsStored store keep chunk before after (may old) (may mid)) (leaves : LeavesAll now may clock since said mid new) where
    -- what is left is within the step
    pub within_left : IsWithinStep may clock since said store keep chunk old mid → IsWithinStep may clock since said store keep chunk old new
    within_left first = within_more now may clock since said store keep chunk done.more old mid new done.whole first done.left (quiet_within now may clock since said store keep [] mid new leaves)

    -- and the step is done
    pub stored_left : (then : List Event) → then ≡ after → IsStored store keep chunk before then (may old) (may new)
    stored_left then same = record { more = done.more; whole = done.whole; grown = same ∙ done.grown; left = λ u left. done.left u (leaves.may_stays.no_more u left) }

  -- where nothing was stored before
  pub roomy_then : (r m s : Reservoir) (old mid new : H) → (m ≡ r) × (mid ≡ old) → LeavesAll now may clock since said mid new → base s ≡ base m → LeavesAll now may clock since said old new × (base s ≡ base r)
  roomy_then r m s old mid new same leaves stays = (subst (λ (h : H). LeavesAll now may clock since said h new) same.1 leaves, stays ∙ ap (λ (x : Reservoir). base x) same.0)

-- then the look of an edge comes to an illegal chunk as before
pub asks_still : {H : Type 0} (now : H → Option Image) (old mid : H) (r m : Reservoir) (spot : Spot) → (m ≡ r) × (mid ≡ old) → AsksIllegal (now old) (base r) (cache_of r) spot → AsksIllegal (now mid) (base m) (cache_of m) spot
asks_still now old mid r m spot same asks =
    subst (λ h. AsksIllegal (now h) (base m) (cache_of m) spot) (sym same.1) (subst (λ (x : Reservoir). AsksIllegal (now old) (base x) (cache_of x) spot) (sym same.0) asks)

-- the stored events of a log that stays
pub same_stored : (now then : Option Image) (m s : Reservoir) → then ≡ now → base s ≡ base m → stored then (base s) ≡ stored now (base m)
same_stored now then m s told same = ap (λ (o : Option Image). stored o (base s)) told ∙ ap (λ (b : Base). stored now b) same

module _ {H : Type 0} (said : H → Option (List ℕ)) (disk_faults out_faults : H → ℕ) where
  -- a log that stays, and stays again
  pub log_then : (r m s : Reservoir) (old mid new : H) → KeepsLog said disk_faults out_faults r m old mid → base s ≡ base m → room_of s ≡ room_of m → (cache_of s).cap ≡ (cache_of m).cap
      → said new ≡ said mid → disk_faults mid ≤ disk_faults new → out_faults new ≡ out_faults mid → KeepsLog said disk_faults out_faults r s old new
  log_then r m s old mid new keeps same room cap told grow stay = record {
    view = ap view_of same ∙ keeps.view;
    file = ap (λ (b : Base). b.file) same ∙ keeps.file;
    limit = ap (λ (b : Base). b.limit) same ∙ keeps.limit;
    room = room ∙ keeps.room;
    cap = cap ∙ keeps.cap;
    more = let committed = ap (λ (b : Base). b.committed) same in omega (arith, keeps.more, committed);
    said_stays = told ∙ keeps.said_stays;
    disk_faults_grow = omega (arith, keeps.disk_faults_grow, grow);
    out_faults_stay = stay ∙ keeps.out_faults_stay;
  }

-- an event that had room is within it
pub fits_after : (now then : Option Image) (m s : Reservoir) (event : Event) → base s ≡ base m → room_of s ≡ room_of m → length (opened m) < room_of m
    → (all_events then (base s) (opened s) ≡ all_events now (base m) (opened m)) ⊎ (all_events then (base s) (opened s) ≡ all_events now (base m) (opened m) ++ event ∷ []) → length (opened s) ≤ room_of s
fits_after now then m s event same room below (inl are) =
    let committed = ap (λ (b : Base). b.committed) same in
    omega (arith, committed, room, below, ap length are, all_long now (base m) (opened m), all_long then (base s) (opened s))
fits_after now then m s event same room below (inr are) =
    let committed = ap (λ (b : Base). b.committed) same in
    let one = length-append (all_events now (base m) (opened m)) (event ∷ []) in
    omega (arith, committed, room, below, ap length are, one, all_long now (base m) (opened m), all_long then (base s) (opened s))
