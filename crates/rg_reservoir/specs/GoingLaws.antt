-- The laws of a past over a disk.
use Rattle.std.specs.Prelude.{◌≡◌, ◌≤◌, ◌<◌, ◌+◌, ◌^◌, ◌⊎◌, ℕ, zero, suc, Bool, true, false, List, [], ◌∷◌, ◌++◌, length, Option, Some, None, refl}
use Rattle.std.proofs.Common.{sym, ◌∙◌, ap, subst, arith, inl, inr, length-append, append_assoc}
use Rattle.std.proofs.lemmas.List.{append-nil}
use Rattle.std.specs.Option.{ForSome}
use Rattle.std.specs.Borrow.{MutBor}
use Rattle.rg_host.specs.Image.{Image}
use Rattle.rg_event.specs.declared.event.Event.{Event}
use Rattle.rg_past.specs.declared.past.Spot.{Spot}
use Rattle.rg_event.specs.Codec.{IsEventOf}
use Rattle.rg_event.specs.Rising.{IsRising}
use Rattle.rg_past.specs.Ranges.{IsInRange}
use Rattle.rg_host.specs.Moments.{Moment}
use Rattle.rg_host.proofs.Laws.{leaves_all-none, leaves_all-then}
use Rattle.rg_reservoir.specs.Chain.{padded}
use Rattle.rg_reservoir.specs.Kept.{Base, base, view_of, opened, cache_of, stored, all_events, IsCached, IsSound, SpellsSettled, LaterSettled, Spells, SpellsLater, InChunk, InFront, InOpen}
use Rattle.rg_reservoir.specs.Views.{passed}
use Rattle.rg_reservoir.specs.Going.{Goes}
use Rattle.rg_reservoir.specs.Reached.{AsksIllegal, IsReached, IsReachedEvent}
use Rattle.rg_reservoir.specs.declared.reservoir.Reservoir.{Reservoir}

padded_long : (count : ℕ) (events : List Event) → length (padded count events) ≡ count
padded_long zero events = refl
padded_long (suc count) [] = omega (arith, padded_long count [])
padded_long (suc count) (x ∷ events) = omega (arith, padded_long count events)

stored_long : (now : Option Image) (b : Base) → length (stored now b) ≡ b.committed
stored_long (Some v) b = padded_long b.committed _
stored_long None b = padded_long b.committed []

pub all_long : (now : Option Image) (b : Base) (opened : List Event) → length (all_events now b opened) ≡ b.committed + length opened
all_long now b opened = omega (arith, length-append (stored now b) opened, stored_long now b)

module _ {H : Type 0} (now : H → Option Image) (may : H → Image → Type 0) (clock : H → ℕ) (since : H → ℕ → Moment → Type 0) (said : H → Option (List ℕ)) (out_faults : H → ℕ) where
  pub Goes-same :
      ((h : H) (m : Moment) → since h (clock h) m → may h m.image × ForSome (said h) (λ s. m.said ≡ s)) → ((h : H) (t u : ℕ) (m : Moment) → t ≤ u → since h u m → since h t m)
      → (r : MutBor Reservoir) (h : MutBor H) → Goes now may clock since said out_faults r h r h
  Goes-same only sinks r h = record {
    same_reservoir = refl;
    same_host = refl;
    base = refl;
    room = refl;
    cap = refl;
    leaves = leaves_all-none now may clock since said h.now (λ t u m le left. sinks h.now t u m le left) (λ m left. only h.now m left);
    outs_stay = refl;
    added = ([], sym (append-nil (opened r.now)));
    cached = λ v told was. was;
    sound = λ sound. sound;
  }

  pub Goes-join : (pr : MutBor Reservoir) (ph : MutBor H) (qr : MutBor Reservoir) (qh : MutBor H) (rr : MutBor Reservoir) (rh : MutBor H)
      → Goes now may clock since said out_faults pr ph qr qh → Goes now may clock since said out_faults qr qh rr rh → Goes now may clock since said out_faults pr ph rr rh
  Goes-join pr ph qr qh rr rh first second = record {
    same_reservoir = second.same_reservoir ∙ first.same_reservoir;
    same_host = second.same_host ∙ first.same_host;
    base = second.base ∙ first.base;
    room = second.room ∙ first.room;
    cap = second.cap ∙ first.cap;
    leaves = leaves_all-then now may clock since said ph.now qh.now rh.now first.leaves second.leaves;
    outs_stay = second.outs_stay ∙ first.outs_stay;
    added = (first.added.0 ++ second.added.0, second.added.1 ∙ ap (λ (l : List Event). l ++ second.added.0) first.added.1 ∙ append_assoc (opened pr.now) first.added.0 second.added.0);
    cached = λ v told was. subst (λ (b : Base). IsCached (view_of b) (v b.file) (cache_of rr.now)) first.base
        (second.cached v (first.leaves.now_stays ∙ told) (subst (λ (b : Base). IsCached (view_of b) (v b.file) (cache_of qr.now)) (sym first.base) (first.cached v told was)));
    sound = λ sound. second.sound (first.sound sound);
  }

  pub Goes-count : (pr : MutBor Reservoir) (ph : MutBor H) (qr : MutBor Reservoir) (qh : MutBor H) → Goes now may clock since said out_faults pr ph qr qh
      → length (all_events (now ph.now) (base pr.now) (opened pr.now)) ≤ length (all_events (now qh.now) (base qr.now) (opened qr.now))
  Goes-count pr ph qr qh goes =
      omega (arith, all_long (now ph.now) (base pr.now) (opened pr.now), all_long (now qh.now) (base qr.now) (opened qr.now), ap (λ (b : Base). b.committed) goes.base, ap length goes.added.1, length-append (opened pr.now) goes.added.0)

  pub Goes-limit : (pr : MutBor Reservoir) (ph : MutBor H) (qr : MutBor Reservoir) (qh : MutBor H) → Goes now may clock since said out_faults pr ph qr qh → (base qr.now).limit ≡ (base pr.now).limit
  Goes-limit pr ph qr qh goes = ap (λ (b : Base). b.limit) goes.base

  pub Goes-spells : (pr : MutBor Reservoir) (ph : MutBor H) (qr : MutBor Reservoir) (qh : MutBor H) (s : Spot) → Goes now may clock since said out_faults pr ph qr qh
      → Spells (now ph.now) (base pr.now) (opened pr.now) s → Spells (now qh.now) (base qr.now) (opened qr.now) s
  Goes-spells pr ph qr qh s goes spells = subst (λ (b : Base). Spells (now qh.now) b (opened qr.now) s) (sym goes.base) (record {
    there = record {
      image = spells.there.image;
      told = goes.leaves.now_stays ∙ spells.there.told;
      number = omega (arith, spells.there.number, ap length goes.added.1, length-append (opened pr.now) goes.added.0);
      spelling = spells.there.spelling;
      at = spells.there.at;
    };
    at = spells.at;
  })

  -- what is known of a spot over any log
  module _ (pr : MutBor Reservoir) (ph : MutBor H) (qr : MutBor Reservoir) (qh : MutBor H) (s : Spot) (goes : Goes now may clock since said out_faults pr ph qr qh) where
    pub Goes-asking : AsksIllegal (now ph.now) (base pr.now) (cache_of pr.now) s → AsksIllegal (now qh.now) (base qr.now) (cache_of qr.now) s
    Goes-asking asks = subst (λ (b : Base). AsksIllegal (now qh.now) b (cache_of qr.now) s) (sym goes.base) (record {
      image = asks.image;
      told = goes.leaves.now_stays ∙ asks.told;
      cached = goes.cached asks.image asks.told asks.cached;
      near = asks.near;
      illegal = asks.illegal;
    })

    pub Goes-reached : IsReached (now ph.now) (base pr.now) (cache_of pr.now) s → IsReached (now qh.now) (base qr.now) (cache_of qr.now) s
    Goes-reached reached = subst (λ (b : Base). IsReached (now qh.now) b (cache_of qr.now) s) (sym goes.base) (record {
      image = reached.image;
      told = goes.leaves.now_stays ∙ reached.told;
      cached = goes.cached reached.image reached.told reached.cached;
      apart = reached.apart;
      so_far = reached.so_far;
    })

    pub Goes-at_event : IsReachedEvent (now ph.now) (base pr.now) (cache_of pr.now) s → IsReachedEvent (now qh.now) (base qr.now) (cache_of qr.now) s
    Goes-at_event reached = subst (λ (b : Base). IsReachedEvent (now qh.now) b (cache_of qr.now) s) (sym goes.base) (record {
      image = reached.image;
      told = goes.leaves.now_stays ∙ reached.told;
      cached = goes.cached reached.image reached.told reached.cached;
      apart = reached.apart;
      so_far = reached.so_far;
    })

  -- the events of a later state begin with those of an earlier one
  pub Goes-begins : (pr : MutBor Reservoir) (ph : MutBor H) (qr : MutBor Reservoir) (qh : MutBor H) → Goes now may clock since said out_faults pr ph qr qh
      → (added : List Event) × (all_events (now qh.now) (base qr.now) (opened qr.now) ≡ all_events (now ph.now) (base pr.now) (opened pr.now) ++ added)
  Goes-begins pr ph qr qh goes = (
    goes.added.0,
    ap (λ (o : Option Image). all_events o (base qr.now) (opened qr.now)) goes.leaves.now_stays
        ∙ ap (λ (b : Base). all_events (now ph.now) b (opened qr.now)) goes.base
        ∙ ap (λ (l : List Event). all_events (now ph.now) (base pr.now) l) goes.added.1
        ∙ sym (append_assoc (stored (now ph.now) (base pr.now)) (opened pr.now) goes.added.0),
  )

  pub Goes-fits : (pr : MutBor Reservoir) (ph : MutBor H) (qr : MutBor Reservoir) (qh : MutBor H) (event : Event) → Goes now may clock since said out_faults pr ph qr qh → IsEventOf (base pr.now).shape.fields event → IsEventOf (base qr.now).shape.fields event
  Goes-fits pr ph qr qh event goes fits = subst (λ (b : Base). IsEventOf b.shape.fields event) (sym goes.base) fits

pub fits_range : (r : Reservoir) (event : Event) → IsEventOf (base r).shape.fields event → IsInRange event
fits_range r event fits = record { offset = fits.offset; time = fits.time }

later_there : (now : Option Image) (b : Base) (opened : List Event) (s : Spot) → passed b.growths s.place ≡ s.place → LaterSettled now b opened s → SpellsSettled now b opened s
later_there now b opened s at later = record { image = later.image; told = later.told; number = later.number; spelling = by later.spelling; at = at }
  where
    by : ((s.number < b.committed) × InFront b (later.image b.file) s.place s.index s.number) ⊎ InOpen b s.place s.index s.number → ((s.number ≤ b.committed) × InChunk b (later.image b.file) s.place s.index s.number) ⊎ InOpen b s.place s.index s.number
    by (inl f) = inl (omega (arith, f.0), f.1.chunk)
    by (inr o) = inr o

-- a spot at whose place no growth stands is where it is
pub spells_here : (now : Option Image) (b : Base) (opened : List Event) (s : Spot) → SpellsSettled now b opened s → Spells now b opened s
spells_here now b opened s there = record { there = subst (λ (p : ℕ). SpellsSettled now b opened (record { place = p; index = s.index; number = s.number })) (sym there.at) there; at = inl there.at }

pub later_spells : (now : Option Image) (b : Base) (opened : List Event) (s : Spot) → SpellsLater now b opened s → Spells now b opened s
later_spells now b opened s later = spells_here now b opened s (later_there now b opened s later.at later.there)

pub not_false : (b : Bool) → (b ≡ true → ⊥) → b ≡ false
not_false true h = absurd (h refl)
not_false false h = refl

pub sound_order : (now : Option Image) (may : Image → Type 0) (r : Reservoir) → IsSound now may r → ((base r).ended ≡ true → ⊥) → IsRising (all_events now (base r) (opened r)) × (length (all_events now (base r) (opened r)) ≤ 2 ^ 40)
sound_order now may r sound going = (
  subst (λ (n : Option Image). IsRising (all_events n (base r) (opened r))) (sym sound.1) (sound.2.right (not_false (base r).ended going)).rising,
  omega (arith, all_long now (base r) (opened r), r.few),
)

pub spells_within : (now : Option Image) (b : Base) (opened : List Event) (s : Spot) → Spells now b opened s → s.number ≤ length (all_events now b opened)
spells_within now b opened s spells = omega (arith, spells.there.number, all_long now b opened)

pub limit_small : (r : Reservoir) → (base r).limit ≤ 2 ^ 40
limit_small r = r.small
