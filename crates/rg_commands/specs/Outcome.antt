-- What a call saw of the outside, and what it did to it, as one value.
use Rattle.std.specs.Prelude.{◌≡◌, ◌≤◌, ℕ, List, Option, None, ⊤}
use Rattle.rg_bytes.specs.Counts.{Rose}
use Rattle.rg_host.specs.Image.{Image}
use Rattle.rg_host.specs.Moments.{Moment, Moments, LeavesFiles}
use Rattle.rg_host.specs.Puts.{Puts}
use Rattle.rg_host.specs.declared.host.Host.{Ghosts as HostMembers}
use Rattle.rg_host.specs.declared.source.Source.{Ghosts as SourceMembers}

-- What a call saw of a source.
pub record SourceOutcome : Type 1 where
  -- the bytes that were to come before the call, and those that are to come after it, where the source tells them
  pub told : Option (List ℕ)
  pub left : Option (List ℕ)
  -- the source is as it was: nothing was read
  pub stays : Type 0
  -- a read failed
  pub failed : Type 0

-- What a call saw of a host, and what it did to it.
pub record HostOutcome : Type 1 where
  -- the image of the files as reads give it, where the host tells it, before and after
  pub image : Option Image
  pub image_after : Option Image
  -- a crash might leave this image, before and after
  pub may : Image → Type 0
  pub may_after : Image → Type 0
  -- all bytes put, where the host tells them, before and after
  pub said : Option (List ℕ)
  pub said_after : Option (List ℕ)
  -- each moment since the call's start is so
  pub moments : (Moment → Type 0) → Type 0
  -- exactly these bytes were put, and at each moment a prefix of them
  pub puts : List ℕ → Type 0
  -- no file was written: reads give the same, and at each moment a crash might have left what it could leave before
  pub files_stay : Type 0
  -- a put failed, and a call on a file failed
  pub put_failed : Type 0
  pub disk_failed : Type 0
  -- the count of failed puts didn't fall
  pub later : Type 0

-- What a call saw of a plan, an input and a host, and what it did to the host.
pub record Outcome : Type 1 where
  pub plan : SourceOutcome
  pub input : SourceOutcome
  pub host : HostOutcome

-- that of a source, by its members, from one state to a later one
abbrev pub source_outcome : {S : Type 0} → SourceMembers S → S → S → SourceOutcome
source_outcome s old new = record {
  told = s.left old;
  left = s.left new;
  stays = new ≡ old;
  failed = Rose (s.faults old) (s.faults new);
}

-- that of a source that the call isn't given
abbrev pub not_given : SourceOutcome
not_given = record { told = None; left = None; stays = ⊤; failed = ⊥ }

-- that of a host, by its members, from one state to a later one
abbrev pub host_outcome : {H : Type 0} → HostMembers H → H → H → HostOutcome
host_outcome h old new = record {
  image = h.now old;
  image_after = h.now new;
  may = h.may old;
  may_after = h.may new;
  said = h.said old;
  said_after = h.said new;
  moments = λ P. Moments h.clock h.since old new P;
  puts = λ bytes. Puts h.said h.clock h.since old new bytes;
  files_stay = LeavesFiles h.now h.may h.clock h.since old new;
  put_failed = Rose (h.out_faults old) (h.out_faults new);
  disk_failed = Rose (h.disk_faults old) (h.disk_faults new);
  later = h.out_faults old ≤ h.out_faults new;
}

-- those of a plan, an input and a host
abbrev pub outcome : SourceOutcome → SourceOutcome → HostOutcome → Outcome
outcome plan input host = record { plan = plan; input = input; host = host }

-- that of a call over a plan, an input and a host, by their members, and each before and after
abbrev pub outcome_of : {P I H : Type 0} → SourceMembers P → SourceMembers I → HostMembers H → P → P → I → I → H → H → Outcome
outcome_of p i h plan plan_after input input_after host host_after = outcome (source_outcome p plan plan_after) (source_outcome i input input_after) (host_outcome h host host_after)
