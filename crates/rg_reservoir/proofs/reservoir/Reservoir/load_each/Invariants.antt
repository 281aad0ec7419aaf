use Rattle.std.proofs.Common.{◌≡◌, take, Some}
use Rattle.std.specs.Prelude.{All}
use Rattle.rg_host.specs.Image.{Image}
use Rattle.rg_reservoir.specs.Ahead.{all_ahead, SomeTouched, OnlyLoads}
use Rattle.rg_reservoir.specs.Kept.{base, view_of, opened, cache_of, loads_of, IsCached, IsSound, Spells, AllTouched}
use Rattle.rg_reservoir.proofs.reservoir.Reservoir.load_each.Given as goal

abbrev pub invariant-spots : goal.invariant-spots
invariant-spots g l = record {
  only : OnlyLoads g.H.Host.now g.H.Host.may g.H.Host.clock g.H.Host.since g.H.Host.said g.H.Host.disk_faults g.H.Host.out_faults l.initial.self l.self l.initial.host l.host;
  touched : (v : Image) → g.H.Host.now l.initial.host ≡ Some v → IsCached (view_of (base l.initial.self)) (v (base l.initial.self).file) (cache_of l.initial.self) →
      SomeTouched (all_ahead (base l.initial.self) (v (base l.initial.self).file) (take l.spot-index l.spots)) (cache_of l.initial.self) (cache_of l.self) (loads_of l.initial.self) (loads_of l.self);
  loaded : (sound : IsSound (g.H.Host.now l.initial.host) (g.H.Host.may l.initial.host) l.initial.self) → All (Spells (g.H.Host.now l.initial.host) (base l.initial.self) (opened l.initial.self)) l.spots →
      AllTouched (all_ahead (base l.initial.self) (sound.0 (base l.initial.self).file) (take l.spot-index l.spots)) (cache_of l.initial.self) (loads_of l.initial.self) (g.H.Host.reads l.initial.host) (cache_of l.self) (loads_of l.self) (g.H.Host.reads l.host);
}
