use Rattle.std.proofs.Common.{Option, subst, arith}
use Rattle.rg_host.specs.Image.{Image, NothingPending}
use Rattle.rg_frame.specs.Steps.{Leaves, From}
use Rattle.rg_reservoir.specs.Attached.{LogOpens}
use Rattle.rg_reservoir.specs.Kept.{base, opened, next_of, time_of, cache_of, Adds}
use Rattle.rg_open.proofs.Sound.{ends_in, commit_left, committed_left, open_left, opened_left}
use Rattle.rg_open.proofs.Steps.{step_from, save_mid, save_done, extends, extended}
use Rattle.rg_open.proofs.store.law_steps.Goals as goal

pub returns : goal.returns
returns g c = record {
  commits = λ host plan keep r u o few left.
      let may = g.H.Host.may host in
      let Now : Option Image → Type 0 = λ i. Leaves 2 (From (base r).end (Adds (base r).shape.fields (opened r))) i may u in
      commit_left plan o.sound.0 may (base r) (opened r) (next_of r) (time_of r) (cache_of r) (o.sound.2.right o.going) o.file o.shape few keep u (subst Now o.sound.1 left);
  committed = λ host next plan keep r end o few grown settled left u one.
      let v = o.sound.0 in
      let may = g.H.Host.may host in
      let right = o.sound.2.right o.going in
      let became = grown.told v o.sound.1 in
      let added = became.2.there (ends_in plan v may (base r) (opened r) (next_of r) (time_of r) (cache_of r) right o.file o.shape few) in
      committed_left plan v may (base r) (opened r) (next_of r) (time_of r) (cache_of r) right o.file o.shape few keep became.0 (g.H.Host.may next) end added (subst (λ i. NothingPending 2 i (g.H.Host.may next)) became.1 settled)
      (λ x is. subst (λ i. Leaves 2 (From (base r).end (Adds (base r).shape.fields (opened r))) i may x) o.sound.1 (left x is)) u one;
  opens = λ host plan keep v u schema told settled left.
      let may = g.H.Host.may host in
      let here = subst (λ i. NothingPending 2 i may) told settled in
      let step = subst (λ i. Leaves 2 (LogOpens plan.shape plan.defaults) i may u) told left in
      (open_left plan schema keep v may here u step, opened_left plan schema keep v may here u step);
  saves = λ host plan keep payload checkpoint v u legal base told settled true_of left.
      let x = left.0.0 in
      save_mid plan keep legal checkpoint (g.H.Host.may host) x u left.0.1 left.0.2 (true_of x left.0.1)
      (step_from plan keep legal checkpoint (g.H.Host.may host) x u left.0.1 left.0.2 (true_of x left.0.1) v (settled v told x left.0.1) (left.1 settled v told checkpoint base));
  saved = λ host plan keep payload checkpoint v u legal base told settled true_of texts left.
      let x = left.0.0 in
      save_done plan keep legal checkpoint (g.H.Host.may host) x u left.0.1 left.0.2 (true_of x left.0.1) checkpoint.count texts (omega arith) (left.1 settled v told checkpoint base);
  extends = λ host plan keep slot sizes payload before after u to left. extends plan (g.H.Host.now host) (g.H.Host.may host) slot sizes payload before after to u keep left;
  extended = λ host plan slot sizes payload before after u to left. extended plan (g.H.Host.now host) (g.H.Host.may host) slot sizes payload before after to u left;
}
