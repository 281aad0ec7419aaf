use Rattle.rg_open.proofs.Saving.{of_plan, fit_of, saved_left}
use Rattle.rg_open.proofs.store.law_checkpoints.Goals as goal

pub returns : goal.returns
returns g c = record {
  of_plan = λ plan v events slot checkpoint said framed has truthful below complete texts. of_plan plan said (v 2) events framed has checkpoint (truthful.slots slot below checkpoint complete) texts;
  fit = λ plan v events slot checkpoint said serves framed has truthful below complete texts. fit_of plan said (v 2) events framed has serves checkpoint (truthful.slots slot below checkpoint complete) texts;
  saved = λ plan host r cells checkpoint to_save lists count u left. saved_left plan (g.H.Host.now host) (g.H.Host.may host) r cells checkpoint to_save lists count u left;
}
