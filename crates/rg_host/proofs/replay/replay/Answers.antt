use Rattle.std.proofs.Common.{◌∙◌, sym}
use Rattle.rg_host.proofs.FileLists.{image_of-files_of}
use Rattle.rg_host.proofs.replay.replay.Goals as goal

pub replayed-init : goal.replayed-init
replayed-init c = record {
  eight_now = c.in_ok-now.ensures.eight;
  eight_left = c.in_ok-left.ensures.eight;
  now = λ file. c.in_ok-now.ensures.same file ∙ sym (image_of-files_of c.args.first.now file);
  left = λ file. c.in_ok-left.ensures.same file ∙ sym (image_of-files_of c.args.first.now file);
}
