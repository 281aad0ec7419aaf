use Rattle.std.proofs.Common.{inl, arith, length}
use Rattle.rg_host.specs.EffectLaws.{torn_in-same}
use Rattle.rg_commands_tests.proofs.watched.WatchedHost.write_at.Goals as goal

pub returns-clause-may : goal.returns-clause-may
returns-clause-may c = λ v left. (v, tt, torn_in-same c.args.file c.args.at (length c.args.bytes.now) v)

pub returns-clause-moments : goal.returns-clause-moments
returns-clause-moments c = record {
  later = omega arith;
  each = λ m now. ((m.image, tt, torn_in-same c.args.file c.args.at (length c.args.bytes.now) m.image), λ s is. absurd (cc is));
  nothing_else = λ t m le now. inl tt;
  keeps = λ t m le was. tt;
  adds = λ t m le now. tt;
}
