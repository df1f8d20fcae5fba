use Rattle.hs_machine.specs.State.{moment_of}
use Rattle.dispatcher.specs.State.{moment}
use Rattle.exec_laws.proofs.FollowLemmas.{alike}
use Rattle.exec_laws.proofs.SameLemmas.{tick_reply, fire_reply, report_reply}
use Rattle.exec_laws.proofs.deciding.a_dispatch_decides_as_the_machine.Goals as goal

pub returns : goal.returns
returns c = record {
  alike = λ w s f. alike w s f;
  tick = λ m h s r f. tick_reply (moment s) (moment_of m h) (alike (moment_of m h) s f) r;
  fire = λ m h s x r f. fire_reply (moment s) (moment_of m h) (alike (moment_of m h) s f) x r;
  report = λ m h s x r f. report_reply (moment s) (moment_of m h) (alike (moment_of m h) s f) x r;
}
