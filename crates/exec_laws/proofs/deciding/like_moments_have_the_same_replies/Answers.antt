use Rattle.exec_laws.proofs.SameLemmas.{tick_reply, fire_reply, report_reply}
use Rattle.exec_laws.proofs.deciding.like_moments_have_the_same_replies.Goals as goal

pub returns : goal.returns
returns c = record { tick = λ v w r a. tick_reply v w a r; fire = λ v w x r a. fire_reply v w a x r; report = λ v w x r a. report_reply v w a x r }
