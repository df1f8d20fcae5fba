use Rattle.hs_machine.specs.State.{plan_of}
use Rattle.journal_text.proofs.StandLemmas.{stands-tick, stands-handover, stands-other}
use Rattle.journal_text.proofs.progress.Progress.take_in.Goals as goal

pub returns-in-Tick : goal.returns-in-Tick
returns-in-Tick c = λ before stands.
    let p = c.args.self.now in
    stands-tick p.tick p.index before c.args.entry.now stands c.in-Tick.is

pub returns-in_ok-extend-in-Handover : goal.returns-in_ok-extend-in-Handover
returns-in_ok-extend-in-Handover c = λ before stands.
    let p = c.args.self.now in
    let grown = c.in_ok-extend-in-Handover.ensures.plan (plan_of before) stands.index_is in
    stands-handover p.tick p.index c.extend.new.self before c.args.entry.now c.in-Handover.extension c.in-Handover.net stands c.in-Handover.is grown

pub returns-in_default : goal.returns-in_default
returns-in_default c = λ before stands.
    let p = c.args.self.now in
    stands-other p.tick p.index before c.args.entry.now stands c.in_default.not-Tick c.in_default.not-Handover
