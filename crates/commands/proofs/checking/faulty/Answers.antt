use Rattle.std.proofs.Common.{refl}
use Rattle.commands.proofs.FaultLemmas.{few_at_flaw, told_at_flaw}
use Rattle.commands.proofs.checking.faulty.Goals as goal

pub fault_line-requires : goal.fault_line-requires
fault_line-requires c =
    let flaw = c.args.flaw.now in
    λ named. few_at_flaw c.args.mission.now c.args.extensions.now flaw.place flaw.fault (c.requires c.in_default.not-Memory) named

pub returns-in_ok-fault_line-in_default : goal.returns-in_ok-fault_line-in_default
returns-in_ok-fault_line-in_default c =
    let flaw = c.args.flaw.now in
    let is = c.requires c.in_default.not-Memory in (
      refl,
      record {
        place = flaw.place;
        fault = flaw.fault;
        flaw = is;
        some = c.in_default.not-Memory;
        lines = told_at_flaw c.args.mission.now c.args.extensions.now flaw.place flaw.fault c.in_ok-fault_line-in_default.field-0 is c.in_ok-fault_line-in_default.ensures;
      },
    )
