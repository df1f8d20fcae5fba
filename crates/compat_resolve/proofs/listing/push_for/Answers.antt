use Rattle.compat_resolve.proofs.LineLemmas.{need_there, slot_there}
use Rattle.compat_resolve.proofs.listing.push_for.Goals as goal

pub push_for_need-requires : goal.push_for_need-requires
push_for_need-requires c = need_there c.args.db.now c.args.flaw c.in-Need.token c.in-Need.need c.requires c.in-Need.is

pub push_for_slot-requires : goal.push_for_slot-requires
push_for_slot-requires c = slot_there c.args.db.now c.args.flaw c.in-Gap.sv c.in-Gap.place c.requires c.in-Gap.is
