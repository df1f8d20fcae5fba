use Rattle.std.proofs.Common.{false, suc, subst, sym, ◌≡◌, ◌∙◌}
use Rattle.std.proofs.lemmas.Bool.{false≢true}
use Rattle.hs_base.specs.declared.plan.TokenRef.{TokenRef}
use Rattle.search_tree.specs.Partial.{at}
use Rattle.search_tree.specs.PartialBounds.{HasSchedule}
use Rattle.search_tree.specs.Parts.{do_part, do_parts}
use Rattle.search_tree.specs.Resolvers.{connecting, has_room, resolve}
use Rattle.search_tree.specs.declared.flaw.Resolver.TheVariants.{Insert}
use Rattle.search_tree.specs.declared.part.Part.TheVariants.{Inserted}
use Rattle.timeline_db.specs.Plannings.{WouldShut, partial_of}
use Rattle.timeline_db.specs.Shutting.{IfCycle}
use Rattle.timeline_db.specs.declared.shut.Shut.{Shut}
use Rattle.compat_resolve.specs.Applied.{MayDoParts}
use Rattle.compat_resolve.proofs.ApplyLemmas.{allowed_then, before_parts, if_cycle, if_err, never_full, schedule_then}
use Rattle.compat_resolve.proofs.applying.insert.Goals as goal

pub connect-requires-clause-allowed : goal.connect-requires-clause-allowed
connect-requires-clause-allowed c =
    let x = Inserted c.args.sv c.args.place c.args.value in
    subst (λ (by : TokenRef). MayDoParts c.insert.new.self (connecting c.args.flaw by)) (sym c.in-Ok.ensures.token) (allowed_then c.args.db.now c.insert.new.self x (connecting c.args.flaw (at c.args.sv.0 (suc c.args.place))) c.in-Ok.ensures.does c.requires.1)

pub returns-in-Ok-clause-shut : goal.returns-in-Ok-clause-shut
returns-in-Ok-clause-shut c =
    let old = c.args.db.now in
    let new = c.insert.new.self in
    let x = Inserted c.args.sv c.args.place c.args.value in
    if_err c.connect.result (λ (e : Shut). IfCycle e (HasSchedule new.mission new.begun (do_parts (partial_of new) (connecting c.args.flaw c.in-Ok.by)) → ⊥)) (λ (e : Shut). IfCycle e (HasSchedule old.mission old.begun (resolve (partial_of old) c.args.flaw (Insert c.args.sv c.args.place c.args.value)) → ⊥))
    (λ e k. if_cycle e (HasSchedule new.mission new.begun (do_parts (partial_of new) (connecting c.args.flaw c.in-Ok.by)) → ⊥) (HasSchedule old.mission old.begun (resolve (partial_of old) c.args.flaw (Insert c.args.sv c.args.place c.args.value)) → ⊥)
    (λ no s. no (subst (λ (by : TokenRef). HasSchedule new.mission new.begun (do_parts (partial_of new) (connecting c.args.flaw by))) (sym c.in-Ok.ensures.token) (schedule_then old new x (connecting c.args.flaw (at c.args.sv.0 (suc c.args.place))) c.in-Ok.ensures.does s))) k)
    c.connect.ensures.shut

pub returns-in-Err-clause-shut : goal.returns-in-Err-clause-shut
returns-in-Err-clause-shut c =
    let old = c.args.db.now in
    let x = Inserted c.args.sv c.args.place c.args.value in
    never_full c.in-Err.shut (WouldShut x old) (has_room old.begun (partial_of old) ≡ false) (HasSchedule old.mission old.begun (resolve (partial_of old) c.args.flaw (Insert c.args.sv c.args.place c.args.value)) → ⊥)
    (λ no s. no (before_parts old.mission old.begun (do_part (partial_of old) x) (connecting c.args.flaw (at c.args.sv.0 (suc c.args.place))) c.was_allowed.ensures.begins.checked.mission c.requires.1 s))
    (λ full. false≢true (sym full ∙ c.requires.0.1))
    c.in-Err.ensures.shut
