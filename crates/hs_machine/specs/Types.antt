-- The plain data under their bare names, from one place; it declares nothing itself.
pub use Rattle.hs_machine.specs.declared.history.Deed.{Deed}
pub use Rattle.hs_machine.specs.declared.history.Deed.TheVariants.{Tick, Fire, Report, Handover, Stale, Late, Early, Broken}
pub use Rattle.hs_machine.specs.declared.history.Entry.{Entry}
pub use Rattle.hs_machine.specs.declared.history.Phase.{Phase}
pub use Rattle.hs_machine.specs.declared.history.Phase.TheVariants.{Waiting, Running, Failed, Ended}
