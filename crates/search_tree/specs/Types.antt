-- The plain data under their bare names, from one place; it declares nothing itself.
pub use Rattle.search_tree.specs.declared.held.Held.{Held}
pub use Rattle.search_tree.specs.declared.held.Cell.{Cell}
pub use Rattle.search_tree.specs.declared.backing.Backing.{Backing}
pub use Rattle.search_tree.specs.declared.backing.Deferral.{Deferral}
pub use Rattle.search_tree.specs.declared.part.Part.{Part}
pub use Rattle.search_tree.specs.declared.part.Part.TheVariants.{Inserted, Followed, Joined, Finished, Supported, MetGoal, Deferred}
pub use Rattle.search_tree.specs.declared.flaw.Flaw.{Flaw}
pub use Rattle.search_tree.specs.declared.flaw.Flaw.TheVariants.{Goal as GoalFlaw, Need as NeedFlaw, Gap as GapFlaw}
pub use Rattle.search_tree.specs.declared.flaw.Resolver.{Resolver}
pub use Rattle.search_tree.specs.declared.flaw.Resolver.TheVariants.{Connect, Insert, Defer, Join, Finish, Follow}
