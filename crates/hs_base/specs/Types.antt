-- The plain data under their bare names, from one place; it declares nothing itself.
pub use Rattle.hs_base.specs.declared.limits.TheConstants.{ANSWERS, ANSWER_CLAUSES, CHOICES, FREE_POINTS, GOALS, HORIZONS, LAST, LAST_HORIZON, NAME_BYTES, NEEDS, NEW_TOKENS, SCRIPT_STEPS, TEXT_BYTES, VALUES, VARIABLES}
pub use Rattle.hs_base.specs.declared.ids.PointId.{PointId}
pub use Rattle.hs_base.specs.declared.ids.SvId.{SvId}
pub use Rattle.hs_base.specs.declared.ids.ValId.{ValId}
pub use Rattle.hs_base.specs.declared.ids.WordId.{WordId}
pub use Rattle.hs_base.specs.declared.range.Range.{Range}
pub use Rattle.hs_base.specs.declared.relation.Relation.{Relation}
pub use Rattle.hs_base.specs.declared.relation.Relation.TheVariants.{Before, After, Meets as MeetsStart, MetBy, Starts, Ends, Equals, Contains as Encloses, ContainedBy}
pub use Rattle.hs_base.specs.declared.mission.Kind.{Kind}
pub use Rattle.hs_base.specs.declared.mission.Step.{Step}
pub use Rattle.hs_base.specs.declared.mission.Step.TheVariants.{Do, Until}
pub use Rattle.hs_base.specs.declared.mission.Said.{Said}
pub use Rattle.hs_base.specs.declared.mission.Value.{Value}
pub use Rattle.hs_base.specs.declared.mission.Var.{Var}
pub use Rattle.hs_base.specs.declared.mission.Choice.{Choice}
pub use Rattle.hs_base.specs.declared.mission.Need.{Need}
pub use Rattle.hs_base.specs.declared.mission.Goal.{Goal}
pub use Rattle.hs_base.specs.declared.mission.Horizon.{Horizon}
pub use Rattle.hs_base.specs.declared.mission.Mission.{Mission}
pub use Rattle.hs_base.specs.declared.plan.Time.{Time}
pub use Rattle.hs_base.specs.declared.plan.TokenRef.{TokenRef}
pub use Rattle.hs_base.specs.declared.plan.Support.{Support}
pub use Rattle.hs_base.specs.declared.plan.Extension.{Extension}
pub use Rattle.hs_base.specs.declared.plan.Plan.{Plan}
pub use Rattle.hs_base.specs.declared.net.Bound.{Bound}
pub use Rattle.hs_base.specs.declared.net.Member.{Member}
pub use Rattle.hs_base.specs.declared.net.Group.{Group}
pub use Rattle.hs_base.specs.declared.net.Net.{Net}
pub use Rattle.hs_base.specs.declared.fault.Fault.{Fault}
pub use Rattle.hs_base.specs.declared.fault.Fault.TheVariants.{Base, Limit as OverLimit, Order, Fixed, WrongSupport, Unsupported, Goal as NoGoal, Cycle, Memory as NoMemoryLeft}
