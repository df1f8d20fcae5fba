-- The plain data under their bare names, from one place; it declares nothing itself.
pub use Rattle.hs_texts.specs.declared.ast.Sort.{Sort}
pub use Rattle.hs_texts.specs.declared.ast.Param.{Param}
pub use Rattle.hs_texts.specs.declared.ast.Arg.{Arg}
pub use Rattle.hs_texts.specs.declared.ast.Arg.TheVariants.{Name as ArgName, Any as ArgAny}
pub use Rattle.hs_texts.specs.declared.ast.Use.{Use}
pub use Rattle.hs_texts.specs.declared.ast.AstStep.{AstStep}
pub use Rattle.hs_texts.specs.declared.ast.AstStep.TheVariants.{Do as AstDo, Until as AstUntil}
pub use Rattle.hs_texts.specs.declared.ast.AstSaid.{AstSaid}
pub use Rattle.hs_texts.specs.declared.ast.AstKind.{AstKind}
pub use Rattle.hs_texts.specs.declared.ast.AstValue.{AstValue}
pub use Rattle.hs_texts.specs.declared.ast.AstVar.{AstVar}
pub use Rattle.hs_texts.specs.declared.ast.AstChoice.{AstChoice}
pub use Rattle.hs_texts.specs.declared.ast.AstNeed.{AstNeed}
pub use Rattle.hs_texts.specs.declared.ast.AstGoal.{AstGoal}
pub use Rattle.hs_texts.specs.declared.ast.AstHorizon.{AstHorizon}
pub use Rattle.hs_texts.specs.declared.ast.Ast.{Ast}
pub use Rattle.hs_texts.specs.declared.refusal.Refusal.{Refusal}
pub use Rattle.hs_texts.specs.declared.refusal.Refusal.TheVariants.{NotUtf8, Char, Expected, Number, Trailing, Twice, Unknown, Range as BadRange, Limit, NoBegin, Horizons, SameVar, SameBy, Memory as NoMemory}
pub use Rattle.hs_texts.specs.declared.written.WrittenPoint.{WrittenPoint}
pub use Rattle.hs_texts.specs.declared.written.WrittenPoint.TheVariants.{Origin, Horizon, End}
pub use Rattle.hs_texts.specs.declared.written.WrittenToken.{WrittenToken}
pub use Rattle.hs_texts.specs.declared.written.WrittenTime.{WrittenTime}
pub use Rattle.hs_texts.specs.declared.written.WrittenKind.{WrittenKind}
pub use Rattle.hs_texts.specs.declared.written.WrittenSupport.{WrittenSupport}
pub use Rattle.hs_texts.specs.declared.written.WrittenBody.{WrittenBody}
pub use Rattle.hs_texts.specs.declared.written.WrittenExtension.{WrittenExtension}
