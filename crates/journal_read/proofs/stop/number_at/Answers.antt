use Rattle.std.proofs.Common.{◌≡◌, List, length, Some, refl, sym, subst, w64, rules}
use Rattle.std.specs.Prelude.{ℤ, slice_get}
use Rattle.std.proofs.lemmas.Int.{to_z-of_z}
use Rattle.std.proofs.lemmas.Option.{slice_get_read}
use Rattle.ddl_read.specs.declared.piece.Piece.{Piece}
use Rattle.ddl_read.specs.Spelled.{spellings}
use Rattle.journal_read.specs.Stops.{IsNumberAt}
use Rattle.journal_read.proofs.StopLemmas.{no_number, number_there}
use Rattle.journal_read.proofs.stop.number_at.Goals as goal

pub returns-in_default-kind : goal.returns-in_default-kind
returns-in_default-kind c =
    let text = c.args.pieces.now.bytes in
    let ps = c.args.pieces.now.pieces in
    let i = c.args.i in
    let p = c.in-Some.piece.now in
    let x = c.in-Some.ensures.lookup in
    let there : slice_get ps i ≡ Some p = subst (λ (l : List Piece). slice_get l i ≡ Some p) c.as_slice.ensures.pieces (slice_get_read c.as_slice.result.now (length c.as_slice.result.now) i p refl x.3.0 x.1) in
    no_number text ps i p there c.in_default-kind.not-Number

pub returns-in-Number : goal.returns-in-Number
returns-in-Number c =
    let text = c.args.pieces.now.bytes in
    let ps = c.args.pieces.now.pieces in
    let i = c.args.i in
    let p = c.in-Some.piece.now in
    let n = c.in-Number.number in
    let x = c.in-Some.ensures.lookup in
    let there : slice_get ps i ≡ Some p = subst (λ (l : List Piece). slice_get l i ≡ Some p) c.as_slice.ensures.pieces (slice_get_read c.as_slice.result.now (length c.as_slice.result.now) i p refl x.3.0 x.1) in
    subst (λ (k : ℤ). IsNumberAt (spellings text ps) i k) (sym (to_z-of_z w64 n (search rules))) (number_there text ps i p n c.as_slice.ensures.cut there c.in-Number.is)
