use Rattle.std.proofs.Common.{◌≡◌, ◌+◌, ◌-◌, length, sym, subst, arith, w64}
use Rattle.std.specs.Prelude.{ℤ}
use Rattle.std.proofs.lemmas.Int.{ints, to_z-of_z}
use Rattle.std.proofs.lemmas.List.{length-map}
use Rattle.ddl_read.specs.Spelled.{spelling_of, spellings}
use Rattle.journal_read.specs.Stops.{IsNumberAt}
use Rattle.journal_read.proofs.StopLemmas.{ends_so, stop_stands}
use Rattle.journal_read.proofs.stop.read_stop.Goals as goal
use Rattle.journal_read.proofs.stop.read_stop.Goals.{then-not-is_word_at-via-then-not-is_word_at, then-not-is_word_at-via-else-not-is_word_at+then-not-is_word_at-2}

pub returns-then-not-is_word_at : goal.returns-then-not-is_word_at
returns-then-not-is_word_at c s e =
    let ps = spellings c.args.pieces.now.bytes c.args.pieces.now.pieces in
    let k = c.in-Some.first in
    let last : k ≡ length ps - 4 = omega (arith, c.in-Some.ensures, c.count.ensures, length-map c.args.pieces.now.pieces (spelling_of c.args.pieces.now.bytes)) in
    let stands = stop_stands ps s k last e in
    elim c.then-not-is_word_at.branch [
      | then-not-is_word_at-via-then-not-is_word_at w ↦ absurd (let a = c.is_word_at.ensures.1 stands.first in let b = w.if-not-is_word_at.true in cc)
      | then-not-is_word_at-via-else-not-is_word_at+then-not-is_word_at-2 w ↦ absurd (let a = w.is_word_at-else-not-is_word_at.ensures.1 stands.third in let b = w.if-not-is_word_at-2.true in cc)
    ]

pub returns-in_default-phase_at : goal.returns-in_default-phase_at
returns-in_default-phase_at c s e =
    let ps = spellings c.args.pieces.now.bytes c.args.pieces.now.pieces in
    let k = c.in-Some.first in
    let last : k ≡ length ps - 4 = omega (arith, c.in-Some.ensures, c.count.ensures, length-map c.args.pieces.now.pieces (spelling_of c.args.pieces.now.bytes)) in
    c.in_default-phase_at.ensures s.phase (stop_stands ps s k last e).second

pub returns-in_default-number_at : goal.returns-in_default-number_at
returns-in_default-number_at c s e =
    let ps = spellings c.args.pieces.now.bytes c.args.pieces.now.pieces in
    let k = c.in-Some.first in
    let last : k ≡ length ps - 4 = omega (arith, c.in-Some.ensures, c.count.ensures, length-map c.args.pieces.now.pieces (spelling_of c.args.pieces.now.bytes)) in
    c.in_default-number_at.ensures s.at (record { digits = e.digits; piece = (stop_stands ps s k last e).fourth; is = e.at })

pub returns : goal.returns
returns c =
    let ps = spellings c.args.pieces.now.bytes c.args.pieces.now.pieces in
    let k = c.in-Some.first in
    let size : k + 4 ≡ length ps = omega (arith, c.in-Some.ensures, c.count.ensures, length-map c.args.pieces.now.pieces (spelling_of c.args.pieces.now.bytes)) in
    ends_so ps _ k size (c.is_word_at.ensures.0 (let b = c.if-not-is_word_at.false in cc)) c.in-Some-phase_at.ensures (c.is_word_at-else-not-is_word_at.ensures.0 (let b = c.if-not-is_word_at-2.false in cc))
    (subst (λ (n : ℤ). IsNumberAt ps (k + 3) n) (sym (to_z-of_z w64 c.in-Some-number_at.at (omega (arith, ints, c.number_at.type_inv)))) c.in-Some-number_at.ensures)
