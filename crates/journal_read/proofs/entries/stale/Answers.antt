use Rattle.std.proofs.Common.{◌≡◌, ℕ, ℤ, ◌-◌, length, subst, w64, to_z, of_z, FitsSigned, arith}
use Rattle.std.proofs.lemmas.Int.{to_z-of_z}
use Rattle.text_laws.specs.Parsers.{done}
use Rattle.text_laws.proofs.AnswerLemmas.{done_left}
use Rattle.plan_text.specs.Answers.{Keeps}
use Rattle.hs_texts.specs.Kept.{kept}
use Rattle.log_laws.specs.LogGrammar.{MissText, stale_entry}
use Rattle.journal_read.specs.LogReading.{miss_at, counted_at, stale_end_at, stale_back_at, stale_number_at, stale_at}
use Rattle.journal_read.proofs.LogReadLemmas.{miss_reads}
use Rattle.journal_read.proofs.entries.stale.Goals as goal

pub overflow_sub-before : goal.overflow_sub-before
overflow_sub-before c =
    let m = c.args.plan.now.mission in
    let es = c.args.plan.now.extensions in
    let l = done_left (MissText m es) (miss_at m es) (miss_reads m es) c.keyword-3.new.self c.miss.new.reader (kept c.in_ok-miss.miss) c.in_ok-miss.ensures in
    omega (arith, l, c.left.ensures, c.left-before.ensures)

pub returns : goal.returns
unfolding stale_at stale_number_at stale_back_at counted_at stale_end_at
returns c =
    let m = c.args.plan.now.mission in
    let es = c.args.plan.now.extensions in
    let n : c.in-Ok.size ≡ length c.keyword-3.new.self - length c.miss.new.reader = omega (arith, c.in-Ok.ensures, c.left.ensures, c.left-before.ensures) in
    let kept' = (rw c.in_ok-at.was at c.number.type_inv) in
    let fits : FitsSigned w64 c.in_ok-at.at = record { sfits = kept'.1.1.1.1.0.1 } in
    let rest = c.miss.new.reader in
    let entry = λ (z : ℤ) (k : ℕ). Keeps c.stale_of.result rest (done (stale_entry m es c.in_ok-base.base z (record { value = c.in_ok-miss.miss; size = k })) rest) in
    rw (c.in_ok-keyword.ensures, c.in_ok-base.ensures, c.in_ok-keyword-2.ensures, c.in_ok-at.ensures, c.in_ok-keyword-3.ensures, c.in_ok-miss.ensures)
    (subst (λ (z : ℤ). entry z (length c.keyword-3.new.self - length rest)) (to_z-of_z w64 c.in_ok-at.at fits) (subst (λ (k : ℕ). entry (to_z w64 (of_z w64 c.in_ok-at.at)) k) n (c.stale_of.ensures rest)))
