use Rattle.std.proofs.Common.{◌≡◌, ◌≤◌, List, ℕ, length, sym, subst, rules}
use Rattle.hs_base.specs.declared.limits.TheConstants.{TEXT_BYTES}
use Rattle.hs_texts.specs.CanonicalText.{canonical}
use Rattle.hs_texts.specs.MissionSpelling.{Spells}
use Rattle.text_laws.proofs.WritableLemmas.{spelled_writable}
use Rattle.text_laws.proofs.PrintedLemmas.{canonical_spells}
use Rattle.text_laws.proofs.RefusalLemmas.{spelled_one}
use Rattle.ddl_print.proofs.missions.print.Goals as goal

pub returns-clause-spelled : goal.returns-clause-spelled
returns-clause-spelled c = λ bytes h short.
    let a = c.args.ast.now in
    let same : c.push_bytes-3.new.self ≡ canonical a = search rules in
    subst (λ (t : List ℕ). length t ≤ TEXT_BYTES → Spells t a) (sym same) (canonical_spells a (spelled_writable bytes a h)) short

pub returns-clause-alone : goal.returns-clause-alone
returns-clause-alone c = λ bytes b h k.
    let a = c.args.ast.now in
    let same : c.push_bytes-3.new.self ≡ canonical a = search rules in
    let l = subst (λ (t : List ℕ). Spells t b) same k in
    spelled_one (canonical a) b a l (canonical_spells a (spelled_writable bytes a h) l.text.short)
