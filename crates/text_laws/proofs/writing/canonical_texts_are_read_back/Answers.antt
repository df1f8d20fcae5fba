use Rattle.hs_texts.specs.CanonicalText.{canonical}
use Rattle.text_laws.proofs.WritableLemmas.{spelled_writable}
use Rattle.text_laws.proofs.PrintedLemmas.{canonical_spells}
use Rattle.text_laws.proofs.RefusalLemmas.{spelled_one}
use Rattle.text_laws.proofs.writing.canonical_texts_are_read_back.Goals as goal

pub returns : goal.returns
returns c = record {
  spelled = λ bytes a h short. canonical_spells a (spelled_writable bytes a h) short;
  alone = λ bytes a b h k. spelled_one (canonical a) b a k (canonical_spells a (spelled_writable bytes a h) k.text.short);
}
