use Rattle.std.proofs.Common.{◌∙◌}
use Rattle.local_propagate.proofs.WindowsLemmas.{after_is}
use Rattle.local_propagate.proofs.windows.Windows.after.Goals as goal

pub returns : goal.returns
returns c = c.of.ensures ∙ after_is c.args._net.now c.args.self.now c.requires.windows c.args.group c.requires.group
