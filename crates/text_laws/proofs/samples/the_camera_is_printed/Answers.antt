use Rattle.std.proofs.Common.{refl}
use Rattle.std.specs.Fmt.{digits}
use Rattle.text_laws.proofs.samples.the_camera_is_printed.Goals as goal

pub returns : goal.returns
unfolding digits
returns c = refl
