-- Why words give no request.
use Rattle.clap.specs.declared.error.kind.ErrorKind.{ErrorKind}
use Rattle.clap.specs.declared.error.kind.ErrorKind.TheVariants.{OutOfMemory}
use Rattle.command_line.specs.declared.unasked.Unasked.{Unasked}
use Rattle.command_line.specs.declared.unasked.Unasked.TheVariants.{Memory, Usage}

-- a parse that fails for memory wants memory, and any other refuses the words
abbrev pub unasked_by : ErrorKind → Unasked
unasked_by OutOfMemory = Memory
unasked_by _ = Usage
