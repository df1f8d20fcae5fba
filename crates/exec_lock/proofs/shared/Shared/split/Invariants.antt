-- As many numbers are cut off as are asked for.
use Rattle.exec_lock.proofs.shared.Shared.split.Given as goal

abbrev pub ghosts-split_by : goal.ghosts-split_by
ghosts-split_by g a = record { amount = a.numbers }
