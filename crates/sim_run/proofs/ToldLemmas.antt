-- What devices have told, call after call.
use Rattle.std.proofs.Common.{◌≡◌, ℕ, ◌≤◌, [], ◌++◌, append-nil, append_assoc, Option, Some, None, refl, sym, ap, ◌∙◌, arith}
use Rattle.std.specs.Prelude.{◌+◌, ◌-◌}
use Rattle.hs_machine.specs.Reports.{Polls}
use Rattle.hs_port.specs.Causes.{Rose}
use Rattle.hs_port.specs.Told.{Stays}
use Rattle.simulation_laws.specs.Ended.{Adds}
use Rattle.sim_run.specs.Told.{HasTold, Known}

-- a list that stays after it grew
pub adds_stays : (before mid now : Option Polls) (polls : Polls) → Adds before mid polls → Stays mid now → Adds before now polls
adds_stays None mid now polls adds stays = tt
adds_stays (Some old) None now polls adds stays = absurd (cc)
adds_stays (Some old) (Some more) now polls adds stays = stays ∙ adds

-- one that grows again
pub adds_adds : (before mid now : Option Polls) (polls more : Polls) → Adds before mid polls → Adds mid now more → Adds before now (polls ++ more)
adds_adds None mid now polls more first second = tt
adds_adds (Some old) None now polls more first second = absurd (cc)
adds_adds (Some old) (Some got) now polls more first second =
    let same : got ≡ old ++ polls = cc in
    second ∙ ap (λ (l : Polls). Some (l ++ more)) same ∙ ap (λ (l : Polls). Some l) (append_assoc old polls more)

-- a list that stays grows by nothing
pub adds_none : (before now : Option Polls) → Stays before now → Adds before now []
adds_none None now stays = tt
adds_none (Some old) now stays = stays ∙ ap (λ (l : Polls). Some l) (sym (append-nil old))

-- nothing was told
pub told_none : (k : Known) → HasTold k k []
told_none k = record { adds = adds_none k.polls k.polls (same k.polls); faults = omega arith }
  where
    same : (o : Option Polls) → Stays o o
    same None = tt
    same (Some l) = refl

-- no more than a fault was told
pub told_stays : (before mid now : Known) (polls : Polls) → HasTold before mid polls → Stays mid.polls now.polls → mid.faults ≤ now.faults → HasTold before now polls
told_stays before mid now polls told stays later = record { adds = adds_stays before.polls mid.polls now.polls polls told.adds stays; faults = omega (arith, told.faults, later) }

pub told_only : (before now : Known) → Stays before.polls now.polls → before.faults ≤ now.faults → HasTold before now []
told_only before now stays later = record { adds = adds_none before.polls now.polls stays; faults = later }

-- answers after others
pub told_told : (before mid now : Known) (polls more : Polls) → HasTold before mid polls → HasTold mid now more → HasTold before now (polls ++ more)
told_told before mid now polls more first second = record { adds = adds_adds before.polls mid.polls now.polls polls more first.adds second.adds; faults = omega (arith, first.faults, second.faults) }

pub told_same : (before mid now : Known) (polls : Polls) → HasTold before mid polls → HasTold mid now [] → HasTold before now polls
told_same before mid now polls first second =
    let both = told_told before mid now polls [] first second in
    record { adds = rw (append-nil polls) at both.adds; faults = both.faults }

-- a count that rose later
pub rose_later : (a b c : ℕ) → a ≤ b → Rose b c → Rose a c
rose_later a b c less rose = omega (arith, less, rose)
