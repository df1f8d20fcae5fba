-- What is noted of a history: each entry that its log tells.
use Rattle.std.specs.Prelude.{ℕ, pos, List, [], ◌∷◌, ◌++◌, length}
use Rattle.hs_machine.specs.declared.history.Deed.{Deed}
use Rattle.hs_machine.specs.declared.history.Deed.TheVariants.{Tick, Handover}
use Rattle.hs_machine.specs.declared.history.Entry.{Entry}
use Rattle.hs_machine.specs.State.{now_of}
use Rattle.journal_read.specs.declared.noted.Noted.{Noted}
use Rattle.journal_read.specs.LogSpelling.{no_net}

-- a deed at that time: of a network the counts, of a tick nothing
abbrev pub noted_deeds : ℕ → Deed → List Noted
noted_deeds now Tick = []
noted_deeds now (Handover e net) = record { at = pos now; what = Handover e no_net; groups = length net.groups; edges = length net.edges } ∷ []
noted_deeds now d = record { at = pos now; what = d; groups = 0; edges = 0 } ∷ []

-- entries behind those before them
abbrev pub noted_entries : List Entry → List Entry → List Noted
noted_entries before [] = []
noted_entries before (e ∷ h) = noted_deeds (now_of before) e.deed ++ noted_entries (before ++ e ∷ []) h

abbrev pub noted_of : List Entry → List Noted
noted_of h = noted_entries [] h
