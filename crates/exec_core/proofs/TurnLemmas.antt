-- A turn keeps the history, or adds one entry of its pass.
use Rattle.std.proofs.Common.{◌≡◌, ℕ, List, ◌++◌, Option, Some, None, ◌∙◌, inl, inr, append-nil}
use Rattle.std.specs.Prelude.{option_to_list}
use Rattle.hs_base.specs.declared.mission.Mission.{Mission}
use Rattle.hs_machine.specs.declared.history.Entry.{Entry}
use Rattle.hs_machine.specs.Histories.{Appends}
use Rattle.hs_machine.specs.Machine.{Event, Reply, Turn, IsAdded}

pub turn_appends : (m : Mission) (h : List Entry) (by : ℕ) (event : Event) (reply : Reply) (h2 : List Entry) → Turn m h by event reply h2 → Appends by h h2
turn_appends m h by event reply h2 t = by_case t.added t.answers.leaves t.after
  where
    by_case : (o : Option Entry) → IsAdded m by event reply o → h2 ≡ h ++ option_to_list o → Appends by h h2
    by_case None none is = inl (is ∙ append-nil h)
    by_case (Some e) left is = inr (e, left.0, is)
