-- What a device told stays told, however much longer it answers.
use Rattle.std.proofs.Common.{◌≡◌, ℕ, List, [], ◌∷◌, ◌++◌, Option, sym, ap, ◌∙◌, append-nil, pos}
use Rattle.std.specs.Prelude.{ℤ, flat_map}
use Rattle.std.specs.Int.{int_max}
use Rattle.hs_base.specs.Bounds.{on_some}
use Rattle.hs_machine.specs.Histories.{IsPrefix}
use Rattle.hs_machine.specs.Reports.{Performed, Polls, Script, finish}
use Rattle.simulation_laws.specs.Hearing.{Rests, last_finish, told_by}
use Rattle.simulation_laws.specs.Standing.{IsStanding, Standing, resting, running}
use Rattle.simulation_laws.proofs.HearLemmas.{over_stays, told-push}

-- of scripts that are over nothing more is told
told_stays : (ss : List Script) (polls more : Polls) (n : ℤ) → Rests ss polls n → told_by ss (polls ++ more) ≡ told_by ss polls
told_stays ss polls more n r = ap (flat_map (λ (p : Performed). on_some p.finish (λ at. (p.script.point, at) ∷ []))) (over_stays (pos 0) n ss polls more r.over).0

pub told_prefix : (ss : List Script) (polls more : Polls) (k : ℕ) (st : Standing) → IsStanding ss polls k st → IsPrefix (told_by ss polls) (told_by ss (polls ++ more))
told_prefix ss polls more k resting r = ([], told_stays ss polls more (pos k) r ∙ sym (append-nil (told_by ss polls)))
told_prefix ss polls more k (running s left) r =
    let o : Option ℤ = finish (int_max (last_finish (pos 0) r.front (polls ++ more)) s.begun) s.words (polls ++ more) in
    let before : told_by ss polls ≡ told_by r.front polls =
    ap (λ (l : List Script). told_by l polls) r.is ∙ told-push r.front s polls
    ∙ ap (λ (u : Option ℤ). told_by r.front polls ++ on_some u (λ at. (s.point, at) ∷ [])) r.unfinished ∙ append-nil (told_by r.front polls) in (
      on_some o (λ at. (s.point, at) ∷ []),
      ap (λ (l : List Script). told_by l (polls ++ more)) r.is ∙ told-push r.front s (polls ++ more)
          ∙ ap (λ l. l ++ on_some o (λ at. (s.point, at) ∷ [])) (told_stays r.front polls more (pos k) r.rests ∙ sym before),
    )
