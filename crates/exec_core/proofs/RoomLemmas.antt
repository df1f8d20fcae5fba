-- Room in the history.
use Rattle.std.proofs.Common.{◌≡◌, ℕ, ◌+◌, ◌-◌, ◌<◌, ◌≤◌, cond, List, [], ◌∷◌, ◌++◌, length, get_or, Option, Some, None, ap, ◌∙◌, arith, length-append}
use Rattle.std.proofs.lemmas.Int.{ints}
use Rattle.std.proofs.lemmas.List.Sums.{sum_by-set}
use Rattle.std.proofs.Math.ListN.{set}
use Rattle.std.specs.Prelude.{ℤ, pos, ◌-ℤ◌, ◌≤ℤ◌, slice_get}
use Rattle.std.specs.Option.{is_none}
use Rattle.std.specs.List.{count_by}
use Rattle.hs_base.specs.declared.mission.Mission.{Mission}
use Rattle.hs_base.specs.declared.plan.Extension.{Extension}
use Rattle.hs_machine.specs.declared.history.Entry.{Entry}
use Rattle.hs_machine.specs.State.{plan_of}
use Rattle.dispatcher.specs.State.{State}
use Rattle.exec_core.specs.Room.{HasRoom}

-- an executed point is one open point less
pub count_set : (xs : List (Option ℤ)) (i : ℕ) (t : ℤ) → i < length xs → get_or xs i None ≡ None → count_by is_none (set xs i (Some t)) + 1 ≡ count_by is_none xs
count_set xs i t below none =
    let f : Option ℤ → ℕ = λ (o : Option ℤ). cond (is_none o) 1 0 in
    let r = sum_by-set f xs i (Some t) None below in
    omega (arith, r, ap f none)

-- one more entry, and one open point or one tick less
pub room_on : (m : Mission) (h : List Entry) (e : Entry) (s t : State) (room more : ℕ) → plan_of (h ++ e ∷ []) ≡ plan_of h → room ≤ more → (pos (count_by is_none t.times + 1) -ℤ t.tick) ≤ℤ (pos (count_by is_none s.times) -ℤ s.tick) → HasRoom m h s room → HasRoom m (h ++ e ∷ []) t more
room_on m h e s t room more plan grows less k = record {
  until = k.until;
  is_until = record {
    horizon = k.is_until.horizon;
    is = ap (λ (es : List Extension). slice_get m.horizons (length es - 1)) plan ∙ k.is_until.is;
    tick = k.is_until.tick;
  };
  enough = omega (arith, ints, k.enough, less, grows, length-append h (e ∷ []));
}
