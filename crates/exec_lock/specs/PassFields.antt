-- A pass as its own code sees it.
use Rattle.std.specs.Prelude.{◌≡◌, ◌+◌, ◌<◌, ◌≤◌, ◌%◌, ◌^◌, List, [], ◌∷◌, false}
use Rattle.exec_lock.specs.declared.view.SeatView.{SeatView}
use Rattle.exec_lock.specs.declared.pass.Pass.TheInside.{Inside}
use Rattle.exec_lock.specs.Passes.{Held, size}
use Rattle.exec_lock.specs.Rule.{nobody}

-- the only seat
abbrev pub only_seat : List SeatView → SeatView
only_seat [] = nobody
only_seat (s ∷ ss) = s

-- what contracts see of a pass
abbrev pub held : Inside → Held
held p = record { shared = p.badge.table_id; view = (only_seat p.badge.views).view }

-- the fields are those of the seat, which hasn't the turn
pub record IsPass (p : Inside) : Type 0 where
  pub one : p.badge.views ≡ only_seat p.badge.views ∷ []
  pub first : (only_seat p.badge.views).view.first ≡ p.first
  pub count : (only_seat p.badge.views).view.count ≡ p.count
  pub some_number : 0 < p.count
  pub inside : p.first + p.count ≤ 4294967295
  pub answered : p.answered ≡ size (only_seat p.badge.views).view % 2 ^ 32
  pub idle : (only_seat p.badge.views).holds ≡ false
