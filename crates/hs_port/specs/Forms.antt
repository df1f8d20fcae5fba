-- What contracts see of the objects in memory, and what a call makes of them.
use Rattle.std.specs.Prelude.{ℕ, ℤ, ◌-◌, List, [], ◌∷◌, ◌++◌, take, drop, slice_index_or}
use Rattle.hs_port.specs.declared.device.Answer.{Answer}
use Rattle.hs_port.specs.declared.device.Answer.TheVariants.{Quiet}
use Rattle.hs_port.specs.declared.failing.Failing.{Failing}
use Rattle.hs_port.specs.Calls.{answered}

-- a source: the bytes left, and its calls
pub record Reading : Type 0 where
  pub left : List ℕ
  pub calls : Failing

-- after a read of n bytes
abbrev pub read_by : ℕ → Reading → Reading
read_by n s = record { left = drop n s.left; calls = answered s.calls }

-- a sink: the bytes taken, the room left, the greatest length taken in a call, and its calls
pub record Writing : Type 0 where
  pub taken : List ℕ
  pub room : ℕ
  pub most : ℕ
  pub calls : Failing

-- after a write of the first n bytes of the piece
abbrev pub written_by : ℕ → List ℕ → Writing → Writing
written_by n piece s =
    record s { taken = s.taken ++ take n piece; room = s.room - n; calls = answered s.calls }

-- a device: its answered polls, the room left for polls, the answers given beforehand, and its calls
pub record Asking : Type 0 where
  pub polls : List (ℤ × Answer)
  pub room : ℕ
  pub answers : List Answer
  pub calls : Failing

-- after a poll at this tick with this answer
abbrev pub polled_at : ℤ → Answer → Asking → Asking
polled_at at answer s =
    record s { polls = s.polls ++ (at, answer) ∷ []; room = s.room - 1; calls = answered s.calls }

-- the answer of number n, and Quiet past their end
abbrev pub answer_at : List Answer → ℕ → Answer
answer_at answers n = slice_index_or answers n Quiet
