-- The calls of an object in memory, some of which are to fail.
use Rattle.std.specs.Prelude.{◌≡◌, ℕ, ◌+◌, ◌-◌, ◌^◌, List, min, Contains, Result, MatchResult}
use Rattle.hs_port.specs.declared.failing.Failing.{Failing}

-- the next call is one of those that are to fail
abbrev pub IsToFail : Failing → Type 0
IsToFail f = Contains f.fail f.calls

-- no call was made yet
abbrev pub uncalled : List ℕ → Failing
uncalled fail = record { fail = fail; calls = 0; faults = 0 }

-- a count goes up by one, and stays at its greatest value
abbrev pub one_more : ℕ → ℕ
one_more n = min (n + 1) (2 ^ 64 - 1)

-- after a call that was answered
abbrev pub answered : Failing → Failing
answered f = record f { calls = one_more f.calls }

-- after a call that failed
abbrev pub failed : Failing → Failing
failed f = record f { calls = one_more f.calls; faults = one_more f.faults }

-- a call that fails counts one fault, and an answered one none
abbrev pub CountsFaults : {T E : Type 0} → ℕ → ℕ → Result T E → Type 0
CountsFaults before after result = MatchResult result (λ _. after ≡ before) (λ _. after ≡ one_more before)
