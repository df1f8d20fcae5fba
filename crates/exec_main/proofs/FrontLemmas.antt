-- Texts that are read and written piece by piece.
use Rattle.std.proofs.Common.{ℕ, ◌+◌, List, ◌++◌, take, drop, ap, ◌∙◌, append_assoc}
use Rattle.std.proofs.Math.Seq.{take-add}
use Rattle.std.specs.Prelude.{Some, None}
use Rattle.std.specs.declared.option.Option.{Option}
use Rattle.std.specs.Io.KnownBytes.{Appends}

-- a front of the text, and then a front of the rest
pub appends-take : (a b c : Option (List ℕ)) (text : List ℕ) (i n : ℕ) → Appends a b (take i text) → Appends b c (take n (drop i text)) → Appends a c (take (i + n) text)
appends-take None b c text i n h k = tt
appends-take (Some xs) None c text i n h k = absurd h
appends-take (Some xs) (Some ys) None text i n h k = k
appends-take (Some xs) (Some ys) (Some zs) text i n h k =
    rw take-add (k ∙ ap (λ v. v ++ take n (drop i text)) h ∙ append_assoc xs (take i text) (take n (drop i text)))
