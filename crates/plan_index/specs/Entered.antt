-- The entries of a plan.
use Rattle.std.specs.Prelude.{◌≡◌, ℕ, ◌+◌, ◌^◌, ◌<◌, ◌≤◌, false, List, length, map, get_or, All, vec_len, vec_capacity}
use Rattle.hs_base.specs.declared.plan.Extension.{Extension}
use Rattle.plan_index.specs.declared.entries.Entries.{Entries}
use Rattle.plan_index.specs.Contents.{Contents, contents_of}
use Rattle.plan_index.specs.Lines.{row_of, HasRoom, AreLines}
use Rattle.plan_index.specs.Named.{named, AreMarks, AreFlags}

-- what the entries say of the plan
abbrev pub contents : Entries → Contents
contents s = record { horizons = length s.horizons.items; points = map named s.names.items; tokens = s.tokens.items; fixed = s.fixed.items }

-- the entries are those of a plan
pub record IsIndex (s : Entries) : Type 0 where
  pub plan : List Extension
  pub is : contents s ≡ contents_of plan
  pub small : length s.names.items < 2 ^ 32
  pub lines : AreLines s.tokens.items (map named s.names.items) (row_of s.lines.items)
  pub marks : AreMarks (map named s.names.items) s.horizons.items
  pub flags : AreFlags s.fixed.items s.flags.items

-- the second entries say what the first do
pub record AreKept (s t : Entries) : Type 0 where
  pub names : t.names.items ≡ s.names.items
  pub horizons : t.horizons.items ≡ s.horizons.items
  pub tokens : t.tokens.items ≡ s.tokens.items
  pub fixed : t.fixed.items ≡ s.fixed.items
  pub lines : (v : ℕ) → row_of t.lines.items v ≡ row_of s.lines.items v
  pub flags : (x : ℕ) → get_or t.flags.items x false ≡ get_or s.flags.items x false

-- the entries have room for the extension's
pub record HaveRoom (s : Entries) (e : Extension) : Type 0 where
  pub names : vec_len s.names + length e.tokens + 1 ≤ vec_capacity s.names
  pub horizons : vec_len s.horizons < vec_capacity s.horizons
  pub tokens : vec_len s.tokens + length e.tokens ≤ vec_capacity s.tokens
  pub fixed : vec_len s.fixed + length e.fixed ≤ vec_capacity s.fixed
  pub lines : All (λ k. HasRoom s.lines.items k.sv.0 (length e.tokens)) e.tokens
  pub flags : All (λ t. t.point.0 < vec_len s.flags) e.fixed
