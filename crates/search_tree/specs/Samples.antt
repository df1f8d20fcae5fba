-- Small missions on which the definitions are tried.
use Rattle.std.specs.Prelude.{List, [], codes, pos, suc, zero, ℕ, ℤ, ◌∷◌}
use Rattle.hs_base.specs.Ranges.{range, whole}
use Rattle.hs_base.specs.declared.limits.TheConstants.{LAST}
use Rattle.hs_base.specs.declared.mission.Mission.{Mission}
use Rattle.hs_base.specs.declared.plan.Extension.{Extension}
use Rattle.hs_base.specs.declared.relation.Relation.TheVariants.{After, Before, ContainedBy, Meets as MeetsStart}
use Rattle.base_laws.specs.Samples.{camera, kind, plain_value, token, value_id}
use Rattle.search_tree.specs.Begun.{Begun}

-- no plan yet
abbrev pub nothing : Begun
nothing = record { base = []; since = pos 0; fixed = [] }

-- the camera mission, where the camera has to shoot at once
abbrev pub early_camera : Mission
early_camera = record {
  vars = camera.vars;
  needs = camera.needs;
  horizons = record { tick = pos 100; goals = record { kind = kind 0 1; start = range (pos 0) (pos 0); stop = whole } ∷ [] } ∷ [];
  words = camera.words;
}

-- a first token that has to meet one that may come in the second plan
abbrev pub meeting : Mission
meeting = record {
  vars = record {
    name = codes "a";
    values = plain_value (codes "p") (range (pos 15) LAST) (value_id 1 ∷ []) ∷ plain_value (codes "q") (range (pos 1) LAST) [] ∷ [];
    begin = value_id 0;
  } ∷ record {
    name = codes "b";
    values = plain_value (codes "r") (range (pos 1) LAST) (value_id 1 ∷ []) ∷ plain_value (codes "s") (range (pos 1) LAST) [] ∷ [];
    begin = value_id 0;
  } ∷ [];
  needs = record { of = kind 0 0; either = record { relation = MeetsStart; by = kind 1 1 } ∷ [] } ∷ [];
  horizons = record { tick = pos 10; goals = [] } ∷ record { tick = pos 20; goals = [] } ∷ [];
  words = codes "done" ∷ [];
}

-- its first plan
abbrev pub meeting_plan : List Extension
meeting_plan = record { base = 0; since = pos 0; fixed = []; tokens = kind 0 0 ∷ kind 1 0 ∷ []; supports = []; goals = [] } ∷ []

-- where its second search begins
abbrev pub meeting_begun : Begun
meeting_begun = record { base = meeting_plan; since = pos 9; fixed = [] }

-- tokens of two ticks up to that horizon
abbrev pub pacing : ℤ → Mission
pacing h = record {
  vars = record {
    name = codes "a";
    values = plain_value (codes "p") (range (pos 2) (pos 2)) (value_id 1 ∷ []) ∷ plain_value (codes "q") (range (pos 2) (pos 2)) (value_id 0 ∷ []) ∷ [];
    begin = value_id 0;
  } ∷ [];
  needs = [];
  horizons = record { tick = h; goals = [] } ∷ [];
  words = codes "done" ∷ [];
}

-- n times the second child
abbrev pub second_children : ℕ → List ℕ
second_children zero = []
second_children (suc n) = 1 ∷ second_children n

-- a second plan whose need is served behind a point that was executed
abbrev pub moving : Mission
moving = record {
  vars = record {
    name = codes "a";
    values = plain_value (codes "p") (range (pos 1) LAST) (value_id 1 ∷ []) ∷ plain_value (codes "q") (range (pos 1) LAST) (value_id 0 ∷ []) ∷ [];
    begin = value_id 0;
  } ∷ record {
    name = codes "c";
    values = plain_value (codes "m") (range (pos 1) LAST) (value_id 1 ∷ []) ∷ plain_value (codes "n") (range (pos 1) LAST) [] ∷ [];
    begin = value_id 0;
  } ∷ [];
  needs = record { of = kind 1 1; either = record { relation = After (range (pos 2) (pos 6)); by = kind 0 0 } ∷ [] } ∷ [];
  horizons =
      record { tick = pos 10; goals = record { kind = kind 0 1; start = range (pos 1) (pos 9); stop = whole } ∷ [] }
      ∷ record { tick = pos 20; goals = record { kind = kind 1 1; start = range (pos 11) (pos 19); stop = whole } ∷ [] }
      ∷ [];
  words = codes "done" ∷ [];
}

abbrev pub moving_begun : Begun
moving_begun = record {
  base = record { base = 0; since = pos 0; fixed = []; tokens = kind 0 0 ∷ kind 0 1 ∷ kind 1 0 ∷ []; supports = []; goals = token 0 1 ∷ [] } ∷ [];
  since = pos 2;
  fixed = record { point = record { 0 = 2 }; at = pos 2 } ∷ [];
}

abbrev pub moving_extension : Extension
moving_extension = record {
  base = 1;
  since = pos 2;
  fixed = record { point = record { 0 = 2 }; at = pos 2 } ∷ [];
  tokens = kind 0 0 ∷ kind 0 1 ∷ kind 1 1 ∷ [];
  supports = record { token = token 1 1; need = 0; by = token 0 2 } ∷ [];
  goals = token 1 1 ∷ [];
}

-- a need with two choices, of which only the second can be kept
abbrev pub choosing : Mission
choosing = record {
  vars = record {
    name = codes "a";
    values = plain_value (codes "p") (range (pos 2) (pos 4)) (value_id 1 ∷ []) ∷ plain_value (codes "q") (range (pos 1) LAST) [] ∷ [];
    begin = value_id 0;
  } ∷ record {
    name = codes "b";
    values = plain_value (codes "u") (range (pos 1) LAST) (value_id 1 ∷ []) ∷ plain_value (codes "v") (range (pos 1) LAST) [] ∷ [];
    begin = value_id 0;
  } ∷ [];
  needs =
      record {
        of = kind 0 0;
        either = record { relation = Before (range (pos 20) (pos 30)); by = kind 1 1 } ∷ record { relation = ContainedBy whole whole; by = kind 1 0 } ∷ [];
      }
      ∷ [];
  horizons = record { tick = pos 10; goals = [] } ∷ [];
  words = codes "done" ∷ [];
}

abbrev pub choosing_plan : List Extension
choosing_plan = record { base = 0; since = pos 0; fixed = []; tokens = kind 0 0 ∷ kind 0 1 ∷ kind 1 0 ∷ []; supports = record { token = token 0 0; need = 0; by = token 1 0 } ∷ []; goals = [] } ∷ []
