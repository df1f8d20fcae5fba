-- Two missions with their plans, on which the definitions are tested.
use Rattle.std.specs.Prelude.{ℕ, true, false, ℤ, pos, List, [], ◌∷◌, codes}
use Rattle.hs_base.specs.declared.limits.TheConstants.{LAST}
use Rattle.hs_base.specs.declared.ids.ValId.{ValId}
use Rattle.hs_base.specs.declared.range.Range.{Range}
use Rattle.hs_base.specs.declared.relation.Relation.TheVariants.{ContainedBy}
use Rattle.hs_base.specs.declared.mission.Kind.{Kind}
use Rattle.hs_base.specs.declared.mission.Step.TheVariants.{Until}
use Rattle.hs_base.specs.declared.mission.Value.{Value}
use Rattle.hs_base.specs.declared.mission.Mission.{Mission}
use Rattle.hs_base.specs.declared.plan.TokenRef.{TokenRef}
use Rattle.hs_base.specs.declared.plan.Extension.{Extension}
use Rattle.hs_base.specs.Ranges.{range, whole}

abbrev pub value_id : ℕ → ValId
value_id i = record { 0 = i }

abbrev pub kind : ℕ → ℕ → Kind
kind v i = record { sv = record { 0 = v }; value = record { 0 = i } }

abbrev pub token : ℕ → ℕ → TokenRef
token v i = record { sv = record { 0 = v }; place = i }

abbrev pub plain_value : List ℕ → Range → List ValId → Value
plain_value name lasts next = record { name = name; lasts = lasts; by_device = false; next = next; script = []; answers = [] }

-- a value that a device ends, which says `done` after so many ticks
abbrev pub device_value : List ℕ → Range → List ValId → ℤ → Value
device_value name lasts next delay = record {
  name = name;
  lasts = lasts;
  by_device = true;
  next = next;
  script = Until (record { 0 = 0 }) ∷ [];
  answers = (record { delay = delay; word = record { 0 = 0 } } ∷ []) ∷ [];
}

-- the smallest mission: one variable with two values
abbrev pub smallest : Mission
smallest = record {
  vars = record {
    name = codes "a";
    values = plain_value (codes "p") (range (pos 2) (pos 4)) (value_id 1 ∷ []) ∷ plain_value (codes "q") (range (pos 1) LAST) [] ∷ [];
    begin = value_id 0;
  } ∷ [];
  needs = [];
  horizons = record { tick = pos 10; goals = [] } ∷ [];
  words = codes "done" ∷ [];
}

-- its plan
abbrev pub smallest_extension : Extension
smallest_extension = record { base = 0; since = pos 0; fixed = []; tokens = kind 0 0 ∷ kind 0 1 ∷ []; supports = []; goals = [] }

abbrev pub smallest_plan : List Extension
smallest_plan = smallest_extension ∷ []

-- the camera mission: a camera that has to shoot while the attitude is at the comet
abbrev pub camera : Mission
camera = record {
  vars = record {
    name = codes "camera";
    values = plain_value (codes "idle") (range (pos 1) LAST) (value_id 1 ∷ []) ∷ device_value (codes "shoot") (range (pos 3) (pos 5)) (value_id 0 ∷ []) (pos 4) ∷ [];
    begin = value_id 0;
  } ∷ record {
    name = codes "attitude";
    values =
        plain_value (codes "earth") (range (pos 1) LAST) (value_id 1 ∷ []) ∷ device_value (codes "turn") (range (pos 10) (pos 12)) (value_id 2 ∷ []) (pos 11)
        ∷ plain_value (codes "comet") (range (pos 1) LAST) [] ∷ [];
    begin = value_id 0;
  } ∷ [];
  needs = record { of = kind 0 1; either = record { relation = ContainedBy whole whole; by = kind 1 2 } ∷ [] } ∷ [];
  horizons = record { tick = pos 100; goals = record { kind = kind 0 1; start = range (pos 20) (pos 40); stop = whole } ∷ [] } ∷ [];
  words = codes "done" ∷ [];
}

-- its plan
abbrev pub camera_extension : Extension
camera_extension = record {
  base = 0;
  since = pos 0;
  fixed = [];
  tokens = kind 0 0 ∷ kind 0 1 ∷ kind 0 0 ∷ kind 1 0 ∷ kind 1 1 ∷ kind 1 2 ∷ [];
  supports = record { token = token 0 1; need = 0; by = token 1 2 } ∷ [];
  goals = token 0 1 ∷ [];
}

abbrev pub camera_plan : List Extension
camera_plan = camera_extension ∷ []

-- a schedule of the camera plan
abbrev pub camera_times : List ℤ
camera_times = pos 0 ∷ pos 100 ∷ pos 20 ∷ pos 24 ∷ pos 101 ∷ pos 1 ∷ pos 12 ∷ pos 101 ∷ []
