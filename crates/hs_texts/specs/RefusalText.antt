-- The lines of refusals and faults.
use Rattle.std.specs.Prelude.{ℕ, List, [], ◌++◌, flat_map, codes}
use Rattle.std.specs.Fmt.{decimal}
use Rattle.hs_base.specs.declared.plan.Extension.{Extension}
use Rattle.hs_base.specs.declared.mission.Mission.{Mission}
use Rattle.hs_base.specs.declared.fault.Fault.{Fault}
use Rattle.hs_base.specs.declared.fault.Fault.TheVariants.{Base, Limit as OverLimit, Order, Fixed, WrongSupport, Unsupported, Goal as NoGoal, Cycle, Memory as NoMemoryLeft}
use Rattle.hs_texts.specs.Types.{Refusal, NotUtf8, Char, Expected, Number, Trailing, Twice, Unknown, BadRange, Limit, NoBegin, Horizons, SameVar, SameBy, NoMemory}
use Rattle.hs_texts.specs.Written.{variable_name, bound_text}

-- the line of a refusal; want of memory has none
abbrev pub refusal_line : Refusal → List ℕ
refusal_line (NotUtf8 at) = codes "refused 1 at " ++ decimal at ++ codes "\n"
refusal_line (Char at) = codes "refused 2 at " ++ decimal at ++ codes "\n"
refusal_line (Expected at) = codes "refused 3 at " ++ decimal at ++ codes "\n"
refusal_line (Number at) = codes "refused 4 at " ++ decimal at ++ codes "\n"
refusal_line (Trailing at) = codes "refused 5 at " ++ decimal at ++ codes "\n"
refusal_line (Twice name) = codes "refused 6 twice " ++ name ++ codes "\n"
refusal_line (Unknown name) = codes "refused 7 unknown " ++ name ++ codes "\n"
refusal_line (BadRange item) = codes "refused 8 range " ++ decimal item ++ codes "\n"
refusal_line (Limit which) = codes "refused 9 limit " ++ decimal which ++ codes "\n"
refusal_line (NoBegin name) = codes "refused 10 begin " ++ name ++ codes "\n"
refusal_line (Horizons item) = codes "refused 11 horizon " ++ decimal item ++ codes "\n"
refusal_line (SameVar item) = codes "refused 12 need " ++ decimal item ++ codes "\n"
refusal_line (SameBy item) = codes "refused 13 either " ++ decimal item ++ codes "\n"
refusal_line NoMemory = []

-- a fault of an extension, where es is the plan with it; want of memory has no line
abbrev pub fault_lines : Mission → List Extension → Fault → List ℕ
fault_lines m es (Base given current) = codes "1 base " ++ decimal given ++ codes " " ++ decimal current ++ codes "\n"
fault_lines m es (Order sv place) = codes "2 order " ++ variable_name m sv.0 ++ codes " " ++ decimal place ++ codes "\n"
fault_lines m es (Unsupported sv place need) =
    codes "3 unsupported " ++ variable_name m sv.0 ++ codes " " ++ decimal place ++ codes " " ++ decimal need ++ codes "\n"
fault_lines m es (WrongSupport number) = codes "4 support " ++ decimal number ++ codes "\n"
fault_lines m es (NoGoal number) = codes "5 goal " ++ decimal number ++ codes "\n"
fault_lines m es (Fixed number) = codes "6 fixed " ++ decimal number ++ codes "\n"
fault_lines m es (Cycle bounds) = codes "7 cycle\n" ++ flat_map (λ b. bound_text m es b ++ codes "\n") bounds
fault_lines m es (OverLimit points tokens) = codes "8 limit " ++ decimal points ++ codes " " ++ decimal tokens ++ codes "\n"
fault_lines m es NoMemoryLeft = []

-- the fault of the extension of that place in the text, counted from 1
abbrev pub fault_text : Mission → List Extension → ℕ → Fault → List ℕ
fault_text m es k fault = codes "extension " ++ decimal k ++ codes " fault " ++ fault_lines m es fault

-- a plan of k extensions where one is asked for
abbrev pub not_one_text : ℕ → List ℕ
not_one_text k = codes "extension " ++ decimal k ++ codes " fault 1 base " ++ decimal k ++ codes " 0\n"
