-- Two small missions: their pieces, what these spell, and the text in which the second is printed.
use Rattle.std.specs.Prelude.{ℕ, ℤ, pos, true, false, List, [], ◌∷◌, ◌++◌, Some, codes}
use Rattle.std.specs.Str.{byte}
use Prim.Native.String.{String}
use Rattle.hs_base.specs.declared.limits.TheConstants.{LAST}
use Rattle.hs_base.specs.declared.range.Range.{Range}
use Rattle.hs_base.specs.declared.relation.Relation.TheVariants.{ContainedBy}
use Rattle.hs_texts.specs.declared.ast.Ast.{Ast}
use Rattle.hs_texts.specs.declared.ast.AstKind.{AstKind}
use Rattle.hs_texts.specs.declared.ast.AstValue.{AstValue}
use Rattle.hs_texts.specs.declared.ast.Use.{Use}
use Rattle.hs_base.specs.Ranges.{range, whole}
use Rattle.hs_texts.specs.Pieces.{Piece, word, number as digits, symbol}
use Rattle.hs_texts.specs.MissionText.{until_done}

abbrev pub smallest_pieces : List Piece
smallest_pieces =
    word (codes "hsts") ∷ digits (codes "1") ∷ word (codes "var") ∷ word (codes "a") ∷ word (codes "value") ∷
    word (codes "p") ∷ symbol (byte "[") ∷ digits (codes "2") ∷ symbol (byte ",") ∷ digits (codes "4") ∷
    symbol (byte "]") ∷ word (codes "then") ∷ word (codes "q") ∷ word (codes "value") ∷ word (codes "q") ∷
    symbol (byte "[") ∷ digits (codes "1") ∷ symbol (byte ",") ∷ word (codes "inf") ∷ symbol (byte "]") ∷
    word (codes "begin") ∷ word (codes "p") ∷ word (codes "horizon") ∷ digits (codes "10") ∷ word (codes "end") ∷ []

abbrev pub camera_pieces : List Piece
camera_pieces =
    word (codes "hsts") ∷ digits (codes "1") ∷ word (codes "var") ∷ word (codes "camera") ∷ word (codes "value") ∷
    word (codes "idle") ∷ symbol (byte "[") ∷ digits (codes "1") ∷ symbol (byte ",") ∷ word (codes "inf") ∷
    symbol (byte "]") ∷ word (codes "then") ∷ word (codes "shoot") ∷ word (codes "value") ∷ word (codes "shoot") ∷
    symbol (byte "[") ∷ digits (codes "3") ∷ symbol (byte ",") ∷ digits (codes "5") ∷ symbol (byte "]") ∷
    word (codes "by") ∷ word (codes "device") ∷ word (codes "then") ∷ word (codes "idle") ∷ word (codes "answers") ∷
    digits (codes "4") ∷ word (codes "done") ∷ word (codes "begin") ∷ word (codes "idle") ∷ word (codes "var") ∷
    word (codes "attitude") ∷ word (codes "value") ∷ word (codes "earth") ∷ symbol (byte "[") ∷ digits (codes "1") ∷
    symbol (byte ",") ∷ word (codes "inf") ∷ symbol (byte "]") ∷ word (codes "then") ∷ word (codes "turn") ∷
    word (codes "value") ∷ word (codes "turn") ∷ symbol (byte "[") ∷ digits (codes "10") ∷ symbol (byte ",") ∷
    digits (codes "12") ∷ symbol (byte "]") ∷ word (codes "by") ∷ word (codes "device") ∷ word (codes "then") ∷
    word (codes "comet") ∷ word (codes "answers") ∷ digits (codes "11") ∷ word (codes "done") ∷ word (codes "value") ∷
    word (codes "comet") ∷ symbol (byte "[") ∷ digits (codes "1") ∷ symbol (byte ",") ∷ word (codes "inf") ∷
    symbol (byte "]") ∷ word (codes "begin") ∷ word (codes "earth") ∷ word (codes "need") ∷ word (codes "camera") ∷
    symbol (byte ".") ∷ word (codes "shoot") ∷ word (codes "contained_by") ∷ symbol (byte "[") ∷ digits (codes "0") ∷
    symbol (byte ",") ∷ word (codes "inf") ∷ symbol (byte "]") ∷ symbol (byte "[") ∷ digits (codes "0") ∷
    symbol (byte ",") ∷ word (codes "inf") ∷ symbol (byte "]") ∷ word (codes "attitude") ∷ symbol (byte ".") ∷
    word (codes "comet") ∷ word (codes "horizon") ∷ digits (codes "100") ∷ word (codes "goal") ∷
    word (codes "camera") ∷ symbol (byte ".") ∷ word (codes "shoot") ∷ word (codes "start") ∷ symbol (byte "[") ∷
    digits (codes "20") ∷ symbol (byte ",") ∷ digits (codes "40") ∷ symbol (byte "]") ∷ word (codes "end") ∷ []

-- a value of that name, without arguments
abbrev pub named : String → Use
named name = record { name = codes name; args = [] }

abbrev pub kind : String → String → AstKind
kind sv value = record { sv = codes sv; value = named value }

-- a value that no device ends
abbrev pub plain : String → Range → List Use → AstValue
plain name lasts next = record { name = codes name; params = []; lasts = lasts ∷ []; by_device = false; next = next; script = []; answers = [] }

-- a value that a device ends, which says `done` after a delay
abbrev pub timed : String → Range → List Use → ℤ → AstValue
timed name lasts next delay = record {
  name = codes name;
  params = [];
  lasts = lasts ∷ [];
  by_device = true;
  next = next;
  script = until_done;
  answers = (record { delay = delay; word = codes "done" } ∷ []) ∷ [];
}

-- one variable with two values
abbrev pub smallest : Ast
smallest = record {
  version = 1;
  sorts = [];
  vars = record { name = codes "a"; values = plain "p" (range (pos 2) (pos 4)) (named "q" ∷ []) ∷ plain "q" (range (pos 1) LAST) [] ∷ []; begin = Some (named "p") } ∷ [];
  needs = [];
  horizons = record { tick = pos 10; goals = [] } ∷ [];
}

-- a camera that shoots a comet
abbrev pub camera : Ast
camera = record {
  version = 1;
  sorts = [];
  vars =
      record {
        name = codes "camera";
        values = plain "idle" (range (pos 1) LAST) (named "shoot" ∷ []) ∷ timed "shoot" (range (pos 3) (pos 5)) (named "idle" ∷ []) (pos 4) ∷ [];
        begin = Some (named "idle");
      }
      ∷ record {
        name = codes "attitude";
        values = plain "earth" (range (pos 1) LAST) (named "turn" ∷ []) ∷ timed "turn" (range (pos 10) (pos 12)) (named "comet" ∷ []) (pos 11) ∷ plain "comet" (range (pos 1) LAST) [] ∷ [];
        begin = Some (named "earth");
      }
      ∷ [];
  needs = record { of = kind "camera" "shoot"; either = record { relation = ContainedBy whole whole; by = kind "attitude" "comet" } ∷ [] } ∷ [];
  horizons = record { tick = pos 100; goals = record { kind = kind "camera" "shoot"; start = range (pos 20) (pos 40); stop = whole } ∷ [] } ∷ [];
}

abbrev pub camera_text : List ℕ
camera_text =
    codes "hsts 1\n"
    ++ codes "var camera\n"
    ++ codes "value idle [1,inf] then shoot\n"
    ++ codes "value shoot [3,5] by device then idle\n"
    ++ codes "answers 4 done\n"
    ++ codes "begin idle\n"
    ++ codes "var attitude\n"
    ++ codes "value earth [1,inf] then turn\n"
    ++ codes "value turn [10,12] by device then comet\n"
    ++ codes "answers 11 done\n"
    ++ codes "value comet [1,inf]\n"
    ++ codes "begin earth\n"
    ++ codes "need camera.shoot contained_by [0,inf] [0,inf] attitude.comet\n"
    ++ codes "horizon 100\n"
    ++ codes "goal camera.shoot start [20,40]\n"
    ++ codes "end\n"
