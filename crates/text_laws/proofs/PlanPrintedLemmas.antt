-- The text of a plan is written as its nonterminals have it.
use Rattle.std.proofs.Common.{◌≡◌, ◌≤◌, ℕ, ◌+◌, ◌-◌, ◌<◌, Bool, true, false, cond, append_assoc, List, [], ◌∷◌, ◌++◌, length, map, flat_map, refl, sym, ap, ◌∙◌, subst, append-nil, nat_eq, inl, inr, arith, codes}
use Rattle.std.proofs.lemmas.Int.{ints}
use Rattle.std.specs.Prelude.{Option, Some, None, slice_get}
use Rattle.std.specs.List.{AllByRecursion}
use Rattle.std.specs.Fmt.{decimal, signed_decimal, digits}
use Rattle.std.proofs.lemmas.Option.{slice_get_cases, slice_get_within}
use Rattle.std.proofs.lemmas.Bool.Decides.{nat_tests}
use Rattle.hs_base.specs.declared.mission.Kind.{Kind}
use Rattle.hs_base.specs.declared.mission.Mission.{Mission}
use Rattle.hs_base.specs.declared.mission.Value.{Value}
use Rattle.hs_base.specs.declared.mission.Var.{Var}
use Rattle.hs_base.specs.declared.plan.TokenRef.{TokenRef}
use Rattle.hs_base.specs.declared.plan.Support.{Support}
use Rattle.hs_base.specs.declared.plan.Time.{Time}
use Rattle.hs_base.specs.declared.plan.Extension.{Extension}
use Rattle.hs_base.specs.Names.{IsName}
use Rattle.hs_base.specs.Missions.{IsKindOf, IsMission, IsVar, IsValue}
use Rattle.hs_base.specs.Ranges.{whole, InRange}
use Rattle.hs_base.specs.Walks.{EachAfter, join_after}
use Rattle.hs_base.specs.Points.{Point, origin, horizon, ending, points_of, value_of}
use Rattle.hs_texts.specs.Languages.{Language, Yields, Then, Many, Keyword}
use Rattle.hs_texts.specs.Written.{variable_name, value_name, spelled_point, point_in, token_text, fix_line, token_line, support_line, goal_line, goal_lines, body_in}
use Rattle.hs_texts.specs.PlanText.{extension_text, plan_text}
use Rattle.hs_texts.specs.declared.written.WrittenPoint.TheVariants.{Origin}
use Rattle.hs_texts.specs.declared.written.WrittenExtension.{WrittenExtension}
use Rattle.hs_texts.specs.Kept.{kept, broken, Series}
use Rattle.hs_texts.specs.PlanGrammar.{Name, Count, count_says, may_be_fixed, point_size, Exactly, OneMore, PointText, TokenText, FixedAt, FixText, NewTokenText, SupportText, GoalText, BodyText, ExtensionText, PlanGrammar}
use Rattle.text_laws.specs.Writes.{Writes}
use Rattle.text_laws.specs.WritablePlans.{IsWritableToken, IsWritableSupport, written_token, written_point, written_at, written_time, written_kind, written_support, written_body, written_extension, written_extensions, written_plan}
use Rattle.base_laws.proofs.ListLemmas.{each_at}
use Rattle.text_laws.proofs.WritesLemmas.{no_more, in_front, line_end, three, four, five, seven, eight, left, right, respelled, spaced, next_line, ended, followed, closed_then, yielded, and_nothing, decimal_written, number_written, keyword, keyed, no_item, item_first, item_lines, each}
use Rattle.text_laws.proofs.PrintedLemmas.{name_written}

-- Names.

-- the variable of a number
pub record HasVariable (m : Mission) (v : ℕ) : Type 0 where
  pub var : Var
  pub there : slice_get m.vars v ≡ Some var

pub has_variable : (m : Mission) (v : ℕ) → v < length m.vars → HasVariable m v
has_variable m v h = elim (slice_get_cases m.vars v).1 [
  | inl k ↦ record { var = k.0; there = k.2 }
  | inr k ↦ absurd (omega (arith, h, k.0))
]

pub variable_is : (m : Mission) (v : ℕ) (var : Var) → slice_get m.vars v ≡ Some var → variable_name m v ≡ var.name
variable_is m v var h = ap (λ (o : Option Var). elim o [ Some var ↦ var.name | None ↦ [] ]) h

pub variable_named : (m : Mission) (v : ℕ) → IsMission m → v < length m.vars → IsName (variable_name m v)
variable_named m v i h =
    let k = has_variable m v h in
    subst (λ (w : List ℕ). IsName w) (sym (variable_is m v k.var k.there)) (each_at (IsVar (length m.words)) m.vars v k.var i.vars k.there).name

pub value_is : (m : Mission) (k : Kind) (var : Var) (value : Value) → slice_get m.vars k.sv.0 ≡ Some var → slice_get var.values k.value.0 ≡ Some value → value_name m k ≡ value.name
value_is m k var value h i =
    let found : value_of m k ≡ Some value = ap (λ (o : Option Var). elim o [ None ↦ None | Some var ↦ slice_get var.values k.value.0 ]) h ∙ i in
    ap (λ (o : Option Value). elim o [ Some value ↦ value.name | None ↦ [] ]) found

-- the value of a kind
pub record HasValue (m : Mission) (k : Kind) : Type 0 where
  pub var : Var
  pub there : slice_get m.vars k.sv.0 ≡ Some var
  pub value : Value
  pub found : slice_get var.values k.value.0 ≡ Some value

pub has_value : (m : Mission) (k : Kind) → IsKindOf m.vars k → HasValue m k
has_value m k h = elim (slice_get_cases h.0.values k.value.0).1 [
  | inl i ↦ record { var = h.0; there = h.1; value = i.0; found = i.2 }
  | inr i ↦ absurd (omega (arith, h.2, i.0))
]

pub value_named : (m : Mission) (k : Kind) → IsMission m → IsKindOf m.vars k → IsName (value_name m k)
value_named m k i h =
    let v = has_value m k h in
    let var = each_at (IsVar (length m.words)) m.vars k.sv.0 v.var i.vars v.there in
    subst (λ (w : List ℕ). IsName w) (sym (value_is m k v.var v.value v.there v.found)) (each_at (IsValue (length m.words) (length v.var.values)) v.var.values k.value.0 v.value var.values v.found).name

pub variable_written : (m : Mission) (v : ℕ) → IsMission m → v < length m.vars → Writes Name false (variable_name m v) (variable_name m v)
variable_written m v i h = name_written 1 (variable_name m v) (variable_named m v i h)

-- Numbers.

pub count_written : (n : ℕ) → n ≤ 1000000000 → Writes Count false (decimal n) n
count_written n h = decimal_written count_says n n h (λ ds e. ap (λ (k : ℕ). Some k) e)

pub exactly_written : (n : ℕ) → n ≤ 1000000000 → Writes (Exactly n) false (decimal n) (kept tt)
exactly_written n h = let same : nat_eq n n ≡ true = grind (arith, nat_tests) in yielded (count_written n h) (rw same refl)

pub one_more_written : (n : ℕ) → n + 1 ≤ 1000000000 → Writes OneMore false (decimal (n + 1)) (kept n)
one_more_written n h =
    let some : nat_eq (n + 1) 0 ≡ false = grind (arith, nat_tests) in
    let before : n ≡ n + 1 - 1 = omega arith in
    yielded (count_written (n + 1) h) (rw some (ap kept before))

-- Points and tokens.

-- what the name of a point is made of can be written
abbrev pub IsWritablePoint : Mission → Point → Type 0
IsWritablePoint m origin = Unit {0}
IsWritablePoint m (horizon k) = k ≤ 1000000000
IsWritablePoint m (ending v i) = (v < length m.vars) × (i ≤ 1000000000)

-- a token by its variable and its place
pub token_end_written : (m : Mission) (v i : ℕ) → IsMission m → v < length m.vars → i ≤ 1000000000 → Writes TokenText false (spelled_point m (ending v i)) (record { sv = variable_name m v; place = i })
token_end_written m v j i h few =
    respelled (three (variable_name m v) (codes " ") (decimal j)) refl
    (followed (variable_written m v i h) (λ behind a. refl) (spaced (yielded (count_written j few) refl)))

point_written : (m : Mission) (p : Point) → IsMission m → IsWritablePoint m p → Writes PointText false (spelled_point m p) (written_point m p)
point_written m origin i h = left (yielded (keyword "Z" refl) refl)
point_written m (horizon k) i h = right (left (keyed "H" "H " refl refl (yielded (count_written k h) refl)))
point_written m (ending v j) i h = right (right (yielded (token_end_written m v j i h.0 h.1) refl))

-- the point of a number
pub record HasPoint (m : Mission) (ps : List Point) (p : ℕ) : Type 0 where
  pub point : Point
  pub there : slice_get ps p ≡ Some point
  pub writable : IsWritablePoint m point

pub written_at_is : (m : Mission) (ps : List Point) (p : ℕ) (h : HasPoint m ps p) → written_at m ps p ≡ written_point m h.point
written_at_is m ps p h = ap (λ (o : Option Point). elim o [ Some name ↦ written_point m name | None ↦ Origin ]) h.there

pub numbered_written : (m : Mission) (ps : List Point) (p : ℕ) → IsMission m → HasPoint m ps p → Writes PointText false (point_in m ps p) (written_at m ps p)
numbered_written m ps p i h =
    let text : point_in m ps p ≡ spelled_point m h.point = ap (λ (o : Option Point). elim o [ Some name ↦ spelled_point m name | None ↦ [] ]) h.there in
    respelled (sym text) (sym (written_at_is m ps p h)) (point_written m h.point i h.writable)

token_written : (m : Mission) (t : TokenRef) → IsMission m → IsWritableToken m t → Writes TokenText false (token_text m t) (written_token m t)
token_written m t i h = token_end_written m t.sv.0 t.place i h.known (omega (arith, ints, h.place))

-- The lines of an extension of the plan `before`.

-- the time of a point that the plan has, and that is none but one of its extensions
pub record IsWritableTime (m : Mission) (before : List Extension) (t : Time) : Type 0 where
  pub point : HasPoint m (points_of before) t.point.0
  pub fixable : may_be_fixed m (written_plan m before) (written_at m (points_of before) t.point.0) ≡ true
  pub at : InRange whole t.at

fix_written : (m : Mission) (before : List Extension) (t : Time) → IsMission m → IsWritableTime m before t → Writes (FixText m (written_plan m before)) true (fix_line m (points_of before) t) (kept (written_time m (points_of before) t))
fix_written m before t i h =
    let ps = points_of before in
    let point = written_at m ps t.point.0 in
    let text = signed_decimal t.at ++ codes "\n" in
    let value = written_time m ps t in
    let fixed : Writes (FixedAt point) true text (kept value) = ended (yielded (number_written t.at h.at) refl) in
    let allowed : Writes (cond (may_be_fixed m (written_plan m before) point) (FixedAt point) (Yields (broken (point_size point)))) true text (kept value) =
    subst (λ (b : Bool). Writes (cond b (FixedAt point) (Yields (broken (point_size point)))) true text (kept value)) (sym h.fixable) fixed in
    respelled (five (codes "fix ") (point_in m ps t.point.0) (codes " ") (signed_decimal t.at) (codes "\n")) refl
    (keyed "fix" "fix " refl refl (followed (numbered_written m ps t.point.0 i h.point) (λ behind a. refl) (spaced allowed)))

kind_written : (m : Mission) (k : Kind) → IsMission m → IsKindOf m.vars k → Writes NewTokenText true (token_line m k) (written_kind m k)
kind_written m k i h =
    let known : k.sv.0 < length m.vars = slice_get_within m.vars k.sv.0 h.0 h.1 in
    respelled (five (codes "token ") (variable_name m k.sv.0) (codes " ") (value_name m k) (codes "\n")) refl
    (keyed "token" "token " refl refl (followed (variable_written m k.sv.0 i known) (λ behind a. refl) (spaced (ended (yielded (name_written 1 (value_name m k) (value_named m k i h)) refl)))))

support_written : (m : Mission) (s : Support) → IsMission m → IsWritableSupport m s → Writes SupportText true (support_line m s) (written_support m s)
support_written m s i h =
    respelled (seven (codes "support ") (token_text m s.token) (codes " ") (decimal s.need) (codes " ") (token_text m s.by) (codes "\n")) refl
    (keyed "support" "support " refl refl (followed (token_written m s.token i h.token) (λ behind a. refl)
    (spaced (followed (count_written s.need (omega (arith, ints, h.need))) (λ behind a. refl)
    (spaced (ended (yielded (token_written m s.by i h.by) refl)))))))

goal_written : (m : Mission) (n : ℕ) (t : TokenRef) → n ≤ 1000000000 → IsMission m → IsWritableToken m t → Writes (GoalText n) true (goal_line m n t) (kept (written_token m t))
goal_written m n t few i h =
    respelled (five (codes "goal ") (decimal n) (codes " ") (token_text m t) (codes "\n")) refl
    (keyed "goal" "goal " refl refl (followed (exactly_written n few) (λ behind a. refl) (spaced (ended (yielded (token_written m t i h) refl)))))

goals_written : (m : Mission) (n : ℕ) (ts : List TokenRef) → n + length ts ≤ 1000000000 → IsMission m → AllByRecursion (IsWritableToken m) ts → Writes (Series GoalText (λ n goal. n + 1) n) true (goal_lines m n ts) (kept (map (written_token m) ts))
goals_written m n [] few i h = no_item GoalText (λ n goal. n + 1) n
goals_written m n (t ∷ ts) few i h =
    item_first GoalText (λ n goal. n + 1) n (goal_written m n t (omega (arith, few)) i h.0) (goals_written m (n + 1) ts (omega (arith, few)) i h.1)

-- lines of items that are written under other names
pub named_lines : {A B : Type 0} {R : Language B} (f : A → List ℕ) (g : A → B) (xs : List A) → AllByRecursion (λ x. Writes R true (f x) (g x)) xs → Writes (Many R) true (flat_map f xs) (map g xs)
named_lines f g [] h = no_more _
named_lines f g (x ∷ xs) h = in_front h.0 (λ behind a. tt) (named_lines f g xs h.1)

close_written : {A : Type 0} {x y : A} → y ≡ x → Writes (Then (Keyword "close") (λ _. Yields x)) true (codes "close\n") y
close_written e = followed (keyword "close" refl) (λ behind b. refl) (line_end e)

-- what an extension's lines can write
pub record IsWritableBody (m : Mission) (before : List Extension) (e : Extension) : Type 0 where
  pub since : InRange whole e.since
  pub fixed : AllByRecursion (IsWritableTime m before) e.fixed
  pub tokens : AllByRecursion (IsKindOf m.vars) e.tokens
  pub supports : AllByRecursion (IsWritableSupport m) e.supports
  pub goals : AllByRecursion (IsWritableToken m) e.goals
  pub few_goals : length e.goals ≤ 1000000000

pub body_written : (m : Mission) (before : List Extension) (e : Extension) → IsMission m → IsWritableBody m before e → Writes (BodyText m (written_plan m before)) true (body_in m (points_of before) e) (kept (written_body m before e))
body_written m before e i h =
    let ps = points_of before in
    respelled (eight (codes "since ") (signed_decimal e.since) (codes "\n") (flat_map (fix_line m ps) e.fixed) (flat_map (token_line m) e.tokens) (flat_map (support_line m) e.supports) (goal_lines m 0 e.goals) (codes "close\n")) refl
    (keyed "since" "since " refl refl (followed (number_written e.since h.since) (λ behind a. refl)
    (next_line (closed_then (item_lines (FixText m) (written_plan m before) (fix_line m ps) (written_time m ps) e.fixed (each (λ t k. fix_written m before t i k) e.fixed h.fixed))
    (closed_then (named_lines (token_line m) (written_kind m) e.tokens (each (λ k j. kind_written m k i j) e.tokens h.tokens))
    (closed_then (named_lines (support_line m) (written_support m) e.supports (each (λ s k. support_written m s i k) e.supports h.supports))
    (closed_then (goals_written m 0 e.goals (omega (arith, h.few_goals)) i h.goals) (close_written refl))))))))

extension_written : (m : Mission) (before : List Extension) (e : Extension) → IsMission m → e.base + 1 ≤ 1000000000 → IsWritableBody m before e → Writes (ExtensionText m (written_plan m before)) true (extension_text m before e) (kept (written_extension m before e))
extension_written m before e i b h =
    respelled (four (codes "extension ") (decimal (e.base + 1)) (codes "\n") (body_in m (points_of before) e)) refl
    (keyed "extension" "extension " refl refl (followed (one_more_written e.base b) (λ behind a. refl) (next_line (and_nothing (body_written m before e i h) (refl, refl)))))

-- The plan.

pub record AreWritable (m : Mission) (before : List Extension) (e : Extension) : Type 0 where
  pub base : e.base + 1 ≤ 1000000000
  pub body : IsWritableBody m before e

written_extensions-append : (m : Mission) (before xs ys : List Extension) → written_extensions m before (xs ++ ys) ≡ written_extensions m before xs ++ written_extensions m (before ++ xs) ys
written_extensions-append m before [] ys = ap (λ (es : List Extension). written_extensions m es ys) (sym (append-nil before))
written_extensions-append m before (x ∷ xs) ys =
    ap (λ (ws : List WrittenExtension). written_extension m before x ∷ ws) (written_extensions-append m (before ++ x ∷ []) xs ys
    ∙ ap (λ (es : List Extension). written_extensions m (before ++ x ∷ []) xs ++ written_extensions m es ys) (append_assoc before (x ∷ []) xs))

-- the plan with an extension more
pub written_plan-push : (m : Mission) (before : List Extension) (e : Extension) → written_plan m (before ++ e ∷ []) ≡ written_plan m before ++ written_extension m before e ∷ []
written_plan-push m before e = written_extensions-append m [] before (e ∷ [])

pub extensions_written : (m : Mission) (before es : List Extension) → IsMission m → EachAfter (AreWritable m) before es → Writes (Series (ExtensionText m) (λ before e. before ++ e ∷ []) (written_plan m before)) true (join_after (extension_text m) before es) (kept (written_extensions m before es))
extensions_written m before [] i h = no_item (ExtensionText m) (λ before e. before ++ e ∷ []) (written_plan m before)
extensions_written m before (e ∷ es) i h =
    let more = before ++ e ∷ [] in
    item_first (ExtensionText m) (λ before e. before ++ e ∷ []) (written_plan m before) (extension_written m before e i h.0.base h.0.body)
    (subst (λ (ws : List WrittenExtension). Writes (Series (ExtensionText m) (λ before e. before ++ e ∷ []) ws) true (join_after (extension_text m) more es) (kept (written_extensions m more es)))
    (written_plan-push m before e) (extensions_written m more es i h.1))

first_line : (u : List ℕ) → codes "hsts " ++ (codes "plan " ++ (decimal 1 ++ (codes "\n" ++ u))) ≡ codes "hsts plan 1\n" ++ u
unfolding digits
first_line u = refl

end_written : {A : Type 0} {x y : A} → y ≡ x → Writes (Then (Keyword "end") (λ _. Yields x)) true (codes "end\n") y
end_written e = followed (keyword "end" refl) (λ behind b. refl) (line_end e)

-- the plan's text is written
pub plan_written : (m : Mission) (es : List Extension) → IsMission m → EachAfter (AreWritable m) [] es → Writes (PlanGrammar m) true (plan_text m es) (kept (written_plan m es))
plan_written m es i h =
    let lines = join_after (extension_text m) [] es in
    respelled (first_line (lines ++ codes "end\n") ∙ three (codes "hsts plan 1\n") lines (codes "end\n")) refl
    (keyed "hsts" "hsts " refl refl (keyed "plan" "plan " refl refl (followed (exactly_written 1 (omega arith)) (λ behind a. refl)
    (next_line (closed_then (extensions_written m [] es i h) (end_written refl))))))
