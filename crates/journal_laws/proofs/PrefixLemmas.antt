-- Words tell what they are written of, and where it ends.
use Rattle.std.proofs.Common.{◌≡◌, ℕ, ◌+◌, ◌^◌, ◌<◌, ◌≤◌, ℤ, pos, negsuc, neg_ℤ, true, false, List, [], ◌∷◌, length, map, Option, Some, None, refl, sym, ap, ◌∙◌, subst, arith, codes, inl, inr}
use Rattle.std.proofs.lemmas.Bool.{cases_lt}
use Rattle.std.proofs.lemmas.Bool.Decides.{nat_tests}
use Rattle.std.proofs.lemmas.Fmt.{decimal_injective, signed_decimal_injective}
use Rattle.std.proofs.lemmas.Int.{ints}
use Rattle.std.proofs.lemmas.Option.{slice_get-map, slice_get_within}
use lib.Signed.{mag}
use Rattle.std.specs.Prelude.{◌≤ℤ◌, ◌<ℤ◌, nat_eq, slice_get, option_map}
use Rattle.std.specs.List.{AllByRecursion}
use Rattle.std.specs.Fmt.{decimal, signed_decimal}
use Rattle.hs_base.specs.declared.limits.TheConstants.{LAST}
use Rattle.hs_base.specs.declared.mission.Kind.{Kind}
use Rattle.hs_base.specs.declared.mission.Mission.{Mission}
use Rattle.hs_base.specs.declared.mission.Value.{Value}
use Rattle.hs_base.specs.declared.mission.Var.{Var}
use Rattle.hs_base.specs.declared.net.Bound.{Bound}
use Rattle.hs_base.specs.declared.plan.Extension.{Extension}
use Rattle.hs_base.specs.declared.plan.Support.{Support}
use Rattle.hs_base.specs.declared.plan.Time.{Time}
use Rattle.hs_base.specs.declared.plan.TokenRef.{TokenRef}
use Rattle.hs_base.specs.Missions.{IsMission, IsKindOf, IsVar}
use Rattle.hs_base.specs.Names.{begins_small}
use Rattle.hs_base.specs.Points.{Point, origin, horizon, ending, points_of}
use Rattle.hs_base.specs.Ranges.{whole, range, InRange}
use Rattle.hs_base.specs.Walks.{AreDifferent}
use Rattle.hs_texts.specs.Written.{variable_name, value_name}
use Rattle.base_laws.proofs.ListLemmas.{each_at, in_order}
use Rattle.base_laws.proofs.PointLemmas.{named}
use Rattle.text_laws.specs.WritablePlans.{IsWritableToken, IsWritableSupport}
use Rattle.text_laws.proofs.PlanPrintedLemmas.{IsWritablePoint, HasPoint, HasValue, has_variable, variable_is, variable_named, has_value, value_is}
use Rattle.journal_laws.proofs.WordLemmas.{Word}
use Rattle.journal_laws.proofs.TextLemmas.{Words, point_words, number_words, token_words, bound_words, fix_words, kind_words, support_words, each_words, goal_words, body_words}

-- the first word, and those behind it
pub head : {x y : Word} {r s : Words} → x ∷ r ≡ y ∷ s → x ≡ y
head e = cc

pub tail : {x y : Word} {r s : Words} → x ∷ r ≡ y ∷ s → r ≡ s
tail e = cc

-- Names and numbers.

-- of different elements each stands at one place
one_place : {X : Type 0} (xs : List X) (x : X) (i j : ℕ) → AreDifferent xs → slice_get xs i ≡ Some x → slice_get xs j ≡ Some x → i ≡ j
one_place xs x i j d h k = elim (cases_lt i j) [
  | inl less ↦ absurd (in_order (λ a b. a ≡ b → ⊥) xs i j x x d h k less refl)
  | inr most ↦ elim (cases_lt j i) [
    | inl less ↦ absurd (in_order (λ a b. a ≡ b → ⊥) xs j i x x d k h less refl)
    | inr least ↦ omega (arith, most, least)
  ]
]

variable_here : (m : Mission) (v : ℕ) → v < length m.vars → slice_get (map (λ (w : Var). w.name) m.vars) v ≡ Some (variable_name m v)
variable_here m v h =
    let k = has_variable m v h in
    slice_get-map (λ (w : Var). w.name) m.vars v ∙ ap (option_map (λ (w : Var). w.name)) k.there ∙ ap (λ (w : List ℕ). Some w) (sym (variable_is m v k.var k.there))

-- a variable's name tells it
pub variable_one : (m : Mission) (v w : ℕ) → IsMission m → v < length m.vars → w < length m.vars → variable_name m v ≡ variable_name m w → v ≡ w
variable_one m v w i h k e = one_place (map (λ (x : Var). x.name) m.vars) (variable_name m w) v w i.vars_differ (variable_here m v h ∙ ap (λ (n : List ℕ). Some n) e) (variable_here m w k)

value_here : (m : Mission) (k : Kind) (h : HasValue m k) → slice_get (map (λ (x : Value). x.name) h.var.values) k.value.0 ≡ Some (value_name m k)
value_here m k h = slice_get-map (λ (x : Value). x.name) h.var.values k.value.0 ∙ ap (option_map (λ (x : Value). x.name)) h.found ∙ ap (λ (w : List ℕ). Some w) (sym (value_is m k h.var h.value h.there h.found))

-- and a value's name tells it among those of its variable
kind_one : (m : Mission) (k l : Kind) → IsMission m → IsKindOf m.vars k → IsKindOf m.vars l → k.sv.0 ≡ l.sv.0 → value_name m k ≡ value_name m l → k ≡ l
kind_one m k l i h j same e =
    let a = has_value m k h in
    let b = has_value m l j in
    let vars : a.var ≡ b.var = some_one (sym a.there ∙ ap (slice_get m.vars) same ∙ b.there) in
    let var = each_at (IsVar (length m.words)) m.vars k.sv.0 a.var i.vars a.there in
    let there : slice_get (map (λ (x : Value). x.name) a.var.values) l.value.0 ≡ Some (value_name m l) = ap (λ (v : Var). slice_get (map (λ (x : Value). x.name) v.values) l.value.0) vars ∙ value_here m l b in
    let value : k.value.0 ≡ l.value.0 = one_place (map (λ (x : Value). x.name) a.var.values) (value_name m l) k.value.0 l.value.0 var.values_differ (value_here m k a ∙ ap (λ (n : List ℕ). Some n) e) there in
    grind (arith, same, value)
  where
    some_one : {x y : Var} → Some x ≡ Some y → x ≡ y
    some_one e = cc

pub number_one : (n k : ℕ) → n ≤ 1000000000 → k ≤ 1000000000 → decimal n ≡ decimal k → n ≡ k
number_one n k h j e = decimal_injective n k (omega (arith, h)) (omega (arith, j)) e

mag_small : (z : ℤ) → InRange (range (neg_ℤ LAST) LAST) z → mag z < 2 ^ 63
mag_small (pos n) h = let k : pos n ≤ℤ pos 1000000000 = h.1 in omega (arith, ints, k)
mag_small (negsuc n) h = let k : negsuc 999999999 ≤ℤ negsuc n = h.0 in omega (arith, ints, k)

pub signed_one : (y z : ℤ) → InRange (range (neg_ℤ LAST) LAST) y → InRange (range (neg_ℤ LAST) LAST) z → signed_decimal y ≡ signed_decimal z → y ≡ z
signed_one y z h j e = signed_decimal_injective y z (mag_small y h) (mag_small z j) e

pub whole_one : (y z : ℤ) → InRange whole y → InRange whole z → signed_decimal y ≡ signed_decimal z → y ≡ z
whole_one y z h j e = signed_one y z (wide y h) (wide z j) e
  where
    wide : (x : ℤ) → InRange whole x → InRange (range (neg_ℤ LAST) LAST) x
    wide x k = let low : pos 0 ≤ℤ x = k.0 in (omega (arith, ints, low), k.1)

-- Points.

-- the first byte of words
abbrev pub first_byte : Words → ℕ
first_byte [] = 0
first_byte ([] ∷ ws) = 0
first_byte ((c ∷ w) ∷ ws) = c

not_small : (m : Mission) (v c : ℕ) → IsMission m → v < length m.vars → begins_small (c ∷ []) ≡ false → variable_name m v ≡ c ∷ [] → ⊥
not_small m v c i h large e = let small : begins_small (c ∷ []) ≡ true = subst (λ (w : List ℕ). begins_small w ≡ true) e (variable_named m v i h).begins in absurd (cc (small, large))

pub point_one : (m : Mission) (p q : Point) (r s : Words) → IsMission m → IsWritablePoint m p → IsWritablePoint m q → point_words m p r ≡ point_words m q s → (p ≡ q) × (r ≡ s)
point_one m origin origin r s i h k e = (refl, cc)
point_one m origin (horizon b) r s i h k e = let bad : 90 ≡ 72 = ap first_byte e in absurd (omega (arith, bad))
point_one m origin (ending w j) r s i h k e = absurd (not_small m w 90 i k.0 refl (sym cc))
point_one m (horizon a) origin r s i h k e = let bad : 72 ≡ 90 = ap first_byte e in absurd (omega (arith, bad))
point_one m (horizon a) (horizon b) r s i h k e = (ap horizon (number_one a b h k cc), cc)
point_one m (horizon a) (ending w j) r s i h k e = absurd (not_small m w 72 i k.0 refl (sym cc))
point_one m (ending v j) origin r s i h k e = absurd (not_small m v 90 i h.0 refl cc)
point_one m (ending v j) (horizon b) r s i h k e = absurd (not_small m v 72 i h.0 refl cc)
point_one m (ending v j) (ending w l) r s i h k e =
    let a : v ≡ w = variable_one m v w i h.0 k.0 cc in
    let b : j ≡ l = number_one j l h.1 k.1 cc in
    (ap (λ (x : ℕ). ending x j) a ∙ ap (ending w) b, cc)

pub number_is : (m : Mission) (ps : List Point) (x : ℕ) (r : Words) (h : HasPoint m ps x) → number_words m ps x r ≡ point_words m h.point r
number_is m ps x r h = ap (λ (o : Option Point). elim o [ Some p ↦ point_words m p r | None ↦ r ]) h.there

-- a point's name tells its number in a plan
pub same_number : (es : List Extension) (x y : ℕ) (p q : Point) → slice_get (points_of es) x ≡ Some p → slice_get (points_of es) y ≡ Some q → p ≡ q → x ≡ y
same_number es x y p q h k e =
    let there : slice_get (points_of es) x ≡ Some q = h ∙ ap (λ (z : Point). Some z) e in
    sym ((named es).once x q there) ∙ (named es).once y q k

pub number_words_one : (m : Mission) (es : List Extension) (x y : ℕ) (r s : Words) → IsMission m → HasPoint m (points_of es) x → HasPoint m (points_of es) y → number_words m (points_of es) x r ≡ number_words m (points_of es) y s → (x ≡ y) × (r ≡ s)
number_words_one m es x y r s i h k e =
    let one = point_one m h.point k.point r s i h.writable k.writable (sym (number_is m (points_of es) x r h) ∙ e ∙ number_is m (points_of es) y s k) in
    (same_number es x y h.point k.point h.there k.there one.0, one.1)

-- Lines.

token_one : (m : Mission) (t u : TokenRef) (r s : Words) → IsMission m → IsWritableToken m t → IsWritableToken m u → token_words m t r ≡ token_words m u s → (t ≡ u) × (r ≡ s)
token_one m t u r s i h k e =
    let a : variable_name m t.sv.0 ≡ variable_name m u.sv.0 = cc in
    let b : decimal t.place ≡ decimal u.place = cc in
    let c : r ≡ s = cc in
    let sv = variable_one m t.sv.0 u.sv.0 i h.known k.known a in
    let place = number_one t.place u.place (omega (arith, ints, h.place)) (omega (arith, ints, k.place)) b in
    (grind (arith, sv, place), c)

pub bound_one : (m : Mission) (es : List Extension) (b d : Bound) (r s : Words) → IsMission m → HasPoint m (points_of es) b.from.0 → HasPoint m (points_of es) b.to.0 → HasPoint m (points_of es) d.from.0 → HasPoint m (points_of es) d.to.0 → InRange (range (neg_ℤ LAST) LAST) b.most → InRange (range (neg_ℤ LAST) LAST) d.most → bound_words m es b r ≡ bound_words m es d s → (b ≡ d) × (r ≡ s)
bound_one m es b d r s i bf bt df dt bm dm e =
    let p = number_words_one m es b.from.0 d.from.0 _ _ i bf df e in
    let q = number_words_one m es b.to.0 d.to.0 _ _ i bt dt (tail p.1) in
    let w = tail q.1 in
    let most = signed_one b.most d.most bm dm (head w) in
    (grind (arith, p.0, q.0, most), tail w)

module _ (m : Mission) (es : List Extension) (i : IsMission m) where
  -- a line that begins with its own word
  fix_one : (t u : Time) (r s : Words) → HasPoint m (points_of es) t.point.0 × InRange whole t.at → HasPoint m (points_of es) u.point.0 × InRange whole u.at → fix_words m (points_of es) t r ≡ fix_words m (points_of es) u s → (t ≡ u) × (r ≡ s)
  fix_one t u r s h k e =
      let p = number_words_one m es t.point.0 u.point.0 _ _ i h.0 k.0 (tail e) in
      let at = whole_one t.at u.at h.1 k.1 (head p.1) in
      (grind (arith, p.0, at), tail p.1)

  kind_words_one : (k l : Kind) (r s : Words) → IsKindOf m.vars k → IsKindOf m.vars l → kind_words m k r ≡ kind_words m l s → (k ≡ l) × (r ≡ s)
  kind_words_one k l r s h j e =
      let known = slice_get_within m.vars k.sv.0 h.0 h.1 in
      let known2 = slice_get_within m.vars l.sv.0 j.0 j.1 in
      let sv = variable_one m k.sv.0 l.sv.0 i known known2 (head (tail e)) in
      (kind_one m k l i h j sv (head (tail (tail e))), tail (tail (tail e)))

  support_one : (x y : Support) (r s : Words) → IsWritableSupport m x → IsWritableSupport m y → support_words m x r ≡ support_words m y s → (x ≡ y) × (r ≡ s)
  support_one x y r s h k e =
      let a = token_one m x.token y.token _ _ i h.token k.token (tail e) in
      let n = number_one x.need y.need (omega (arith, ints, h.need)) (omega (arith, ints, k.need)) (head a.1) in
      let b = token_one m x.by y.by r s i h.by k.by (tail a.1) in
      (grind (arith, a.0, n, b.0), b.1)

-- Items.

-- the words don't begin with this byte
abbrev Avoids : ℕ → Words → Type 0
Avoids c r = first_byte r ≡ c → ⊥

-- lines that begin with one byte are told apart from what follows, which doesn't
lines_one : {A : Type 0} (P : A → Type 0) (c : ℕ) (f : A → Words → Words) → ((x : A) (r : Words) → first_byte (f x r) ≡ c) → ((x y : A) (r s : Words) → P x → P y → f x r ≡ f y s → (x ≡ y) × (r ≡ s)) → (xs ys : List A) (r s : Words) → AllByRecursion P xs → AllByRecursion P ys → Avoids c r → Avoids c s → each_words f xs r ≡ each_words f ys s → (xs ≡ ys) × (r ≡ s)
lines_one P c f first one [] [] r s h k a b e = (refl, e)
lines_one P c f first one [] (y ∷ ys) r s h k a b e = absurd (a (ap first_byte e ∙ first y (each_words f ys s)))
lines_one P c f first one (x ∷ xs) [] r s h k a b e = absurd (b (sym (ap first_byte e) ∙ first x (each_words f xs r)))
lines_one {A} P c f first one (x ∷ xs) (y ∷ ys) r s h k a b e =
    let here = one x y (each_words f xs r) (each_words f ys s) h.0 k.0 e in
    let later = lines_one P c f first one xs ys r s h.1 k.1 a b here.1 in
    (ap (λ (z : A). z ∷ xs) here.0 ∙ ap (λ (zs : List A). y ∷ zs) later.0, later.1)

-- lines that begin with another byte do no harm
lines_avoid : {A : Type 0} (c d : ℕ) (f : A → Words → Words) → ((x : A) (r : Words) → first_byte (f x r) ≡ d) → (d ≡ c → ⊥) → (xs : List A) (r : Words) → Avoids c r → Avoids c (each_words f xs r)
lines_avoid c d f first other [] r a = a
lines_avoid c d f first other (x ∷ xs) r a = λ e. other (sym (first x (each_words f xs r)) ∙ e)

goals_avoid : (m : Mission) (c n : ℕ) (ts : List TokenRef) (r : Words) → (103 ≡ c → ⊥) → Avoids c r → Avoids c (goal_words m n ts r)
goals_avoid m c n [] r other a = a
goals_avoid m c n (t ∷ ts) r other a = other

goals_one : (m : Mission) (n : ℕ) (ts us : List TokenRef) (r s : Words) → IsMission m → AllByRecursion (IsWritableToken m) ts → AllByRecursion (IsWritableToken m) us → Avoids 103 r → Avoids 103 s → goal_words m n ts r ≡ goal_words m n us s → (ts ≡ us) × (r ≡ s)
goals_one m n [] [] r s i h k a b e = (refl, e)
goals_one m n [] (u ∷ us) r s i h k a b e = absurd (a (ap first_byte e))
goals_one m n (t ∷ ts) [] r s i h k a b e = absurd (b (sym (ap first_byte e)))
goals_one m n (t ∷ ts) (u ∷ us) r s i h k a b e =
    let here = token_one m t u (goal_words m (n + 1) ts r) (goal_words m (n + 1) us s) i h.0 k.0 (tail (tail e)) in
    let later = goals_one m (n + 1) ts us r s i h.1 k.1 a b here.1 in
    (ap (λ (z : TokenRef). z ∷ ts) here.0 ∙ ap (λ (zs : List TokenRef). u ∷ zs) later.0, later.1)

-- Bodies and deeds.

-- what is told of a body
pub record IsToldBody (m : Mission) (es : List Extension) (e : Extension) : Type 0 where
  pub since : InRange whole e.since
  pub fixed : AllByRecursion (λ (t : Time). HasPoint m (points_of es) t.point.0 × InRange whole t.at) e.fixed
  pub tokens : AllByRecursion (IsKindOf m.vars) e.tokens
  pub supports : AllByRecursion (IsWritableSupport m) e.supports
  pub goals : AllByRecursion (IsWritableToken m) e.goals

-- two extensions are the same but for their base
pub record AreOneBody (e f : Extension) : Type 0 where
  pub since : e.since ≡ f.since
  pub fixed : e.fixed ≡ f.fixed
  pub tokens : e.tokens ≡ f.tokens
  pub supports : e.supports ≡ f.supports
  pub goals : e.goals ≡ f.goals

pub body_one : (m : Mission) (es : List Extension) (e f : Extension) (r s : Words) → IsMission m → IsToldBody m es e → IsToldBody m es f → body_words m (points_of es) e r ≡ body_words m (points_of es) f s → AreOneBody e f × (r ≡ s)
body_one m es e f r s i h k w =
    let ps = points_of es in
    let ge = goal_words m 0 e.goals (codes "close" ∷ r) in
    let gf = goal_words m 0 f.goals (codes "close" ∷ s) in
    let se = each_words (support_words m) e.supports ge in
    let sf = each_words (support_words m) f.supports gf in
    let te = each_words (kind_words m) e.tokens se in
    let tf = each_words (kind_words m) f.tokens sf in
    let no : (c d : ℕ) → nat_eq c d ≡ false → c ≡ d → ⊥ = λ c d t e'. grind (arith, nat_tests) in
    let ge_but : (c : ℕ) → nat_eq 99 c ≡ false → nat_eq 103 c ≡ false → Avoids c ge = λ c x y. goals_avoid m c 0 e.goals (codes "close" ∷ r) (no 103 c y) (no 99 c x) in
    let gf_but : (c : ℕ) → nat_eq 99 c ≡ false → nat_eq 103 c ≡ false → Avoids c gf = λ c x y. goals_avoid m c 0 f.goals (codes "close" ∷ s) (no 103 c y) (no 99 c x) in
    let se_but : (c : ℕ) → nat_eq 99 c ≡ false → nat_eq 103 c ≡ false → nat_eq 115 c ≡ false → Avoids c se = λ c x y z. lines_avoid c 115 (support_words m) (λ t u. refl) (no 115 c z) e.supports ge (ge_but c x y) in
    let sf_but : (c : ℕ) → nat_eq 99 c ≡ false → nat_eq 103 c ≡ false → nat_eq 115 c ≡ false → Avoids c sf = λ c x y z. lines_avoid c 115 (support_words m) (λ t u. refl) (no 115 c z) f.supports gf (gf_but c x y) in
    let fixed = lines_one (λ (t : Time). HasPoint m ps t.point.0 × InRange whole t.at) 102 (fix_words m ps) (λ t u. refl) (fix_one m es i) e.fixed f.fixed te tf h.fixed k.fixed
    (lines_avoid 102 116 (kind_words m) (λ t u. refl) (no 116 102 refl) e.tokens se (se_but 102 refl refl refl))
    (lines_avoid 102 116 (kind_words m) (λ t u. refl) (no 116 102 refl) f.tokens sf (sf_but 102 refl refl refl)) (tail (tail w)) in
    let tokens = lines_one (IsKindOf m.vars) 116 (kind_words m) (λ t u. refl) (kind_words_one m es i) e.tokens f.tokens se sf h.tokens k.tokens (se_but 116 refl refl refl) (sf_but 116 refl refl refl) fixed.1 in
    let supports = lines_one (IsWritableSupport m) 115 (support_words m) (λ t u. refl) (support_one m es i) e.supports f.supports ge gf h.supports k.supports (ge_but 115 refl refl) (gf_but 115 refl refl) tokens.1 in
    let goals = goals_one m 0 e.goals f.goals (codes "close" ∷ r) (codes "close" ∷ s) i h.goals k.goals (no 99 103 refl) (no 99 103 refl) supports.1 in
    (record { since = whole_one e.since f.since h.since k.since (head (tail w)); fixed = fixed.0; tokens = tokens.0; supports = supports.0; goals = goals.0 }, tail goals.1)

-- with its base it is the same
pub extension_one : (e f : Extension) → e.base ≡ f.base → AreOneBody e f → e ≡ f
extension_one e f base h = grind (arith, base, h.since, h.fixed, h.tokens, h.supports, h.goals)

pub base_one : (a b : ℕ) → pos a <ℤ LAST → pos b <ℤ LAST → decimal (a + 1) ≡ decimal (b + 1) → a ≡ b
base_one a b h k e = let n = number_one (a + 1) (b + 1) (omega (arith, ints, h)) (omega (arith, ints, k)) e in omega (arith, n)
