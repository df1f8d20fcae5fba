-- A written plan means one plan at most, and none where a name is unknown.
use Rattle.std.proofs.Common.{◌≡◌, ℕ, zero, suc, ℤ, Bool, true, false, cond, ◌||◌, List, [], ◌∷◌, ◌++◌, map, refl, sym, ap, ◌∙◌, subst, arith}
use Rattle.std.specs.Prelude.{Option, Some, None, slice_get, find, flat_map}
use Rattle.std.specs.List.{AllZip, list_any}
use Rattle.std.specs.Str.{bytes_eq}
use Rattle.std.proofs.lemmas.Slice.Eq.{bytes_eq-Decides}
use Rattle.hs_base.specs.declared.mission.Kind.{Kind}
use Rattle.hs_base.specs.declared.mission.Mission.{Mission}
use Rattle.hs_base.specs.declared.mission.Value.{Value}
use Rattle.hs_base.specs.declared.mission.Var.{Var}
use Rattle.hs_base.specs.declared.plan.Extension.{Extension}
use Rattle.hs_base.specs.declared.plan.Support.{Support}
use Rattle.hs_base.specs.declared.plan.Time.{Time}
use Rattle.hs_base.specs.declared.plan.TokenRef.{TokenRef}
use Rattle.hs_base.specs.Points.{ending, place_of, points_of}
use Rattle.hs_texts.specs.MissionMeaning.{IsNumberOf}
use Rattle.hs_texts.specs.MissionRefusals.{unknown_in}
use Rattle.hs_texts.specs.PlanSpelling.{names_of}
use Rattle.hs_texts.specs.declared.written.WrittenPoint.{WrittenPoint}
use Rattle.hs_texts.specs.declared.written.WrittenPoint.TheVariants.{Origin, Horizon, End}
use Rattle.hs_texts.specs.declared.written.WrittenToken.{WrittenToken}
use Rattle.hs_texts.specs.declared.written.WrittenTime.{WrittenTime}
use Rattle.hs_texts.specs.declared.written.WrittenKind.{WrittenKind}
use Rattle.hs_texts.specs.declared.written.WrittenSupport.{WrittenSupport}
use Rattle.hs_texts.specs.declared.written.WrittenExtension.{WrittenExtension}
use Rattle.hs_texts.specs.PlanSpelling.{TokenMeans, KindMeans, PointMeans, TimeMeans, SupportMeans, ExtensionMeans, ExtensionsMean, unknown_in_point, unknown_in_time, unknown_in_kind, unknown_in_token, unknown_in_support, unknown_in_body, unknown_in_plan}
use Rattle.plan_text.proofs.NamingLemmas.{both_known}

-- Names that are known.

name_among : (names : List (List ℕ)) (name : List ℕ) (i : ℕ) → slice_get names i ≡ Some name → list_any (bytes_eq name) names ≡ true
name_among [] name i h = absurd cc
name_among (n ∷ names) name zero h =
    let e : name ≡ n = cc in
    ap (λ b. b || list_any (bytes_eq name) names) ((bytes_eq-Decides name n).1 e)
name_among (n ∷ names) name (suc i) h = ap (λ b. bytes_eq name n || b) (name_among names name i h) ∙ or_true (bytes_eq name n) where
  or_true : (b : Bool) → (b || true) ≡ true
  or_true true = refl
  or_true false = refl

pub known_name : (names : List (List ℕ)) (name : List ℕ) (i : ℕ) → IsNumberOf names name i → unknown_in names name ≡ []
known_name names name i h = ap (λ b. cond b [] (name ∷ [])) (name_among names name i h.here)

token_known : (m : Mission) (w : WrittenToken) (t : TokenRef) → TokenMeans m w t → unknown_in_token m w ≡ []
token_known m w t h = known_name (names_of m) w.sv t.sv.0 h.sv

pub point_known : (m : Mission) (es : List Extension) (w : WrittenPoint) (p : ℕ) → PointMeans m es w p → unknown_in_point m w ≡ []
point_known m es Origin p h = refl
point_known m es (Horizon k) p h = refl
point_known m es (End t) p h = known_name (names_of m) t.sv h.0 h.1

time_known : (m : Mission) (es : List Extension) (w : WrittenTime) (t : Time) → TimeMeans m es w t → unknown_in_time m w ≡ []
time_known m es w t h = point_known m es w.point t.point.0 h.point

support_known : (m : Mission) (w : WrittenSupport) (s : Support) → SupportMeans m w s → unknown_in_support m w ≡ []
support_known m w s h = both_known _ _ (token_known m w.token s.token h.token) (token_known m w.by s.by h.by)

-- the variable that is found is the first of its name
first_found : (vars : List Var) (name : List ℕ) (i : ℕ) (var : Var) → IsNumberOf (map (λ (v : Var). v.name) vars) name i → slice_get vars i ≡ Some var → find (λ (v : Var). bytes_eq v.name name) vars ≡ Some var
first_found [] name i var n h = absurd cc
first_found (v ∷ vars) name zero var n h =
    let e : v.name ≡ name = cc (n.here) in
    let same : v ≡ var = cc in
    ap (λ b. cond b (Some v) (find (λ (x : Var). bytes_eq x.name name) vars)) ((bytes_eq-Decides v.name name).1 e) ∙ ap Some same
first_found (v ∷ vars) name (suc i) var n h =
    elim (bytes_eq v.name name) as (λ b. bytes_eq v.name name ≡ b → find (λ (x : Var). bytes_eq x.name name) (v ∷ vars) ≡ Some var) [
      | true ↦ λ e. let s : v.name ≡ name = (bytes_eq-Decides v.name name).0 e in absurd (omega (arith, n.first 0 (ap Some s)))
      | false ↦ λ e. ap (λ b. cond b (Some v) (find (λ (x : Var). bytes_eq x.name name) vars)) e ∙ first_found vars name i var (record { here = n.here; first = λ j k. let l = n.first (suc j) k in omega (arith, l) }) h
    ] refl

kind_known : (m : Mission) (w : WrittenKind) (k : Kind) → KindMeans m w k → unknown_in_kind m w ≡ []
kind_known m w k h =
    ap (λ (o : Option Var). elim o [ None ↦ w.sv ∷ [] | Some x ↦ unknown_in (map (λ (y : Value). y.name) x.values) w.value ]) (first_found m.vars w.sv k.sv.0 h.var h.sv h.there)
    ∙ known_name (map (λ (y : Value). y.name) h.var.values) w.value k.value.0 h.value

zip_known : {A B : Type 0} (P : A → B → Type 0) (f : A → List (List ℕ)) → ((x : A) (y : B) → P x y → f x ≡ []) → (xs : List A) (ys : List B) → AllZip P xs ys → flat_map f xs ≡ []
zip_known P f k [] [] h = refl
zip_known P f k [] (y ∷ ys) h = absurd h
zip_known P f k (x ∷ xs) [] h = absurd h
zip_known P f k (x ∷ xs) (y ∷ ys) h = both_known _ _ (k x y h.0) (zip_known P f k xs ys h.1)

pub extension_known : (m : Mission) (es : List Extension) (w : WrittenExtension) (e : Extension) → ExtensionMeans m es w e → unknown_in_body m w.body ≡ []
extension_known m es w e h =
    let times = zip_known (TimeMeans m es) (unknown_in_time m) (time_known m es) w.body.fixed e.fixed h.fixed in
    let kinds = zip_known (KindMeans m) (unknown_in_kind m) (kind_known m) w.body.tokens e.tokens h.tokens in
    let supports = zip_known (SupportMeans m) (unknown_in_support m) (support_known m) w.body.supports e.supports h.supports in
    let goals = zip_known (TokenMeans m) (unknown_in_token m) (token_known m) w.body.goals e.goals h.goals in
    both_known _ _ (both_known _ _ (both_known _ _ times kinds) supports) goals

pub plan_known : (m : Mission) (es : List Extension) (ws : List WrittenExtension) (fs : List Extension) → ExtensionsMean m es ws fs → unknown_in_plan m ws ≡ []
plan_known m es [] [] h = refl
plan_known m es [] (f ∷ fs) h = absurd h
plan_known m es (w ∷ ws) [] h = absurd h
plan_known m es (w ∷ ws) (f ∷ fs) h = both_known _ _ (extension_known m es w f h.0) (plan_known m (es ++ f ∷ []) ws fs h.1)

-- One meaning.

pub number_one : (names : List (List ℕ)) (name : List ℕ) (i j : ℕ) → IsNumberOf names name i → IsNumberOf names name j → i ≡ j
number_one names name i j h k = omega (arith, h.first j k.here, k.first i h.here)

token_one : (m : Mission) (w : WrittenToken) (t u : TokenRef) → TokenMeans m w t → TokenMeans m w u → t ≡ u
token_one m w t u h k = same t u (number_one (names_of m) w.sv t.sv.0 u.sv.0 h.sv k.sv) (h.place ∙ sym k.place) where
  make : ℕ → ℕ → TokenRef
  make v p = record { sv = record { 0 = v }; place = p }

  same : (t u : TokenRef) → t.sv.0 ≡ u.sv.0 → t.place ≡ u.place → t ≡ u
  same t u a b = ap (λ v. make v t.place) a ∙ ap (make u.sv.0) b

kind_one : (m : Mission) (w : WrittenKind) (a b : Kind) → KindMeans m w a → KindMeans m w b → a ≡ b
kind_one m w a b h k =
    let sv = number_one (names_of m) w.sv a.sv.0 b.sv.0 h.sv k.sv in
    let there : slice_get m.vars b.sv.0 ≡ Some h.var = subst (λ (i : ℕ). slice_get m.vars i ≡ Some h.var) sv h.there in
    let var : h.var ≡ k.var = cc (there, k.there) in
    let value = number_one (map (λ (v : Value). v.name) k.var.values) w.value a.value.0 b.value.0 (subst (λ (x : Var). IsNumberOf (map (λ (v : Value). v.name) x.values) w.value a.value.0) var h.value) k.value in
    same a b sv value
  where
    make : ℕ → ℕ → Kind
    make v u = record { sv = record { 0 = v }; value = record { 0 = u } }

    same : (a b : Kind) → a.sv.0 ≡ b.sv.0 → a.value.0 ≡ b.value.0 → a ≡ b
    same a b s v = ap (λ i. make i a.value.0) s ∙ ap (make b.sv.0) v

pub point_one : (m : Mission) (es : List Extension) (w : WrittenPoint) (p q : ℕ) → PointMeans m es w p → PointMeans m es w q → p ≡ q
point_one m es Origin p q h k = h ∙ sym k
point_one m es (Horizon i) p q h k = h ∙ sym k
point_one m es (End t) p q h k = h.2 ∙ ap (λ (v : ℕ). place_of (ending v t.place) (points_of es)) (number_one (names_of m) t.sv h.0 k.0 h.1 k.1) ∙ sym k.2

time_one : (m : Mission) (es : List Extension) (w : WrittenTime) (t u : Time) → TimeMeans m es w t → TimeMeans m es w u → t ≡ u
time_one m es w t u h k = same t u (point_one m es w.point t.point.0 u.point.0 h.point k.point) (h.at ∙ sym k.at) where
  make : ℕ → ℤ → Time
  make p n = record { point = record { 0 = p }; at = n }

  same : (t u : Time) → t.point.0 ≡ u.point.0 → t.at ≡ u.at → t ≡ u
  same t u a b = ap (λ p. make p t.at) a ∙ ap (make u.point.0) b

support_one : (m : Mission) (w : WrittenSupport) (s t : Support) → SupportMeans m w s → SupportMeans m w t → s ≡ t
support_one m w s t h k = same s t (token_one m w.token s.token t.token h.token k.token) (h.need ∙ sym k.need) (token_one m w.by s.by t.by h.by k.by) where
  make : TokenRef → ℕ → TokenRef → Support
  make token need by = record { token = token; need = need; by = by }

  same : (s t : Support) → s.token ≡ t.token → s.need ≡ t.need → s.by ≡ t.by → s ≡ t
  same s t a b c = ap (λ x. make x s.need s.by) a ∙ ap (λ n. make t.token n s.by) b ∙ ap (make t.token t.need) c

zip_one : {A B : Type 0} (P : A → B → Type 0) → ((x : A) (y z : B) → P x y → P x z → y ≡ z) → (xs : List A) (ys zs : List B) → AllZip P xs ys → AllZip P xs zs → ys ≡ zs
zip_one P o [] [] [] h k = refl
zip_one P o [] (y ∷ ys) zs h k = absurd h
zip_one P o [] [] (z ∷ zs) h k = absurd k
zip_one P o (x ∷ xs) [] zs h k = absurd h
zip_one P o (x ∷ xs) (y ∷ ys) [] h k = absurd k
zip_one P o (x ∷ xs) (y ∷ ys) (z ∷ zs) h k = ap (λ v. v ∷ ys) (o x y z h.0 k.0) ∙ ap (λ vs. z ∷ vs) (zip_one P o xs ys zs h.1 k.1)

pub extension_one : (m : Mission) (es : List Extension) (w : WrittenExtension) (e f : Extension) → ExtensionMeans m es w e → ExtensionMeans m es w f → e ≡ f
extension_one m es w e f h k =
    same e f (h.base ∙ sym k.base) (h.since ∙ sym k.since) (zip_one (TimeMeans m es) (time_one m es) w.body.fixed e.fixed f.fixed h.fixed k.fixed) (zip_one (KindMeans m) (kind_one m) w.body.tokens e.tokens f.tokens h.tokens k.tokens)
    (zip_one (SupportMeans m) (support_one m) w.body.supports e.supports f.supports h.supports k.supports) (zip_one (TokenMeans m) (token_one m) w.body.goals e.goals f.goals h.goals k.goals)
  where
    make : ℕ → ℤ → List Time → List Kind → List Support → List TokenRef → Extension
    make base since fixed tokens supports goals = record { base = base; since = since; fixed = fixed; tokens = tokens; supports = supports; goals = goals }

    same : (e f : Extension) → e.base ≡ f.base → e.since ≡ f.since → e.fixed ≡ f.fixed → e.tokens ≡ f.tokens → e.supports ≡ f.supports → e.goals ≡ f.goals → e ≡ f
    same e f a b c d x y =
        ap (λ i. make i e.since e.fixed e.tokens e.supports e.goals) a ∙ ap (λ i. make f.base i e.fixed e.tokens e.supports e.goals) b ∙ ap (λ i. make f.base f.since i e.tokens e.supports e.goals) c
        ∙ ap (λ i. make f.base f.since f.fixed i e.supports e.goals) d ∙ ap (λ i. make f.base f.since f.fixed f.tokens i e.goals) x ∙ ap (make f.base f.since f.fixed f.tokens f.supports) y

pub extensions_one : (m : Mission) (es : List Extension) (ws : List WrittenExtension) (fs gs : List Extension) → ExtensionsMean m es ws fs → ExtensionsMean m es ws gs → fs ≡ gs
extensions_one m es [] [] [] h k = refl
extensions_one m es [] (f ∷ fs) gs h k = absurd h
extensions_one m es [] [] (g ∷ gs) h k = absurd k
extensions_one m es (w ∷ ws) [] gs h k = absurd h
extensions_one m es (w ∷ ws) (f ∷ fs) [] h k = absurd k
extensions_one m es (w ∷ ws) (f ∷ fs) (g ∷ gs) h k =
    let e = extension_one m es w f g h.0 k.0 in
    let rest = extensions_one m (es ++ g ∷ []) ws fs gs (subst (λ (x : Extension). ExtensionsMean m (es ++ x ∷ []) ws fs) e h.1) k.1 in
    ap (λ (x : Extension). x ∷ fs) e ∙ ap (λ (xs : List Extension). g ∷ xs) rest
