-- Whether one of many lists has an element of some kind, and the supports for a need of a token.
use Rattle.std.proofs.Common.{◌≡◌, ℕ, ◌<◌, Bool, true, false, List, [], ◌∷◌, Some, length, slice_get, nat_eq, refl, sym, ap, ◌∙◌}
use Rattle.std.proofs.lemmas.Bool.{and_from, and_parts, eq-eqb, eqb-true}
use Rattle.std.proofs.lemmas.Option.{slice_get_within}
use Rattle.std.specs.List.{AllByRecursion, list_any}
use Rattle.std.specs.Prelude.{flat_map, ◌&&◌, ◌||◌}
use Rattle.hs_base.specs.Checked.{Checked, supports_of}
use Rattle.hs_base.specs.Points.{ending, place_of, points_of, stop, timeline_of, token_at, tokens_of}
use Rattle.hs_base.specs.declared.mission.Kind.{Kind}
use Rattle.hs_base.specs.declared.mission.Mission.{Mission}
use Rattle.hs_base.specs.declared.plan.Extension.{Extension}
use Rattle.hs_base.specs.declared.plan.Support.{Support}
use Rattle.hs_base.specs.declared.plan.TokenRef.{TokenRef}
use Rattle.base_laws.proofs.ListLemmas.{each_weaker}
use Rattle.plan_check.proofs.SupportLemmas.{any-append}
use Rattle.plan_laws.proofs.NeedLemmas.{ServedAt, all_served, need_found}
use Rattle.search_tree.proofs.NameLemmas.{ending_same, named_at}
use Rattle.timeline_db.specs.Claims.{is_claim}

pub any_flat : {X Y : Type 0} (test : Y → Bool) (f : X → List Y) (xs : List X) → list_any test (flat_map f xs) ≡ list_any (λ x. list_any test (f x)) xs
any_flat test f [] = refl
any_flat test f (x ∷ xs) = any-append test (f x) (flat_map f xs) ∙ ap (λ (b : Bool). list_any test (f x) || b) (any_flat test f xs)

any_same : {X : Type 0} (f g : X → Bool) (xs : List X) → AllByRecursion (λ x. f x ≡ g x) xs → list_any f xs ≡ list_any g xs
any_same f g [] h = refl
any_same f g (x ∷ xs) h = ap (λ (c : Bool). c || list_any f xs) h.0 ∙ ap (λ (c : Bool). g x || c) (any_same f g xs h.1)

same_truth : (a c : Bool) → (a ≡ true → c ≡ true) → (c ≡ true → a ≡ true) → a ≡ c
same_truth true c f g = sym (f refl)
same_truth false true f g = g refl
same_truth false false f g = refl

-- the support's token is one of the plan
pub record IsNamed (es : List Extension) (s : Support) : Type 0 where
  pub kind : Kind
  pub is : token_at es s.token ≡ Some kind

pub supports_named : (m : Mission) (es : List Extension) → Checked m es → AllByRecursion (IsNamed es) (supports_of es)
supports_named m es c = each_weaker (ServedAt m c.schedule es) (IsNamed es) (λ s h. let f = need_found m es s.token s.need h.need h.has_need in record { kind = f.0; is = f.1 }) (supports_of es) (all_served m c.schedule es c.rules c.meets).each

-- tokens of a plan have ends of their own
same_name : (es : List Extension) (t u : TokenRef) → t.place < length (timeline_of (tokens_of es) t.sv.0) → u.place < length (timeline_of (tokens_of es) u.sv.0) → stop es t ≡ stop es u → (t.sv.0 ≡ u.sv.0) × (t.place ≡ u.place)
same_name es t u there here e = ending_same t.sv.0 t.place u.sv.0 u.place (sym (named_at es t.sv.0 t.place there) ∙ ap (slice_get (points_of es)) e ∙ named_at es u.sv.0 u.place here)

-- a support of a token of the plan, by its name or by its end
claim_same : (es : List Extension) (t : TokenRef) (x j : ℕ) (s : Support) → t.place < length (timeline_of (tokens_of es) t.sv.0) → x ≡ stop es t → IsNamed es s → is_claim t j s ≡ (nat_eq (stop es s.token) x && nat_eq s.need j)
claim_same es t x j s there ends named = ap (λ (c : Bool). c && nat_eq s.need j) (same_truth (nat_eq s.token.sv.0 t.sv.0 && nat_eq s.token.place t.place) (nat_eq (stop es s.token) x) to from)
  where
    to : (nat_eq s.token.sv.0 t.sv.0 && nat_eq s.token.place t.place) ≡ true → nat_eq (stop es s.token) x ≡ true
    to e =
        let f = and_parts (nat_eq s.token.sv.0 t.sv.0) (nat_eq s.token.place t.place) e in
        let v = eqb-true s.token.sv.0 t.sv.0 f.0 in
        let i = eqb-true s.token.place t.place f.1 in
        eq-eqb (stop es s.token) x (ap (λ (n : ℕ). place_of (ending n s.token.place) (points_of es)) v ∙ ap (λ (n : ℕ). place_of (ending t.sv.0 n) (points_of es)) i ∙ sym ends)

    from : nat_eq (stop es s.token) x ≡ true → (nat_eq s.token.sv.0 t.sv.0 && nat_eq s.token.place t.place) ≡ true
    from e =
        let f = same_name es s.token t (slice_get_within (timeline_of (tokens_of es) s.token.sv.0) s.token.place named.kind named.is) there (eqb-true (stop es s.token) x e ∙ ends) in
        and_from (nat_eq s.token.sv.0 t.sv.0) (nat_eq s.token.place t.place) (eq-eqb s.token.sv.0 t.sv.0 f.0) (eq-eqb s.token.place t.place f.1)

-- so are the supports for a need of that token
pub claims_same : (m : Mission) (es : List Extension) → Checked m es → (t : TokenRef) (x j : ℕ) → t.place < length (timeline_of (tokens_of es) t.sv.0) → x ≡ stop es t
    → list_any (is_claim t j) (supports_of es) ≡ list_any (λ (s : Support). nat_eq (stop es s.token) x && nat_eq s.need j) (supports_of es)
claims_same m es c t x j there ends =
    any_same (is_claim t j) (λ (s : Support). nat_eq (stop es s.token) x && nat_eq s.need j) (supports_of es)
    (each_weaker (IsNamed es) (λ (s : Support). is_claim t j s ≡ (nat_eq (stop es s.token) x && nat_eq s.need j)) (λ s named. claim_same es t x j s there ends named) (supports_of es) (supports_named m es c))
