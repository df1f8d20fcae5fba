-- A history with one plan.
use Rattle.std.proofs.Common.{◌≡◌, ◌≢◌, ◌⊎◌, ℕ, Bool, true, false, cond, List, [], ◌∷◌, ◌++◌, length, Option, Some, None, refl, sym, ap, ◌∙◌, subst, arith}
use Rattle.std.specs.Prelude.{IfSome}
use Rattle.std.specs.List.{AllByRecursion, cons_option}
use Rattle.hs_base.specs.declared.mission.Mission.{Mission}
use Rattle.hs_base.specs.declared.plan.Extension.{Extension}
use Rattle.hs_base.specs.Walks.{EachAfter, join_after}
use Rattle.hs_machine.specs.declared.history.Deed.{Deed}
use Rattle.hs_machine.specs.declared.history.Deed.TheVariants.{Tick, Fire, Report, Handover, Stale, Late, Early, Broken}
use Rattle.hs_machine.specs.declared.history.Entry.{Entry}
use Rattle.hs_machine.specs.State.{hands_over, is_tick, plan_of}
use Rattle.base_laws.proofs.ListLemmas.{each_both}
use Rattle.simulation_laws.specs.Planned.{AreFound, AreInTime, AreOnTime, BeginsPlanned, IsFound, IsGivenPlan, IsInTime, IsOfOnePlan, IsOnTime, is_stale, offered, stale_at}

-- a deed that offers nothing hands nothing over, and isn't stale
pub hands_none : (x : Deed) → offered x ≡ None → hands_over x ≡ None
hands_none (Handover e n) none = none
hands_none Tick none = refl
hands_none (Fire x) none = refl
hands_none (Report x) none = refl
hands_none (Stale e b p q) none = refl
hands_none (Late b) none = refl
hands_none (Early b) none = refl
hands_none (Broken v) none = refl

stale_none : (x : Deed) → offered x ≡ None → is_stale x ≡ false
stale_none (Stale e b p q) none = absurd (cc)
stale_none Tick none = refl
stale_none (Fire x) none = refl
stale_none (Report x) none = refl
stale_none (Handover e n) none = refl
stale_none (Late b) none = refl
stale_none (Early b) none = refl
stale_none (Broken v) none = refl

-- a handover is no tick, offers its extension, and isn't stale
record IsHanding (x : Deed) (e : Extension) : Type 0 where
  tick : is_tick x ≡ false
  offers : offered x ≡ Some e
  fresh : is_stale x ≡ false

handing : (x : Deed) (e : Extension) → hands_over x ≡ Some e → IsHanding x e
handing (Handover f n) e is = record { tick = refl; offers = is; fresh = refl }
handing Tick e is = absurd (cc)
handing (Fire x) e is = absurd (cc)
handing (Report x) e is = absurd (cc)
handing (Stale f b p q) e is = absurd (cc)
handing (Late b) e is = absurd (cc)
handing (Early b) e is = absurd (cc)
handing (Broken v) e is = absurd (cc)

abbrev OffersNone : List Entry → Type 0
OffersNone h = AllByRecursion (λ (x : Entry). offered x.deed ≡ None) h

-- one more entry that offers nothing
pub one_grows : (h : List Entry) (x : Entry) (e : Extension) → IsOfOnePlan h e → offered x.deed ≡ None → IsOfOnePlan (h ++ x ∷ []) e
one_grows h x e one none = record {
  first = one.first;
  later = one.later ++ x ∷ [];
  is = ap (λ l. l ++ x ∷ []) one.is;
  hands = one.hands;
  no_more = each_both (λ (y : Entry). offered y.deed ≡ None) one.later (x ∷ []) one.no_more (none, tt);
}

module _ (first : Entry) (e : Extension) (hands : hands_over first.deed ≡ Some e) where
  -- behind the handover there is a plan
  some_plan : (xs : List Entry) → plan_of (first ∷ xs) ≢ []
  some_plan xs none =
      let more : plan_of (first ∷ xs) ≡ e ∷ plan_of xs = ap (λ (o : Option Extension). cons_option o (plan_of xs)) hands in
      absurd (omega (arith, ap length (sym more ∙ none)))

  later_planned : (xs later : List Entry) → EachAfter (λ before (x : Entry). is_tick x.deed ≡ true → plan_of before ≢ []) (first ∷ xs) later
  later_planned xs [] = tt
  later_planned xs (x ∷ later) = (λ tick. some_plan xs, later_planned (xs ++ x ∷ []) later)

  all_planned : (later : List Entry) → BeginsPlanned (first ∷ later)
  all_planned later = (λ tick. absurd (let f : true ≡ false = sym tick ∙ (handing first.deed e hands).tick in cc), later_planned [] later)

  later_in_time : (Q : List Entry → Extension → Type 0) (xs later : List Entry) → OffersNone later → EachAfter (λ before (x : Entry). plan_of before ≢ [] → IfSome (hands_over x.deed) (Q before)) (first ∷ xs) later
  later_in_time Q xs [] none = tt
  later_in_time Q xs (x ∷ later) none =
      (λ some. subst (λ (o : Option Extension). IfSome o (Q (first ∷ xs))) (sym (hands_none x.deed none.0)) tt, later_in_time Q (xs ++ x ∷ []) later none.1)

  all_in_time : (Q : List Entry → Extension → Type 0) (later : List Entry) → OffersNone later → EachAfter (λ before (x : Entry). plan_of before ≢ [] → IfSome (hands_over x.deed) (Q before)) [] (first ∷ later)
  all_in_time Q later none = (λ some. absurd (some refl), later_in_time Q [] later none)

  later_fresh : (xs later : List Entry) → OffersNone later → join_after (λ before (x : Entry). cond (is_stale x.deed) (length (plan_of before) ∷ []) []) (first ∷ xs) later ≡ []
  later_fresh xs [] none = refl
  later_fresh xs (x ∷ later) none =
      ap (λ (b : Bool). cond b (length (plan_of (first ∷ xs)) ∷ []) [] ++ join_after (λ before (y : Entry). cond (is_stale y.deed) (length (plan_of before) ∷ []) []) (first ∷ (xs ++ x ∷ [])) later) (stale_none x.deed none.0)
      ∙ later_fresh (xs ++ x ∷ []) later none.1

  all_fresh : (later : List Entry) → OffersNone later → stale_at (first ∷ later) ≡ []
  all_fresh later none =
      ap (λ (b : Bool). cond b (length (plan_of []) ∷ []) [] ++ join_after (λ before (y : Entry). cond (is_stale y.deed) (length (plan_of before) ∷ []) []) (first ∷ []) later) (handing first.deed e hands).fresh
      ∙ later_fresh [] later none

  later_found : (Q : List Entry → Extension → Type 0) (xs later : List Entry) → OffersNone later → EachAfter (λ before (x : Entry). IfSome (offered x.deed) (Q before)) (first ∷ xs) later
  later_found Q xs [] none = tt
  later_found Q xs (x ∷ later) none =
      (subst (λ (o : Option Extension). IfSome o (Q (first ∷ xs))) (sym none.0) tt, later_found Q (xs ++ x ∷ []) later none.1)

  all_found : (Q : List Entry → Extension → Type 0) (later : List Entry) → OffersNone later → Q [] e → EachAfter (λ before (x : Entry). IfSome (offered x.deed) (Q before)) [] (first ∷ later)
  all_found Q later none here = (subst (λ (o : Option Extension). IfSome o (Q [])) (sym (handing first.deed e hands).offers) here, later_found Q [] later none)

-- the rules on plans, of such a history
pub one_planned : (h : List Entry) (e : Extension) → IsOfOnePlan h e → BeginsPlanned h × (stale_at h ≡ [])
one_planned h e one = (subst BeginsPlanned (sym one.is) (all_planned one.first e one.hands one.later), ap stale_at one.is ∙ all_fresh one.first e one.hands one.later one.no_more)

pub one_in_time : (m : Mission) (h : List Entry) (e : Extension) → IsOfOnePlan h e → AreInTime m h × AreOnTime m h
one_in_time m h e one = (
  subst (AreInTime m) (sym one.is) (all_in_time one.first e one.hands (IsInTime m) one.later one.no_more),
  subst (AreOnTime m) (sym one.is) (all_in_time one.first e one.hands (IsOnTime m) one.later one.no_more),
)

pub one_found : (takes : Mission → List Extension → Type 0) (m : Mission) (nodes : ℕ) (given : Option Extension) (h : List Entry) (e : Extension) → IsOfOnePlan h e → IsGivenPlan given [] e ⊎ IsFound takes m nodes [] e → AreFound takes m nodes given h
one_found takes m nodes given h e one here =
    subst (AreFound takes m nodes given) (sym one.is) (all_found one.first e one.hands (λ before f. IsGivenPlan given before f ⊎ IsFound takes m nodes before f) one.later one.no_more here)
