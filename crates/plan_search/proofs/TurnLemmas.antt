-- A turn of the search over what its parts are promised.
use Rattle.std.proofs.Common.{◌≡◌, ℕ, ◌+◌, ◌<◌, ◌≤◌, ◌^◌, true, false, Bool, List, [], ◌∷◌, ◌++◌, append-nil, drop, length, slice_get, take, Ok, Err, Result, Some, inl, inr, refl, sym, ap, ◌∙◌, subst, arith}
use Rattle.std.proofs.lemmas.Bool.{cases_eq, false≢true}
use Rattle.std.proofs.lemmas.List.{length-take-le, take-append-drop}
use Rattle.std.proofs.lemmas.Option.{slice_get-get_or}
use Rattle.std.specs.List.{AllByRecursion}
use Rattle.std.specs.Prelude.{Contains, IfErr, IfNone, IfOk, None, Option, get_or}
use Rattle.hs_base.specs.Walks.{EachAfter}
use Rattle.hs_base.specs.declared.mission.Mission.{Mission}
use Rattle.hs_base.specs.declared.plan.Extension.{Extension}
use Rattle.base_laws.proofs.ListLemmas.{EachAfter-push, each_weaker}
use Rattle.compat_resolve.specs.Applied.{Resolves}
use Rattle.plan_search.proofs.FewLemmas.{resolvers_few}
use Rattle.plan_search.proofs.SearchLemmas.{child_of, finds_budget, next_frame, reaches_child, searched_shut}
use Rattle.plan_search.specs.Descends.{Descends, is_memory, plan_of}
use Rattle.plan_search.specs.Searched.{IsFrame, IsSearched, Reaches, node_of, path_to, plan_at}
use Rattle.plan_search.specs.declared.frames.Frame.{Frame}
use Rattle.search_laws.proofs.GoodLemmas.{allowed-front, do_parts-append, good_all, good_root}
use Rattle.search_laws.proofs.HasLemmas.{contains}
use Rattle.search_laws.specs.Good.{AreAllowed, IsGood}
use Rattle.search_tree.specs.Begun.{Begun}
use Rattle.search_tree.specs.Flaws.{flaws}
use Rattle.search_tree.specs.Outset.{MayBegin}
use Rattle.search_tree.specs.Partial.{begin}
use Rattle.search_tree.specs.PartialBounds.{HasSchedule}
use Rattle.search_tree.specs.Parts.{do_parts}
use Rattle.search_tree.specs.Resolvers.{parts_of, resolve, resolvers}
use Rattle.search_tree.specs.Search.{FindsWhereAt}
use Rattle.search_tree.specs.Tree.{budget}
use Rattle.search_tree.specs.declared.flaw.Resolver.{Resolver}
use Rattle.search_tree.specs.declared.flaw.Resolver.TheVariants.{Defer}
use Rattle.search_tree.specs.declared.part.Part.{Part}
use Rattle.timeline_db.specs.Heads.{IsHead}
use Rattle.timeline_db.specs.Shutting.{IfCycle}
use Rattle.timeline_db.specs.declared.shut.Shut.{Shut}
use Rattle.timeline_db.specs.declared.shut.Shut.TheVariants.{Cycle, Full, Memory}
use Rattle.timeline_db.specs.Plannings.{IsOpen, Planning, partial_of}

module _ (takes : Mission → List Extension → Type 0) where
  -- the last frame
  pub last_frame : (m : Mission) (b : Begun) (parts : List Part) (fs : List Frame) (g : Frame) (count : ℕ) → IsSearched takes m b parts (fs ++ g ∷ []) count → IsFrame m b parts fs g
  last_frame m b parts fs g count s = (EachAfter-push (IsFrame m b parts) [] fs g s.frames).1

  front_kept : (parts more ys : List Part) (k : ℕ) → k ≤ length parts → more ≡ take k parts ++ ys → more ≡ take k parts ++ drop k more
  front_kept parts more ys k within is =
      let e : take k more ≡ take k parts = ap (take k) is ∙ take_exact k (take k parts) ys (length-take-le k parts within) in
      sym (take-append-drop k more) ∙ ap (λ l. l ++ drop k more) e
    where
      take_exact : {X : Type 0} (k : ℕ) (xs ys : List X) → length xs ≡ k → take k (xs ++ ys) ≡ xs
      take_exact k [] ys e = ap (λ n. take n ys) (sym e)
      take_exact k (x ∷ xs) ys e = ap (λ n. take n (x ∷ (xs ++ ys))) (sym e) ∙ ap (λ l. x ∷ l) (take_exact (length xs) xs ys refl)

  -- the child is reached
  reached : (m : Mission) (b : Begun) (parts more ys : List Part) (fs : List Frame) (g : Frame) (r : Resolver) (count : ℕ) → IsSearched takes m b parts (fs ++ g ∷ []) count → g.next < length g.resolvers → slice_get g.resolvers g.next ≡ Some r → more ≡ take g.mark parts ++ ys → Reaches takes m b more (fs ++ next_frame g ∷ []) (child_of (node_of m b parts fs g) g.flaw g.next r) count
  reached m b parts more ys fs g r count s below is kept =
      let f = last_frame m b parts fs g count s in
      reaches_child m b takes parts more (fs ++ g ∷ []) fs g r count s refl is below (front_kept parts more ys g.mark f.mark kept)

  pub step_shut : (old new : Planning) (fs frames : List Frame) (g : Frame) (ahead : Bool) (count : ℕ) → IsSearched takes old.mission old.begun old.parts (fs ++ g ∷ []) count → g.next < length g.resolvers → Descends g g.next old new ahead → ahead ≡ false → frames ≡ fs ++ next_frame g ∷ [] → IsSearched takes old.mission old.begun new.parts frames (count + 1)
  step_shut old new fs frames g ahead count s below d closed pushed =
      let h = d.shut closed in
      subst (λ l. IsSearched takes old.mission old.begun new.parts l (count + 1)) (sym pushed)
      (searched_shut old.mission old.begun takes new.parts (fs ++ next_frame g ∷ []) (child_of (node_of old.mission old.begun old.parts fs g) g.flaw g.next d.resolver) count
      (reached old.mission old.begun old.parts new.parts [] fs g d.resolver count s below d.is_resolver (h.0 ∙ sym (append-nil (take g.mark old.parts)))) h.1)

  pub step_open : (old new : Planning) (fs frames : List Frame) (g : Frame) (ahead : Bool) (count : ℕ) → IsSearched takes old.mission old.begun old.parts (fs ++ g ∷ []) count → g.next < length g.resolvers → Descends g g.next old new ahead → ahead ≡ true → frames ≡ fs ++ next_frame g ∷ [] → Reaches takes new.mission new.begun new.parts frames (record { path = path_to frames; plan = partial_of new }) count
  step_open old new fs frames g ahead count s below d yes' pushed =
      let h = d.down yes' in
      let n = child_of (node_of old.mission old.begun old.parts fs g) g.flaw g.next d.resolver in
      let x = reached old.mission old.begun old.parts new.parts (parts_of (plan_of old g) g.flaw d.resolver) fs g d.resolver count s below d.is_resolver h.0 in
      let plan : partial_of new ≡ n.plan =
      ap (λ m. do_parts (begin m new.begun) new.parts) d.mission ∙ ap (λ b. do_parts (begin old.mission b) new.parts) d.begun
      ∙ ap (do_parts (begin old.mission old.begun)) h.0 ∙ do_parts-append (begin old.mission old.begun) (take g.mark old.parts) (parts_of (plan_of old g) g.flaw d.resolver) in
      let node : n ≡ record { path = path_to (fs ++ next_frame g ∷ []); plan = partial_of new } = ap (λ l. record { path = l; plan = n.plan }) x.path ∙ ap (λ p. record { path = path_to (fs ++ next_frame g ∷ []); plan = p }) (sym plan) in
      let here : Reaches takes old.mission old.begun new.parts (fs ++ next_frame g ∷ []) (record { path = path_to (fs ++ next_frame g ∷ []); plan = partial_of new }) count = subst (λ q. Reaches takes old.mission old.begun new.parts (fs ++ next_frame g ∷ []) q count) node x in
      let there : Reaches takes old.mission old.begun new.parts frames (record { path = path_to frames; plan = partial_of new }) count = subst (λ l. Reaches takes old.mission old.begun new.parts l (record { path = path_to l; plan = partial_of new }) count) (sym pushed) here in
      subst (λ m. Reaches takes m new.begun new.parts frames (record { path = path_to frames; plan = partial_of new }) count) (sym d.mission) (subst (λ b. Reaches takes old.mission b new.parts frames (record { path = path_to frames; plan = partial_of new }) count) (sym d.begun) there)

  -- the numbers of children fit
  frame_few : (m : Mission) (b : Begun) (parts : List Part) (before : List Frame) (f : Frame) → MayBegin m b → AreAllowed m b (begin m b) parts → IsFrame m b parts before f → length f.resolvers ≤ 4194304
  frame_few m b parts before f may allowed k =
      let front = (allowed-front m b (begin m b) (take f.mark parts) (drop f.mark parts) (subst (AreAllowed m b (begin m b)) (sym (take-append-drop f.mark parts)) allowed)).0 in
      let good : IsGood m b (plan_at m b parts f) = good_all m b (begin m b) (take f.mark parts) front (good_root m b may) in
      omega (arith, ap length k.listed, resolvers_few m b (plan_at m b parts f) may good f.flaw)

  each_few : (m : Mission) (b : Begun) (parts : List Part) (before fs : List Frame) → MayBegin m b → AreAllowed m b (begin m b) parts → EachAfter (IsFrame m b parts) before fs → AllByRecursion (λ (f : Frame). 0 < f.next) fs → AllByRecursion (λ (f : Frame). (0 < f.next) × (f.next < 2 ^ 32)) fs
  each_few m b parts before [] may allowed k some = tt
  each_few m b parts before (f ∷ fs) may allowed k some = let few = frame_few m b parts before f may allowed k.0 in let most = k.0.next in ((some.0, omega arith), each_few m b parts (before ++ f ∷ []) fs may allowed k.1 some.1)

  pub path_ready : (d : Planning) (fs : List Frame) (g : Frame) (count : ℕ) → MayBegin d.mission d.begun → AreAllowed d.mission d.begun (begin d.mission d.begun) d.parts → IsSearched takes d.mission d.begun d.parts (fs ++ g ∷ []) count → AllByRecursion (λ (f : Frame). (0 < f.next) × (f.next < 2 ^ 32)) fs × (length g.resolvers < 2 ^ 32)
  path_ready d fs g count may allowed s =
      let split = EachAfter-push (IsFrame d.mission d.begun d.parts) [] fs g s.frames in
      let few = frame_few d.mission d.begun d.parts fs g may allowed split.1 in
      (each_few d.mission d.begun d.parts [] fs may allowed split.0 (each_weaker (λ (h : Frame). (h.mark ≤ g.mark) × (0 < h.next)) (λ (h : Frame). 0 < h.next) (λ h l. l.1) fs split.1.below), omega arith)

  pub path_fits : (d : Planning) (m : Mission) (b : Begun) (all fs : List Frame) (g : Frame) (count : ℕ) → d.mission ≡ m → d.begun ≡ b → MayBegin d.mission d.begun → AreAllowed d.mission d.begun (begin d.mission d.begun) d.parts → IsSearched takes m b d.parts all count → all ≡ fs ++ g ∷ [] → AllByRecursion (λ (f : Frame). (0 < f.next) × (f.next < 2 ^ 32)) fs × (length g.resolvers < 2 ^ 32)
  path_fits d m b all fs g count mission begun may allowed s whole =
      path_ready d fs g count may allowed (subst (λ x. IsSearched takes x d.begun d.parts (fs ++ g ∷ []) count) (sym mission) (subst (λ x. IsSearched takes m x d.parts (fs ++ g ∷ []) count) (sym begun) (subst (λ l. IsSearched takes m b d.parts l count) whole s)))

  -- the budget ends before the next child
  pub ends_here : (m : Mission) (b : Begun) (parts : List Part) (all fs : List Frame) (g : Frame) (path : List ℕ) (count : ℕ) → IsSearched takes m b parts all count → all ≡ fs ++ g ∷ [] → g.next < length g.resolvers → path ≡ path_to fs ++ g.next ∷ [] → FindsWhereAt takes m b count (budget path)
  ends_here m b parts all fs g path count s0 whole below is =
      let s = subst (λ l. IsSearched takes m b parts l count) whole s0 in
      let nothing : Resolver = Defer in
      let r = get_or g.resolvers g.next nothing in
      let f = last_frame m b parts fs g count s in
      let x = reached m b parts parts (drop g.mark parts) fs g r count s below (slice_get-get_or g.resolvers g.next nothing below) (sym (take-append-drop g.mark parts)) in
      finds_budget m b takes parts (fs ++ next_frame g ∷ []) (child_of (node_of m b parts fs g) g.flaw g.next r) path count x is

pub below_budget : (a n : ℕ) → a ≤ n → (a ≡ n → ⊥) → a < n
below_budget a n most other = elim (cases_eq a n) [ inl same ↦ absurd (other same) | inr differ ↦ omega arith ]

-- what follows of an answer
pub if_ok : {X E : Type 0} (r : Result X E) (P Q : X → Type 0) → ((x : X) → P x → Q x) → IfOk r P → IfOk r Q
if_ok (Ok x) P Q f h = f x h
if_ok (Err e) P Q f h = tt

pub if_err : {X E : Type 0} (r : Result X E) (P Q : E → Type 0) → ((e : E) → P e → Q e) → IfErr r P → IfErr r Q
if_err (Ok x) P Q f h = tt
if_err (Err e) P Q f h = f e h

-- what follows of no answer
pub if_none : {X : Type 0} (o : Option X) (P : Type 0) → ((x : X) → o ≡ Some x → ⊥) → IfNone o P → P
if_none None P h k = k
if_none (Some x) P h k = absurd (h x refl)

-- an answer that isn't want of memory tells of no schedule
pub cycle_only : (e : Shut) (P : Type 0) → is_memory e ≡ false → IfCycle e P → P
cycle_only (Cycle bs) P not_memory h = h
cycle_only Full P not_memory h = absurd h
cycle_only Memory P not_memory h = absurd (false≢true (sym not_memory))

-- the parent again
pub parent_is : (old back : Planning) (f : Frame) → back ≡ record { mission = old.mission; begun = old.begun; parts = take f.mark old.parts } → IsHead (flaws old.mission old.begun (plan_of old f)) f.flaw → IsHead (flaws back.mission back.begun (partial_of back)) f.flaw
parent_is old back f undone head = subst (λ (d : Planning). IsHead (flaws d.mission d.begun (partial_of d)) f.flaw) (sym undone) head

pub parent_lists : (old back : Planning) (f : Frame) (i : ℕ) (r : Resolver) → back ≡ record { mission = old.mission; begun = old.begun; parts = take f.mark old.parts } → f.resolvers ≡ resolvers old.mission old.begun (plan_of old f) f.flaw → slice_get f.resolvers i ≡ Some r → Contains (resolvers back.mission back.begun (partial_of back) f.flaw) r
parent_lists old back f i r undone listed is = subst (λ (d : Planning). Contains (resolvers d.mission d.begun (partial_of d) f.flaw) r) (sym undone) (subst (λ l. Contains l r) listed (contains f.resolvers r (i, is)))

-- the child, with a schedule or without one
pub goes_down : (old back new : Planning) (f : Frame) (i : ℕ) (r : Resolver) → back ≡ record { mission = old.mission; begun = old.begun; parts = take f.mark old.parts } → slice_get f.resolvers i ≡ Some r → Resolves f.flaw r back new → IsOpen new → Descends f i old new true
goes_down old back new f i r undone is done ahead =
    let all : new ≡ record { mission = old.mission; begun = old.begun; parts = take f.mark old.parts ++ parts_of (plan_of old f) f.flaw r } = done ∙ ap (λ (d : Planning). record { mission = d.mission; begun = d.begun; parts = d.parts ++ parts_of (partial_of d) f.flaw r }) undone in
    record {
      mission = ap (λ (d : Planning). d.mission) all;
      begun = ap (λ (d : Planning). d.begun) all;
      resolver = r;
      is_resolver = is;
      down = λ yes'. (ap (λ (d : Planning). d.parts) all, ahead);
      shut = λ no'. absurd (false≢true (sym no'));
    }

pub stays_up : (old back new : Planning) (f : Frame) (i : ℕ) (r : Resolver) → back ≡ record { mission = old.mission; begun = old.begun; parts = take f.mark old.parts } → slice_get f.resolvers i ≡ Some r → new ≡ back → (HasSchedule back.mission back.begun (resolve (partial_of back) f.flaw r) → ⊥) → Descends f i old new false
stays_up old back new f i r undone is same none =
    let all : new ≡ record { mission = old.mission; begun = old.begun; parts = take f.mark old.parts } = same ∙ undone in
    record {
      mission = ap (λ (d : Planning). d.mission) all;
      begun = ap (λ (d : Planning). d.begun) all;
      resolver = r;
      is_resolver = is;
      down = λ yes'. absurd (false≢true yes');
      shut = λ no'. (ap (λ (d : Planning). d.parts) all, subst (λ (d : Planning). HasSchedule d.mission d.begun (resolve (partial_of d) f.flaw r) → ⊥) undone none);
    }
