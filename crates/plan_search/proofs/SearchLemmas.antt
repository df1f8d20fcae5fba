-- The turns of a search.
use Rattle.std.proofs.Common.{◌≡◌, ℕ, zero, suc, ◌+◌, ◌-◌, ◌<◌, ◌≤◌, true, false, Bool, List, [], ◌∷◌, ◌++◌, append-nil, append_assoc, drop, length, length-append, slice_get, take, Some, refl, sym, ap, ◌∙◌, subst, arith, inl, inr}
use Rattle.std.proofs.lemmas.List.{length-take-le}
use Rattle.std.specs.List.{AllByRecursion}
use Rattle.hs_base.specs.Checked.{Checked, joined}
use Rattle.hs_base.specs.Walks.{EachAfter}
use Rattle.hs_base.specs.declared.mission.Mission.{Mission}
use Rattle.hs_base.specs.declared.plan.Extension.{Extension}
use Rattle.base_laws.proofs.ListLemmas.{EachAfter-more, EachAfter-push, each_both, each_weaker}
use Rattle.plan_search.specs.Searched.{IsFrame, IsSearched, Reaches, left_below, node_of, path_to, plan_at}
use Rattle.plan_search.specs.declared.frames.Frame.{Frame}
use Rattle.search_laws.proofs.TreeLemmas.{finished_checked, walk_made}
use Rattle.search_laws.proofs.WalkLemmas.{leads_to_budget, leads_to_none, leads_to_plan, preorder_more}
use Rattle.search_tree.specs.Begun.{Begun}
use Rattle.search_tree.specs.Extends.{extension}
use Rattle.search_tree.specs.Flaws.{flat_map_from, flaws}
use Rattle.search_tree.specs.Outset.{MayBegin}
use Rattle.search_tree.specs.Partial.{begin}
use Rattle.search_tree.specs.PartialBounds.{HasSchedule}
use Rattle.search_tree.specs.Parts.{do_parts}
use Rattle.search_tree.specs.Resolvers.{resolve, resolvers}
use Rattle.search_tree.specs.Search.{FindsWhere, FindsWhereAt, IsTaken, Kids, Node, offspring, root}
use Rattle.search_tree.specs.Tree.{NoneEnds, Preorder, budget, no_plan, plan}
use Rattle.search_tree.specs.declared.flaw.Flaw.{Flaw}
use Rattle.search_tree.specs.declared.flaw.Resolver.{Resolver}
use Rattle.search_tree.specs.declared.part.Part.{Part}
use Rattle.timeline_db.specs.Heads.{IsHead}

path-push : (fs : List Frame) (g : Frame) → path_to (fs ++ g ∷ []) ≡ path_to fs ++ (g.next - 1) ∷ []
path-push [] g = refl
path-push (f ∷ fs) g = ap (λ l. (f.next - 1) ∷ l) (path-push fs g)

-- the children of a node by its first flaw
abbrev pub child_of : Node → Flaw → ℕ → Resolver → Node
child_of n f i r = record { path = n.path ++ i ∷ []; plan = resolve n.plan f r }

offspring_is : (m : Mission) (b : Begun) (n : Node) (f : Flaw) → IsHead (flaws m b n.plan) f → offspring m b n ≡ flat_map_from (λ i r. child_of n f i r ∷ []) 0 (resolvers m b n.plan f)
offspring_is m b n f h = ap (λ (fs : List Flaw). elim fs [ [] ↦ [] | (f ∷ fs) ↦ flat_map_from (λ i r. child_of n f i r ∷ []) 0 (resolvers m b n.plan f) ]) h.is

drop_numbered : {X Y : Type 0} (f : ℕ → X → Y) (w j : ℕ) (xs : List X) (x : X) → slice_get xs j ≡ Some x → drop j (flat_map_from (λ i x. f i x ∷ []) w xs) ≡ f (w + j) x ∷ drop (suc j) (flat_map_from (λ i x. f i x ∷ []) w xs)
drop_numbered f w j [] x is = absurd (cc)
drop_numbered f w zero (y ∷ xs) x is =
    let same : y ≡ x = cc in
    let here : w + 0 ≡ w = omega arith in
    ap (λ z. f w z ∷ flat_map_from (λ i x. f i x ∷ []) (suc w) xs) same ∙ ap (λ n. f n x ∷ flat_map_from (λ i x. f i x ∷ []) (suc w) xs) (sym here)
drop_numbered f w (suc j) (y ∷ xs) x is =
    let there : suc w + j ≡ w + suc j = omega arith in
    drop_numbered f (suc w) j xs x is ∙ ap (λ n. f n x ∷ drop (suc j) (flat_map_from (λ i x. f i x ∷ []) (suc w) xs)) there

drop_all_numbered : {X Y : Type 0} (f : ℕ → X → Y) (w j : ℕ) (xs : List X) → length xs ≤ j → drop j (flat_map_from (λ i x. f i x ∷ []) w xs) ≡ []
drop_all_numbered f w zero [] past = refl
drop_all_numbered f w (suc j) [] past = refl
drop_all_numbered f w zero (x ∷ xs) past = absurd (omega arith)
drop_all_numbered f w (suc j) (x ∷ xs) past = drop_all_numbered f (suc w) j xs (omega arith)

take_take : {X : Type 0} (i j : ℕ) (xs ys : List X) → i ≤ j → j ≤ length xs → take i (take j xs ++ ys) ≡ take i xs
take_take zero j xs ys below within = refl
take_take (suc i) zero xs ys below within = absurd (omega arith)
take_take (suc i) (suc j) [] ys below within = absurd (omega arith)
take_take (suc i) (suc j) (x ∷ xs) ys below within = ap (λ l. x ∷ l) (take_take i j xs ys (omega arith) (omega arith))

-- a frame whose next child was taken
abbrev pub next_frame : Frame → Frame
next_frame g = record { flaw = g.flaw; resolvers = g.resolvers; next = g.next + 1; mark = g.mark }

module _ (m : Mission) (b : Begun) where
  left-push : (parts : List Part) (before fs : List Frame) (g : Frame) → left_below m b parts before (fs ++ g ∷ []) ≡ drop g.next (offspring m b (node_of m b parts (before ++ fs) g)) ++ left_below m b parts before fs
  left-push parts before [] g = ap (λ l. drop g.next (offspring m b (node_of m b parts l g))) (sym (append-nil before)) ∙ sym (append-nil _)
  left-push parts before (f ∷ fs) g =
      ap (λ l. l ++ drop f.next (offspring m b (node_of m b parts before f))) (left-push parts (before ++ f ∷ []) fs g)
      ∙ append_assoc (drop g.next (offspring m b (node_of m b parts ((before ++ f ∷ []) ++ fs) g))) (left_below m b parts (before ++ f ∷ []) fs) (drop f.next (offspring m b (node_of m b parts before f)))
      ∙ ap (λ l. drop g.next (offspring m b (node_of m b parts l g)) ++ left_below m b parts before (f ∷ fs)) (append_assoc before (f ∷ []) fs)

  -- frames whose parts are still done
  left_same : (parts more : List Part) (before fs : List Frame) → AllByRecursion (λ (f : Frame). take f.mark more ≡ take f.mark parts) fs → left_below m b more before fs ≡ left_below m b parts before fs
  left_same parts more before [] h = refl
  left_same parts more before (f ∷ fs) h =
      ap (λ l. l ++ drop f.next (offspring m b (node_of m b more before f))) (left_same parts more (before ++ f ∷ []) fs h.1)
      ∙ ap (λ xs. left_below m b parts (before ++ f ∷ []) fs ++ drop f.next (offspring m b (record { path = path_to before; plan = do_parts (begin m b) xs }))) h.0

  frames_same : (parts more : List Part) (before fs : List Frame) → AllByRecursion (λ (f : Frame). (take f.mark more ≡ take f.mark parts) × (f.mark ≤ length more)) fs → EachAfter (IsFrame m b parts) before fs → EachAfter (IsFrame m b more) before fs
  frames_same parts more before [] h k = tt
  frames_same parts more before (f ∷ fs) h k =
      let same : plan_at m b parts f ≡ plan_at m b more f = ap (do_parts (begin m b)) (sym h.0.0) in (
        record {
          head = subst (λ p. IsHead (flaws m b p) f.flaw) same k.0.head;
          listed = k.0.listed ∙ ap (λ p. resolvers m b p f.flaw) same;
          ahead = subst (HasSchedule m b) same k.0.ahead;
          next = k.0.next;
          mark = h.0.1;
          below = k.0.below;
        },
        frames_same parts more (before ++ f ∷ []) fs h.1 k.1,
      )

  module _ (takes : Mission → List Extension → Type 0) where
    abbrev pub Ends : Node → Extension → Type 0
    Ends = IsTaken takes m b

    -- a frame without further child
    pub searched_back : (parts : List Part) (all fs : List Frame) (g : Frame) (count : ℕ) → IsSearched takes m b parts all count → all ≡ fs ++ g ∷ [] → length g.resolvers ≤ g.next → IsSearched takes m b parts fs count
    searched_back parts all fs g count s is past =
        let split = EachAfter-push (IsFrame m b parts) [] fs g (subst (EachAfter (IsFrame m b parts) []) is s.frames) in
        let n = node_of m b parts fs g in
        let none : drop g.next (offspring m b n) ≡ [] = ap (drop g.next) (offspring_is m b n g.flaw split.1.head) ∙ drop_all_numbered (child_of n g.flaw) 0 g.next (resolvers m b n.plan g.flaw) (omega (arith, ap length split.1.listed)) in
        record {
          frames = split.0;
          seen = s.seen;
          walk = subst (λ l. Preorder (Kids m b) (root m b ∷ []) s.seen l) (ap (left_below m b parts []) is ∙ left-push parts [] fs g ∙ ap (λ l. l ++ left_below m b parts [] fs) none) s.walk;
          none = s.none;
          many = s.many;
        }

    -- the next child of the last frame
    pub reaches_child : (parts more : List Part) (all fs : List Frame) (g : Frame) (r : Resolver) (count : ℕ) → IsSearched takes m b parts all count → all ≡ fs ++ g ∷ [] → slice_get g.resolvers g.next ≡ Some r → g.next < length g.resolvers → more ≡ take g.mark parts ++ drop g.mark more → Reaches takes m b more (fs ++ next_frame g ∷ []) (child_of (node_of m b parts fs g) g.flaw g.next r) count
    reaches_child parts more all fs g r count s is at below kept =
        let split = EachAfter-push (IsFrame m b parts) [] fs g (subst (EachAfter (IsFrame m b parts) []) is s.frames) in
        let f = split.1 in
        let n = node_of m b parts fs g in
        let within = f.mark in
        let marks : AllByRecursion (λ (h : Frame). (take h.mark more ≡ take h.mark parts) × (h.mark ≤ length more)) fs = each_weaker (λ (h : Frame). (h.mark ≤ g.mark) × (0 < h.next)) (λ (h : Frame). (take h.mark more ≡ take h.mark parts) × (h.mark ≤ length more)) (λ h l. same_front parts more g.mark h.mark within l.0 kept) fs f.below in
        let last : (take g.mark more ≡ take g.mark parts) × (g.mark ≤ length more) = same_front parts more g.mark g.mark within (omega arith) kept in
        let same : plan_at m b parts g ≡ plan_at m b more (next_frame g) = ap (do_parts (begin m b)) (sym last.0) in
        let rest : drop g.next (offspring m b n) ≡ child_of n g.flaw g.next r ∷ drop (suc g.next) (offspring m b n) =
        ap (drop g.next) (offspring_is m b n g.flaw f.head)
        ∙ drop_numbered (child_of n g.flaw) 0 g.next (resolvers m b n.plan g.flaw) r (ap (λ l. slice_get l g.next) (sym f.listed) ∙ at)
        ∙ ap (λ i. child_of n g.flaw i r ∷ drop (suc g.next) (flat_map_from (λ i r. child_of n g.flaw i r ∷ []) 0 (resolvers m b n.plan g.flaw))) (zero_plus g.next)
        ∙ ap (λ l. child_of n g.flaw g.next r ∷ drop (suc g.next) l) (sym (offspring_is m b n g.flaw f.head)) in
        let size : suc g.next ≡ g.next + 1 = omega arith in
        record {
          frames = EachAfter-more (IsFrame m b more) [] fs (next_frame g) (frames_same parts more [] fs marks split.0) (record {
            head = subst (λ p. IsHead (flaws m b p) g.flaw) same f.head;
            listed = f.listed ∙ ap (λ p. resolvers m b p g.flaw) same;
            ahead = subst (HasSchedule m b) same f.ahead;
            next = omega arith;
            mark = last.1;
            below = f.below;
          });
          ready = each_both (λ (f : Frame). 0 < f.next) fs (next_frame g ∷ []) (each_weaker (λ (h : Frame). (h.mark ≤ g.mark) × (0 < h.next)) (λ (h : Frame). 0 < h.next) (λ h l. l.1) fs f.below) (omega arith, tt);
          path = let e : (g.next + 1) - 1 ≡ g.next = omega arith in ap (λ i. path_to fs ++ i ∷ []) (sym e) ∙ sym (path-push fs (next_frame g));
          seen = s.seen;
          walk = subst (λ l. Preorder (Kids m b) (root m b ∷ []) s.seen l)
              (ap (left_below m b parts []) is ∙ left-push parts [] fs g ∙ ap (λ l. l ++ left_below m b parts [] fs) rest
              ∙ ap (λ i. child_of n g.flaw g.next r ∷ (drop i (offspring m b n) ++ left_below m b parts [] fs)) size
              ∙ ap (λ p. child_of n g.flaw g.next r ∷ (drop (g.next + 1) (offspring m b (record { path = path_to fs; plan = p })) ++ left_below m b parts [] fs)) same
              ∙ ap (λ l. child_of n g.flaw g.next r ∷ (drop (g.next + 1) (offspring m b (node_of m b more fs (next_frame g))) ++ l)) (sym (left_same parts more [] fs (each_weaker (λ (h : Frame). (take h.mark more ≡ take h.mark parts) × (h.mark ≤ length more)) (λ (h : Frame). take h.mark more ≡ take h.mark parts) (λ h l. l.0) fs marks)))
              ∙ ap (λ l. child_of n g.flaw g.next r ∷ l) (sym (left-push more [] fs (next_frame g)))) s.walk;
          none = s.none;
          many = s.many;
        }
      where
        zero_plus : (i : ℕ) → 0 + i ≡ i
        zero_plus i = omega arith

        same_front : (parts more : List Part) (k i : ℕ) → k ≤ length parts → i ≤ k → more ≡ take k parts ++ drop k more → (take i more ≡ take i parts) × (i ≤ length more)
        same_front parts more k i within below kept = (
          ap (take i) kept ∙ take_take i k parts (drop k more) below within,
          omega (arith, ap length kept, length-append (take k parts) (drop k more), length-take-le k parts within),
        )

    -- a node that is taken and doesn't end the search
    seen_more : (parts : List Part) (frames : List Frame) (n : Node) (count : ℕ) (ns : List Node) → (x : Reaches takes m b parts frames n count) → Kids m b n ns → ((e : Extension) → Ends n e → ⊥) → (seen : List Node) × Preorder (Kids m b) (root m b ∷ []) seen (ns ++ left_below m b parts [] frames) × NoneEnds (Kids m b) Ends (λ n. n.path) seen × (length seen ≡ count + 1)
    seen_more parts frames n count ns x kids none = (
      x.seen ++ n ∷ [],
      preorder_more (Kids m b) (root m b ∷ []) x.seen (left_below m b parts [] frames) n ns x.walk kids,
      each_both (λ n. (e : Extension) → Ends n e → ⊥) x.seen (n ∷ []) x.none (none, tt),
      length-append x.seen (n ∷ []) ∙ (let e = x.many in omega arith),
    )

    -- it has no schedule
    pub searched_shut : (parts : List Part) (frames : List Frame) (n : Node) (count : ℕ) → Reaches takes m b parts frames n count → (HasSchedule m b n.plan → ⊥) → IsSearched takes m b parts frames (count + 1)
    searched_shut parts frames n count x shut =
        let s = seen_more parts frames n count [] x (inr (shut, refl)) (λ e t. shut t.finished.schedule) in
        record { frames = x.frames; seen = s.0; walk = s.1; none = s.2; many = s.3 }

    -- it is finished, and not taken
    pub searched_leaf : (parts : List Part) (frames : List Frame) (n : Node) (count : ℕ) → Reaches takes m b parts frames n count → HasSchedule m b n.plan → flaws m b n.plan ≡ [] → (takes m (joined b.base (extension m b n.plan)) → ⊥) → IsSearched takes m b parts frames (count + 1)
    searched_leaf parts frames n count x ahead flawless left_out =
        let none : offspring m b n ≡ [] = ap (λ (fs : List Flaw). elim fs [ [] ↦ [] | (f ∷ fs) ↦ flat_map_from (λ i r. child_of n f i r ∷ []) 0 (resolvers m b n.plan f) ]) flawless in
        let s = seen_more parts frames n count [] x (inl (ahead, sym none)) (λ e t. left_out (subst (λ e. takes m (joined b.base e)) t.finished.is t.taken)) in
        record { frames = x.frames; seen = s.0; walk = s.1; none = s.2; many = s.3 }

    -- it has a flaw
    pub searched_inner : (parts : List Part) (frames : List Frame) (n : Node) (h : Frame) (count : ℕ) → Reaches takes m b parts frames n count → HasSchedule m b n.plan → n.plan ≡ do_parts (begin m b) parts → IsHead (flaws m b n.plan) h.flaw → h.resolvers ≡ resolvers m b n.plan h.flaw → h.next ≡ 0 → h.mark ≡ length parts → IsSearched takes m b parts (frames ++ h ∷ []) (count + 1)
    searched_inner parts frames n h count x ahead here head listed next mark =
        let whole : take h.mark parts ≡ parts = ap (λ i. take i parts) mark ∙ take_length parts in
        let same : n.plan ≡ plan_at m b parts h = here ∙ ap (do_parts (begin m b)) (sym whole) in
        let node : n ≡ node_of m b parts frames h = ap (λ l. record { path = l; plan = n.plan }) x.path ∙ ap (λ p. record { path = path_to frames; plan = p }) same in
        let flawed : flaws m b n.plan ≡ [] → ⊥ = λ none. let e : h.flaw ∷ head.rest ≡ [] = sym head.is ∙ none in absurd (cc) in
        let s = seen_more parts frames n count (offspring m b n) x (inl (ahead, refl)) (λ e t. flawed t.finished.flawless) in
        record {
          frames = EachAfter-more (IsFrame m b parts) [] frames h x.frames (record {
            head = subst (λ p. IsHead (flaws m b p) h.flaw) same head;
            listed = listed ∙ ap (λ p. resolvers m b p h.flaw) same;
            ahead = subst (HasSchedule m b) same ahead;
            next = omega arith;
            mark = omega arith;
            below = marked [] frames x.frames x.ready (omega arith);
          });
          seen = s.0;
          walk = subst (λ l. Preorder (Kids m b) (root m b ∷ []) s.0 l) (ap (λ q. offspring m b q ++ left_below m b parts [] frames) node ∙ ap (λ i. drop i (offspring m b (node_of m b parts frames h)) ++ left_below m b parts [] frames) (sym next) ∙ sym (left-push parts [] frames h)) s.1;
          none = s.2;
          many = s.3;
        }
      where
        take_length : {X : Type 0} (xs : List X) → take (length xs) xs ≡ xs
        take_length [] = refl
        take_length (x ∷ xs) = ap (λ l. x ∷ l) (take_length xs)

        marked : (before fs : List Frame) → EachAfter (IsFrame m b parts) before fs → AllByRecursion (λ (f : Frame). 0 < f.next) fs → length parts ≤ h.mark → AllByRecursion (λ (g : Frame). (g.mark ≤ h.mark) × (0 < g.next)) fs
        marked before [] k r l = tt
        marked before (f ∷ fs) k r l = let w = k.0.mark in ((omega arith, r.0), marked (before ++ f ∷ []) fs k.1 r.1 l)

    -- it is finished, and taken
    pub finds_plan : (parts : List Part) (frames : List Frame) (n : Node) (e : Extension) (count : ℕ) → Reaches takes m b parts frames n count → HasSchedule m b n.plan → flaws m b n.plan ≡ [] → e ≡ extension m b n.plan → takes m (joined b.base e) → FindsWhereAt takes m b (count + 1) (plan e)
    finds_plan parts frames n e count x ahead flawless is chosen =
        subst (λ k. FindsWhereAt takes m b (k + 1) (plan e)) x.many
        (leads_to_plan (Kids m b) Ends (λ n. n.path) (root m b) x.seen (n ∷ left_below m b parts [] frames) x.walk x.none n (left_below m b parts [] frames) e refl
        (record { finished = record { schedule = ahead; flawless = flawless; is = is }; taken = chosen }))

    -- the budget ends before the next child
    pub finds_budget : (parts : List Part) (frames : List Frame) (n : Node) (path : List ℕ) (count : ℕ) → Reaches takes m b parts frames n count → path ≡ n.path → FindsWhereAt takes m b count (budget path)
    finds_budget parts frames n path count x is =
        subst (λ k. FindsWhereAt takes m b k (budget path)) x.many
        (subst (λ l. FindsWhereAt takes m b (length x.seen) (budget l)) (sym is)
        (leads_to_budget (Kids m b) Ends (λ n. n.path) (root m b) x.seen (n ∷ left_below m b parts [] frames) x.walk x.none n (left_below m b parts [] frames) refl))

    -- nothing is left
    pub finds_none : (parts : List Part) (frames : List Frame) (count : ℕ) → IsSearched takes m b parts frames count → frames ≡ [] → FindsWhereAt takes m b count no_plan
    finds_none parts frames count s none =
        subst (λ k. FindsWhereAt takes m b k no_plan) s.many
        (leads_to_none (Kids m b) Ends (λ n. n.path) (root m b) s.seen (left_below m b parts [] frames) s.walk s.none (ap (left_below m b parts []) none))

    -- where it begins
    pub reaches_root : Reaches takes m b [] [] (root m b) 0
    reaches_root = record { frames = tt; ready = tt; path = refl; seen = []; walk = refl; none = tt; many = refl }

    -- a node that is reached with a schedule and no flaw gives a checked plan
    pub reached_checked : (may : MayBegin m b) (parts : List Part) (frames : List Frame) (n : Node) (count : ℕ) → Reaches takes m b parts frames n count → HasSchedule m b n.plan → flaws m b n.plan ≡ [] → Checked m (joined b.base (extension m b n.plan))
    reached_checked may parts frames n count x ahead flawless = finished_checked m b may n (extension m b n.plan) (walk_made m b may x.seen (n ∷ left_below m b parts [] frames) x.walk).1.0 (record { schedule = ahead; flawless = flawless; is = refl })
