-- What the doing of parts leaves.
use Rattle.std.proofs.Common.{◌≡◌, ◌≢◌, ℕ, suc, ◌+◌, ◌≤◌, List, [], ◌∷◌, ◌++◌, append-nil, append_assoc, length, length-append, slice_get, take, Ok, Err, Result, refl, sym, ap, ◌∙◌, subst, arith, inl, inr}
use Rattle.std.specs.Prelude.{Contains, IfErr, OnErr, OnOk}
use Rattle.hs_base.specs.Missions.{IsMission}
use Rattle.hs_base.specs.declared.mission.Mission.{Mission}
use Rattle.hs_base.specs.declared.plan.TokenRef.{TokenRef}
use Rattle.plan_laws.proofs.ChainLemmas.{contained_at}
use Rattle.plan_laws.proofs.ScheduleLemmas.{left}
use Rattle.compat_resolve.proofs.LineLemmas.{made_good}
use Rattle.compat_resolve.specs.Applied.{DoesParts, MayDoParts, Prolongs}
use Rattle.search_laws.proofs.GoodLemmas.{do_parts-append}
use Rattle.search_laws.proofs.ResolverLemmas.{IsResolver, resolver_is, resolvers_within}
use Rattle.search_laws.proofs.TreeLemmas.{resolver_allowed}
use Rattle.search_laws.specs.Good.{AreAllowed}
use Rattle.search_tree.proofs.PartLemmas.{adds_part}
use Rattle.search_tree.specs.Begun.{Begun}
use Rattle.search_tree.specs.Flaws.{flaws}
use Rattle.search_tree.specs.Outset.{MayBegin}
use Rattle.search_tree.specs.PartBounds.{part_bounds}
use Rattle.search_tree.specs.Partial.{Partial, at, begin}
use Rattle.search_tree.specs.PartialBounds.{HasSchedule, partial_bounds}
use Rattle.search_tree.specs.Parts.{do_part, do_parts}
use Rattle.search_tree.specs.Resolvers.{connecting, parts_of, resolvers}
use Rattle.search_tree.specs.declared.flaw.Flaw.{Flaw}
use Rattle.search_tree.specs.declared.flaw.Flaw.TheVariants.{Gap as GapFlaw, Goal as GoalFlaw, Need as NeedFlaw}
use Rattle.search_tree.specs.declared.flaw.Resolver.{Resolver}
use Rattle.search_tree.specs.declared.flaw.Resolver.TheVariants.{Connect, Insert}
use Rattle.search_tree.specs.declared.part.Part.{Part}
use Rattle.search_tree.specs.declared.part.Part.TheVariants.{Inserted}
use Rattle.timeline_db.specs.Heads.{IsHead}
use Rattle.timeline_db.specs.Plannings.{Does, Planning, partial_of}
use Rattle.timeline_db.specs.Shutting.{IfCycle, IfCycleOrFull}
use Rattle.timeline_db.specs.declared.shut.Shut.{Shut}
use Rattle.timeline_db.specs.declared.shut.Shut.TheVariants.{Cycle, Full, Memory}

-- what follows of an answer
pub on_ok : {X E : Type 0} (r : Result X E) (P Q : Type 0) → (P → Q) → OnOk r P → OnOk r Q
on_ok (Ok x) P Q f h = f h
on_ok (Err e) P Q f h = tt

pub on_err : {X E : Type 0} (r : Result X E) (P Q : Type 0) → (P → Q) → OnErr r P → OnErr r Q
on_err (Ok x) P Q f h = tt
on_err (Err e) P Q f h = f h

pub if_err : {X E : Type 0} (r : Result X E) (P Q : E → Type 0) → ((e : E) → P e → Q e) → IfErr r P → IfErr r Q
if_err (Ok x) P Q f h = tt
if_err (Err e) P Q f h = f e h

pub if_cycle : (e : Shut) (P Q : Type 0) → (P → Q) → IfCycle e P → IfCycle e Q
if_cycle (Cycle bs) P Q f h = f h
if_cycle Full P Q f h = absurd h
if_cycle Memory P Q f h = tt

pub never_full : (e : Shut) (P Q R : Type 0) → (P → R) → (Q → ⊥) → IfCycleOrFull e P Q → IfCycle e R
never_full (Cycle bs) P Q R f g h = f h
never_full Full P Q R f g h = absurd (g h)
never_full Memory P Q R f g h = tt

-- with more parts there are fewer schedules
pub before_parts : (m : Mission) (b : Begun) (p : Partial) (xs : List Part) → IsMission m → AreAllowed m b p xs → HasSchedule m b (do_parts p xs) → HasSchedule m b p
before_parts m b p [] mission h s = s
before_parts m b p (x ∷ xs) mission h s =
    let t = before_parts m b (do_part p x) xs mission h.1 s in
    record { schedule = t.schedule; meets = left (partial_bounds m b p) (part_bounds m b p x) ((adds_part m mission b p x h.0.0).keeps t.schedule t.meets) }

-- one part more
one_more : (m : Mission) (b : Begun) (xs : List Part) (x : Part) → do_parts (begin m b) (xs ++ x ∷ []) ≡ do_part (do_parts (begin m b) xs) x
one_more m b xs x = do_parts-append (begin m b) xs (x ∷ [])

pub allowed_then : (old new : Planning) (x : Part) (xs : List Part) → Does x old new → AreAllowed old.mission old.begun (do_part (partial_of old) x) xs → MayDoParts new xs
allowed_then old new x xs does h = subst (λ d. MayDoParts d xs) (sym does) (subst (λ q. AreAllowed old.mission old.begun q xs) (sym (one_more old.mission old.begun old.parts x)) h)

pub schedule_then : (old new : Planning) (x : Part) (xs : List Part) → Does x old new → HasSchedule old.mission old.begun (do_parts (do_part (partial_of old) x) xs) → HasSchedule new.mission new.begun (do_parts (partial_of new) xs)
schedule_then old new x xs does h = subst (λ (d : Planning). HasSchedule d.mission d.begun (do_parts (partial_of d) xs)) (sym does) (subst (λ q. HasSchedule old.mission old.begun (do_parts q xs)) (sym (one_more old.mission old.begun old.parts x)) h)

pub does_then : (old mid new : Planning) (x : Part) (xs : List Part) → Does x old mid → DoesParts xs mid new → DoesParts (x ∷ xs) old new
does_then old mid new x xs first second =
    second ∙ ap (λ (d : Planning). record { mission = d.mission; begun = d.begun; parts = d.parts ++ xs }) first
    ∙ ap (λ l. record { mission = old.mission; begun = old.begun; parts = l }) (append_assoc old.parts (x ∷ []) xs)

pub prolongs_one : (old mid new : Planning) (x : Part) → Does x old mid → new ≡ mid → Prolongs old new
prolongs_one old mid new x does same = record { more = x ∷ []; is = same ∙ does }

pub does_none : (old new : Planning) → new ≡ old → DoesParts [] old new
does_none old new same = same ∙ ap (λ l. record { mission = old.mission; begun = old.begun; parts = l }) (sym (append-nil old.parts))

pub prolongs_none : (old new : Planning) → new ≡ old → Prolongs old new
prolongs_none old new same = record { more = []; is = does_none old new same }

-- what is taken back
pub back_again : (old mid new : Planning) (k : ℕ) → k ≡ length old.parts → Prolongs old mid → new ≡ record { mission = mid.mission; begun = mid.begun; parts = take k mid.parts } → new ≡ old
back_again old mid new k mark more undone =
    undone ∙ ap (λ (d : Planning). record { mission = d.mission; begun = d.begun; parts = take k d.parts }) more.is
    ∙ ap (λ l. record { mission = old.mission; begun = old.begun; parts = l }) (ap (λ n. take n (old.parts ++ more.more)) mark ∙ take_front old.parts more.more)
  where
    take_front : {X : Type 0} (xs ys : List X) → take (length xs) (xs ++ ys) ≡ xs
    take_front [] ys = refl
    take_front (x ∷ xs) ys = ap (λ l. x ∷ l) (take_front xs ys)

pub mark_within : (old mid : Planning) (k : ℕ) → k ≡ length old.parts → Prolongs old mid → k ≤ length mid.parts
mark_within old mid k mark more = omega (arith, ap (λ (d : Planning). length d.parts) more.is, length-append old.parts more.more)

-- the parts of resolvers, whatever the flaw
pub parts_connect : (p : Partial) (f : Flaw) (by : TokenRef) → parts_of p f (Connect by) ≡ connecting f by
parts_connect p (GoalFlaw i) by = refl
parts_connect p (NeedFlaw t j) by = refl
parts_connect p (GapFlaw v i) by = refl

pub parts_insert : (p : Partial) (f : Flaw) (v : _) (i : ℕ) (value : _) → parts_of p f (Insert v i value) ≡ Inserted v i value ∷ connecting f (at v.0 (suc i))
parts_insert p (GoalFlaw i) v j value = refl
parts_insert p (NeedFlaw t k) v j value = refl
parts_insert p (GapFlaw w i) v j value = refl

-- the parts of a listed resolver of the first flaw may be done, and there are some
pub listed_allowed : (d : Planning) (f : Flaw) (r : Resolver) → MayBegin d.mission d.begun → AreAllowed d.mission d.begun (begin d.mission d.begun) d.parts → IsHead (flaws d.mission d.begun (partial_of d)) f → Contains (resolvers d.mission d.begun (partial_of d) f) r → MayDoParts d (parts_of (partial_of d) f r)
listed_allowed d f r may allowed head listed = resolver_allowed d.mission d.begun (partial_of d) f r may (made_good d may allowed) (0, ap (λ l. slice_get l 0) head.is) (contained_at (resolvers d.mission d.begun (partial_of d) f) r listed)

does_some : (m : Mission) (b : Begun) (p : Partial) (f : Flaw) (r : Resolver) → IsResolver m b p f r → parts_of p f r ≡ [] → ⊥
does_some m b p (GoalFlaw i) r h none = elim h.wants [
  | inl c ↦ let e = ap (parts_of p (GoalFlaw i)) (sym c.is) ∙ none in absurd (cc)
  | inr c ↦ let e = ap (parts_of p (GoalFlaw i)) (sym c.is) ∙ none in absurd (cc)
]
does_some m b p (NeedFlaw t j) r h none = elim h.ways [
  | inl w ↦ elim w.wants [
    | inl c ↦ let e = ap (parts_of p (NeedFlaw t j)) (sym c.is) ∙ none in absurd (cc)
    | inr c ↦ let e = ap (parts_of p (NeedFlaw t j)) (sym c.is) ∙ none in absurd (cc)
  ]
  | inr w ↦ ends_full _ _ (ap (parts_of p (NeedFlaw t j)) (sym w.is) ∙ none)
]
  where
    ends_full : (xs : List Part) (x : Part) → xs ++ x ∷ [] ≡ [] → ⊥
    ends_full [] x e = absurd (cc)
    ends_full (y ∷ xs) x e = absurd (cc)
does_some m b p (GapFlaw v i) r h none = elim h [
  | inl close ↦ elim close [
    | inl c ↦ let e = ap (parts_of p (GapFlaw v i)) (sym c.is) ∙ none in absurd (cc)
    | inr c ↦ let e = ap (parts_of p (GapFlaw v i)) (sym c.is) ∙ none in absurd (cc)
  ]
  | inr c ↦ let e = ap (parts_of p (GapFlaw v i)) (sym c.is) ∙ none in absurd (cc)
]

pub listed_some : (d : Planning) (f : Flaw) (r : Resolver) → Contains (resolvers d.mission d.begun (partial_of d) f) r → parts_of (partial_of d) f r ≢ []
listed_some d f r listed none = does_some d.mission d.begun (partial_of d) f r (resolver_is d.mission d.begun (partial_of d) f r (resolvers_within d.mission d.begun (partial_of d) f r (contained_at (resolvers d.mission d.begun (partial_of d) f) r listed)).1) none
