-- Trails that grow by the points and bounds of parts.
use Rattle.std.proofs.Common.{◌≡◌, ℕ, zero, suc, ◌+◌, ◌<◌, List, [], ◌∷◌, ◌++◌, length, take, drop, map, replicate, get_or, refl, sym, ap, ◌∙◌, subst, append_assoc, append-nil, arith}
use Rattle.std.proofs.lemmas.List.{take_more, take-append-drop}
use Rattle.std.specs.List.{AllByRecursion}
use Rattle.hs_base.specs.Schedule.{HasNoSchedule, Holds}
use Rattle.hs_base.specs.declared.net.Bound.{Bound}
use Rattle.base_laws.proofs.ListLemmas.{each_split}
use Rattle.stn_distance.specs.Ranges.{IsInRange}
use Rattle.stn_trail.proofs.PartLemmas.{added-append, grown-append}
use Rattle.stn_trail.specs.Held.{Appends, Held, added, bounds_of, grown, points_of}
use Rattle.stn_trail.specs.declared.part.Part.{Part}
use Rattle.stn_trail.specs.declared.part.Part.TheVariants.{Added, Grown}
use Rattle.timeline_db.specs.Shutting.{IfCycle}
use Rattle.timeline_db.specs.declared.shut.Shut.{Shut}
use Rattle.timeline_db.specs.declared.shut.Shut.TheVariants.{Cycle, Full, Memory}
use Rattle.timeline_db.specs.Courses.{Gains, IsLonger}

pub gains-none : (t : Held) → Gains [] t t
gains-none t = record { first = refl; parts = sym (append-nil t.parts) }

pub gains-more : (ps : List Part) (p : Part) (a b c : Held) → Gains ps a b → Appends p b c → Gains (ps ++ p ∷ []) a c
gains-more ps p a b c g h = record { first = h.first ∙ g.first; parts = h.parts ∙ ap (λ (l : List Part). l ++ p ∷ []) g.parts ∙ append_assoc a.parts ps (p ∷ []) }

pub gains-both : (ps qs : List Part) (a b c : Held) → Gains ps a b → Gains qs b c → Gains (ps ++ qs) a c
gains-both ps qs a b c g h = record { first = h.first ∙ g.first; parts = h.parts ∙ ap (λ (l : List Part). l ++ qs) g.parts ∙ append_assoc a.parts ps qs }

pub longer-same : (a b : Held) → b ≡ a → IsLonger a b
longer-same a b e = record { more = []; gains = subst (Gains [] a) (sym e) (gains-none a) }

pub longer-both : (a b c : Held) → IsLonger a b → IsLonger b c → IsLonger a c
longer-both a b c g h = record { more = g.more ++ h.more; gains = gains-both g.more h.more a b c g.gains h.gains }

pub longer-gains : (ps : List Part) (a b : Held) → Gains ps a b → IsLonger a b
longer-gains ps a b g = record { more = ps; gains = g }

pub added-map : (bs : List Bound) → added (map (λ b. Added b) bs) ≡ bs
added-map [] = refl
added-map (b ∷ bs) = ap (λ (l : List Bound). b ∷ l) (added-map bs)

pub added-grown : (n : ℕ) → added (replicate n Grown) ≡ []
added-grown zero = refl
added-grown (suc n) = added-grown n

pub grown-map : (bs : List Bound) → grown (map (λ b. Added b) bs) ≡ 0
grown-map [] = refl
grown-map (b ∷ bs) = grown-map bs

pub grown-grown : (n : ℕ) → grown (replicate n Grown) ≡ n
grown-grown zero = refl
grown-grown (suc n) = let e = grown-grown n in omega arith

-- the bounds and the points of a trail that gained parts
pub bounds-gains : (ps : List Part) (a b : Held) → Gains ps a b → bounds_of b ≡ bounds_of a ++ added ps
bounds-gains ps a b g = ap added g.parts ∙ added-append a.parts ps

pub points-gains : (ps : List Part) (a b : Held) → Gains ps a b → points_of b ≡ points_of a + grown ps
points-gains ps a b g = omega (arith, g.first, ap grown g.parts ∙ grown-append a.parts ps)

pub bounds-grown : (n : ℕ) (a b : Held) → Gains (replicate n Grown) a b → bounds_of b ≡ bounds_of a
bounds-grown n a b g = bounds-gains (replicate n Grown) a b g ∙ ap (λ (l : List Bound). bounds_of a ++ l) (added-grown n) ∙ append-nil (bounds_of a)

pub points-grown : (n : ℕ) (a b : Held) → Gains (replicate n Grown) a b → points_of b ≡ points_of a + n
points-grown n a b g = omega (arith, points-gains (replicate n Grown) a b g, grown-grown n)

pub bounds-added : (bs : List Bound) (a b : Held) → Gains (map (λ b. Added b) bs) a b → bounds_of b ≡ bounds_of a ++ bs
bounds-added bs a b g = bounds-gains (map (λ b. Added b) bs) a b g ∙ ap (λ (l : List Bound). bounds_of a ++ l) (added-map bs)

-- one more point
pub replicate-more : {X : Type 0} (n : ℕ) (x : X) → replicate (n + 1) x ≡ replicate n x ++ x ∷ []
replicate-more zero x = refl
replicate-more (suc n) x = let e : suc n + 1 ≡ suc (n + 1) = omega arith in ap (λ k. replicate k x) e ∙ ap (λ l. x ∷ l) (replicate-more n x)

-- bounds without schedule stay so with more of them
pub none-more : (xs bs cs : List Bound) → HasNoSchedule (xs ++ bs) → HasNoSchedule (xs ++ (bs ++ cs))
none-more xs bs cs h = record {
  none = λ t m. h.none t (record {
    origin = m.origin;
    each = (each_split (Holds t) (xs ++ bs) cs (subst (λ (l : List Bound). AllByRecursion (Holds t) l) (sym (append_assoc xs bs cs)) m.each)).0;
  });
}

pub points-added : (bs : List Bound) (a b : Held) → Gains (map (λ b. Added b) bs) a b → points_of b ≡ points_of a
points-added bs a b g = omega (arith, points-gains (map (λ b. Added b) bs) a b g, grown-map bs)

-- where a bound of a list has no schedule with those before it, the list has none
pub none_at : (bs : List Bound) (i : ℕ) (d : Bound) (a b : Held) → Gains (map (λ b. Added b) (take i bs)) a b → i < length bs → HasNoSchedule (bounds_of b ++ get_or bs i d ∷ []) → HasNoSchedule (bounds_of a ++ bs)
none_at bs i d a b g l h =
    let one : HasNoSchedule (bounds_of a ++ take (i + 1) bs) = subst HasNoSchedule (ap (λ (l : List Bound). l ++ get_or bs i d ∷ []) (bounds-added (take i bs) a b g) ∙ append_assoc (bounds_of a) (take i bs) (get_or bs i d ∷ []) ∙ ap (λ (l : List Bound). bounds_of a ++ l) (sym (take_more bs i d l))) h in
    subst (λ (l : List Bound). HasNoSchedule (bounds_of a ++ l)) (take-append-drop (i + 1) bs) (none-more (bounds_of a) (take (i + 1) bs) (drop (i + 1) bs) one)

-- what is told of a refused bound is told of the call
pub shut_more : (shut : Shut) (P Q : Type 0) → IfCycle shut P → (P → Q) → IfCycle shut Q
shut_more (Cycle bs) P Q h f = f h
shut_more Full P Q h f = h
shut_more Memory P Q h f = h

pub range_same : (n k : ℕ) (b : Bound) → n ≡ k → IsInRange n b → IsInRange k b
range_same n k b e h = subst (λ (j : ℕ). IsInRange j b) e h
