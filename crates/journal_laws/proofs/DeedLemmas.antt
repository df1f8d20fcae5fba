-- The words of a deed tell it, and its time.
use Rattle.std.proofs.Common.{◌≡◌, ℕ, ◌<◌, ◌≤◌, ℤ, pos, cond, List, [], ◌∷◌, ◌++◌, length, Option, Some, refl, sym, ap, ◌∙◌, subst, arith, codes}
use Rattle.std.specs.Prelude.{◌<ℤ◌, neg_ℤ, slice_get}
use Rattle.std.specs.Str.{bytes_eq}
use Rattle.hs_base.specs.declared.ids.PointId.{PointId}
use Rattle.hs_base.specs.declared.ids.SvId.{SvId}
use Rattle.hs_base.specs.declared.limits.TheConstants.{LAST}
use Rattle.hs_base.specs.declared.mission.Mission.{Mission}
use Rattle.hs_base.specs.declared.net.Bound.{Bound}
use Rattle.hs_base.specs.declared.net.Net.{Net}
use Rattle.hs_base.specs.declared.plan.Extension.{Extension}
use Rattle.hs_base.specs.Bounds.{bounds_of}
use Rattle.hs_base.specs.Missions.{IsMission}
use Rattle.hs_base.specs.Points.{Point, origin, horizon, ending, points_of, count}
use Rattle.hs_base.specs.Ranges.{whole, range, InRange}
use Rattle.hs_base.specs.Reduced.{IsReducedOf}
use Rattle.hs_machine.specs.declared.history.Deed.{Deed}
use Rattle.hs_machine.specs.declared.history.Deed.TheVariants.{Tick, Fire, Report, Handover, Stale, Late, Early, Broken}
use Rattle.net_laws.proofs.UniqueLemmas.{one_network}
use Rattle.text_laws.proofs.PlanPrintedLemmas.{IsWritablePoint, HasPoint}
use Rattle.journal_laws.proofs.WordLemmas.{Word}
use Rattle.journal_laws.proofs.TextLemmas.{Words, number_words, bound_words, fired_words, time_words, deed_words}
use Rattle.journal_laws.proofs.PrefixLemmas.{first_byte, head, tail, IsToldBody, body_one, extension_one, base_one, bound_one, number_words_one, number_is, point_one, signed_one, number_one, same_number, variable_one, whole_one}

-- a bound that is told
pub record IsToldBound (m : Mission) (es : List Extension) (b : Bound) : Type 0 where
  pub from : HasPoint m (points_of es) b.from.0
  pub to : HasPoint m (points_of es) b.to.0
  pub most : InRange (range (neg_ℤ LAST) LAST) b.most

-- an extension that is told
pub record IsToldExtension (m : Mission) (es : List Extension) (e : Extension) : Type 0 where
  pub base : pos e.base <ℤ LAST
  pub body : IsToldBody m es e

-- a deed that is told; a network is the one of the plan's bounds
abbrev pub IsToldDeed : Mission → List Extension → Deed → Type 0
IsToldDeed m es Tick = Unit {0}
IsToldDeed m es (Fire x) = HasPoint m (points_of es) x.0
IsToldDeed m es (Report x) = HasPoint m (points_of es) x.0
IsToldDeed m es (Handover e net) = IsToldExtension m es e × IsReducedOf (count (es ++ e ∷ [])) (bounds_of m (es ++ e ∷ [])) net
IsToldDeed m es (Stale e b from to) = IsToldExtension m es e × IsToldBound m (es ++ e ∷ []) b × InRange whole from × InRange whole to
IsToldDeed m es (Late b) = IsToldBound m es b
IsToldDeed m es (Early b) = IsToldBound m es b
IsToldDeed m es (Broken v) = v.0 < length m.vars

-- Kinds of deeds.

pub data Shape : Type 0 where
  ticks : Shape
  fires : Shape
  reports : Shape
  hands_over : Shape
  goes_stale : Shape
  is_late : Shape
  is_early : Shape
  breaks : Shape
  other : Shape

abbrev pub kind_of : Deed → Shape
kind_of Tick = ticks
kind_of (Fire x) = fires
kind_of (Report x) = reports
kind_of (Handover e net) = hands_over
kind_of (Stale e b from to) = goes_stale
kind_of (Late b) = is_late
kind_of (Early b) = is_early
kind_of (Broken v) = breaks

-- the kind of the deed that begins with a word, and `other` for other words
abbrev pub kind_by : Words → Shape
kind_by [] = other
kind_by (w ∷ ws) =
    cond (bytes_eq w (codes "fire")) fires (cond (bytes_eq w (codes "horizon")) fires (cond (bytes_eq w (codes "report")) reports
    (cond (bytes_eq w (codes "handover")) hands_over (cond (bytes_eq w (codes "stale")) goes_stale (cond (bytes_eq w (codes "late")) is_late
    (cond (bytes_eq w (codes "early")) is_early (cond (bytes_eq w (codes "broken")) breaks other)))))))

-- a deed of that kind
abbrev IsOfKind : Shape → Deed → Type 0
IsOfKind ticks d = d ≡ Tick
IsOfKind fires d = (x : PointId) × (d ≡ Fire x)
IsOfKind reports d = (x : PointId) × (d ≡ Report x)
IsOfKind hands_over d = (e : Extension) × (net : Net) × (d ≡ Handover e net)
IsOfKind goes_stale d = (e : Extension) × (b : Bound) × (from : ℤ) × (to : ℤ) × (d ≡ Stale e b from to)
IsOfKind is_late d = (b : Bound) × (d ≡ Late b)
IsOfKind is_early d = (b : Bound) × (d ≡ Early b)
IsOfKind breaks d = (v : SvId) × (d ≡ Broken v)
IsOfKind other d = ⊥

kind_is : (d : Deed) → IsOfKind (kind_of d) d
kind_is Tick = refl
kind_is (Fire x) = (x, refl)
kind_is (Report x) = (x, refl)
kind_is (Handover e net) = (e, net, refl)
kind_is (Stale e b from to) = (e, b, from, to, refl)
kind_is (Late b) = (b, refl)
kind_is (Early b) = (b, refl)
kind_is (Broken v) = (v, refl)

fired_kind : (m : Mission) (p : Point) (r : Words) → kind_by (fired_words m (Some p) r) ≡ fires
fired_kind m origin r = refl
fired_kind m (horizon k) r = refl
fired_kind m (ending v i) r = refl

-- the first word of a deed tells its kind
pub kind_told : (m : Mission) (now : ℕ) (es : List Extension) (d : Deed) (r : Words) → IsToldDeed m es d → (kind_of d ≡ ticks → ⊥) → kind_by (deed_words m now es d r) ≡ kind_of d
kind_told m now es Tick r h some = absurd (some refl)
kind_told m now es (Fire x) r h some = ap (λ (o : Option Point). kind_by (fired_words m o (time_words now r))) h.there ∙ fired_kind m h.point (time_words now r)
kind_told m now es (Report x) r h some = refl
kind_told m now es (Handover e net) r h some = refl
kind_told m now es (Stale e b from to) r h some = refl
kind_told m now es (Late b) r h some = refl
kind_told m now es (Early b) r h some = refl
kind_told m now es (Broken v) r h some = refl

-- Deeds of one kind.

abbrev fires_word : Word
fires_word = codes "fire"

abbrev horizon_word : Word
horizon_word = codes "horizon"

apart : fires_word ≡ horizon_word → ⊥
apart e = let bad : 102 ≡ 104 = ap (λ (w : Word). first_byte (w ∷ [])) e in omega (arith, bad)

module _ (m : Mission) (i : IsMission m) (now now2 : ℕ) (few : now ≤ 1000000000) (few2 : now2 ≤ 1000000000) (es : List Extension) where
  time_one : (r s : Words) → time_words now r ≡ time_words now2 s → (now ≡ now2) × (r ≡ s)
  time_one r s e = (number_one now now2 few few2 (head (tail e)), tail (tail e))

  fired_one : (p q : Point) (r s : Words) → IsWritablePoint m p → IsWritablePoint m q → fired_words m (Some p) r ≡ fired_words m (Some q) s → (p ≡ q) × (r ≡ s)
  fired_one origin origin r s h k e = point_one m origin origin r s i h k (tail e)
  fired_one origin (horizon b) r s h k e = let bad : fires_word ≡ horizon_word = head e in absurd (apart bad)
  fired_one origin (ending w j) r s h k e = point_one m origin (ending w j) r s i h k (tail e)
  fired_one (horizon a) origin r s h k e = let bad : horizon_word ≡ fires_word = head e in absurd (apart (sym bad))
  fired_one (horizon a) (horizon b) r s h k e = (ap horizon (number_one a b h k (head (tail e))), tail (tail e))
  fired_one (horizon a) (ending w j) r s h k e = let bad : horizon_word ≡ fires_word = head e in absurd (apart (sym bad))
  fired_one (ending v j) origin r s h k e = point_one m (ending v j) origin r s i h k (tail e)
  fired_one (ending v j) (horizon b) r s h k e = let bad : fires_word ≡ horizon_word = head e in absurd (apart bad)
  fired_one (ending v j) (ending w l) r s h k e = point_one m (ending v j) (ending w l) r s i h k (tail e)

  fire_one : (x y : PointId) (r s : Words) → HasPoint m (points_of es) x.0 → HasPoint m (points_of es) y.0 → deed_words m now es (Fire x) r ≡ deed_words m now2 es (Fire y) s → (now ≡ now2) × (Fire x ≡ Fire y) × (r ≡ s)
  fire_one x y r s h k e =
      let one = fired_one h.point k.point (time_words now r) (time_words now2 s) h.writable k.writable
      (sym (ap (λ (o : Option Point). fired_words m o (time_words now r)) h.there) ∙ e ∙ ap (λ (o : Option Point). fired_words m o (time_words now2 s)) k.there) in
      let number = same_number es x.0 y.0 h.point k.point h.there k.there one.0 in
      let time = time_one r s one.1 in
      (time.0, grind (arith, number), time.1)

  report_one : (x y : PointId) (r s : Words) → HasPoint m (points_of es) x.0 → HasPoint m (points_of es) y.0 → deed_words m now es (Report x) r ≡ deed_words m now2 es (Report y) s → (now ≡ now2) × (Report x ≡ Report y) × (r ≡ s)
  report_one x y r s h k e =
      let one = number_words_one m es x.0 y.0 (time_words now r) (time_words now2 s) i h k (tail e) in
      let time = time_one r s one.1 in
      (time.0, grind (arith, one.0), time.1)

  handover_one : (e f : Extension) (n o : Net) (r s : Words) → IsToldDeed m es (Handover e n) → IsToldDeed m es (Handover f o) → deed_words m now es (Handover e n) r ≡ deed_words m now2 es (Handover f o) s → (now ≡ now2) × (Handover e n ≡ Handover f o) × (r ≡ s)
  handover_one e f n o r s h k w =
      let base = base_one e.base f.base h.0.base k.0.base (head (tail w)) in
      let time = time_one _ _ (tail (tail w)) in
      let body = body_one m es e f r s i h.0.body k.0.body (tail (tail (tail (tail time.1)))) in
      let same : e ≡ f = extension_one e f base body.0 in
      let net : n ≡ o = one_network (count (es ++ f ∷ [])) (bounds_of m (es ++ f ∷ [])) n o (subst (λ (x : Extension). IsReducedOf (count (es ++ x ∷ [])) (bounds_of m (es ++ x ∷ [])) n) same h.1) k.1 in
      (time.0, ap (λ (x : Extension). Handover x n) same ∙ ap (Handover f) net, body.1)

  -- a point that is told by its number in one plan or another
  named_one : (fs gs : List Extension) (x y : ℕ) (r s : Words) → (h : HasPoint m (points_of fs) x) → (k : HasPoint m (points_of gs) y) → number_words m (points_of fs) x r ≡ number_words m (points_of gs) y s → (h.point ≡ k.point) × (r ≡ s)
  named_one fs gs x y r s h k e = point_one m h.point k.point r s i h.writable k.writable (sym (number_is m (points_of fs) x r h) ∙ e ∙ number_is m (points_of gs) y s k)

  stale_one : (e f : Extension) (b d : Bound) (p q p2 q2 : ℤ) (r s : Words) → IsToldDeed m es (Stale e b p q) → IsToldDeed m es (Stale f d p2 q2) → deed_words m now es (Stale e b p q) r ≡ deed_words m now2 es (Stale f d p2 q2) s → (now ≡ now2) × (Stale e b p q ≡ Stale f d p2 q2) × (r ≡ s)
  stale_one e f b d p q p2 q2 r s h k w =
      let more = es ++ e ∷ [] in
      let more2 = es ++ f ∷ [] in
      let base = base_one e.base f.base h.0.base k.0.base (head (tail w)) in
      let time = time_one _ _ (tail (tail w)) in
      let from = named_one more more2 b.from.0 d.from.0 _ _ h.1.from k.1.from (tail time.1) in
      let to = named_one more more2 b.to.0 d.to.0 _ _ h.1.to k.1.to (tail from.1) in
      let most = signed_one b.most d.most h.1.most k.1.most (head (tail to.1)) in
      let times = tail (tail (tail to.1)) in
      let body = body_one m es e f r s i h.0.body k.0.body (tail (tail times)) in
      let same : e ≡ f = extension_one e f base body.0 in
      let from_there = subst (λ (x : Extension). slice_get (points_of (es ++ x ∷ [])) b.from.0 ≡ Some h.1.from.point) same h.1.from.there in
      let to_there = subst (λ (x : Extension). slice_get (points_of (es ++ x ∷ [])) b.to.0 ≡ Some h.1.to.point) same h.1.to.there in
      let from_same = same_number more2 b.from.0 d.from.0 h.1.from.point k.1.from.point from_there k.1.from.there from.0 in
      let to_same = same_number more2 b.to.0 d.to.0 h.1.to.point k.1.to.point to_there k.1.to.there to.0 in
      let bounds : b ≡ d = grind (arith, from_same, to_same, most) in
      let first = whole_one p p2 h.2 k.2 (head times) in
      let last = whole_one q q2 h.3 k.3 (head (tail times)) in
      (time.0, ap (λ (x : Extension). Stale x b p q) same ∙ ap (λ (x : Bound). Stale f x p q) bounds ∙ ap (λ (x : ℤ). Stale f d x q) first ∙ ap (Stale f d p2) last, body.1)

  held_one : (b d : Bound) (r s : Words) → IsToldBound m es b → IsToldBound m es d → bound_words m es b (time_words now r) ≡ bound_words m es d (time_words now2 s) → (now ≡ now2) × (b ≡ d) × (r ≡ s)
  held_one b d r s h k e =
      let one = bound_one m es b d (time_words now r) (time_words now2 s) i h.from h.to k.from k.to h.most k.most e in
      let time = time_one r s one.1 in
      (time.0, one.0, time.1)

  broken_one : (v w : SvId) (r s : Words) → v.0 < length m.vars → w.0 < length m.vars → deed_words m now es (Broken v) r ≡ deed_words m now2 es (Broken w) s → (now ≡ now2) × (Broken v ≡ Broken w) × (r ≡ s)
  broken_one v w r s h k e =
      let number = variable_one m v.0 w.0 i h k (head (tail e)) in
      let time = time_one r s (tail (tail e)) in
      (time.0, grind (arith, number), time.1)

  -- two deeds that aren't ticks, with one text, are one deed at one time
  pub deed_one : (d f : Deed) (r s : Words) → IsToldDeed m es d → IsToldDeed m es f → (kind_of d ≡ ticks → ⊥) → (kind_of f ≡ ticks → ⊥) → deed_words m now es d r ≡ deed_words m now2 es f s → (now ≡ now2) × (d ≡ f) × (r ≡ s)
  deed_one d f r s h k some some2 e = by_kind d h some e (subst (λ (x : Shape). IsOfKind x f) (sym kinds) (kind_is f))
    where
      kinds : kind_of d ≡ kind_of f
      kinds = sym (kind_told m now es d r h some) ∙ ap kind_by e ∙ kind_told m now2 es f s k some2

      -- the other one by its kind
      from_kind : (x y : Deed) → f ≡ y → deed_words m now es x r ≡ deed_words m now2 es f s → (IsToldDeed m es y → deed_words m now es x r ≡ deed_words m now2 es y s → (now ≡ now2) × (x ≡ y) × (r ≡ s)) → (now ≡ now2) × (x ≡ f) × (r ≡ s)
      from_kind x y is w one =
          let got = one (subst (IsToldDeed m es) is k) (w ∙ ap (λ (z : Deed). deed_words m now2 es z s) is) in
          (got.0, got.1 ∙ sym is, got.2)

      by_kind : (x : Deed) → IsToldDeed m es x → (kind_of x ≡ ticks → ⊥) → deed_words m now es x r ≡ deed_words m now2 es f s → IsOfKind (kind_of x) f → (now ≡ now2) × (x ≡ f) × (r ≡ s)
      by_kind Tick t some w of = absurd (some refl)
      by_kind (Fire x) t some w of = from_kind (Fire x) (Fire of.0) of.1 w (fire_one x of.0 r s t)
      by_kind (Report x) t some w of = from_kind (Report x) (Report of.0) of.1 w (report_one x of.0 r s t)
      by_kind (Handover a n) t some w of = from_kind (Handover a n) (Handover of.0 of.1) of.2 w (handover_one a of.0 n of.1 r s t)
      by_kind (Stale a b p q) t some w of = from_kind (Stale a b p q) (Stale of.0 of.1 of.2 of.3) of.4 w (stale_one a of.0 b of.1 p q of.2 of.3 r s t)
      by_kind (Late b) t some w of = from_kind (Late b) (Late of.0) of.1 w (λ u v. let one = held_one b of.0 r s t u (tail v) in (one.0, ap Late one.1, one.2))
      by_kind (Early b) t some w of = from_kind (Early b) (Early of.0) of.1 w (λ u v. let one = held_one b of.0 r s t u (tail v) in (one.0, ap Early one.1, one.2))
      by_kind (Broken v) t some w of = from_kind (Broken v) (Broken of.0) of.1 w (λ u. broken_one v of.0 r s t u)
