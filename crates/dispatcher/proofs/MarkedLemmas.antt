-- Marks are sound at each step, and complete where nothing is left to mark.
use Rattle.std.proofs.Common.{◌≡◌, ℕ, ◌+◌, ◌<◌, Bool, true, List, length, refl, sym, ap, ◌∙◌, subst, arith, pos, inl, inr, get_or, set, Option, Some, None}
use Rattle.std.proofs.lemmas.Bool.{cases_eq, cases_Bool, cases_lt, OnTrue_at, OnFalse_at}
use Rattle.std.proofs.lemmas.List.{get_or-set_same, get_or-set_other, get_or_past}
use Rattle.std.proofs.lemmas.List.Elements.{All-more}
use Rattle.std.specs.Prelude.{ℤ, ◌+ℤ◌, Contains, All, take}
use Rattle.std.specs.List.{count_by}
use Rattle.std.specs.Option.{is_some, is_none}
use Rattle.std.specs.Bool.{OnTrue, OnFalse}
use Rattle.hs_base.specs.declared.ids.PointId.{PointId}
use Rattle.hs_base.specs.declared.net.Bound.{Bound}
use Rattle.hs_base.specs.Schedule.{bound}
use Rattle.hs_base.specs.Reduced.{int_eq}
use Rattle.hs_base.specs.Fits.{Times}
use Rattle.hs_base.specs.Dispatch.{Marked, MarkedFrom, by_set, by_mark, from_set, from_mark}
use Rattle.net_laws.proofs.BetweenLemmas.{int_eq-true, eq_int_eq}
use Rattle.net_laws.proofs.LeaderLemmas.{cases_Option}
use Rattle.dispatcher.specs.Marks.{AreSound, IsMet, held_by, holder}

module _ (edges : List Bound) (time : Times) (n : ℤ) where
  held_set : (marks : List (Option PointId)) (e : Bound) (q : PointId) → Contains edges e → time e.to.0 ≡ None → (t : ℤ) → time e.from.0 ≡ Some t → held_by (Some t) (get_or marks e.from.0 None) e.from e.most n ≡ Some q → MarkedFrom edges time n q.0 e.to.0
  held_set marks e q ie none t is h = elim (cases_Bool (int_eq (t +ℤ e.most) n)) [
    | inr no_ ↦ absurd (let g : None ≡ Some q = rw no_ at h in cc)
    | inl yes_ ↦
        let g : Some e.from ≡ Some q = rw yes_ at h in
        let same : e.from ≡ q = cc in
        let from : e.from.0 ≡ q.0 = ap (λ (z : PointId). z.0) same in
        from_set e t ie from (ap time (sym from) ∙ is) none (int_eq-true _ _ yes_)
  ]

  held_flat : (marks : List (Option PointId)) (e : Bound) (q : PointId) → AreSound edges time n marks → Contains edges e → time e.to.0 ≡ None → held_by None (get_or marks e.from.0 None) e.from e.most n ≡ Some q → MarkedFrom edges time n q.0 e.to.0
  held_flat marks e q sound ie none h = elim (cases_Bool (int_eq e.most (pos 0))) [
    | inr no_ ↦ absurd (let g : None ≡ Some q = rw no_ at h in cc)
    | inl yes_ ↦ let g : get_or marks e.from.0 None ≡ Some q = rw yes_ at h in from_mark e ie (sound.each e.from.0 q g) none (int_eq-true _ _ yes_)
  ]

  -- what holds an edge's end marks it
  pub held_marked : (marks : List (Option PointId)) (e : Bound) (q : PointId) → AreSound edges time n marks → Contains edges e → holder time n marks e ≡ Some q → MarkedFrom edges time n q.0 e.to.0
  held_marked marks e q sound ie h = elim (cases_Option (time e.to.0)) [
    | inr some ↦ absurd (let g : None ≡ Some q = rw some.1 at h in cc)
    | inl none ↦
        let g : held_by (time e.from.0) (get_or marks e.from.0 None) e.from e.most n ≡ Some q = rw none at h in
        elim (cases_Option (time e.from.0)) [
          | inr some ↦ held_set marks e q ie none some.0 some.1 (rw some.1 at g)
          | inl unset ↦ held_flat marks e q sound ie none (rw unset at g)
        ]
  ]

  pub sound_set : (marks : List (Option PointId)) (e : Bound) (held : Option PointId) → e.to.0 < length marks → AreSound edges time n marks → Contains edges e → held ≡ holder time n marks e → AreSound edges time n (set marks e.to.0 held)
  sound_set marks e held il sound ie is = record {
    each = λ x q m. elim (cases_eq x e.to.0) [
      | inl same ↦
          let here : held ≡ Some q = sym (ap (λ z. get_or (set marks e.to.0 held) z None) same ∙ get_or-set_same marks e.to.0 held None il) ∙ m in
          subst (MarkedFrom edges time n q.0) (sym same) (held_marked marks e q sound ie (sym is ∙ here))
      | inr other ↦ sound.each x q (sym (get_or-set_other marks e.to.0 x held None other) ∙ m)
    ];
  }

  -- what is marked is not set
  unset_marked : (x : ℕ) → Marked edges time n x → time x ≡ None
  unset_marked _ (by_set e t ie is_set none tight) = none
  unset_marked _ (by_mark e ie mark none flat) = none

  pub complete : (marks : List (Option PointId)) → ((e : Bound) → Contains edges e → IsMet time n marks e) → (x : ℕ) → Marked edges time n x → is_some (get_or marks x None) ≡ true
  complete marks met _ (by_set e t ie is_set none tight) = met e ie (rw (none, is_set, eq_int_eq _ _ tight) refl)
  complete marks met _ (by_mark e ie mark none flat) =
      let before = complete marks met e.from.0 mark in
      met e ie (rw (none, unset_marked e.from.0 mark, eq_int_eq _ _ flat) before)

  pub sound_none : (marks : List (Option PointId)) → ((k : ℕ) → k < length marks → get_or marks k None ≡ None) → AreSound edges time n marks
  sound_none marks h = record {
    each = λ x q m. elim (cases_lt x (length marks)) [
      | inl i ↦ absurd (let g = h x i in cc)
      | inr i ↦ absurd (let g = get_or_past marks x None i in cc)
    ];
  }

-- one step of a turn: after a mark that is new, and after none
pub turn_new : (P : Type 0) (first marks new : List (Option PointId)) (more : Bool) → OnTrue more (count_by is_none marks < count_by is_none first) → OnFalse more ((marks ≡ first) × P) → count_by is_none new < count_by is_none marks → count_by is_none new < count_by is_none first
turn_new P first marks new more fewer met less = elim (cases_Bool more) [
  | inl e ↦ omega (arith, less, OnTrue_at e fewer)
  | inr e ↦ omega (arith, less, ap (count_by is_none) (OnFalse_at e met).0)
]

pub turn_none : (edges : List Bound) (time : Times) (n : ℤ) (i : ℕ) (first marks new : List (Option PointId)) → i < length edges → new ≡ marks → ((d : Bound) → IsMet time n marks (get_or edges i d))
    → (marks ≡ first) × All (IsMet time n marks) (take i edges) → (new ≡ first) × All (IsMet time n new) (take (i + 1) edges)
turn_none edges time n i first marks new ii same here both = (
  same ∙ both.0,
  subst (λ m. All (IsMet time n m) (take (i + 1) edges)) (sym same)
      (All-more (IsMet time n marks) edges i (bound 0 0 (pos 0)) ii both.1 (here (bound 0 0 (pos 0)))),
)
