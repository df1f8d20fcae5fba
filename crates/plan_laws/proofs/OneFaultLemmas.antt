-- Two faults of an extension that break one rule name the same.
use Rattle.std.proofs.Common.{◌≡◌, ◌≢◌, ℕ, ◌<◌, List, [], ◌∷◌, ◌++◌, length, take, Some, refl, sym, ap, ◌∙◌, subst, arith, inl, inr, length-append}
use Rattle.std.proofs.lemmas.Bool.{cases_lt}
use Rattle.std.proofs.lemmas.List.{take-append-le, take_at}
use Rattle.std.specs.Prelude.{◌⊎◌, slice_get}
use Rattle.hs_base.specs.declared.ids.SvId.{SvId}
use Rattle.hs_base.specs.declared.net.Bound.{Bound}
use Rattle.hs_base.specs.declared.mission.Kind.{Kind}
use Rattle.hs_base.specs.declared.mission.Mission.{Mission}
use Rattle.hs_base.specs.declared.plan.TokenRef.{TokenRef}
use Rattle.hs_base.specs.declared.plan.Extension.{Extension}
use Rattle.hs_base.specs.declared.fault.Fault.{Fault}
use Rattle.hs_base.specs.declared.fault.Fault.TheVariants.{Base, Limit as OverLimit, Order, Fixed, WrongSupport, Unsupported, Goal as NoGoal, Cycle, Memory as NoMemoryLeft}
use Rattle.hs_base.specs.Walks.{EachAfter}
use Rattle.hs_base.specs.Points.{tokens_of}
use Rattle.hs_base.specs.Checked.{HasTokenOf, KeepsOrderAt, KeepsFixedAt, KeepsSupportAt, IsNeedBefore, Rule, base, limits, order, fixed, supports, needs, goals, schedule}
use Rattle.hs_base.specs.Faults.{IsFirstBreak, IsFirstBreakAt, IsFirstMissing, IsMissingFirst, IsMisplaced, IsPassed, IsFirstGoal, rule_of, Names, IsFault}
use Rattle.base_laws.proofs.ListLemmas.{each_after_at, slice_get-append_left, slice_get-middle}
use Rattle.plan_laws.proofs.FaultLemmas.{no_break_at, one_rule}

-- two fronts of a list that are of one length are the same
same_front : {X : Type 0} (xs b c r s : List X) → xs ≡ b ++ r → xs ≡ c ++ s → length b ≡ length c → b ≡ c
same_front xs b c r s e d size = sym (take_at b r (length c) size) ∙ ap (take (length c)) (sym e ∙ d) ∙ take_at c s (length c) refl

-- what holds of each element of a longer front holds of the one behind the shorter front
reached : {X : Type 0} (P : List X → X → Type 0) (xs b : List X) (x : X) (after c rest : List X) → xs ≡ b ++ x ∷ after → xs ≡ c ++ rest → EachAfter P [] c → length b < length c → P b x
reached P xs b x after c rest e d kept less =
    let at : slice_get c (length b) ≡ Some x = sym (slice_get-append_left c rest (length b) less) ∙ ap (λ l. slice_get l (length b)) (sym d ∙ e) ∙ slice_get-middle b x after in
    let front : take (length b) c ≡ b = sym (take-append-le (length b) c rest (omega arith)) ∙ ap (take (length b)) (sym d ∙ e) ∙ take_at b (x ∷ after) (length b) refl in
    subst (λ l. P l x) front (each_after_at P [] c (length b) x kept at)

-- two first breaks are one
one_break : {X : Type 0} (P : List X → X → Type 0) (xs b c : List X) (x y : X) → IsFirstBreak P xs b x → IsFirstBreak P xs c y → (b ≡ c) × (x ≡ y)
one_break P xs b c x y f g = elim (cases_lt (length b) (length c)) [
  | inl less ↦ absurd (f.broken (reached P xs b x f.after c (y ∷ g.after) f.split g.split g.kept less))
  | inr more ↦ elim (cases_lt (length c) (length b)) [
    | inl less ↦ absurd (g.broken (reached P xs c y g.after b (x ∷ f.after) g.split f.split f.kept less))
    | inr same ↦
        let size : length b ≡ length c = omega arith in
        let both : Some x ≡ Some y = sym (slice_get-middle b x f.after) ∙ ap (λ l. slice_get l (length b)) (sym f.split ∙ g.split) ∙ ap (slice_get (c ++ y ∷ g.after)) size ∙ slice_get-middle c y g.after in
        (same_front xs b c (x ∷ f.after) (y ∷ g.after) f.split g.split size, cc)
  ]
]

one_break_at : {X : Type 0} (P : List X → X → Type 0) (xs : List X) (i j : ℕ) → IsFirstBreakAt P xs i → IsFirstBreakAt P xs j → i ≡ j
one_break_at P xs i j f g = f.3 ∙ ap length (one_break P xs f.0 g.0 f.1 g.1 f.2 g.2).0 ∙ sym g.3

module _ (m : Mission) (es : List Extension) (tokens : List Kind) where
  -- the order isn't kept beyond the place where a first token is missing
  none_behind : (v : ℕ) (c rest : List Kind) (a : IsMissingFirst m es tokens v) → tokens ≡ c ++ rest → EachAfter (KeepsOrderAt m es) [] c → length a.before < length c → ⊥
  none_behind v c rest a split kept less = by_rest a.after refl
    where
      by_rest : (after : List Kind) → a.after ≡ after → ⊥
      by_rest [] none = absurd (omega (arith, less, length-append c rest, length-append a.before a.after, ap length (sym split ∙ a.split), ap length none))
      by_rest (k ∷ ks) some =
          let here = reached (KeepsOrderAt m es) tokens a.before k ks c rest (a.split ∙ ap (λ l. a.before ++ l) some) split kept less in
          a.missing.none (here.firsts v (subst (λ (l : List Kind). IsPassed l v) some a.passed))

  one_missing : (v w : ℕ) → IsMissingFirst m es tokens v → IsMissingFirst m es tokens w → v ≡ w
  one_missing v w a b = elim (cases_lt (length a.before) (length b.before)) [
    | inl less ↦ absurd (none_behind v b.before b.after a b.split b.kept less)
    | inr more ↦ elim (cases_lt (length b.before) (length a.before)) [
      | inl less ↦ absurd (none_behind w a.before a.after b a.split a.kept less)
      | inr same ↦
          let size : length a.before ≡ length b.before = omega arith in
          let front = same_front tokens a.before b.before a.after b.after a.split b.split size in
          first v w a.missing (subst (λ (l : List Kind). IsFirstMissing m (tokens_of es ++ l) w) (sym front) b.missing)
    ]
  ]
    where
      first : {ks : List Kind} (v w : ℕ) → IsFirstMissing m ks v → IsFirstMissing m ks w → v ≡ w
      first v w a b = elim (cases_lt v w) [
        | inl less ↦ absurd (a.none (b.firsts v less))
        | inr more ↦ elim (cases_lt w v) [ inl less ↦ absurd (b.none (a.firsts w less)) | inr same ↦ omega arith ]
      ]

  one_misplaced : (v w p q : ℕ) → IsMisplaced m es tokens v p → IsMisplaced m es tokens w q → (v ≡ w) × (p ≡ q)
  one_misplaced v w p q a b =
      let same = one_break (KeepsOrderAt m es) tokens a.before b.before a.token b.token a.first b.first in
      let variable : v ≡ w = a.variable ∙ ap (λ (k : Kind). k.sv.0) same.1 ∙ sym b.variable in
      let front = same.0 in
      let places = a.is_place in
      (variable, a.is_place ∙ cc)

  -- a token is misplaced only where no first one is missing before it
  not_both : (v w p : ℕ) → IsMisplaced m es tokens v p → IsMissingFirst m es tokens w → ⊥
  not_both v w p a b = elim (cases_lt (length a.before) (length b.before)) [
    | inl less ↦ a.first.broken (reached (KeepsOrderAt m es) tokens a.before a.token a.first.after b.before b.after a.first.split b.split b.kept less)
    | inr more ↦ elim (cases_lt (length b.before) (length a.before)) [
      | inl less ↦ none_behind w a.before (a.token ∷ a.first.after) b a.first.split a.first.kept less
      | inr same ↦ by_rest b.after refl (omega arith)
    ]
  ]
    where
      by_rest : (after : List Kind) → b.after ≡ after → length a.before ≡ length b.before → ⊥
      by_rest [] none size = absurd (omega (arith, size, length-append a.before (a.token ∷ a.first.after), length-append b.before b.after, ap length (sym a.first.split ∙ b.split), ap length none))
      by_rest (k ∷ ks) some size =
          let whole : tokens ≡ b.before ++ k ∷ ks = b.split ∙ ap (λ l. b.before ++ l) some in
          let front = same_front tokens a.before b.before (a.token ∷ a.first.after) b.after a.first.split b.split size in
          let both : Some a.token ≡ Some k = sym (slice_get-middle a.before a.token a.first.after) ∙ ap (λ l. slice_get l (length a.before)) (sym a.first.split ∙ whole) ∙ ap (slice_get (b.before ++ k ∷ ks)) size ∙ slice_get-middle b.before k ks in
          let here : a.token ≡ k = cc in
          let passed : w < k.sv.0 = subst (λ (l : List Kind). IsPassed l w) some b.passed in
          let has = a.firsts w b.missing.below (subst (λ (x : Kind). w < x.sv.0) (sym here) passed) in
          b.missing.none (subst (λ (l : List Kind). HasTokenOf (tokens_of es ++ l) w) front has)

-- of two needs one comes first, or they are one
one_need : (t u : TokenRef) (i j : ℕ) → (IsNeedBefore t i u j → ⊥) → (IsNeedBefore u j t i → ⊥) → (t ≡ u) × (i ≡ j)
one_need t u i j not_here not_there =
    let variable = apart t.sv.0 u.sv.0 (λ h. not_here (inl h)) (λ h. not_there (inl h)) in
    let place = apart t.place u.place (λ h. not_here (inr (variable, inl h))) (λ h. not_there (inr (sym variable, inl h))) in
    let number = apart i j (λ h. not_here (inr (variable, inr (place, h)))) (λ h. not_there (inr (sym variable, inr (sym place, h)))) in
    (ap (λ (x : ℕ). let r : TokenRef = record { sv = record { 0 = x }; place = t.place } in r) variable ∙ ap (λ (x : ℕ). let r : TokenRef = record { sv = u.sv; place = x } in r) place, number)
  where
    apart : (x y : ℕ) → (x < y → ⊥) → (y < x → ⊥) → x ≡ y
    apart x y not_less not_more = elim (cases_lt x y) [ inl less ↦ absurd (not_less less) | inr more ↦ elim (cases_lt y x) [ inl less ↦ absurd (not_more less) | inr same ↦ omega arith ] ]

one_goal : (m : Mission) (es : List Extension) (e : Extension) (i j : ℕ) → IsFirstGoal m es e i → IsFirstGoal m es e j → i ≡ j
one_goal m es e i j a b = elim (cases_lt i j) [
  | inl less ↦ absurd (a.broken (b.first i less))
  | inr more ↦ elim (cases_lt j i) [ inl less ↦ absurd (b.broken (a.first j less)) | inr same ↦ omega arith ]
]

-- what a fault of a rule says beside the rule
abbrev Said : Rule → Type 0
Said base = ℕ × ℕ
Said limits = ℕ × ℕ
Said order = SvId × ℕ
Said fixed = ℕ
Said supports = ℕ
Said needs = TokenRef × ℕ
Said goals = ℕ
Said schedule = List Bound

abbrev fault_of : (r : Rule) → Said r → Fault
fault_of base s = Base s.0 s.1
fault_of limits s = OverLimit s.0 s.1
fault_of order s = Order s.0 s.1
fault_of fixed s = Fixed s
fault_of supports s = WrongSupport s
fault_of needs s = Unsupported s.0.sv s.0.place s.1
fault_of goals s = NoGoal s
fault_of schedule s = Cycle s

said : (f : Fault) → f ≢ NoMemoryLeft → (s : Said (rule_of f)) × (f ≡ fault_of (rule_of f) s)
said (Base g c) some = ((g, c), refl)
said (OverLimit p t) some = ((p, t), refl)
said (Order v p) some = ((v, p), refl)
said (Fixed i) some = (i, refl)
said (WrongSupport i) some = (i, refl)
said (Unsupported v p i) some = ((record { sv = v; place = p }, i), refl)
said (NoGoal i) some = (i, refl)
said (Cycle bs) some = (bs, refl)
said NoMemoryLeft some = absurd (some refl)

module _ (m : Mission) (es : List Extension) (e : Extension) where
  one_order : (v w : SvId) (p q : ℕ) → Names m es e (Order v p) → Names m es e (Order w q) → Order v p ≡ Order w q
  one_order v w p q a b = elim a [
    | inl f ↦ elim b [
      | inl g ↦ let same = one_misplaced m es e.tokens v.0 w.0 p q f g in ordered same.0 same.1
      | inr g ↦ absurd (not_both m es e.tokens v.0 w.0 p f g.0)
    ]
    | inr f ↦ elim b [
      | inl g ↦ absurd (not_both m es e.tokens w.0 v.0 q g f.0)
      | inr g ↦ ordered (one_missing m es e.tokens v.0 w.0 f.0 g.0) (f.1 ∙ sym g.1)
    ]
  ]
    where
      ordered : v.0 ≡ w.0 → p ≡ q → Order v p ≡ Order w q
      ordered variable place = ap (λ (x : ℕ). Order (record { 0 = x }) p) variable ∙ ap (Order w) place

  one_fixed : (i j : ℕ) → Names m es e (Fixed i) → Names m es e (Fixed j) → i ≡ j
  one_fixed i j a b = elim a [
    | inl f ↦ elim b [ inl g ↦ one_break_at (KeepsFixedAt es e) e.fixed i j f g | inr g ↦ absurd (no_break_at (KeepsFixedAt es e) e.fixed i f g.each) ]
    | inr f ↦ elim b [ inl g ↦ absurd (no_break_at (KeepsFixedAt es e) e.fixed j g f.each) | inr g ↦ f.number ∙ sym g.number ]
  ]

  same_said : (r : Rule) (s t : Said r) → Names m es e (fault_of r s) → Names m es e (fault_of r t) → (fault_of r s ≡ fault_of r t) ⊎ (r ≡ schedule)
  same_said base s t a b = inl (ap (λ x. Base x s.1) (a.1 ∙ sym b.1) ∙ ap (Base t.0) (a.2 ∙ sym b.2))
  same_said limits s t a b = inl (ap (λ x. OverLimit x s.1) (a.1 ∙ sym b.1) ∙ ap (OverLimit t.0) (a.2 ∙ sym b.2))
  same_said order s t a b = inl (one_order s.0 t.0 s.1 t.1 a b)
  same_said fixed s t a b = inl (ap Fixed (one_fixed s t a b))
  same_said supports s t a b = inl (ap WrongSupport (one_break_at (KeepsSupportAt m es e) e.supports s t a b))
  same_said needs s t a b =
      let same = one_need s.0 t.0 s.1 t.1 (b.first s.0 s.1 a.here) (a.first t.0 t.1 b.here) in
      inl (ap (λ (x : TokenRef). Unsupported x.sv x.place s.1) same.0 ∙ ap (Unsupported t.0.sv t.0.place) same.1)
  same_said goals s t a b = inl (ap NoGoal (one_goal m es e s t a b))
  same_said schedule s t a b = inr refl

  -- two faults of an extension are one, or each names a negative cycle
  pub one_fault : (f g : Fault) → f ≢ NoMemoryLeft → g ≢ NoMemoryLeft → IsFault m es e f → IsFault m es e g → (f ≡ g) ⊎ ((rule_of f ≡ schedule) × (rule_of g ≡ schedule))
  one_fault f g some_f some_g is_f is_g =
      let same = one_rule m es e f g some_f some_g is_f is_g in
      let s = said f some_f in
      let t = said g some_g in
      by_rule (rule_of f) (rule_of g) same s.0 t.0 s.1 t.1
    where
      by_rule : (q r : Rule) → q ≡ r → (s : Said q) (t : Said r) → f ≡ fault_of q s → g ≡ fault_of r t → (f ≡ g) ⊎ ((q ≡ schedule) × (r ≡ schedule))
      by_rule q r same s t here there = subst (λ (x : Rule). (u : Said x) → g ≡ fault_of x u → (f ≡ g) ⊎ ((q ≡ schedule) × (x ≡ schedule))) same (λ u is. elim (same_said q s u (subst (Names m es e) here is_f.1) (subst (Names m es e) is is_g.1)) [
        | inl e ↦ inl (here ∙ e ∙ sym is)
        | inr e ↦ inr (e, e)
      ]) t there
