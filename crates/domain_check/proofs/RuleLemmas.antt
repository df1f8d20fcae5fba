-- The first refusal of all, by the rules in their order.
use Rattle.std.proofs.Common.{◌≡◌, ◌⊎◌, List, [], ◌∷◌, ◌++◌, map, refl, sym, ap, ◌∙◌, inl, inr}
use Rattle.hs_texts.specs.declared.ast.Ast.{Ast}
use Rattle.hs_texts.specs.declared.ast.AstNeed.{AstNeed}
use Rattle.hs_base.specs.declared.mission.Mission.{Mission}
use Rattle.hs_texts.specs.declared.refusal.Refusal.{Refusal}
use Rattle.hs_texts.specs.declared.refusal.Refusal.TheVariants.{NotUtf8, Char, Expected, Number, Trailing, Twice, Unknown, Range as BadRange, Limit, NoBegin, Horizons, SameVar, SameBy, Memory as NoMemory}
use Rattle.hs_texts.specs.MissionMeaning.{Means}
use Rattle.hs_texts.specs.MissionRefusals.{twice_names, unknown_names, bad_ranges, passed_limits, names_without_begin, early_horizons, places, asks_itself, asks_twice, refusals}
use Rattle.hs_texts.specs.MissionSpelling.{IsMissionRefusal}
use Rattle.text_laws.specs.Refused.{OrMemory}
use Rattle.domain_check.specs.Checking.{IsRefused}
use Rattle.domain_check.specs.Rules.{KeepsRules, IsBroken}
use Rattle.domain_check.proofs.EachLemmas.{none_before, none_behind, none_joined, none_mapped}
use Rattle.domain_check.proofs.RefusedLemmas.{kept}

-- the first refusal of a list, or the want of memory
record Leads (rs : List Refusal) (r : Refusal) : Type 0 where
  leads : (r ≡ NoMemory) ⊎ ((others : List Refusal) × (rs ≡ r ∷ others))

-- what is told of one rule leads behind nothing
leads_behind : {X : Type 0} (told : X → Refusal) (broken : List X) (r : Refusal) (front : List Refusal) → front ≡ [] → IsRefused told broken r → Leads (front ++ map told broken) r
leads_behind told broken r front none h = record {
  leads = elim h.refused [
    | inl memory ↦ inl memory
    | inr f ↦ inr (map told f.others, ap (λ l. l ++ map told broken) none ∙ ap (map told) f.here ∙ ap (λ s. s ∷ map told f.others) (sym f.said))
  ];
}

-- and before others
leads_before : (rs more : List Refusal) (r : Refusal) → Leads rs r → Leads (rs ++ more) r
leads_before rs more r h = record {
  leads = elim h.leads [
    | inl memory ↦ inl memory
    | inr k ↦ inr (k.0 ++ more, ap (λ l. l ++ more) k.1)
  ];
}

module _ (a : Ast) where
  abbrev twices : List Refusal
  twices = map Twice (twice_names a)

  abbrev unknowns : List Refusal
  unknowns = map Unknown (unknown_names a)

  abbrev ranges : List Refusal
  ranges = map BadRange (bad_ranges a)

  abbrev limits : List Refusal
  limits = map Limit (passed_limits a)

  abbrev begins : List Refusal
  begins = map NoBegin (names_without_begin a)

  abbrev horizons : List Refusal
  horizons = map Horizons (early_horizons a)

  abbrev variables : List Refusal
  variables = map SameVar (places asks_itself a.needs)

  abbrev choices : List Refusal
  choices = map SameBy (places (λ (n : AstNeed). asks_twice n.either) a.needs)

  broken : (r : Refusal) → Leads (refusals a) r → IsBroken a r
  broken r h = record { broken = h.leads }

  pub refused_twice : (r : Refusal) → IsRefused Twice (twice_names a) r → IsBroken a r
  refused_twice r h =
      broken r (leads_before _ choices r (leads_before _ variables r (leads_before _ horizons r (leads_before _ begins r (leads_before _ limits r (leads_before _ ranges r (leads_before twices unknowns r (leads_behind Twice (twice_names a) r [] refl h))))))))

  pub refused_unknown : (r : Refusal) → twice_names a ≡ [] → IsRefused Unknown (unknown_names a) r → IsBroken a r
  refused_unknown r t h =
      broken r (leads_before _ choices r (leads_before _ variables r (leads_before _ horizons r (leads_before _ begins r (leads_before _ limits r (leads_before _ ranges r (leads_behind Unknown (unknown_names a) r twices (ap (map Twice) t) h)))))))

  none_two : twice_names a ≡ [] → unknown_names a ≡ [] → twices ++ unknowns ≡ []
  none_two t u = none_joined twices unknowns (ap (map Twice) t) (ap (map Unknown) u)

  pub refused_range : (r : Refusal) → twice_names a ≡ [] → unknown_names a ≡ [] → IsRefused BadRange (bad_ranges a) r → IsBroken a r
  refused_range r t u h =
      broken r (leads_before _ choices r (leads_before _ variables r (leads_before _ horizons r (leads_before _ begins r (leads_before _ limits r (leads_behind BadRange (bad_ranges a) r (twices ++ unknowns) (none_two t u) h))))))

  none_three : twice_names a ≡ [] → unknown_names a ≡ [] → bad_ranges a ≡ [] → twices ++ unknowns ++ ranges ≡ []
  none_three t u g = none_joined (twices ++ unknowns) ranges (none_two t u) (ap (map BadRange) g)

  pub refused_limit : (r : Refusal) → twice_names a ≡ [] → unknown_names a ≡ [] → bad_ranges a ≡ [] → IsRefused Limit (passed_limits a) r → IsBroken a r
  refused_limit r t u g h =
      broken r (leads_before _ choices r (leads_before _ variables r (leads_before _ horizons r (leads_before _ begins r (leads_behind Limit (passed_limits a) r (twices ++ unknowns ++ ranges) (none_three t u g) h)))))

  none_four : twice_names a ≡ [] → unknown_names a ≡ [] → bad_ranges a ≡ [] → passed_limits a ≡ [] → twices ++ unknowns ++ ranges ++ limits ≡ []
  none_four t u g l = none_joined (twices ++ unknowns ++ ranges) limits (none_three t u g) (ap (map Limit) l)

  pub refused_begin : (r : Refusal) → twice_names a ≡ [] → unknown_names a ≡ [] → bad_ranges a ≡ [] → passed_limits a ≡ [] → IsRefused NoBegin (names_without_begin a) r → IsBroken a r
  refused_begin r t u g l h =
      broken r (leads_before _ choices r (leads_before _ variables r (leads_before _ horizons r (leads_behind NoBegin (names_without_begin a) r (twices ++ unknowns ++ ranges ++ limits) (none_four t u g l) h))))

  none_five : twice_names a ≡ [] → unknown_names a ≡ [] → bad_ranges a ≡ [] → passed_limits a ≡ [] → names_without_begin a ≡ [] → twices ++ unknowns ++ ranges ++ limits ++ begins ≡ []
  none_five t u g l b = none_joined (twices ++ unknowns ++ ranges ++ limits) begins (none_four t u g l) (ap (map NoBegin) b)

  pub refused_horizon : (r : Refusal) → twice_names a ≡ [] → unknown_names a ≡ [] → bad_ranges a ≡ [] → passed_limits a ≡ [] → names_without_begin a ≡ [] → IsRefused Horizons (early_horizons a) r → IsBroken a r
  refused_horizon r t u g l b h =
      broken r (leads_before _ choices r (leads_before _ variables r (leads_behind Horizons (early_horizons a) r (twices ++ unknowns ++ ranges ++ limits ++ begins) (none_five t u g l b) h)))

  none_six : twice_names a ≡ [] → unknown_names a ≡ [] → bad_ranges a ≡ [] → passed_limits a ≡ [] → names_without_begin a ≡ [] → early_horizons a ≡ [] → twices ++ unknowns ++ ranges ++ limits ++ begins ++ horizons ≡ []
  none_six t u g l b e = none_joined (twices ++ unknowns ++ ranges ++ limits ++ begins) horizons (none_five t u g l b) (ap (map Horizons) e)

  pub refused_variable : (r : Refusal) → twice_names a ≡ [] → unknown_names a ≡ [] → bad_ranges a ≡ [] → passed_limits a ≡ [] → names_without_begin a ≡ [] → early_horizons a ≡ [] → IsRefused SameVar (places asks_itself a.needs) r → IsBroken a r
  refused_variable r t u g l b e h =
      broken r (leads_before _ choices r (leads_behind SameVar (places asks_itself a.needs) r (twices ++ unknowns ++ ranges ++ limits ++ begins ++ horizons) (none_six t u g l b e) h))

  none_seven : twice_names a ≡ [] → unknown_names a ≡ [] → bad_ranges a ≡ [] → passed_limits a ≡ [] → names_without_begin a ≡ [] → early_horizons a ≡ [] → places asks_itself a.needs ≡ [] → twices ++ unknowns ++ ranges ++ limits ++ begins ++ horizons ++ variables ≡ []
  none_seven t u g l b e v = none_joined (twices ++ unknowns ++ ranges ++ limits ++ begins ++ horizons) variables (none_six t u g l b e) (ap (map SameVar) v)

  pub refused_choice : (r : Refusal) → twice_names a ≡ [] → unknown_names a ≡ [] → bad_ranges a ≡ [] → passed_limits a ≡ [] → names_without_begin a ≡ [] → early_horizons a ≡ [] → places asks_itself a.needs ≡ [] → IsRefused SameBy (places (λ (n : AstNeed). asks_twice n.either) a.needs) r → IsBroken a r
  refused_choice r t u g l b e v h =
      broken r (leads_behind SameBy (places (λ (n : AstNeed). asks_twice n.either) a.needs) r (twices ++ unknowns ++ ranges ++ limits ++ begins ++ horizons ++ variables) (none_seven t u g l b e v) h)

  -- no refusal exactly where all rules are kept
  pub none_refused : KeepsRules a → refusals a ≡ []
  none_refused h =
      none_joined (twices ++ unknowns ++ ranges ++ limits ++ begins ++ horizons ++ variables) choices
      (none_seven h.twice h.unknown h.ranges h.limits h.begins h.horizons h.variables) (ap (map SameBy) h.choices)

  pub keeps_rules : refusals a ≡ [] → KeepsRules a
  keeps_rules h =
      let h7 = none_before (twices ++ unknowns ++ ranges ++ limits ++ begins ++ horizons ++ variables) choices h in
      let h6 = none_before (twices ++ unknowns ++ ranges ++ limits ++ begins ++ horizons) variables h7 in
      let h5 = none_before (twices ++ unknowns ++ ranges ++ limits ++ begins) horizons h6 in
      let h4 = none_before (twices ++ unknowns ++ ranges ++ limits) begins h5 in
      let h3 = none_before (twices ++ unknowns ++ ranges) limits h4 in
      let h2 = none_before (twices ++ unknowns) ranges h3 in
      record {
        twice = none_mapped Twice (twice_names a) (none_before twices unknowns h2);
        unknown = none_mapped Unknown (unknown_names a) (none_behind twices unknowns h2);
        ranges = none_mapped BadRange (bad_ranges a) (none_behind (twices ++ unknowns) ranges h3);
        limits = none_mapped Limit (passed_limits a) (none_behind (twices ++ unknowns ++ ranges) limits h4);
        begins = none_mapped NoBegin (names_without_begin a) (none_behind (twices ++ unknowns ++ ranges ++ limits) begins h5);
        horizons = none_mapped Horizons (early_horizons a) (none_behind (twices ++ unknowns ++ ranges ++ limits ++ begins) horizons h6);
        variables = none_mapped SameVar (places asks_itself a.needs) (none_behind (twices ++ unknowns ++ ranges ++ limits ++ begins ++ horizons) variables h7);
        choices = none_mapped SameBy (places (λ (n : AstNeed). asks_twice n.either) a.needs) (none_behind (twices ++ unknowns ++ ranges ++ limits ++ begins ++ horizons ++ variables) choices h);
      }

-- the condition of a refusal other than the want of memory
pub or_memory : (P : Refusal → Type 0) (r : Refusal) → (r ≡ NoMemory) ⊎ P r → OrMemory P r
or_memory P (NotUtf8 at) (inl e) = absurd cc
or_memory P (NotUtf8 at) (inr p) = p
or_memory P (Char at) (inl e) = absurd cc
or_memory P (Char at) (inr p) = p
or_memory P (Expected at) (inl e) = absurd cc
or_memory P (Expected at) (inr p) = p
or_memory P (Number at) (inl e) = absurd cc
or_memory P (Number at) (inr p) = p
or_memory P (Trailing at) (inl e) = absurd cc
or_memory P (Trailing at) (inr p) = p
or_memory P (Twice name) (inl e) = absurd cc
or_memory P (Twice name) (inr p) = p
or_memory P (Unknown name) (inl e) = absurd cc
or_memory P (Unknown name) (inr p) = p
or_memory P (BadRange item) (inl e) = absurd cc
or_memory P (BadRange item) (inr p) = p
or_memory P (Limit which) (inl e) = absurd cc
or_memory P (Limit which) (inr p) = p
or_memory P (NoBegin name) (inl e) = absurd cc
or_memory P (NoBegin name) (inr p) = p
or_memory P (Horizons item) (inl e) = absurd cc
or_memory P (Horizons item) (inr p) = p
or_memory P (SameVar item) (inl e) = absurd cc
or_memory P (SameVar item) (inr p) = p
or_memory P (SameBy item) (inl e) = absurd cc
or_memory P (SameBy item) (inr p) = p
or_memory P NoMemory h = tt

-- what is refused means nothing
pub not_meant : (a : Ast) (r : Refusal) (m : Mission) → IsMissionRefusal a r → Means a m → ⊥
not_meant a r m h k = let e : refusals a ≡ [] = none_refused a (kept a m k) in let f : refusals a ≡ r ∷ h.0 = h.1 in absurd (cc (e, f))
