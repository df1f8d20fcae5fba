-- Extensions that are looked up one by one.
use Rattle.std.proofs.Common.{◌≡◌, ℕ, ◌+◌, ◌<◌, List, [], ◌∷◌, ◌++◌, length, take, get_or, sym, ap, ◌∙◌, subst, append_assoc, append-nil}
use Rattle.std.specs.Prelude.{flat_map}
use Rattle.hs_base.specs.declared.plan.Extension.{Extension}
use Rattle.hs_base.specs.declared.mission.Mission.{Mission}
use Rattle.hs_texts.specs.declared.written.WrittenExtension.{WrittenExtension}
use Rattle.std.proofs.lemmas.List.{take_more}
use Rattle.plan_index.specs.Contents.{Contents, contents_of}
use Rattle.plan_text.proofs.NamingLemmas.{known_push}
use Rattle.hs_texts.specs.PlanSpelling.{ExtensionMeans, ExtensionsMean, unknown_in_body}

-- those before place i are looked up
pub record PlanLookedUp (m : Mission) (ws : List WrittenExtension) (i : ℕ) (es : List Extension) (index : Contents) : Type 0 where
  pub means : ExtensionsMean m [] (take i ws) es
  pub known : flat_map (λ (w : WrittenExtension). unknown_in_body m w.body) (take i ws) ≡ []
  pub index_is : index ≡ contents_of es

pub extensions_push : (m : Mission) (before : List Extension) (ws : List WrittenExtension) (es : List Extension) (w : WrittenExtension) (e : Extension) → ExtensionsMean m before ws es → ExtensionMeans m (before ++ es) w e → ExtensionsMean m before (ws ++ w ∷ []) (es ++ e ∷ [])
extensions_push m before [] [] w e h k = (subst (λ (b : List Extension). ExtensionMeans m b w e) (append-nil before) k, tt)
extensions_push m before [] (x ∷ es) w e h k = absurd h
extensions_push m before (v ∷ ws) [] w e h k = absurd h
extensions_push m before (v ∷ ws) (x ∷ es) w e h k = (h.0, extensions_push m (before ++ x ∷ []) ws es w e h.1 (subst (λ (b : List Extension). ExtensionMeans m b w e) (sym (append_assoc before (x ∷ []) es)) k))

-- one more is looked up
pub plan_step : (m : Mission) (ws : List WrittenExtension) (i : ℕ) (es : List Extension) (index more : Contents) (w : WrittenExtension) (e : Extension) (all : List Extension) → PlanLookedUp m ws i es index → i < length ws → w ≡ get_or ws i w → (unknown_in_body m w.body ≡ []) × ExtensionMeans m es w e → more ≡ contents_of (es ++ e ∷ []) → all ≡ es ++ e ∷ [] → PlanLookedUp m ws (i + 1) all more
plan_step m ws i es index more w e all l h is k grown s =
    let f : WrittenExtension → List (List ℕ) = λ (x : WrittenExtension). unknown_in_body m x.body in
    let means : ExtensionsMean m [] (take i ws ++ get_or ws i w ∷ []) (es ++ e ∷ []) = extensions_push m [] (take i ws) es (get_or ws i w) e l.means (subst (λ (x : WrittenExtension). ExtensionMeans m es x e) is k.1) in
    let means' : ExtensionsMean m [] (take (i + 1) ws) (es ++ e ∷ []) = subst (λ (vs : List WrittenExtension). ExtensionsMean m [] vs (es ++ e ∷ [])) (sym (take_more ws i w h)) means in
    record {
      means = subst (λ (xs : List Extension). ExtensionsMean m [] (take (i + 1) ws) xs) (sym s) means';
      known = known_push f ws i w l.known h is k.0;
      index_is = grown ∙ ap contents_of (sym s);
    }
