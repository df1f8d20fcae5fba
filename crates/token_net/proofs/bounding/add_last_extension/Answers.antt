use Rattle.std.proofs.Common.{◌≡◌, ℕ, ◌+◌, ◌-◌, ◌++◌, ◌∷◌, [], length, ap, ◌∙◌, subst, arith, length-append, OnOk}
use Rattle.std.proofs.lemmas.List.{take_all, length-drop}
use Rattle.std.specs.Prelude.{drop, List}
use Rattle.hs_base.specs.declared.net.Bound.{Bound}
use Rattle.hs_base.specs.declared.plan.TokenRef.{TokenRef}
use Rattle.hs_base.specs.Points.{count, tokens_of, refs_after}
use Rattle.base_laws.proofs.PointLemmas.{count-push}
use Rattle.plan_index.specs.Contents.{Contents, contents_of}
use Rattle.token_net.specs.Items.{tokens_ended, extension_items}
use Rattle.token_net.proofs.ExtensionLemmas.{extension_same, newest_are}
use Rattle.token_net.proofs.bounding.add_last_extension.Goals as goal

pub returns : goal.returns
returns c = λ es is.
    let m = c.args.mission.now in
    let e = c.args.extension.now in
    let k = c.horizons-number.result - 1 in
    let at = c.points.result - c.len.result - 1 in
    let number : k ≡ length es = omega (arith, c.horizons-number.ensures, ap (λ (x : Contents). x.horizons) is, length-append es (e ∷ [])) in
    let before : at ≡ count es = omega (arith, c.points.ensures, c.len.ensures, ap (λ (x : Contents). length x.points) is, count-push es e) in
    let names = c.names.result.now in
    let refs = refs_after (tokens_of es) e.tokens in
    let new : c.as_slice.result.now ≡ refs =
    c.as_slice.ensures.value ∙ c.in_ok-new.ensures
    ∙ ap tokens_ended (take_all (length names - (at + 1)) (drop (at + 1) names) (omega (arith, length-drop (at + 1) names)))
    ∙ ap (λ n. tokens_ended (drop (n + 1) names)) before
    ∙ newest_are es e names (c.names.ensures ∙ ap (λ (x : Contents). x.points) is) in
    let same =
    ap (λ (x : Contents). extension_items m x k at c.as_slice.result.now e) is
    ∙ ap (λ (n : ℕ). extension_items m (contents_of (es ++ e ∷ [])) n at c.as_slice.result.now e) number
    ∙ ap (λ (n : ℕ). extension_items m (contents_of (es ++ e ∷ [])) (length es) n c.as_slice.result.now e) before
    ∙ ap (λ (l : List TokenRef). extension_items m (contents_of (es ++ e ∷ [])) (length es) (count es) l e) new
    ∙ extension_same m es e in
    subst (λ (l : List Bound). OnOk c.add_extension.result (c.add_extension.new.made ≡ c.args.made.now ++ l)) same c.add_extension.ensures
