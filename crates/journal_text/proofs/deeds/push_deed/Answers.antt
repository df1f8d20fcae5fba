use Rattle.std.proofs.Common.{rules, ◌≡◌, ℕ, ◌+◌, ℤ, List, ◌++◌, sym, ap, ◌∙◌, codes}
use Rattle.std.specs.Fmt.{decimal, signed_decimal}
use Rattle.hs_base.specs.declared.mission.Mission.{Mission}
use Rattle.hs_base.specs.declared.plan.Extension.{Extension}
use Rattle.hs_base.specs.declared.net.Bound.{Bound}
use Rattle.hs_machine.specs.declared.history.Deed.TheVariants.{Stale}
use Rattle.hs_base.specs.Points.{Point, points_of}
use Rattle.hs_texts.specs.Written.{bound_in, body_in}
use Rattle.log_laws.specs.LogText.{at_text, deed_text}
use Rattle.plan_index.specs.Contents.{Contents, contents_of, extended}
use Rattle.plan_index.proofs.IndexLemmas.{contents_push}
use Rattle.journal_text.proofs.deeds.push_deed.Goals as goal

-- a stale entry, where qs are the points of the plan before it, and ps those of the plan with the extension
abbrev stale_in : Mission → ℕ → Extension → Bound → ℤ → ℤ → List Point → List Point → List ℕ
stale_in m now e b from to ps qs =
    codes "stale " ++ decimal (e.base + 1) ++ at_text now ++ codes " bound " ++ bound_in m ps b
    ++ codes " times " ++ signed_decimal from ++ codes " " ++ signed_decimal to ++ codes "\n" ++ body_in m qs e

stale_in-points : (m : Mission) (now : ℕ) (e : Extension) (b : Bound) (from to : ℤ) (c : Contents) (es : List Extension) → c ≡ contents_of es → stale_in m now e b from to (extended c e).points c.points ≡ deed_text m now es (Stale e b from to)
stale_in-points m now e b from to c es is =
    ap (λ (d : Contents). stale_in m now e b from to (extended d e).points d.points) is ∙ ap (λ (d : Contents). stale_in m now e b from to d.points (points_of es)) (sym (contents_push es e))

pub returns-in-Stale : goal.returns-in-Stale
returns-in-Stale c = λ es is.
    let written = stale_in-points c.args.mission.now c.args.now c.in-Stale.extension c.in-Stale.bound c.in-Stale.from_time c.in-Stale.to_time c.args.index.now es is in
    let stale : deed_text c.args.mission.now c.args.now es c.args.deed.now ≡ deed_text c.args.mission.now c.args.now es (Stale c.in-Stale.extension c.in-Stale.bound c.in-Stale.from_time c.in-Stale.to_time) = ap (deed_text c.args.mission.now c.args.now es) c.in-Stale.is in
    rw (stale, ← written) (search (rules, c.push_stale.ensures))
