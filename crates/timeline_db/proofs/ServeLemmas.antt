-- Which needs are served where one more is served or left.
use Rattle.std.proofs.Common.{◌≡◌, ℕ, Bool, true, false, [], ◌∷◌, nat_eq, refl, ap, ◌∙◌}
use Rattle.std.specs.List.{list_any}
use Rattle.std.specs.Prelude.{◌&&◌, ◌||◌}
use Rattle.hs_base.specs.Checked.{supports_of}
use Rattle.hs_base.specs.Points.{stop}
use Rattle.hs_base.specs.declared.plan.Support.{Support}
use Rattle.hs_base.specs.declared.plan.TokenRef.{TokenRef}
use Rattle.search_tree.specs.Begun.{Begun}
use Rattle.search_tree.specs.Flaws.{is_served}
use Rattle.search_tree.specs.Partial.{Partial, held_by}
use Rattle.search_tree.specs.Parts.{do_part}
use Rattle.search_tree.specs.declared.backing.Backing.{Backing}
use Rattle.search_tree.specs.declared.backing.Deferral.{Deferral}
use Rattle.search_tree.specs.declared.held.Held.{Held}
use Rattle.search_tree.specs.declared.part.Part.TheVariants.{Deferred, Supported}
use Rattle.plan_check.proofs.SupportLemmas.{any-append}

or-middle : (a s d t : Bool) → ((a || (s || (t || false))) || d) ≡ (((a || s) || d) || t)
or-middle true s d t = refl
or-middle false true d t = refl
or-middle false false true true = refl
or-middle false false true false = refl
or-middle false false false true = refl
or-middle false false false false = refl

or-end : (a s d t : Bool) → ((a || s) || (d || (t || false))) ≡ (((a || s) || d) || t)
or-end true s d t = refl
or-end false true d t = refl
or-end false false true t = refl
or-end false false false true = refl
or-end false false false false = refl

-- a need is served after a support where it was, or it is the one of the support
pub served_supported : (b : Begun) (p : Partial) (t : TokenRef) (j : ℕ) (by : TokenRef) (x : Held) (k : ℕ) → is_served b (do_part p (Supported t j by)) x k ≡ (is_served b p x k || (nat_eq (held_by p t).stop x.stop && nat_eq j k))
served_supported b p t j by x k =
    let s : Backing = record { token = held_by p t; need = j; by = held_by p by } in
    let a = list_any (λ (s : Support). nat_eq (stop b.base s.token) x.stop && nat_eq s.need k) (supports_of b.base) in
    let d = list_any (λ (d : Deferral). nat_eq d.stop x.stop && nat_eq d.need k) p.deferred in
    let test : Backing → Bool = λ s. nat_eq s.token.stop x.stop && nat_eq s.need k in
    ap (λ (q : Bool). (a || q) || d) (any-append test p.supports (s ∷ [])) ∙ or-middle a (list_any test p.supports) d (nat_eq (held_by p t).stop x.stop && nat_eq j k)

-- the same of a need that is left to a later plan
pub served_deferred : (b : Begun) (p : Partial) (t : TokenRef) (j : ℕ) (x : Held) (k : ℕ) → is_served b (do_part p (Deferred t j)) x k ≡ (is_served b p x k || (nat_eq (held_by p t).stop x.stop && nat_eq j k))
served_deferred b p t j x k =
    let e : Deferral = record { stop = (held_by p t).stop; need = j } in
    let a = list_any (λ (s : Support). nat_eq (stop b.base s.token) x.stop && nat_eq s.need k) (supports_of b.base) in
    let s = list_any (λ (s : Backing). nat_eq s.token.stop x.stop && nat_eq s.need k) p.supports in
    let test : Deferral → Bool = λ d. nat_eq d.stop x.stop && nat_eq d.need k in
    ap (λ (q : Bool). (a || s) || q) (any-append test p.deferred (e ∷ [])) ∙ or-end a s (list_any test p.deferred) (nat_eq (held_by p t).stop x.stop && nat_eq j k)
