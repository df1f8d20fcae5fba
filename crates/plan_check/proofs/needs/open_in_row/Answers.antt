use Rattle.std.proofs.Common.{◌≡◌, ℕ, ◌+◌, Some, None, List, length, map, get_or, nat_eq, inl, inr, sym, ap, subst, arith}
use Rattle.std.proofs.lemmas.Bool.{cases_lt}
use Rattle.std.proofs.lemmas.List.{length-map}
use Rattle.std.proofs.lemmas.Option.{slice_get-get_or, slice_get_within}
use Rattle.std.specs.Prelude.{Bool, slice_get}
use Rattle.hs_base.specs.declared.mission.Kind.{Kind}
use Rattle.hs_base.specs.Needs.{needs_of}
use Rattle.plan_index.specs.declared.placed.PlacedToken.{PlacedToken}
use Rattle.plan_index.specs.Lines.{kind_in}
use Rattle.plan_check.specs.Open.{IsFirstOpen, IsOpenAt}
use Rattle.plan_check.proofs.NeedLemmas.{open_at, at_open, slice_get-mapped}
use Rattle.plan_check.proofs.needs.open_in_row.Goals as goal

abbrev pub no_token : PlacedToken
no_token = record { value = record { 0 = 0 }; end = record { 0 = 0 } }

pub returns-in-Some : goal.returns-in-Some
returns-in-Some c =
    let m = c.args.mission.now in
    let set = c.args.claims.now.set in
    let v = c.args.sv in
    let row = map (kind_in v.0) c.args.row.now in
    let place = c.loop-place.place in
    let k = kind_in v.0 (get_or c.args.row.now place no_token) in
    let here : slice_get row place ≡ Some k = slice_get-mapped (kind_in v.0) c.args.row.now place (get_or c.args.row.now place no_token) (slice_get-get_or c.args.row.now place no_token c.loop-place-test.true) in
    let first : IsFirstOpen (needs_of m k) set (record { sv = v; place = place }) (nat_eq (place + 1) (length row)) (Some c.in-Some.need) =
    subst (λ (n : ℕ). IsFirstOpen (needs_of m k) set (record { sv = v; place = place }) (nat_eq (place + 1) n) (Some c.in-Some.need)) (sym (length-map c.args.row.now (kind_in v.0))) c.in-Some.ensures in (
      c.loop-place.auto.place,
      open_at m set v row place k here c.in-Some.need first.0,
      c.loop-place.invariant,
      λ i less o. first.1 i less (at_open m set v row place k here i o),
    )

pub loop-place-preserved : goal.loop-place-preserved
loop-place-preserved c = λ p i from less o.
    let m = c.args.mission.now in
    let set = c.args.claims.now.set in
    let v = c.args.sv in
    let row = map (kind_in v.0) c.args.row.now in
    let place = c.loop-place.place in
    let k = kind_in v.0 (get_or c.args.row.now place no_token) in
    let here : slice_get row place ≡ Some k = slice_get-mapped (kind_in v.0) c.args.row.now place (get_or c.args.row.now place no_token) (slice_get-get_or c.args.row.now place no_token c.loop-place-test.true) in
    let none : IsFirstOpen (needs_of m k) set (record { sv = v; place = place }) (nat_eq (place + 1) (length row)) None =
    subst (λ (n : ℕ). IsFirstOpen (needs_of m k) set (record { sv = v; place = place }) (nat_eq (place + 1) n) None) (sym (length-map c.args.row.now (kind_in v.0))) c.in_default.ensures in
    elim (cases_lt p place) [
      | inl earlier ↦ c.loop-place.invariant p i from earlier o
      | inr at ↦ let same : p ≡ place = omega (arith, less, at) in none i (at_open m set v row place k here i (subst (λ (x : ℕ). IsOpenAt m set v row x i) same o))
    ]

pub returns : goal.returns
returns c = λ p i from o.
    let row = map (kind_in c.args.sv.0) c.args.row.now in
    let there = slice_get_within row p o.kind o.is_kind in
    let past = c.loop-place-test.false in
    c.loop-place.invariant p i from (omega (arith, there, past, length-map c.args.row.now (kind_in c.args.sv.0))) o
