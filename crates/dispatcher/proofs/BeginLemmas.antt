-- The state and the index in which a Dispatch begins.
use Rattle.std.proofs.Common.{◌≡◌, ℕ, ◌<◌, Bool, List, [], length, refl, sym, ap, ◌∙◌, subst, arith, inl, inr, map, get_or, Option, Some, None}
use Rattle.std.proofs.lemmas.Bool.{cases_lt}
use Rattle.std.proofs.lemmas.List.{get_or_past}
use Rattle.std.proofs.lemmas.List.Elements.{Contains-get_or}
use Rattle.std.proofs.lemmas.List.FromFn.{length-map-range_with_len}
use Rattle.std.specs.Prelude.{ℤ, ◌≤ℤ◌}
use Rattle.hs_base.specs.declared.limits.TheConstants.{LAST}
use Rattle.hs_base.specs.declared.plan.Time.{Time}
use Rattle.hs_base.specs.declared.net.Group.{Group}
use Rattle.hs_base.specs.declared.net.Net.{Net}
use Rattle.hs_base.specs.Schedule.{numbers_from}
use Rattle.hs_base.specs.Network.{spread}
use Rattle.hs_base.specs.Reduced.{IsReducedOf}
use Rattle.hs_base.specs.Fits.{time_at}
use Rattle.hs_base.specs.Dispatch.{IsReached}
use Rattle.net_laws.proofs.NetworkLemmas.{offset_within, group_time_within}
use Rattle.local_propagate.specs.declared.windows.Windows.{Windows}
use Rattle.local_propagate.specs.Windows.{times_of, time_of}
use Rattle.dispatcher.specs.declared.places.Place.{Place}
use Rattle.dispatcher.specs.State.{IsLawful, times_in}
use Rattle.dispatcher.specs.Places.{ArePlaces, member, place_at}
use Rattle.dispatcher.specs.Index.{AreSetBy, IsWithin}
use Rattle.dispatcher.proofs.KeptLemmas.{time_of_group}
use Rattle.dispatcher.proofs.TimesLemmas.{times_are}

module _ (c : ℕ) (net : Net) (is : IsReducedOf c (spread net) net) (ts : List Time) (n : ℤ) (now : IsReached c net (time_at ts) n) (count : ℕ) (same : count ≡ c) (by : List (Option ℤ)) (by_is : by ≡ map (time_at ts) (numbers_from 0 count)) where
  pub by_size : length by ≡ c
  by_size = ap length by_is ∙ length-map-range_with_len (time_at ts) 0 count ∙ same

  times_by : times_in by ≡ time_at ts
  times_by = ap times_in by_is ∙ times_are ts count (λ x t e. omega (arith, now.within x t e, same))

  module _ (read : List (Option ℤ)) (read_is : read ≡ by) where
    read_size : length read ≡ c
    read_size = ap length read_is ∙ by_size

    pub reduced_by : IsReducedOf (length read) (spread net) net
    reduced_by = subst (λ z. IsReducedOf z (spread net) net) (sym read_size) is

    pub reached_by : IsReached (length read) net (times_in read) n
    reached_by = subst (λ z. IsReached z net (times_in read) n) (sym read_size) (subst (λ z. IsReached c net z n) (sym (ap times_in read_is ∙ times_by)) now)

    pub places_by : (ps found : List Place) → found ≡ ps → ArePlaces count net ps → ArePlaces (length read) net found
    places_by ps found is_found are = subst (λ z. ArePlaces (length read) net z) (sym is_found) (subst (λ z. ArePlaces z net ps) (same ∙ sym read_size) are)

    module _ (ps : List Place) (are : ArePlaces (length read) net ps) (w : Windows) (set_by : AreSetBy net read w) where
      pub group_known : (x : ℕ) → x < length read → (place_at ps x).group < length (times_of w)
      group_known x ix = omega (arith, (are.each x ix).within, set_by.are.groups)

      pub offset_known : (x : ℕ) → x < length read → IsWithin (place_at ps x).offset
      offset_known x ix =
          let p : Place = place_at ps x in
          let s = are.each x ix in
          let none : Group = record { leader = record { 0 = 0 }; members = [] } in
          let o = offset_within c net is (get_or net.groups p.group none) (member x p.offset) (Contains-get_or net.groups p.group none s.within) (s.stands none) in
          record { low = o.low; high = o.high }

      pub time_known : (i : ℕ) (t : ℤ) → time_of w i ≡ Some t → IsWithin t
      time_known i t e = elim (cases_lt i (length net.groups)) [
        | inr past ↦ absurd (let none : time_of w i ≡ None = get_or_past w.times.items i None (omega (arith, past, set_by.are.groups)) in cc)
        | inl ii ↦
            let none : Group = record { leader = record { 0 = 0 }; members = [] } in
            let r = group_time_within (length read) net reduced_by (times_in read) n reached_by (get_or net.groups i none) t (Contains-get_or net.groups i none ii) (sym (time_of_group net read (times_in read) w set_by.are set_by.by i none ii) ∙ e) in
            record { low = r.low; high = r.high }
      ]

  pub begun_lawful : (observed : List Bool) → length observed ≡ c → n ≤ℤ LAST → IsLawful (record { net = net; observed = observed; times = by; tick = n })
  begun_lawful observed size last = record {
    reduced = reduced_by by refl;
    observed = size ∙ sym by_size;
    reached = reached_by by refl;
    last = last;
  }
