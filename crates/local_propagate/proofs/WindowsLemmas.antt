-- The windows of a network before and after a group is set.
use Rattle.std.proofs.Common.{◌≡◌, ◌≢◌, ℕ, ◌<◌, List, [], length, refl, sym, ap, ◌∙◌, subst, arith, pos, inl, inr, get_or, set, All, Some, None}
use Rattle.std.proofs.lemmas.Bool.{cases_eq}
use Rattle.std.proofs.lemmas.List.{length-map, length-set, get_or-map, get_or-set_same, get_or-set_other}
use Rattle.std.specs.Prelude.{ℤ, Contains}
use Rattle.std.specs.List.{fold, count_by}
use Rattle.hs_base.specs.declared.net.Bound.{Bound}
use Rattle.hs_base.specs.declared.net.Group.{Group}
use Rattle.hs_base.specs.declared.net.Net.{Net}
use Rattle.hs_base.specs.Fits.{put}
use Rattle.net_laws.proofs.BetweenLemmas.{Has}
use Rattle.net_laws.proofs.ListLemmas.{contains_from}
use Rattle.local_propagate.specs.declared.windows.Windows.{Windows}
use Rattle.local_propagate.specs.declared.windows.TheConstants.{NEVER}
use Rattle.local_propagate.specs.Joined.{leaders_of, leader_at, place_of, IsNear, after_of, before_of}
use Rattle.local_propagate.specs.Narrowed.{raised, lowered, released}
use Rattle.local_propagate.specs.Windows.{AreWindowsOf, AreApart, time_of, set_times, low_of, high_of}
use Rattle.local_propagate.proofs.JoinedLemmas.{stands_at, list_near}
use Rattle.local_propagate.proofs.NarrowLemmas.{Raised, Lowered, raises, lowers, releases, leaves, raised_elsewhere, lowered_elsewhere, lowered_set}
use Rattle.local_propagate.proofs.SettingLemmas.{lookup_at, lookup_set, low_agree, high_agree, low_now, high_now, waits_now, has_after, has_before, at_place}

module _ (net : Net) (w : Windows) (of : AreWindowsOf net w) (g : ℕ) (ig : g < length w.times.items) where
  abbrev ls : List ℕ
  ls = leaders_of net.groups

  groups : length ls ≡ length net.groups
  groups = length-map net.groups (λ (z : Group). z.leader.0)

  -- a group's neighbours
  pub after_is : get_or w.after g [] ≡ after_of ls net.edges (leader_at net g)
  after_is = ap (λ z. get_or z g []) of.after ∙ get_or-map (after_of ls net.edges) ls g 0 [] (omega (arith, groups, ig, of.groups))

  pub before_is : get_or w.before g [] ≡ before_of ls net.edges (leader_at net g)
  before_is = ap (λ z. get_or z g []) of.before ∙ get_or-map (before_of ls net.edges) ls g 0 [] (omega (arith, groups, ig, of.groups))

  pub near_after : All (IsNear (length w.times.items)) (get_or w.after g [])
  near_after =
      let all : All (IsNear (length ls)) (after_of ls net.edges (leader_at net g)) = list_near ls (λ (e : Bound). e.from.0) (λ (e : Bound). record { group = place_of ls e.to.0; most = e.most }) net.edges (leader_at net g) (λ e ie.
      let j = of.joined.edges e ie in
      record { within = (stands_at ls e.to.0 of.joined.leaders j.to).within; low = j.low; high = j.high }) in
      rw (after_is, of.groups, ← groups) all

  pub near_before : All (IsNear (length w.times.items)) (get_or w.before g [])
  near_before =
      let all : All (IsNear (length ls)) (before_of ls net.edges (leader_at net g)) = list_near ls (λ (e : Bound). e.to.0) (λ (e : Bound). record { group = place_of ls e.from.0; most = e.most }) net.edges (leader_at net g) (λ e ie.
      let j = of.joined.edges e ie in
      record { within = (stands_at ls e.from.0 of.joined.leaders j.from).within; low = j.low; high = j.high }) in
      rw (before_is, of.groups, ← groups) all

  module _ (t : ℤ) (unset : time_of w g ≡ None) (new : Windows)
      (times : new.times.items ≡ set w.times.items g (Some t))
      (low : new.low.items ≡ fold (raised t) w.low.items (get_or w.before g []))
      (high : new.high ≡ fold (lowered new.times.items t) (set w.high g NEVER) (get_or w.after g []))
      (waits : new.waits.items ≡ fold released w.waits.items (get_or w.before g []))
      (after : new.after ≡ w.after)
      (before : new.before ≡ w.before) where
    abbrev a : ℕ
    a = leader_at net g

    il : g < length ls
    il = omega (arith, groups, ig, of.groups)

    time_is : (x : ℕ) → set_times net new x ≡ put (set_times net w) a t x
    time_is x = rw times (lookup_set net.groups w.times.items g t x of.joined.leaders (omega (arith, ig, of.groups)) ig)

    a_unset : set_times net w a ≡ None
    a_unset = lookup_at net.groups w.times.items g of.joined.leaders (omega (arith, ig, of.groups)) ∙ unset

    time_there : (i : ℕ) → i ≢ g → time_of new i ≡ time_of w i
    time_there i other = ap (λ z. get_or z i None) times ∙ get_or-set_other w.times.items g i (Some t) None other

    time_here : time_of new g ≡ Some t
    time_here = ap (λ z. get_or z g None) times ∙ get_or-set_same w.times.items g (Some t) None ig

    ends : (e : Bound) → Contains net.edges e → Contains ls e.from.0 × Contains ls e.to.0
    ends e ie = let j = of.joined.edges e ie in (j.from, j.to)

    windows_set : AreWindowsOf net new
    windows_set = record {
      joined = of.joined;
      groups = ap length times ∙ length-set w.times.items g (Some t) ∙ of.groups;
      after = after ∙ of.after;
      before = before ∙ of.before;
      low = λ i ii.
          let jj : i < length ls = omega (arith, ii, groups) in
          let r = raises t (get_or w.before g []) w.low.items i (omega (arith, ii, w.lows, of.groups)) in
          low_agree net.edges (set_times net new) (put (set_times net w) a t) (leader_at net i) (get_or new.low.items i (pos 0)) time_is
          (rw low (low_now ls net.edges of.joined.leaders ends (set_times net w) a t a_unset i jj (get_or w.low.items i (pos 0)) _ (of.low i ii) (subst (λ ns. Raised t ns (get_or w.low.items i (pos 0)) i (get_or (fold (raised t) w.low.items (get_or w.before g [])) i (pos 0))) before_is r)));
      high = λ i ii none.
          let jj : i < length ls = omega (arith, ii, groups) in
          let other : i ≢ g = λ same. absurd (let h : time_of new g ≡ None = subst (λ z. time_of new z ≡ None) same none in let k = time_here in cc) in
          let was : time_of w i ≡ None = sym (time_there i other) ∙ none in
          let kept : get_or (set w.high g NEVER) i (pos 0) ≡ get_or w.high i (pos 0) = get_or-set_other w.high g i NEVER (pos 0) other in
          let r = lowers t new.times.items (get_or w.after g []) (set w.high g NEVER) i (omega (arith, ii, w.highs, of.groups, length-set w.high g NEVER)) none in
          high_agree net.edges (set_times net new) (put (set_times net w) a t) (leader_at net i) (get_or new.high i (pos 0)) time_is
          (rw high (high_now ls net.edges of.joined.leaders ends (set_times net w) a t a_unset i jj new.times.items (get_or w.high i (pos 0)) _ (of.high i ii was)
          (subst (λ o. Lowered t new.times.items (after_of ls net.edges a) o i (get_or (fold (lowered new.times.items t) (set w.high g NEVER) (get_or w.after g [])) i (pos 0))) kept
          (subst (λ ns. Lowered t new.times.items ns (get_or (set w.high g NEVER) i (pos 0)) i (get_or (fold (lowered new.times.items t) (set w.high g NEVER) (get_or w.after g [])) i (pos 0))) after_is r))));
      never = λ i u ii is.
          let kept = lowered_set t new.times.items (get_or w.after g []) (set w.high g NEVER) i u is in
          ap (λ z. get_or z i (pos 0)) high ∙ kept ∙ elim (cases_eq i g) [
            | inl same ↦ ap (λ z. get_or (set w.high g NEVER) z (pos 0)) same ∙ get_or-set_same w.high g NEVER (pos 0) (omega (arith, ig, w.highs))
            | inr other ↦ get_or-set_other w.high g i NEVER (pos 0) other ∙ of.never i u ii (sym (time_there i other) ∙ is)
          ];
      waits = λ i ii.
          let jj : i < length ls = omega (arith, ii, groups) in
          let now = waits_now ls of.joined.leaders (set_times net w) (set_times net new) a t a_unset time_is i jj net.edges (λ e ie. (of.joined.edges e (contains_from net.edges e ie)).from) in
          let counted = ap (count_by (leaves i)) before_is in
          let r = releases (get_or w.before g []) w.waits.items i (omega (arith, ii, w.counts, of.groups)) (omega (arith, now, of.waits i ii, counted)) in
          omega (arith, r, now, counted, of.waits i ii, ap (λ z. get_or z i 0) waits);
    }

    others_kept : (i : ℕ) → AreApart net i g → (low_of new i ≡ low_of w i) × (high_of new i ≡ high_of w i)
    others_kept i apart =
        let is_time = time_there i apart.different in
        let kept : get_or (set w.high g NEVER) i (pos 0) ≡ get_or w.high i (pos 0) = get_or-set_other w.high g i NEVER (pos 0) apart.different in
        let same_low : get_or new.low.items i (pos 0) ≡ get_or w.low.items i (pos 0) = ap (λ z. get_or z i (pos 0)) low ∙ raised_elsewhere t (get_or w.before g []) w.low.items i (λ n j at_i.
        let f = has_before ls net.edges of.joined.leaders a n (subst (λ z. Has z n) before_is j) in
        apart.forth f.0 f.1 (at_place ls net.edges of.joined.leaders f.0.from.0 i (ends f.0 f.1).0 (f.3 ∙ at_i)) f.2) in
        let same_high : get_or new.high i (pos 0) ≡ get_or w.high i (pos 0) = ap (λ z. get_or z i (pos 0)) high ∙ lowered_elsewhere t new.times.items (get_or w.after g []) (set w.high g NEVER) i (λ n j at_i.
        let f = has_after ls net.edges of.joined.leaders a n (subst (λ z. Has z n) after_is j) in
        apart.back f.0 f.1 f.2 (at_place ls net.edges of.joined.leaders f.0.to.0 i (ends f.0 f.1).1 (f.3 ∙ at_i))) ∙ kept in
        (rw (is_time, same_low) refl, rw (is_time, same_high) refl)

    -- the windows after the group is set
    pub record Settled : Type 0 where
      pub windows : AreWindowsOf net new
      pub others : (i : ℕ) → AreApart net i g → (low_of new i ≡ low_of w i) × (high_of new i ≡ high_of w i)

    pub settled : Settled
    settled = record { windows = windows_set; others = others_kept }
