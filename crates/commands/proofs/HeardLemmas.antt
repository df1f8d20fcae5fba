-- What devices told by two calls.
use Rattle.std.proofs.Common.{◌≡◌, ℕ, zero, suc, ◌≤◌, List, [], ◌∷◌, length, refl, sym, ap, ◌∙◌, subst, arith, Option, Some, None, append-nil}
use Rattle.std.specs.Prelude.{slice_get, slice_set}
use Rattle.std.specs.List.{AllByRecursion}
use Rattle.hs_machine.specs.Reports.{Polls}
use Rattle.hs_port.specs.Causes.{Rose}
use Rattle.hs_port.specs.Told.{Stays}
use Rattle.simulation_laws.specs.Ended.{Adds, AreAdded, Heard, RoseAt}
use Rattle.sim_run.specs.Runs.{told}
use Rattle.sim_run.proofs.ToldLemmas.{adds_none, adds_stays, rose_later}
use Rattle.commands.specs.Runs.{AreQuiet, IsQuiet}

same_stays : (o : Option Polls) → Stays o o
same_stays None = tt
same_stays (Some l) = refl

module _ {D : Type 0} (polls : D → Option Polls) (faults : D → ℕ) where
  abbrev heard_of : D → D → Heard
  heard_of x y = record { before = polls x; after = polls y; faults = faults x; faults_after = faults y }

  -- devices that weren't called are quiet
  pub quiet_begins : (xs : List D) → AreQuiet (told polls faults xs xs)
  quiet_begins [] = tt
  quiet_begins (x ∷ xs) = (record { adds = adds_none (polls x) (polls x) (same_stays (polls x)); later = omega arith }, quiet_begins xs)

  -- so are they with one more that told nothing
  pub quiet_next : (xs ys : List D) (i : ℕ) (old new : D) → AreQuiet (told polls faults xs ys) → slice_get ys i ≡ Some old → Stays (polls old) (polls new) → faults old ≤ faults new → AreQuiet (told polls faults xs (slice_set ys i new))
  quiet_next [] [] zero old new h at stays later = h
  quiet_next [] [] (suc i) old new h at stays later = h
  quiet_next [] (y ∷ ys) zero old new h at stays later = tt
  quiet_next [] (y ∷ ys) (suc i) old new h at stays later = tt
  quiet_next (x ∷ xs) [] zero old new h at stays later = h
  quiet_next (x ∷ xs) [] (suc i) old new h at stays later = h
  quiet_next (x ∷ xs) (y ∷ ys) zero old new h at stays later =
      let e : Some y ≡ Some old = at in
      let same : y ≡ old = cc in (
        record {
          adds = adds_stays (polls x) (polls old) (polls new) [] (rw same at h.0.adds) stays;
          later = let l : faults x ≤ faults old = rw same at h.0.later in omega (arith, l, later);
        },
        h.1,
      )
  quiet_next (x ∷ xs) (y ∷ ys) (suc i) old new h at stays later = (h.0, quiet_next xs ys i old new h.1 at stays later)

  -- what a device told after a quiet call is all that it told
  added_all : (before mid now : Option Polls) (l : Polls) → Adds before mid [] → Adds mid now l → Adds before now l
  added_all None mid now l quiet adds = tt
  added_all (Some old) None now l quiet adds = absurd (cc)
  added_all (Some old) (Some more) now l quiet adds =
      let same : more ≡ old = let e : Some more ≡ Some old = quiet ∙ ap (λ (x : Polls). Some x) (append-nil old) in cc in
      rw same at adds

  pub added_later : (xs ys zs : List D) (l : ℕ → Polls) → length xs ≡ length ys → AreQuiet (told polls faults xs ys) → AreAdded (told polls faults ys zs) l → AreAdded (told polls faults xs zs) l
  added_later [] ys zs l size quiet added d h at = absurd (let e : None ≡ Some h = at in cc)
  added_later (x ∷ xs) [] zs l size quiet added d h at = absurd (let e : suc (length xs) ≡ 0 = size in cc)
  added_later (x ∷ xs) (y ∷ ys) [] l size quiet added d h at = absurd (let e : None ≡ Some h = at in cc)
  added_later (x ∷ xs) (y ∷ ys) (z ∷ zs) l size quiet added zero h at =
      let e : Some (heard_of x z) ≡ Some h = at in
      let is : heard_of x z ≡ h = cc in
      subst (λ (k : Heard). Adds k.before k.after (l zero)) is (added_all (polls x) (polls y) (polls z) (l zero) quiet.0.adds (added zero (heard_of y z) refl))
  added_later (x ∷ xs) (y ∷ ys) (z ∷ zs) l size quiet added (suc d) h at =
      let e : suc (length xs) ≡ suc (length ys) = size in
      let rest : length xs ≡ length ys = cc in
      added_later xs ys zs (λ n. l (suc n)) rest quiet.1 (λ n w k. added (suc n) w k) d h at

  pub rose_all : (xs ys zs : List D) (d : ℕ) → length xs ≡ length ys → AreQuiet (told polls faults xs ys) → RoseAt (told polls faults ys zs) d → RoseAt (told polls faults xs zs) d
  rose_all [] [] zs d size quiet rose = rose
  rose_all [] (y ∷ ys) zs d size quiet rose = absurd (let e : 0 ≡ suc (length ys) = size in cc)
  rose_all (x ∷ xs) [] zs d size quiet rose = absurd (let e : suc (length xs) ≡ 0 = size in cc)
  rose_all (x ∷ xs) (y ∷ ys) [] d size quiet rose = absurd (let e : None ≡ Some rose.device = rose.is in cc)
  rose_all (x ∷ xs) (y ∷ ys) (z ∷ zs) zero size quiet rose =
      let e : Some (heard_of y z) ≡ Some rose.device = rose.is in
      let is : heard_of y z ≡ rose.device = cc in
      let more : Rose (faults y) (faults z) = subst (λ (k : Heard). Rose k.faults k.faults_after) (sym is) rose.rose in
      record { device = heard_of x z; is = refl; rose = rose_later (faults x) (faults y) (faults z) quiet.0.later more }
  rose_all (x ∷ xs) (y ∷ ys) (z ∷ zs) (suc d) size quiet rose =
      let e : suc (length xs) ≡ suc (length ys) = size in
      let shorter : length xs ≡ length ys = cc in
      let rest = rose_all xs ys zs d shorter quiet.1 (record { device = rose.device; is = rose.is; rose = rose.rose }) in
      record { device = rest.device; is = rest.is; rose = rest.rose }
