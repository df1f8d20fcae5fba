-- Splits, joins, notes and lost tries keep the rule.
use Rattle.std.proofs.Common.{◌≡◌, ◌⊎◌, ℕ, ◌+◌, ◌-◌, ◌<◌, ◌≤◌, ◌==◌, List, [], ◌∷◌, ◌++◌, length, set, true, false, refl, sym, ap, ◌∙◌, subst, ⊎_elim, inl, inr, arith}
use Rattle.std.proofs.lemmas.Bool.{cases_lt}
use Rattle.std.specs.Prelude.{slice_index}
use mathlib.Core.Option.{some, none}
use lib.ListN.{get_elem?}
use lib.Seq.{set-get_or}
use prog.Atomic.{either}
use Rattle.atomic_table.specs.Table.{State, Me, step, keeps, Allows, Splits, Joins}
use Rattle.atomic_table.proofs.Lists.{set_again, set_else, at_longer, exchanged}
use Rattle.hs_machine.specs.declared.history.Entry.{Entry}
use Rattle.hs_base.specs.declared.mission.Mission.{Mission}
use Rattle.hs_machine.specs.Histories.{IsPrefix}
use Rattle.exec_lock.specs.declared.view.SeatView.{SeatView}
use Rattle.exec_lock.specs.Passes.{placed, of, is_in, in_runs, covers}
use Rattle.exec_lock.specs.Rule.{Agrees, IsFree, IsHeld, IsKept, heads, when, nobody, seat_left, seat_right, note_of, note_heard, seats_merged, learns_order}
use Rattle.exec_lock.proofs.CountLemmas.{total_set, total_two, total_push, is_in_least, is_in_here, is_in_where, in_runs-append, heads-append, not_head, covers-cut, covers-merged, covers_none}
use Rattle.exec_lock.proofs.PrefixLemmas.{prefix_nil, shorter_first, longer_prefix, of-append, when_zero, when_some, own_fewer, own_none, own_both}
use Rattle.exec_lock.proofs.SeatLemmas.{no_turn, each_set, each_push, turn_stays, stood_before}

module _ {X : Type 0} (mission_of : X → Mission) (history_of : X → List Entry) (key : X) where
  abbrev Rule : State X SeatView → Type 0
  Rule = IsKept mission_of history_of key

  abbrev base : ℕ
  base = length (history_of key)

  abbrev AgreesNow : List Entry → List Entry → SeatView → Type 0
  AgreesNow = Agrees (mission_of key) base

  abbrev with_seats : State X SeatView → List SeatView → State X SeatView
  with_seats s seats = record { words = s.words; homes = s.homes; views = seats }

  abbrev Turn : State X SeatView → List Entry → Type 0
  Turn s log = IsFree mission_of history_of key s log ⊎ IsHeld mission_of history_of key s log

  -- a change of seats in which the one that has the turn, if there is one, stays
  turn_kept : (s : State X SeatView) (log : List Entry) (seats : List SeatView) → ((j : ℕ) (u : SeatView) → u.holds ≡ true → get_elem? s.views j ≡ some u → get_elem? seats j ≡ some u)
      → ((j : ℕ) (u : SeatView) → get_elem? seats j ≡ some u → (u.holds ≡ false) ⊎ (get_elem? s.views j ≡ some u)) → Turn s log → Turn (with_seats s seats) log
  turn_kept s log seats there back (inl f) = inl record {
    core = f.core;
    words = f.words;
    homes = f.homes;
    history = f.history;
    opening = f.opening;
    none = λ j u e. ⊎_elim (λ h. h) (λ was. f.none j u was) (back j u e);
  }
  turn_kept s log seats there back (inr f) = inr record {
    holder = f.holder;
    seat = f.seat;
    at = there f.holder f.seat f.holding f.at;
    holding = f.holding;
    words = f.words;
    homes = f.homes;
    only = λ j u e h. ⊎_elim (λ idle. no_turn (sym idle ∙ h)) (λ was. f.only j u was h) (back j u e);
  }

  -- an idle seat is split into two that share its numbers out and agree with the history
  splits : (id : ℕ) (v left right : SeatView) → v.holds ≡ false → left.holds ≡ false → right.holds ≡ false → ((n : ℕ) → covers n left.view + covers n right.view ≡ covers n v.view)
      → ((log later : List Entry) → AgreesNow log later v → AgreesNow log later left × AgreesNow log later right) → Splits Rule id v left right
  splits id v left right idle idle_left idle_right counts agree s k at =
      let f = agree k.log k.later (k.seats id v at) in record {
        log = k.log;
        later = k.later;
        begins = k.begins;
        seats = each_push (λ j u. AgreesNow k.log k.later u) (set s.views id left) right (each_set (λ j u. AgreesNow k.log k.later u) s.views id left f.0 (λ j u _ e. k.seats j u e)) (λ _. f.1);
        once = λ n. let a = total_push n (set s.views id left) right in let t = total_set n s.views id v left at in let c = counts n in let o = k.once n in omega (arith, a, t, c, o);
        others = k.others;
        turn = turn_kept s k.log (set s.views id left ++ right ∷ [])
            (λ j u h e. at_longer (set s.views id left) (right ∷ []) j u (turn_stays s.views id v left at idle j u h e))
            (each_push (λ j u. (u.holds ≡ false) ⊎ (get_elem? s.views j ≡ some u)) (set s.views id left) right (stood_before s.views id left idle_left) (λ _. inl idle_right))
            k.turn;
      }

  -- the last numbers of a run are cut off
  pub cuts : (k id : ℕ) (v : SeatView) → v.holds ≡ false → 0 < k → k < v.view.count → Splits Rule id v (seat_left k v) (seat_right k v)
  cuts k id v idle some_number few = splits id v (seat_left k v) (seat_right k v) idle idle refl (λ n. covers-cut n k v.view (omega (arith, few))) agree
    where
      agree : (log later : List Entry) → AgreesNow log later v → AgreesNow log later (seat_left k v) × AgreesNow log later (seat_right k v)
      agree log later m = (
        record {
          opened = λ _. m.opened (omega (arith, few));
          seen = m.seen;
          told = m.told;
          own = λ n. let c = covers-cut n k v.view (omega (arith, few)) in own_fewer (covers n v.view) (covers n (seat_left k v).view) (of n v.view.calls) (of n (placed base later)) (m.own n) (omega (arith, c))
              (λ some_v none_left. let w = is_in_where (v.view.first + (v.view.count - k)) k n (omega (arith, c, some_v, none_left)) in let w0 = w.0 in let w1 = w.1 in m.fresh n (omega (arith, w0, few)) (omega (arith, w1, few)));
          fresh = λ n lo up. m.fresh n lo (omega (arith, up));
          spent = m.spent;
          holds = λ h. no_turn (sym idle ∙ h);
        },
        record {
          opened = λ _. m.opened (omega (arith, few));
          seen = m.seen;
          told = prefix_nil v.view.seen;
          own = λ n. own_none (covers n (seat_right k v).view) (of n (placed base later))
              (λ some_right. let w = is_in_where (v.view.first + (v.view.count - k)) k n (omega (arith, some_right)) in let w0 = w.0 in let w1 = w.1 in let c = covers-cut n k v.view (omega (arith, few)) in
              sym (m.own n ∙ when_some (covers n v.view) (of n (placed base later)) (omega (arith, c, some_right))) ∙ m.fresh n (omega (arith, w0, few)) (omega (arith, w1, few)));
          fresh = λ n _ _. refl;
          spent = λ n h _. absurd (omega (arith, h));
          holds = λ h. no_turn h;
        },
      )

  -- a seat with no number and no call agrees with the history, where it has seen a prefix of it
  empty_agrees : (log later : List Entry) (s : SeatView) → s.view.count ≡ 0 → s.view.joined ≡ [] → s.view.calls ≡ [] → IsPrefix s.view.seen log → IsPrefix s.told s.view.seen → s.holds ≡ false → AgreesNow log later s
  empty_agrees log later s none_run none_joined none_calls seen told idle =
      let nothing : (n : ℕ) → of n s.view.calls ≡ [] = λ n. ap (of n) none_calls in record {
        opened = λ h. absurd (omega (arith, h, none_run));
        seen = seen;
        told = told;
        own = λ n. nothing n ∙ sym (when_zero (covers n s.view) (of n (placed base later)) (covers_none n s.view none_run none_joined));
        fresh = λ n _ _. nothing n;
        spent = λ n _ _. nothing n;
        holds = λ h. no_turn (sym idle ∙ h);
      }

  -- a note is made
  pub notes : (id : ℕ) (v : SeatView) → v.holds ≡ false → Splits Rule id v v (note_of v)
  notes id v idle = splits id v v (note_of v) idle idle refl (λ n. let z = covers_none n (note_of v).view refl refl in omega (arith, z)) (λ log later m. (m, empty_agrees log later (note_of v) refl refl refl m.seen (prefix_nil v.view.seen) refl))

  -- two idle seats become one that answers for the numbers of both and agrees with the history
  joins : (id other : ℕ) (v w both : SeatView) → v.holds ≡ false → w.holds ≡ false → both.holds ≡ false → ((n : ℕ) → covers n both.view ≡ covers n v.view + covers n w.view)
      → ((log later : List Entry) → AgreesNow log later v → AgreesNow log later w → ((n : ℕ) → covers n v.view + covers n w.view ≤ 1) → AgreesNow log later both) → Joins Rule id v other w both nobody
  joins id other v w both idle idle_w idle_both counts agree s k at apart there =
      let there' : get_elem? s.views other ≡ some w = sym (set_else s.views id other both apart) ∙ there in
      let once' : (n : ℕ) → covers n v.view + covers n w.view ≤ 1 = λ n. let t = total_two n s.views id other v w (λ e. apart (sym e)) at there' in let o = k.once n in let l = is_in_least 0 4294967295 n in omega (arith, t, o, l) in
      let f = agree k.log k.later (k.seats id v at) (k.seats other w there') once' in record {
        log = k.log;
        later = k.later;
        begins = k.begins;
        seats = each_set (λ j u. AgreesNow k.log k.later u) (set s.views id both) other nobody (empty_agrees k.log k.later nobody refl refl refl (prefix_nil k.log) (prefix_nil []) refl)
            (λ j u _ e. each_set (λ i x. AgreesNow k.log k.later x) s.views id both f (λ i x _ e'. k.seats i x e') j u e);
        once = λ n. let a = total_set n s.views id v both at in let b = total_set n (set s.views id both) other w nobody there in let z = covers_none n nobody.view refl refl in let c = counts n in let o = k.once n in omega (arith, a, b, z, c, o);
        others = k.others;
        turn = turn_kept s k.log (set (set s.views id both) other nobody)
            (λ j u h e. turn_stays (set s.views id both) other w nobody there idle_w j u h (turn_stays s.views id v both at idle j u h e))
            (λ j u e. ⊎_elim (λ h. inl h) (λ was. stood_before s.views id both idle_both j u was) (stood_before (set s.views id both) other nobody refl j u e))
            k.turn;
      }

  -- a joined number that begins no joined run made no call
  joined_spent : (log later : List Entry) (v w : SeatView) → AgreesNow log later v → AgreesNow log later w → (n : ℕ) → covers n v.view + covers n w.view ≤ 1
      → 0 < in_runs n (v.view.joined ++ record { first = w.view.first; count = w.view.count } ∷ w.view.joined) → heads n (v.view.joined ++ record { first = w.view.first; count = w.view.count } ∷ w.view.joined) ≡ 0 → of n v.view.calls ++ of n w.view.calls ≡ []
  joined_spent log later v w m o n once inside no_head =
      let a = in_runs-append n v.view.joined (record { first = w.view.first; count = w.view.count } ∷ w.view.joined) in
      let h = heads-append n v.view.joined (record { first = w.view.first; count = w.view.count } ∷ w.view.joined) in
      let none_v : covers n v.view ≡ 0 → of n v.view.calls ≡ [] = λ z. m.own n ∙ when_zero (covers n v.view) (of n (placed base later)) z in
      let none_w : covers n w.view ≡ 0 → of n w.view.calls ≡ [] = λ z. o.own n ∙ when_zero (covers n w.view) (of n (placed base later)) z in
      ⊎_elim
      (λ (mine : 0 < in_runs n v.view.joined). λ i. m.spent n mine (omega (arith, h, no_head)) i ++ none_w (omega (arith, once, mine)) i)
      (λ (other : in_runs n v.view.joined ≤ 0). ⊎_elim
      (λ (run : 0 < is_in w.view.first w.view.count n). let r = is_in_where w.view.first w.view.count n run in let r0 = r.0 in let head = not_head w.view.first n in
      λ i. none_v (omega (arith, once, run)) i ++ o.fresh n (let ne = head (omega (arith, h, no_head)) in omega (arith, r0, ne)) r.1 i)
      (λ (no_run : is_in w.view.first w.view.count n ≤ 0). λ i. none_v (omega (arith, once, a, inside, other, no_run)) i ++ o.spent n (omega (arith, a, inside, other, no_run)) (omega (arith, h, no_head)) i)
      (cases_lt 0 (is_in w.view.first w.view.count n)))
      (cases_lt 0 (in_runs n v.view.joined))

  -- a seat takes in another one
  pub merges : (id other : ℕ) (v w : SeatView) → v.holds ≡ false → w.holds ≡ false → Joins Rule id v other w (seats_merged v w) nobody
  merges id other v w idle idle_w = joins id other v w (seats_merged v w) idle idle_w idle (λ n. covers-merged n v.view w.view) (λ log later m o once. record {
    opened = m.opened;
    seen = longer_prefix v.view.seen w.view.seen log m.seen o.seen;
    told = shorter_first v.view.seen w.view.seen log m.seen o.seen;
    own = λ n. of-append n v.view.calls w.view.calls ∙ (own_both (covers n v.view) (covers n w.view) (of n v.view.calls) (of n w.view.calls) (of n (placed base later)) (once n) (m.own n) (o.own n)
        ∙ ap (λ c. when c (of n (placed base later))) (sym (covers-merged n v.view w.view)));
    fresh = λ n lo up. of-append n v.view.calls w.view.calls ∙ (λ i. m.fresh n lo up i
        ++ (o.own n ∙ when_zero (covers n w.view) (of n (placed base later)) (let h = is_in_here v.view.first v.view.count n (omega (arith, lo)) up in let l = once n in omega (arith, h, l))) i);
    spent = λ n inside no_head. of-append n v.view.calls w.view.calls ∙ joined_spent log later v w m o n (once n) inside no_head;
    holds = λ h. no_turn (sym idle ∙ h);
  })

  -- a seat takes in a note
  pub hears : (id other : ℕ) (v w : SeatView) → v.holds ≡ false → w.holds ≡ false → w.view.count ≡ 0 → w.view.joined ≡ [] → Joins Rule id v other w (note_heard v w) nobody
  hears id other v w idle idle_w none_run none_joined =
      joins id other v w (note_heard v w) idle idle_w idle (λ n. let z = covers_none n w.view none_run none_joined in omega (arith, z)) (λ log later m o once. record {
        opened = m.opened;
        seen = longer_prefix v.view.seen w.view.seen log m.seen o.seen;
        told = shorter_first v.view.seen w.view.seen log m.seen o.seen;
        own = m.own;
        fresh = m.fresh;
        spent = m.spent;
        holds = λ h. no_turn (sym idle ∙ h);
      })

  unchanged : (s : State X SeatView) (id : ℕ) (v : SeatView) → Rule s → get_elem? s.views id ≡ some v → Rule record { words = set s.words 0 (slice_index s.words 0); homes = s.homes; views = set s.views id v }
  unchanged s id v k at = subst Rule (λ i. record { words = sym (set-get_or s.words 0 0) i; homes = s.homes; views = sym (set_again s.views id v at) i }) k

  -- a try that is lost tells the order of the two histories
  pub learns : (slots id : ℕ) (me : Me X SeatView) → Allows Rule slots id me 0 (λ n. either (n == 2) 2 n) (learns_order (step slots 0 2 2 none) me)
  learns slots id me s k deep at small = (
    me.0,
    keeps,
    tt,
    exchanged (slice_index s.words 0) 2 2 (λ n. Rule record { words = set s.words 0 n; homes = s.homes; views = set s.views id me.0 })
        (λ e. subst (λ n. Rule record { words = set s.words 0 n; homes = s.homes; views = set s.views id me.0 }) e (unchanged s id me.0 k at))
        (λ _. unchanged s id me.0 k at),
    (refl, (k.seats id me.0 at).told),
  )
