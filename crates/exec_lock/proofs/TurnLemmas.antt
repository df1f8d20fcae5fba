-- Taking and giving back the turn keep the rule.
use Rattle.std.proofs.Common.{◌≡◌, ◌≢◌, ℕ, ◌+◌, ◌<◌, ◌==◌, List, [], ◌∷◌, ◌++◌, length, true, false, refl, sym, ap, ◌∙◌, subst, ⊎_elim, inl, inr, arith, append_assoc, append-nil, length-append}
use Rattle.std.specs.Prelude.{slice_index, slice_set, drop}
use Rattle.std.specs.List.{AllByRecursion}
use Rattle.std.proofs.lemmas.Bool.{cases_Bool}
use Rattle.std.proofs.Math.Seq.{drop-append_seam}
use mathlib.Core.Option.{some, none}
use mathlib.Core.Option as maybe
use lib.ListN.{get_elem?}
use prog.Atomic.{either}
use Rattle.atomic_table.specs.Table.{State, Me, step, Act, keeps, takes, gives, homes_after, carried_after, Valid, Allows}
use Rattle.atomic_table.proofs.Lists.{set_again}
use Rattle.hs_machine.specs.declared.history.Entry.{Entry}
use Rattle.hs_base.specs.declared.mission.Mission.{Mission}
use Rattle.hs_machine.specs.Histories.{IsPrefix, Appends}
use Rattle.exec_lock.specs.declared.view.Placed.{Placed}
use Rattle.exec_lock.specs.declared.view.SeatView.{SeatView}
use Rattle.exec_lock.specs.declared.view.View.{View}
use Rattle.exec_lock.specs.Passes.{placed, of, is_in, covers}
use Rattle.exec_lock.specs.Rule.{Agrees, IsFree, IsHeld, IsKept, total, when, taken, given, takes_turn, gives_turn}
use Rattle.exec_lock.proofs.CountLemmas.{total_set, total_one, total_two, is_in_least, is_in_here, is_in_not, first_covered}
use Rattle.exec_lock.proofs.PrefixLemmas.{prefix_self, prefix_trans, prefix_more, placed-append, of-append, of_other, own_grows, own_stays}
use Rattle.exec_lock.proofs.SeatLemmas.{no_turn, each_set, set_at}

module _ {X : Type 0} (mission_of : X → Mission) (history_of : X → List Entry) (key : X) where
  abbrev Rule : State X SeatView → Type 0
  Rule = IsKept mission_of history_of key

  abbrev base : ℕ
  base = length (history_of key)

  abbrev AgreesNow : List Entry → List Entry → SeatView → Type 0
  AgreesNow = Agrees (mission_of key) base

  -- the seat that takes the turn agrees with the history
  taker_agrees : (s : State X SeatView) (k : Rule s) (id : ℕ) (v : SeatView) → get_elem? s.views id ≡ some v → 0 < v.view.count → (f : IsFree mission_of history_of key s k.log)
      → AgreesNow k.log k.later (taken v (history_of f.core))
  taker_agrees s k id v at some_number f = let m = k.seats id v at in record {
    opened = m.opened;
    seen = subst (λ l. IsPrefix l k.log) (sym f.history) (prefix_self k.log);
    told = subst (IsPrefix v.told) (sym f.history) (prefix_trans v.told v.view.seen k.log m.told m.seen);
    own = m.own;
    fresh = m.fresh;
    spent = m.spent;
    holds = λ _. some_number;
  }

  -- what a try for the turn owes
  abbrev TryKeeps : State X SeatView → ℕ → SeatView → List ℕ → List (maybe.Option X) → Type 0
  TryKeeps s id v ws hs = (w : SeatView) × (a : Act X) × Valid hs [] a × Rule record { words = slice_set ws 0 (either (slice_index ws 0 == 0) 1 (slice_index ws 0)); homes = homes_after hs [] a; views = slice_set s.views id w }
      × takes_turn mission_of history_of (step 1 0 0 1 none) (v, []) (slice_index ws 0) (w, carried_after [] a)

  try_keeps : (id : ℕ) (v : SeatView) → 0 < v.view.count → Allows Rule 1 id (v, []) 0 (λ n. either (n == 0) 1 n) (takes_turn mission_of history_of (step 1 0 0 1 none) (v, []))
  try_keeps id v some_number s k deep at small = ⊎_elim free held k.turn
    where
      free : IsFree mission_of history_of key s k.log → TryKeeps s id v s.words s.homes
      free f =
          let w = taken v (history_of f.core) in
          let m = k.seats id v at in
          subst (λ (z : List ℕ × List (maybe.Option X)). TryKeeps s id v z.0 z.1) (λ i. (sym f.words i, sym f.homes i)) (
            w,
            takes 0 f.core,
            refl,
            record {
              log = k.log;
              later = k.later;
              begins = k.begins;
              seats = each_set (λ j u. AgreesNow k.log k.later u) s.views id w (taker_agrees s k id v at some_number f) (λ j u _ e. k.seats j u e);
              once = λ n. let t = total_set n s.views id v w at in let o = k.once n in omega (arith, t, o);
              others = k.others;
              turn = inr record {
                holder = id;
                seat = w;
                at = set_at s.views id v w at;
                holding = refl;
                words = refl;
                homes = refl;
                only = each_set (λ j u. u.holds ≡ true → (j ≡ id) × (u.view.seen ≡ k.log)) s.views id w (λ _. (refl, f.history)) (λ j u _ e h. no_turn (sym (f.none j u e) ∙ h));
              };
            },
            (f.core, subst (IsPrefix v.view.seen) (sym f.history) m.seen, f.opening ∙ sym (m.opened some_number), refl),
          )

      held : IsHeld mission_of history_of key s k.log → TryKeeps s id v s.words s.homes
      held f = subst (λ (z : List ℕ × List (maybe.Option X)). TryKeeps s id v z.0 z.1) (λ i. (sym f.words i, sym f.homes i)) (
        v,
        keeps,
        tt,
        record {
          log = k.log;
          later = k.later;
          begins = k.begins;
          seats = each_set (λ j u. AgreesNow k.log k.later u) s.views id v (k.seats id v at) (λ j u _ e. k.seats j u e);
          once = λ n. let t = total_set n s.views id v v at in let o = k.once n in omega (arith, t, o);
          others = k.others;
          turn = inr record {
            holder = f.holder;
            seat = f.seat;
            at = subst (λ (l : List SeatView). get_elem? l f.holder ≡ some f.seat) (sym (set_again s.views id v at)) f.at;
            holding = f.holding;
            words = refl;
            homes = refl;
            only = each_set (λ j u. u.holds ≡ true → (j ≡ f.holder) × (u.view.seen ≡ k.log)) s.views id v (f.only id v at) (λ j u _ e h. f.only j u e h);
          };
        },
        refl,
      )

  -- a try for the turn keeps the rule
  pub takes_keeps : (slots id : ℕ) (me : Me X SeatView) → slots ≡ 1 → me.1 ≡ [] → 0 < me.0.view.count
      → Allows Rule slots id me 0 (λ n. either (n == 0) 1 n) (takes_turn mission_of history_of (step slots 0 0 1 none) me)
  takes_keeps slots id me one has some_number =
      subst (λ (z : ℕ × List (ℕ × X)). Allows Rule z.0 id (me.0, z.1) 0 (λ n. either (n == 0) 1 n) (takes_turn mission_of history_of (step z.0 0 0 1 none) (me.0, z.1))) (λ i. (sym one i, sym has i)) (try_keeps id me.0 some_number)

  -- what a call added: entries of the pass's number
  abbrev Adds : View → X → List Entry → Type 0
  Adds v x G = AllByRecursion (λ (e : Entry). e.by ≡ v.first) G × (history_of x ≡ v.seen ++ G)

  added : (v : View) (x : X) → Appends v.first v.seen (history_of x) → (G : List Entry) × Adds v x G
  added v x h = ⊎_elim (λ e. ([], (tt, e ∙ sym (append-nil v.seen)))) (λ e. (e.0 ∷ [], ((e.1, tt), e.2))) h

  -- only the number of the pass that calls has new entries
  not_theirs : (seats : List SeatView) (id : ℕ) (v : SeatView) → ((n : ℕ) → total n seats ≡ is_in 0 4294967295 n) → get_elem? seats id ≡ some v → 0 < v.view.count
      → (j : ℕ) (u : SeatView) → j ≢ id → get_elem? seats j ≡ some u → (n : ℕ) → 0 < covers n u.view → n ≢ v.view.first
  not_theirs seats id v once at some_number j u ne e n h same =
      let mine : 0 < covers n v.view = subst (λ m. 0 < covers m v.view) (sym same) (first_covered v.view some_number) in
      let two = total_two n seats j id u v ne e at in
      let most = is_in_least 0 4294967295 n in
      let o = once n in absurd (omega (arith, mine, two, most, o, h))

  abbrev carried_or : X → List (ℕ × X) → X
  carried_or x [] = x
  carried_or x (c ∷ cs) = c.1

  -- what giving the turn back owes
  abbrev GiveKeeps : State X SeatView → ℕ → SeatView → X → List ℕ → List (maybe.Option X) → Type 0
  GiveKeeps s id v x ws hs = (w : SeatView) × (a : Act X) × Valid hs ((0, x) ∷ []) a × Rule record { words = slice_set ws 0 0; homes = homes_after hs ((0, x) ∷ []) a; views = slice_set s.views id w }
      × gives_turn history_of (step 1 0 0 0 none) (v, (0, x) ∷ []) 0 (w, carried_after ((0, x) ∷ []) a)

  give_keeps : (id : ℕ) (v : SeatView) (x : X) → v.holds ≡ true → Appends v.view.first v.view.seen (history_of x) → mission_of x ≡ v.view.opening
      → Allows Rule 1 id (v, (0, x) ∷ []) 0 (λ _. 0) (λ _. gives_turn history_of (step 1 0 0 0 none) (v, (0, x) ∷ []) 0)
  give_keeps id v x holding appends same s k deep at small = ⊎_elim (λ f. no_turn (sym (f.none id v at) ∙ holding)) held k.turn
    where
      held : IsHeld mission_of history_of key s k.log → GiveKeeps s id v x s.words s.homes
      held f =
          let m = k.seats id v at in
          let some_number = m.holds holding in
          let a = added v.view x appends in
          let G = a.0 in
          let whole : v.view.seen ≡ k.log = (f.only id v at holding).1 in
          let grown : history_of x ≡ k.log ++ G = a.1.1 ∙ ap (λ l. l ++ G) whole in
          let w = given v (history_of x) in
          let gained : drop (length v.view.seen) (history_of x) ≡ G = ap (drop (length v.view.seen)) a.1.1 ∙ drop-append_seam v.view.seen G in
          let long : base + length k.later ≡ length v.view.seen = sym (ap length (whole ∙ k.begins) ∙ length-append (history_of key) k.later) in
          let news : List Placed = placed (length v.view.seen) G in
          let calls : w.view.calls ≡ v.view.calls ++ news = ap (λ l. v.view.calls ++ placed (length v.view.seen) l) gained in
          let split : placed base (k.later ++ G) ≡ placed base k.later ++ news = placed-append base k.later G ∙ ap (λ m. placed base k.later ++ placed m G) long in
          let parts : (n : ℕ) → of n (placed base (k.later ++ G)) ≡ of n (placed base k.later) ++ of n news = λ n. ap (of n) split ∙ of-append n (placed base k.later) news in
          let calls_of : (n : ℕ) → of n w.view.calls ≡ of n v.view.calls ++ of n news = λ n. ap (of n) calls ∙ of-append n v.view.calls news in
          let none_else : (n : ℕ) → n ≢ v.view.first → of n news ≡ [] = λ n ne. of_other n v.view.first (length v.view.seen) G a.1.0 ne in
          let mine : AgreesNow (history_of x) (k.later ++ G) w = record {
            opened = m.opened;
            seen = prefix_self (history_of x);
            told = subst (IsPrefix v.told) (sym a.1.1) (prefix_trans v.told v.view.seen (v.view.seen ++ G) m.told (prefix_more v.view.seen G));
            own = λ n. calls_of n ∙ (own_grows (covers n v.view) (of n v.view.calls) (of n (placed base k.later)) (of n news) (m.own n)
                (λ z. none_else n (λ e. let c : 0 < covers n v.view = subst (λ q. 0 < covers q v.view) (sym e) (first_covered v.view some_number) in absurd (omega (arith, c, z))))
                ∙ ap (when (covers n v.view)) (sym (parts n)));
            fresh = λ n lo up. calls_of n ∙ (λ i. m.fresh n lo up i ++ none_else n (λ e. absurd (omega (arith, lo, e))) i);
            spent = λ n inside no_head. calls_of n ∙ (λ i. m.spent n inside no_head i ++ none_else n (λ e.
                let c = total_one n s.views id v at in let o = k.once n in let l = is_in_least 0 4294967295 n in
                let h = is_in_here v.view.first v.view.count n (omega (arith, e)) (omega (arith, e, some_number)) in absurd (omega (arith, c, o, l, h, inside))) i);
            holds = λ e. no_turn e;
          } in
          subst (λ (z : List ℕ × List (maybe.Option X)). GiveKeeps s id v x z.0 z.1) (λ i. (sym f.words i, sym f.homes i)) (
            w,
            gives,
            tt,
            record {
              log = history_of x;
              later = k.later ++ G;
              begins = grown ∙ (ap (λ l. l ++ G) k.begins ∙ append_assoc (history_of key) k.later G);
              seats = each_set (λ j u. AgreesNow (history_of x) (k.later ++ G) u) s.views id w mine
                  (λ j u ne e. let o = k.seats j u e in record {
                    opened = o.opened;
                    seen = subst (IsPrefix u.view.seen) (sym grown) (prefix_trans u.view.seen k.log (k.log ++ G) o.seen (prefix_more k.log G));
                    told = o.told;
                    own = λ n. own_stays (covers n u.view) (of n u.view.calls) (of n (placed base k.later)) (of n news) (o.own n) (λ z. none_else n (not_theirs s.views id v k.once at some_number j u ne e n z)) ∙ ap (when (covers n u.view)) (sym (parts n));
                    fresh = o.fresh;
                    spent = o.spent;
                    holds = o.holds;
                  });
              once = λ n. let t = total_set n s.views id v w at in let o = k.once n in omega (arith, t, o);
              others = λ n far. parts n ∙ (λ i. k.others n far i ++ none_else n (λ e.
                  let c : 0 < covers n v.view = subst (λ q. 0 < covers q v.view) (sym e) (first_covered v.view some_number) in let t = total_one n s.views id v at in let o = k.once n in let z = is_in_not 0 4294967295 n far in absurd (omega (arith, c, t, o, z))) i);
              turn = inl record {
                core = x;
                words = refl;
                homes = refl;
                history = refl;
                opening = same ∙ m.opened some_number;
                none = each_set (λ j u. u.holds ≡ false) s.views id w refl (λ j u ne e. ⊎_elim (λ h. absurd (ne ((f.only j u e h).0 ∙ sym (f.only id v at holding).0))) (λ h. h) (cases_Bool u.holds));
              };
            },
            λ y e. ap (λ (c : List (ℕ × X)). (given v (history_of (carried_or x c)), [])) e,
          )

  -- giving the turn back keeps the rule, where the core has gained an entry of the pass at most
  pub gives_keeps : (slots id : ℕ) (me : Me X SeatView) (x : X) → slots ≡ 1 → me.1 ≡ (0, x) ∷ [] → me.0.holds ≡ true → Appends me.0.view.first me.0.view.seen (history_of x) → mission_of x ≡ me.0.view.opening
      → Allows Rule slots id me 0 (λ _. 0) (λ _. gives_turn history_of (step slots 0 0 0 none) me 0)
  gives_keeps slots id me x one has holding appends same =
      subst (λ (z : ℕ × List (ℕ × X)). Allows Rule z.0 id (me.0, z.1) 0 (λ _. 0) (λ _. gives_turn history_of (step z.0 0 0 0 none) (me.0, z.1) 0)) (λ i. (sym one i, sym has i)) (give_keeps id me.0 x holding appends same)
