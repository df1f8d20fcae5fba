-- The timelines of a plan, laid one token at a time.
use Rattle.std.proofs.Common.{◌≡◌, ℕ, zero, suc, ◌+◌, ◌-◌, ◌<◌, Bool, true, false, List, [], ◌∷◌, ◌++◌, Option, Some, length, take, drop, set, get_or, slice_get, refl, sym, ap, ◌∙◌, length-append, arith}
use Rattle.std.proofs.lemmas.Option.{slice_get-get_or}
use Rattle.std.specs.Prelude.{option_map, unwrap_or}
use Rattle.hs_base.specs.Points.{Point, ending, place_of, timeline_of}
use Rattle.hs_base.specs.declared.mission.Kind.{Kind}
use Rattle.plan_index.specs.Contents.{start_at}
use Rattle.timeline_db.specs.Laying.{AreLaid, laid_from, laid_of}
use Rattle.timeline_db.specs.Lines.{PushesGiven, Shown, end_of}
use Rattle.timeline_db.specs.declared.token.Token.{Token}

pub set_here : {X : Type 0} (xs : List X) (k : ℕ) (x : X) → k < length xs → slice_get (set xs k x) k ≡ Some x
set_here [] k x l = absurd (omega arith)
set_here (y ∷ xs) zero x l = refl
set_here (y ∷ xs) (suc k) x l = set_here xs k x (omega arith)

-- the token of a place
abbrev pub laid : Kind → ℕ → ℕ → Token
laid k start stop = record { held = record { kind = k; start = start; stop = stop }; joined = true; needs = 0; unmet = 0 }

pub laid-push : (names : List Point) (v i : ℕ) (ks : List Kind) (k : Kind) → laid_from names v i (ks ++ k ∷ []) ≡ laid_from names v i ks ++ laid k (start_at names v (i + length ks)) (place_of (ending v (i + length ks)) names) ∷ []
laid-push names v i [] k = let here : i ≡ i + 0 = omega arith in ap (λ (n : ℕ). laid k (start_at names v n) (place_of (ending v n) names) ∷ []) here
laid-push names v i (x ∷ ks) k =
    let there : suc i + length ks ≡ i + suc (length ks) = omega arith in
    ap (λ (l : List Token). laid x (start_at names v i) (place_of (ending v i) names) ∷ l)
    (laid-push names v (suc i) ks k ∙ ap (λ (n : ℕ). laid_from names v (suc i) ks ++ laid k (start_at names v n) (place_of (ending v n) names) ∷ []) there)

pub length-laid : (names : List Point) (v i : ℕ) (ks : List Kind) → length (laid_from names v i ks) ≡ length ks
length-laid names v i [] = refl
length-laid names v i (k ∷ ks) = ap suc (length-laid names v (suc i) ks)

-- the token at a place
pub laid_at : (names : List Point) (v i : ℕ) (ks : List Kind) (j : ℕ) (k : Kind) → slice_get ks j ≡ Some k → slice_get (laid_from names v i ks) j ≡ Some (laid k (start_at names v (i + j)) (place_of (ending v (i + j)) names))
laid_at names v i [] j k is = absurd (cc)
laid_at names v i (x ∷ ks) zero k is =
    let same : x ≡ k = cc in
    let here : i ≡ i + 0 = omega arith in
    ap (λ (y : Kind). Some (laid y (start_at names v i) (place_of (ending v i) names))) same ∙ ap (λ (n : ℕ). Some (laid k (start_at names v n) (place_of (ending v n) names))) here
laid_at names v i (x ∷ ks) (suc j) k is =
    let there : suc i + j ≡ i + suc j = omega arith in
    laid_at names v (suc i) ks j k is ∙ ap (λ (n : ℕ). Some (laid k (start_at names v n) (place_of (ending v n) names))) there

-- the end of the last token
end_laid : (names : List Point) (v : ℕ) (ks : List Kind) → end_of (laid_from names v 0 ks) ≡ start_at names v (length ks)
end_laid names v [] = refl
end_laid names v (k ∷ ks) =
    let size : length (laid_from names v 0 (k ∷ ks)) - 1 ≡ length ks = omega (arith, length-laid names v 0 (k ∷ ks)) in
    let last = get_or (k ∷ ks) (length ks) k in
    let is : slice_get (k ∷ ks) (length ks) ≡ Some last = slice_get-get_or (k ∷ ks) (length ks) k (omega arith) in
    let here : 0 + length ks ≡ length ks = omega arith in
    ap (λ (n : ℕ). unwrap_or (option_map (λ (t : Token). t.held.stop) (slice_get (laid_from names v 0 (k ∷ ks)) n)) 0) size
    ∙ ap (λ (o : Option Token). unwrap_or (option_map (λ (t : Token). t.held.stop) o) 0) (laid_at names v 0 (k ∷ ks) (length ks) last is)
    ∙ ap (λ (n : ℕ). place_of (ending v n) names) here

shown_same : (s r : Shown) → s.tokens ≡ r.tokens → s.given ≡ r.given → s.finished ≡ r.finished → s ≡ r
shown_same s r a b c =
    ap (λ (ts : List Token). let q : Shown = record { tokens = ts; given = s.given; finished = s.finished } in q) a
    ∙ ap (λ (n : ℕ). let q : Shown = record { tokens = r.tokens; given = n; finished = s.finished } in q) b
    ∙ ap (λ (f : Bool). let q : Shown = record { tokens = r.tokens; given = r.given; finished = f } in q) c

-- one token more at the end of a timeline
pub laid_next : (names : List Point) (v : ℕ) (ks : List Kind) (k : Kind) (stop : ℕ) (old new : Shown) → stop ≡ place_of (ending v (length ks)) names → old ≡ laid_of names v ks → PushesGiven k stop old new → new ≡ laid_of names v (ks ++ k ∷ [])
laid_next names v ks k stop old new is_stop is pushes =
    let front = laid_from names v 0 ks in
    let here : length ks ≡ 0 + length ks = omega arith in
    shown_same new (laid_of names v (ks ++ k ∷ []))
    (pushes.tokens
    ∙ ap (λ (s : Shown). s.tokens ++ laid k (end_of s.tokens) stop ∷ []) is
    ∙ ap (λ (x : ℕ). front ++ laid k x stop ∷ []) (end_laid names v ks)
    ∙ ap (λ (x : ℕ). front ++ laid k (start_at names v (length ks)) x ∷ []) is_stop
    ∙ ap (λ (n : ℕ). front ++ laid k (start_at names v n) (place_of (ending v n) names) ∷ []) here
    ∙ sym (laid-push names v 0 ks k))
    (pushes.given ∙ ap (λ (s : Shown). suc s.given) is ∙ omega (arith, length-append ks (k ∷ [])))
    (pushes.finished ∙ ap (λ (s : Shown). s.finished) is)

-- all tokens of such a line are given
pub laid_given : (vars : ℕ) (tokens : List Kind) (names : List Point) (lines : List Shown) (v : ℕ) (s : Shown) → AreLaid vars tokens names lines → slice_get lines v ≡ Some s → s.given ≡ length s.tokens
laid_given vars tokens names lines v s h is =
    let e = h.each v s is in
    ap (λ (q : Shown). q.given) e ∙ sym (ap (λ (q : Shown). length q.tokens) e ∙ length-laid names v 0 (timeline_of tokens v))

-- a slice that was written back
pub write_back : {X : Type 0} (items new : List X) (n : ℕ) → length items ≡ n → length new ≡ n → take n (new ++ drop (length new) items) ≡ new
write_back items [] zero e f = refl
write_back items [] (suc n) e f = absurd (omega arith)
write_back [] (x ∷ new) n e f = absurd (omega arith)
write_back (y ∷ items) (x ∷ new) zero e f = absurd (omega arith)
write_back (y ∷ items) (x ∷ new) (suc n) e f = ap (λ l. x ∷ l) (write_back items new n (omega arith) (omega arith))
