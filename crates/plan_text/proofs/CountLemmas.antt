-- Numbers that count, and counted tokens.
use Rattle.std.proofs.Common.{◌≡◌, ℕ, zero, suc, ◌+◌, ◌-◌, ◌<◌, ◌≤◌, Bool, true, false, cond, not, ◌||◌, nat_lt, List, [], ◌∷◌, ◌++◌, length, map, filter, take, get_or, refl, sym, ap, ◌∙◌, subst, append_assoc, append-nil, length-append, inl, inr, arith}
use Rattle.std.specs.Prelude.{ℤ, pos, Some, None, slice_get, slice_set, Err, count_by}
use Rattle.std.proofs.lemmas.List.{map-append, length_push, take_more}
use Rattle.std.proofs.lemmas.Bool.{lt-ltb, le-ltb, cases_lt}
use Rattle.std.proofs.lemmas.List.Elements.{filter-append}
use Rattle.std.proofs.lemmas.List.Recursion.{is_count_by}
use Rattle.std.proofs.lemmas.Grind.{flat_map-append}
use Rattle.std.proofs.lemmas.Slice.Eq.{bytes_eq-Decides}
use Rattle.std.specs.List.{list_any}
use Rattle.std.specs.Str.{bytes_eq}
use Rattle.hs_base.specs.declared.mission.Mission.{Mission}
use Rattle.hs_base.specs.declared.mission.Var.{Var}
use Rattle.hs_texts.specs.Pieces.{Piece, word, number as digits, symbol, number_of}
use Rattle.text_laws.specs.Parsers.{done, stuck, number}
use Rattle.plan_text.specs.declared.stop.Stop.{Stop}
use Rattle.plan_text.specs.declared.stop.Stop.TheVariants.{Text, Pieces, Memory}
use Rattle.hs_texts.specs.declared.written.WrittenToken.{WrittenToken}
use Rattle.hs_texts.specs.declared.written.WrittenKind.{WrittenKind}
use Rattle.hs_texts.specs.declared.written.WrittenPoint.TheVariants.{End}
use Rattle.hs_texts.specs.declared.written.WrittenExtension.{WrittenExtension}
use Rattle.hs_texts.specs.PlanGrammar.{token_names, has_point}
use Rattle.plan_text.specs.PlanReading.{count_at}
use Rattle.plan_text.specs.Answers.{Gives}
use Rattle.plan_text.specs.SoFar.{variable_at, times_named, Counts, names_of_kinds}
use Rattle.plan_text.proofs.NamingLemmas.{found_at, missing_at}

no_count : (ps rest : List Piece) → number ps ≡ stuck rest → count_at ps ≡ stuck rest
unfolding count_at
no_count [] rest h = let e : [] ≡ rest = cc in ap (λ (zs : List Piece). stuck zs) e
no_count (digits ds ∷ ps) rest h = absurd cc
no_count (word w ∷ ps) rest h = let e : word w ∷ ps ≡ rest = cc in ap (λ (zs : List Piece). stuck zs) e
no_count (symbol c ∷ ps) rest h = let e : symbol c ∷ ps ≡ rest = cc in ap (λ (zs : List Piece). stuck zs) e

-- what is no number is no count
pub no_count_given : (e : Stop) (ps rest : List Piece) → Gives (Err e) rest (number ps) → Gives (Err e) rest (count_at ps)
no_count_given Text ps rest h = no_count ps rest h
no_count_given (Pieces n) ps rest h = h
no_count_given Memory ps rest h = tt

same_pos : (a b : ℕ) → pos a ≡ pos b → a ≡ b
same_pos a b h = cc

-- a number is a count
pub count_given : (ps rest : List Piece) (z : ℤ) (c : ℕ) → number ps ≡ done z rest → pos c ≡ z → count_at ps ≡ done c rest
unfolding count_at
count_given [] rest z c h k = absurd cc
count_given (digits ds ∷ ps) rest z c h k =
    let e : pos (number_of ds) ≡ z = cc in
    let r : ps ≡ rest = cc in
    let n : number_of ds ≡ c = same_pos (number_of ds) c (e ∙ sym k) in
    ap (λ (i : ℕ). done i ps) n ∙ ap (λ (zs : List Piece). done c zs) r
count_given (word w ∷ ps) rest z c h k = absurd cc
count_given (symbol s ∷ ps) rest z c h k = absurd cc

-- Counts of names.

-- 1 for a test that is passed
abbrev pub weight : Bool → ℕ
weight true = 1
weight false = 0

length-cond : {X : Type 0} (b : Bool) (xs : List X) (x : X) → length (xs ++ cond b (x ∷ []) []) ≡ length xs + weight b
length-cond true xs x = length_push xs x
length-cond false xs x = ap length (append-nil xs) ∙ omega arith

count_push : (name other : List ℕ) (names : List (List ℕ)) → times_named name (names ++ other ∷ []) ≡ times_named name names + weight (bytes_eq name other)
count_push name other names = ap length (filter-append (bytes_eq name) names (other ∷ [])) ∙ length-cond (bytes_eq name other) (filter (bytes_eq name) names) other

other_name : (name other : List ℕ) → (name ≡ other → ⊥) → bytes_eq name other ≡ false
other_name name other h = elim (bytes_eq name other) as (λ b. bytes_eq name other ≡ b → bytes_eq name other ≡ false) [
  | true ↦ λ e. absurd (h ((bytes_eq-Decides name other).0 e))
  | false ↦ λ e. e
] refl

-- a name of no variable counts for none
pub counts_unknown : (vars : List Var) (names : List (List ℕ)) (counts : List ℕ) (other : List ℕ) → Counts vars names counts → variable_at vars other ≡ None → Counts vars (names ++ other ∷ []) counts
counts_unknown vars names counts other h k = λ name v e.
    let apart : name ≡ other → ⊥ = λ s. let t : variable_at vars other ≡ Some v = subst (λ (n : List ℕ). variable_at vars n ≡ Some v) s e in cc (t, k) in
    let same : times_named name (names ++ other ∷ []) ≡ times_named name names = count_push name other names ∙ ap (λ b. times_named name names + weight b) (other_name name other apart) ∙ omega arith in
    h name v e ∙ ap Some (sym same)

-- each variable has a count
pub counts_none : (vars : List Var) (names : List (List ℕ)) (counts : List ℕ) (name : List ℕ) (v : ℕ) → Counts vars names counts → variable_at vars name ≡ Some v → slice_get counts v ≡ None → ⊥
counts_none vars names counts name v h e k = cc (h name v e, k)

get_set_same : (xs : List ℕ) (i x y : ℕ) → slice_get xs i ≡ Some y → slice_get (slice_set xs i x) i ≡ Some x
get_set_same [] i x y h = absurd cc
get_set_same (z ∷ xs) zero x y h = refl
get_set_same (z ∷ xs) (suc i) x y h = get_set_same xs i x y h

get_set_other : (xs : List ℕ) (i j x : ℕ) → (i ≡ j → ⊥) → slice_get (slice_set xs i x) j ≡ slice_get xs j
get_set_other [] i j x h = refl
get_set_other (z ∷ xs) zero zero x h = absurd (h refl)
get_set_other (z ∷ xs) zero (suc j) x h = refl
get_set_other (z ∷ xs) (suc i) zero x h = refl
get_set_other (z ∷ xs) (suc i) (suc j) x h = get_set_other xs i j x (λ e. h (ap suc e))

named_there : (vars : List Var) (name : List ℕ) (v : ℕ) → variable_at vars name ≡ Some v → slice_get (map (λ (x : Var). x.name) vars) v ≡ Some name
named_there vars name v h =
    let f = found_at (λ (x : Var). x.name) name vars v h in
    let e : v ≡ f.place = omega (arith, f.is_place) in
    ap (slice_get (map (λ (x : Var). x.name) vars)) e ∙ f.number.here

-- a name of a variable counts for it
pub counts_more : (vars : List Var) (names : List (List ℕ)) (counts : List ℕ) (other : List ℕ) (u n more : ℕ) → Counts vars names counts → variable_at vars other ≡ Some u → slice_get counts u ≡ Some n → more ≡ n + 1 → Counts vars (names ++ other ∷ []) (slice_set counts u more)
counts_more vars names counts other u n more h k g m = λ name v e.
    elim (bytes_eq name other) as (λ b. bytes_eq name other ≡ b → slice_get (slice_set counts u more) v ≡ Some (times_named name (names ++ other ∷ []))) [
      | true ↦ λ t.
          let s : name ≡ other = (bytes_eq-Decides name other).0 t in
          let here : variable_at vars other ≡ Some v = subst (λ (w : List ℕ). variable_at vars w ≡ Some v) s e in
          let place : u ≡ v = cc (sym k ∙ here) in
          let old : n ≡ times_named name names = cc (g, subst (λ (i : ℕ). slice_get counts i ≡ Some (times_named name names)) (sym place) (h name v e)) in
          let total : more ≡ times_named name (names ++ other ∷ []) = omega (arith, m, old, count_push name other names, ap weight t) in
          ap (slice_get (slice_set counts u more)) (sym place) ∙ get_set_same counts u more n g ∙ ap Some total
      | false ↦ λ t.
          let apart : u ≡ v → ⊥ = λ s.
          let here : slice_get (map (λ (x : Var). x.name) vars) v ≡ Some other = subst (λ (i : ℕ). slice_get (map (λ (x : Var). x.name) vars) i ≡ Some other) s (named_there vars other u k) in
          let both : name ≡ other = cc (sym (named_there vars name v e) ∙ here) in
          cc (t, (bytes_eq-Decides name other).1 both)
          in
          let same : times_named name (names ++ other ∷ []) ≡ times_named name names = count_push name other names ∙ ap (λ b. times_named name names + weight b) t ∙ omega arith in
          get_set_other counts u v more apart ∙ h name v e ∙ ap Some (sym same)
    ] refl

-- the names of a plan's tokens, and those of an extension more
pub token_names-push : (es : List WrittenExtension) (e : WrittenExtension) → token_names (es ++ e ∷ []) ≡ token_names es ++ names_of_kinds e.body.tokens
token_names-push es e = flat_map-append (λ (x : WrittenExtension). names_of_kinds x.body.tokens) es (e ∷ []) ∙ ap (λ ns. token_names es ++ ns) (append-nil (names_of_kinds e.body.tokens))

-- one more token
pub names-more : (names : List (List ℕ)) (ts : List WrittenKind) (i : ℕ) (d : WrittenKind) → i < length ts → (names ++ names_of_kinds (take i ts)) ++ (get_or ts i d).sv ∷ [] ≡ names ++ names_of_kinds (take (i + 1) ts)
names-more names ts i d h =
    append_assoc names (names_of_kinds (take i ts)) ((get_or ts i d).sv ∷ [])
    ∙ ap (λ ns. names ++ ns) (sym (ap names_of_kinds (take_more ts i d h) ∙ map-append (λ (k : WrittenKind). k.sv) (take i ts) (get_or ts i d ∷ [])))

any_map : (name : List ℕ) (vars : List Var) → list_any (bytes_eq name) (map (λ (v : Var). v.name) vars) ≡ list_any (λ (v : Var). bytes_eq name v.name) vars
any_map name [] = refl
any_map name (v ∷ vars) = ap (λ b. bytes_eq name v.name || b) (any_map name vars)

-- a token of an unknown variable is let pass
pub unknown_passes : (m : Mission) (es : List WrittenExtension) (t : WrittenToken) → variable_at m.vars t.sv ≡ None → true ≡ has_point m es (End t)
unknown_passes m es t h =
    let e = sym (any_map t.sv m.vars) ∙ (missing_at (λ (v : Var). v.name) t.sv m.vars h).among in
    sym (ap (λ b. not b || nat_lt t.place (length (filter (bytes_eq t.sv) (token_names es)))) e)

-- one of a variable is looked up in the counts
pub counted_point : (m : Mission) (es : List WrittenExtension) (counts : List ℕ) (t : WrittenToken) (v n : ℕ) → variable_at m.vars t.sv ≡ Some v → Counts m.vars (token_names es) counts → slice_get counts v ≡ Some n → nat_lt t.place n ≡ has_point m es (End t)
counted_point m es counts t v n h c k =
    let e = sym (any_map t.sv m.vars) ∙ (found_at (λ (x : Var). x.name) t.sv m.vars v h).among in
    let same : n ≡ length (filter (bytes_eq t.sv) (token_names es)) = cc (k, c t.sv v h) in
    ap (nat_lt t.place) same ∙ sym (ap (λ b. not b || nat_lt t.place (length (filter (bytes_eq t.sv) (token_names es)))) e)

-- a variable's token has a count
pub counted_there : (m : Mission) (es : List WrittenExtension) (counts : List ℕ) (name : List ℕ) (v : ℕ) → variable_at m.vars name ≡ Some v → Counts m.vars (token_names es) counts → slice_get counts v ≡ None → ⊥
counted_there m es counts name v h c k = counts_none m.vars (token_names es) counts name v c h k

-- A further extension.

longer : {A : Type 0} (b : Bool) (x : A) (xs : List A) → length (cond b (x ∷ xs) xs) ≡ cond b (1 + length xs) (length xs)
longer true x xs = omega arith
longer false x xs = refl

count_mapped : (name : List ℕ) (ts : List WrittenKind) → times_named name (names_of_kinds ts) ≡ count_by (λ (k : WrittenKind). bytes_eq name k.sv) ts
count_mapped name ts = is_count_by (λ (us : List WrittenKind). times_named name (names_of_kinds us)) (λ (k : WrittenKind). bytes_eq name k.sv) refl (λ u us. longer (bytes_eq name u.sv) u.sv (filter (bytes_eq name) (names_of_kinds us))) ts

-- the tokens of a variable before the extension, and those in it
times_with : (name : List ℕ) (es : List WrittenExtension) (e : WrittenExtension) → length (filter (bytes_eq name) (token_names (es ++ e ∷ []))) ≡ times_named name (token_names es) + count_by (λ (k : WrittenKind). bytes_eq name k.sv) e.body.tokens
times_with name es e =
    let ns = token_names es in let more = names_of_kinds e.body.tokens in
    ap (λ (xs : List (List ℕ)). length (filter (bytes_eq name) xs)) (token_names-push es e)
    ∙ ap length (filter-append (bytes_eq name) ns more)
    ∙ length-append (filter (bytes_eq name) ns) (filter (bytes_eq name) more)
    ∙ ap (λ (n : ℕ). times_named name ns + n) (count_mapped name e.body.tokens)

-- whether the plan with a further extension has the token
pub counted_with : (m : Mission) (es : List WrittenExtension) (e : WrittenExtension) (counts : List ℕ) (t : WrittenToken) (v n k : ℕ) → variable_at m.vars t.sv ≡ Some v → Counts m.vars (token_names es) counts → slice_get counts v ≡ Some n → k ≡ count_by (λ (x : WrittenKind). bytes_eq t.sv x.sv) e.body.tokens → nat_lt t.place (n + k) ≡ has_point m (es ++ e ∷ []) (End t)
counted_with m es e counts t v n k h c g s =
    let known = sym (any_map t.sv m.vars) ∙ (found_at (λ (x : Var). x.name) t.sv m.vars v h).among in
    let before : n ≡ times_named t.sv (token_names es) = cc (g, c t.sv v h) in
    let same : n + k ≡ length (filter (bytes_eq t.sv) (token_names (es ++ e ∷ []))) = omega (arith, before, s, times_with t.sv es e) in
    ap (nat_lt t.place) same ∙ sym (ap (λ b. not b || nat_lt t.place (length (filter (bytes_eq t.sv) (token_names (es ++ e ∷ []))))) known)

-- a place before a count and more, or behind it
pub lt_front : (p n k : ℕ) → p < n → nat_lt p n ≡ nat_lt p (n + k)
lt_front p n k h = lt-ltb p n h ∙ sym (lt-ltb p (n + k) (omega (arith, h)))

pub lt_behind : (p n k : ℕ) → n ≤ p → nat_lt (p - n) k ≡ nat_lt p (n + k)
lt_behind p n k h =
    elim (cases_lt (p - n) k) [
      | inl lt ↦ lt-ltb (p - n) k lt ∙ sym (lt-ltb p (n + k) (omega (arith, h, lt)))
      | inr ge ↦ le-ltb (p - n) k ge ∙ sym (le-ltb p (n + k) (omega (arith, h, ge)))
    ]
