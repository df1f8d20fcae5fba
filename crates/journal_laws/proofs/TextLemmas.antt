-- The words of a log's text.
use Rattle.std.proofs.Common.{◌≡◌, ℕ, ◌+◌, ◌<◌, ℤ, true, List, [], ◌∷◌, ◌++◌, length, flat_map, Option, Some, None, refl, sym, ap, ◌∙◌, append_assoc, codes}
use Rattle.std.specs.Prelude.{slice_get}
use Rattle.std.specs.List.{AllByRecursion}
use Rattle.std.proofs.lemmas.Option.{slice_get_within}
use Rattle.std.specs.Fmt.{decimal, signed_decimal}
use Rattle.hs_base.specs.declared.mission.Kind.{Kind}
use Rattle.hs_base.specs.declared.mission.Mission.{Mission}
use Rattle.hs_base.specs.declared.net.Bound.{Bound}
use Rattle.hs_base.specs.declared.net.Net.{Net}
use Rattle.hs_base.specs.declared.plan.Extension.{Extension}
use Rattle.hs_base.specs.declared.plan.Support.{Support}
use Rattle.hs_base.specs.declared.plan.Time.{Time}
use Rattle.hs_base.specs.declared.plan.TokenRef.{TokenRef}
use Rattle.hs_base.specs.Missions.{IsMission, IsKindOf}
use Rattle.hs_base.specs.Points.{Point, origin, horizon, ending, points_of}
use Rattle.hs_machine.specs.declared.history.Deed.{Deed}
use Rattle.hs_machine.specs.declared.history.Deed.TheVariants.{Tick, Fire, Report, Handover, Stale, Late, Early, Broken}
use Rattle.hs_texts.specs.Written.{variable_name, value_name, spelled_point, point_in, bound_text, fix_line, token_line, support_line, goal_line, goal_lines, body_in}
use Rattle.log_laws.specs.LogText.{at_text, fired_text, deed_text}
use Rattle.text_laws.specs.WritablePlans.{IsWritableToken, IsWritableSupport}
use Rattle.text_laws.proofs.PlanPrintedLemmas.{IsWritablePoint, HasPoint, variable_named, value_named}
use Rattle.journal_laws.proofs.WordLemmas.{Word, IsWord, words, ends_word, then_end, name_word, decimal_word, signed_word}

-- What is written before some words.

abbrev pub Words : Type 0
Words = List Word

abbrev pub point_words : Mission → Point → Words → Words
point_words m origin rest = codes "Z" ∷ rest
point_words m (horizon k) rest = codes "H" ∷ decimal k ∷ rest
point_words m (ending v i) rest = variable_name m v ∷ decimal i ∷ rest

-- a point by its number
abbrev pub number_words : Mission → List Point → ℕ → Words → Words
number_words m ps x rest = elim (slice_get ps x) [ Some p ↦ point_words m p rest | None ↦ rest ]

abbrev pub token_words : Mission → TokenRef → Words → Words
token_words m t rest = variable_name m t.sv.0 ∷ decimal t.place ∷ rest

abbrev pub bound_words : Mission → List Extension → Bound → Words → Words
bound_words m es b rest = number_words m (points_of es) b.from.0 (codes "to" ∷ number_words m (points_of es) b.to.0 (codes "most" ∷ signed_decimal b.most ∷ rest))

abbrev pub fix_words : Mission → List Point → Time → Words → Words
fix_words m ps t rest = codes "fix" ∷ number_words m ps t.point.0 (signed_decimal t.at ∷ rest)

abbrev pub kind_words : Mission → Kind → Words → Words
kind_words m k rest = codes "token" ∷ variable_name m k.sv.0 ∷ value_name m k ∷ rest

abbrev pub support_words : Mission → Support → Words → Words
support_words m s rest = codes "support" ∷ token_words m s.token (decimal s.need ∷ token_words m s.by rest)

-- items one after another
abbrev pub each_words : {A : Type 0} → (A → Words → Words) → List A → Words → Words
each_words f [] rest = rest
each_words f (x ∷ xs) rest = f x (each_words f xs rest)

-- goals by their numbers, from n on
abbrev pub goal_words : Mission → ℕ → List TokenRef → Words → Words
goal_words m n [] rest = rest
goal_words m n (t ∷ ts) rest = codes "goal" ∷ decimal n ∷ token_words m t (goal_words m (n + 1) ts rest)

abbrev pub body_words : Mission → List Point → Extension → Words → Words
body_words m ps e rest =
    codes "since" ∷ signed_decimal e.since ∷ each_words (fix_words m ps) e.fixed (each_words (kind_words m) e.tokens (each_words (support_words m) e.supports (goal_words m 0 e.goals (codes "close" ∷ rest))))

abbrev pub time_words : ℕ → Words → Words
time_words now rest = codes "at" ∷ decimal now ∷ rest

abbrev pub fired_words : Mission → Option Point → Words → Words
fired_words m None rest = rest
fired_words m (Some (horizon k)) rest = codes "horizon" ∷ decimal k ∷ rest
fired_words m (Some origin) rest = codes "fire" ∷ point_words m origin rest
fired_words m (Some (ending v i)) rest = codes "fire" ∷ point_words m (ending v i) rest

abbrev pub deed_words : Mission → ℕ → List Extension → Deed → Words → Words
deed_words m now es Tick rest = rest
deed_words m now es (Fire x) rest = fired_words m (slice_get (points_of es) x.0) (time_words now rest)
deed_words m now es (Report x) rest = codes "report" ∷ number_words m (points_of es) x.0 (time_words now rest)
deed_words m now es (Handover e net) rest =
    codes "handover" ∷ decimal (e.base + 1) ∷ time_words now (codes "groups" ∷ decimal (length net.groups) ∷ codes "edges" ∷ decimal (length net.edges) ∷ body_words m (points_of es) e rest)
deed_words m now es (Stale e b from to) rest =
    codes "stale" ∷ decimal (e.base + 1) ∷ time_words now (codes "bound" ∷ bound_words m (es ++ e ∷ []) b (codes "times" ∷ signed_decimal from ∷ signed_decimal to ∷ body_words m (points_of es) e rest))
deed_words m now es (Late b) rest = codes "late" ∷ bound_words m es b (time_words now rest)
deed_words m now es (Early b) rest = codes "early" ∷ bound_words m es b (time_words now rest)
deed_words m now es (Broken v) rest = codes "broken" ∷ variable_name m v.0 ∷ time_words now rest

-- Words that stand apart.

-- words with spaces between them, and a line end
abbrev line_of : Word → Words → List ℕ → List ℕ
line_of w [] rest = w ++ 10 ∷ rest
line_of w (x ∷ ws) rest = w ++ 32 ∷ line_of x ws rest

line_words : (w : Word) (ws : Words) (rest : List ℕ) → IsWord w → AllByRecursion IsWord ws → words (line_of w ws rest) ≡ w ∷ (ws ++ words rest)
line_words w [] rest h k = then_end w 10 rest h refl
line_words w (x ∷ ws) rest h k = then_end w 32 (line_of x ws rest) h refl ∙ ap (λ (l : Words). w ∷ l) (line_words x ws rest k.0 k.1)

variable_word : (m : Mission) (v : ℕ) → IsMission m → v < length m.vars → IsWord (variable_name m v)
variable_word m v i h = name_word (variable_name m v) (variable_named m v i h)

-- a point, and what ends its last word
point_then : (m : Mission) (p : Point) (c : ℕ) (rest : List ℕ) → IsMission m → IsWritablePoint m p → ends_word c ≡ true → words (spelled_point m p ++ c ∷ rest) ≡ point_words m p (words rest)
point_then m origin c rest i h e = then_end (codes "Z") c rest (refl, tt) e
point_then m (horizon k) c rest i h e = ap (λ (l : Words). codes "H" ∷ l) (then_end (decimal k) c rest (decimal_word k) e)
point_then m (ending v j) c rest i h e =
    ap words (append_assoc (variable_name m v ++ codes " ") (decimal j) (c ∷ rest) ∙ append_assoc (variable_name m v) (codes " ") (decimal j ++ c ∷ rest))
    ∙ then_end (variable_name m v) 32 (decimal j ++ c ∷ rest) (variable_word m v i h.0) refl
    ∙ ap (λ (l : Words). variable_name m v ∷ l) (then_end (decimal j) c rest (decimal_word j) e)

-- the same by its number
number_then : (m : Mission) (ps : List Point) (x c : ℕ) (rest : List ℕ) → IsMission m → HasPoint m ps x → ends_word c ≡ true → words (point_in m ps x ++ c ∷ rest) ≡ number_words m ps x (words rest)
number_then m ps x c rest i h e =
    ap (λ (o : Option Point). words (elim o [ Some name ↦ spelled_point m name | None ↦ [] ] ++ c ∷ rest)) h.there
    ∙ point_then m h.point c rest i h.writable e
    ∙ ap (λ (o : Option Point). elim o [ Some p ↦ point_words m p (words rest) | None ↦ words rest ]) (sym h.there)

-- Lines.

fix_parts : (p s rest : List ℕ) → (((p ++ codes " ") ++ s) ++ codes "\n") ++ rest ≡ p ++ 32 ∷ (s ++ 10 ∷ rest)
fix_parts p s rest = simp append_assoc

fix_then : (m : Mission) (ps : List Point) (t : Time) (rest : List ℕ) → IsMission m → HasPoint m ps t.point.0 → words (fix_line m ps t ++ rest) ≡ fix_words m ps t (words rest)
fix_then m ps t rest i h =
    let p = point_in m ps t.point.0 in
    let s = signed_decimal t.at in
    ap (λ (l : List ℕ). codes "fix" ∷ words l) (fix_parts p s rest)
    ∙ ap (λ (l : Words). codes "fix" ∷ l)
    (number_then m ps t.point.0 32 (s ++ 10 ∷ rest) i h refl ∙ ap (λ (l : Words). number_words m ps t.point.0 l) (then_end s 10 rest (signed_word t.at) refl))

kind_then : (m : Mission) (k : Kind) (rest : List ℕ) → IsMission m → k.sv.0 < length m.vars → IsKindOf m.vars k → words (token_line m k ++ rest) ≡ kind_words m k (words rest)
kind_then m k rest i known h =
    ap (λ (l : List ℕ). codes "token" ∷ words l) (fix_parts (variable_name m k.sv.0) (value_name m k) rest)
    ∙ ap (λ (l : Words). codes "token" ∷ l)
    (line_words (variable_name m k.sv.0) (value_name m k ∷ []) rest (variable_word m k.sv.0 i known) (name_word (value_name m k) (value_named m k i h), tt))

support_parts : (a b n c d rest : List ℕ) → (((((((a ++ codes " ") ++ b) ++ codes " ") ++ n) ++ codes " ") ++ ((c ++ codes " ") ++ d)) ++ codes "\n") ++ rest ≡ a ++ 32 ∷ (b ++ 32 ∷ (n ++ 32 ∷ (c ++ 32 ∷ (d ++ 10 ∷ rest))))
support_parts a b n c d rest = simp append_assoc

support_then : (m : Mission) (s : Support) (rest : List ℕ) → IsMission m → IsWritableSupport m s → words (support_line m s ++ rest) ≡ support_words m s (words rest)
support_then m s rest i h =
    let a = variable_name m s.token.sv.0 in
    let b = decimal s.token.place in
    let n = decimal s.need in
    let c = variable_name m s.by.sv.0 in
    let d = decimal s.by.place in
    ap (λ (l : List ℕ). codes "support" ∷ words l) (support_parts a b n c d rest)
    ∙ ap (λ (l : Words). codes "support" ∷ l)
    (line_words a (b ∷ n ∷ c ∷ d ∷ []) rest (variable_word m s.token.sv.0 i h.token.known) (decimal_word s.token.place, (decimal_word s.need, (variable_word m s.by.sv.0 i h.by.known, (decimal_word s.by.place, tt)))))

goal_parts : (n a b rest : List ℕ) → (((n ++ codes " ") ++ ((a ++ codes " ") ++ b)) ++ codes "\n") ++ rest ≡ n ++ 32 ∷ (a ++ 32 ∷ (b ++ 10 ∷ rest))
goal_parts n a b rest = simp append_assoc

goals_then : (m : Mission) (n : ℕ) (ts : List TokenRef) (rest : List ℕ) → IsMission m → AllByRecursion (IsWritableToken m) ts → words (goal_lines m n ts ++ rest) ≡ goal_words m n ts (words rest)
goals_then m n [] rest i h = refl
goals_then m n (t ∷ ts) rest i h =
    let a = variable_name m t.sv.0 in
    let b = decimal t.place in
    let more = goal_lines m (n + 1) ts ++ rest in
    ap words (append_assoc (goal_line m n t) (goal_lines m (n + 1) ts) rest)
    ∙ ap (λ (l : List ℕ). codes "goal" ∷ words l) (goal_parts (decimal n) a b more)
    ∙ ap (λ (l : Words). codes "goal" ∷ l) (line_words (decimal n) (a ∷ b ∷ []) more (decimal_word n) (variable_word m t.sv.0 i h.0.known, (decimal_word t.place, tt)))
    ∙ ap (λ (l : Words). codes "goal" ∷ decimal n ∷ a ∷ b ∷ l) (goals_then m (n + 1) ts rest i h.1)

-- items, each of whose texts has its words
each_then : {A : Type 0} (P : A → Type 0) (text : A → List ℕ) (f : A → Words → Words) → ((x : A) (rest : List ℕ) → P x → words (text x ++ rest) ≡ f x (words rest)) → (xs : List A) (rest : List ℕ) → AllByRecursion P xs → words (flat_map text xs ++ rest) ≡ each_words f xs (words rest)
each_then P text f one [] rest h = refl
each_then P text f one (x ∷ xs) rest h =
    ap words (append_assoc (text x) (flat_map text xs) rest)
    ∙ one x (flat_map text xs ++ rest) h.0
    ∙ ap (f x) (each_then P text f one xs rest h.1)

-- Bodies.

-- what a body of the plan's extension has to be made of
pub record IsSpelledBody (m : Mission) (ps : List Point) (e : Extension) : Type 0 where
  pub fixed : AllByRecursion (λ (t : Time). HasPoint m ps t.point.0) e.fixed
  pub tokens : AllByRecursion (IsKindOf m.vars) e.tokens
  pub supports : AllByRecursion (IsWritableSupport m) e.supports
  pub goals : AllByRecursion (IsWritableToken m) e.goals

body_parts : (s fixed tokens supports goals close rest : List ℕ) → ((((((s ++ codes "\n") ++ fixed) ++ tokens) ++ supports) ++ goals) ++ close) ++ rest ≡ s ++ 10 ∷ (fixed ++ (tokens ++ (supports ++ (goals ++ (close ++ rest)))))
body_parts s fixed tokens supports goals close rest = simp append_assoc

pub body_then : (m : Mission) (ps : List Point) (e : Extension) (rest : List ℕ) → IsMission m → IsSpelledBody m ps e → words (body_in m ps e ++ rest) ≡ body_words m ps e (words rest)
body_then m ps e rest i h =
    let s = signed_decimal e.since in
    let close = codes "close\n" ++ rest in
    let goals = goal_lines m 0 e.goals ++ close in
    let supports = flat_map (support_line m) e.supports ++ goals in
    let tokens = flat_map (token_line m) e.tokens ++ supports in
    let fixed = flat_map (fix_line m ps) e.fixed ++ tokens in
    ap (λ (l : List ℕ). codes "since" ∷ words l) (body_parts s (flat_map (fix_line m ps) e.fixed) (flat_map (token_line m) e.tokens) (flat_map (support_line m) e.supports) (goal_lines m 0 e.goals) (codes "close\n") rest)
    ∙ ap (λ (l : Words). codes "since" ∷ l) (then_end s 10 fixed (signed_word e.since) refl)
    ∙ ap (λ (l : Words). codes "since" ∷ s ∷ l)
    (each_then (λ (t : Time). HasPoint m ps t.point.0) (fix_line m ps) (fix_words m ps) (λ t r p. fix_then m ps t r i p) e.fixed tokens h.fixed
    ∙ ap (each_words (fix_words m ps) e.fixed)
    (each_then (IsKindOf m.vars) (token_line m) (kind_words m) (λ k r p. kind_then m k r i (slice_get_within m.vars k.sv.0 p.0 p.1) p) e.tokens supports h.tokens
    ∙ ap (each_words (kind_words m) e.tokens)
    (each_then (IsWritableSupport m) (support_line m) (support_words m) (λ x r p. support_then m x r i p) e.supports goals h.supports
    ∙ ap (each_words (support_words m) e.supports) (goals_then m 0 e.goals close i h.goals))))

-- Deeds.

-- a bound between points of the plan
pub record IsSpelledBound (m : Mission) (ps : List Point) (b : Bound) : Type 0 where
  pub from : HasPoint m ps b.from.0
  pub to : HasPoint m ps b.to.0

bound_parts : (p q s : List ℕ) (c : ℕ) (rest : List ℕ) → ((((p ++ codes " to ") ++ q) ++ codes " most ") ++ s) ++ c ∷ rest ≡ p ++ 32 ∷ (codes "to " ++ (q ++ 32 ∷ (codes "most " ++ (s ++ c ∷ rest))))
bound_parts p q s c rest = simp append_assoc

bound_then : (m : Mission) (es : List Extension) (b : Bound) (c : ℕ) (rest : List ℕ) → IsMission m → IsSpelledBound m (points_of es) b → ends_word c ≡ true → words (bound_text m es b ++ c ∷ rest) ≡ bound_words m es b (words rest)
bound_then m es b c rest i h e =
    let ps = points_of es in
    let s = signed_decimal b.most in
    let most = codes "most " ++ (s ++ c ∷ rest) in
    ap words (bound_parts (point_in m ps b.from.0) (point_in m ps b.to.0) s c rest)
    ∙ number_then m ps b.from.0 32 (codes "to " ++ (point_in m ps b.to.0 ++ 32 ∷ most)) i h.from refl
    ∙ ap (λ (l : Words). number_words m ps b.from.0 (codes "to" ∷ l))
    (number_then m ps b.to.0 32 most i h.to refl
    ∙ ap (λ (l : Words). number_words m ps b.to.0 (codes "most" ∷ l)) (then_end s c rest (signed_word b.most) e))

-- what is needed of a deed behind the plan es
abbrev pub IsSpelledDeed : Mission → List Extension → Deed → Type 0
IsSpelledDeed m es Tick = Unit {0}
IsSpelledDeed m es (Fire x) = HasPoint m (points_of es) x.0
IsSpelledDeed m es (Report x) = HasPoint m (points_of es) x.0
IsSpelledDeed m es (Handover e net) = IsSpelledBody m (points_of es) e
IsSpelledDeed m es (Stale e b from to) = IsSpelledBody m (points_of es) e × IsSpelledBound m (points_of (es ++ e ∷ [])) b
IsSpelledDeed m es (Late b) = IsSpelledBound m (points_of es) b
IsSpelledDeed m es (Early b) = IsSpelledBound m (points_of es) b
IsSpelledDeed m es (Broken v) = v.0 < length m.vars

time_parts : (p now rest : List ℕ) → ((p ++ (codes " at " ++ now)) ++ codes "\n") ++ rest ≡ p ++ 32 ∷ (codes "at " ++ (now ++ 10 ∷ rest))
time_parts p now rest = simp append_assoc

time_then : (now c : ℕ) (rest : List ℕ) → ends_word c ≡ true → words (codes "at " ++ (decimal now ++ c ∷ rest)) ≡ time_words now (words rest)
time_then now c rest e = ap (λ (l : Words). codes "at" ∷ l) (then_end (decimal now) c rest (decimal_word now) e)

fired_then : (m : Mission) (now : ℕ) (p : Point) (rest : List ℕ) → IsMission m → IsWritablePoint m p → words ((fired_text m (Some p) ++ at_text now ++ codes "\n") ++ rest) ≡ fired_words m (Some p) (time_words now (words rest))
fired_then m now origin rest i h = ap (λ (l : List ℕ). codes "fire" ∷ words l) (time_parts (codes "Z") (decimal now) rest) ∙ ap (λ (l : Words). codes "fire" ∷ codes "Z" ∷ l) (time_then now 10 rest refl)
fired_then m now (horizon k) rest i h =
    let time = codes "at " ++ (decimal now ++ 10 ∷ rest) in
    ap (λ (l : List ℕ). codes "horizon" ∷ words l) (time_parts (decimal k) (decimal now) rest)
    ∙ ap (λ (l : Words). codes "horizon" ∷ l) (then_end (decimal k) 32 time (decimal_word k) refl ∙ ap (λ (l : Words). decimal k ∷ l) (time_then now 10 rest refl))
fired_then m now (ending v j) rest i h =
    let time = codes "at " ++ (decimal now ++ 10 ∷ rest) in
    ap (λ (l : List ℕ). codes "fire" ∷ words l) (time_parts (spelled_point m (ending v j)) (decimal now) rest)
    ∙ ap (λ (l : Words). codes "fire" ∷ l) (point_then m (ending v j) 32 time i h refl ∙ ap (point_words m (ending v j)) (time_then now 10 rest refl))

handover_parts : (base now g n body rest : List ℕ) → (((((base ++ (codes " at " ++ now)) ++ codes " ") ++ (((codes "groups " ++ g) ++ codes " edges ") ++ n)) ++ codes "\n") ++ body) ++ rest ≡ base ++ 32 ∷ (codes "at " ++ (now ++ 32 ∷ (codes "groups " ++ (g ++ 32 ∷ (codes "edges " ++ (n ++ 10 ∷ (body ++ rest)))))))
handover_parts base now g n body rest = simp append_assoc

handover_then : (m : Mission) (now : ℕ) (es : List Extension) (e : Extension) (net : Net) (rest : List ℕ) → IsMission m → IsSpelledBody m (points_of es) e → words (deed_text m now es (Handover e net) ++ rest) ≡ deed_words m now es (Handover e net) (words rest)
handover_then m now es e net rest i h =
    let base = decimal (e.base + 1) in
    let g = decimal (length net.groups) in
    let n = decimal (length net.edges) in
    let body = body_in m (points_of es) e ++ rest in
    let edges = codes "edges " ++ (n ++ 10 ∷ body) in
    let groups = codes "groups " ++ (g ++ 32 ∷ edges) in
    let time = codes "at " ++ (decimal now ++ 32 ∷ groups) in
    ap (λ (l : List ℕ). codes "handover" ∷ words l) (handover_parts base (decimal now) g n (body_in m (points_of es) e) rest)
    ∙ ap (λ (l : Words). codes "handover" ∷ l)
    (then_end base 32 time (decimal_word (e.base + 1)) refl
    ∙ ap (λ (l : Words). base ∷ l)
    (time_then now 32 groups refl
    ∙ ap (λ (l : Words). time_words now (codes "groups" ∷ l))
    (then_end g 32 edges (decimal_word (length net.groups)) refl
    ∙ ap (λ (l : Words). g ∷ codes "edges" ∷ l)
    (then_end n 10 body (decimal_word (length net.edges)) refl ∙ ap (λ (l : Words). n ∷ l) (body_then m (points_of es) e rest i h)))))

stale_parts : (base now bound p q body rest : List ℕ) → (((((((((base ++ (codes " at " ++ now)) ++ codes " bound ") ++ bound) ++ codes " times ") ++ p) ++ codes " ") ++ q) ++ codes "\n") ++ body) ++ rest ≡ base ++ 32 ∷ (codes "at " ++ (now ++ 32 ∷ (codes "bound " ++ (bound ++ 32 ∷ (codes "times " ++ (p ++ 32 ∷ (q ++ 10 ∷ (body ++ rest))))))))
stale_parts base now bound p q body rest = simp append_assoc

stale_then : (m : Mission) (now : ℕ) (es : List Extension) (e : Extension) (b : Bound) (from to : ℤ) (rest : List ℕ) → IsMission m → IsSpelledBody m (points_of es) e → IsSpelledBound m (points_of (es ++ e ∷ [])) b → words (deed_text m now es (Stale e b from to) ++ rest) ≡ deed_words m now es (Stale e b from to) (words rest)
stale_then m now es e b from to rest i h k =
    let base = decimal (e.base + 1) in
    let p = signed_decimal from in
    let q = signed_decimal to in
    let body = body_in m (points_of es) e ++ rest in
    let times = codes "times " ++ (p ++ 32 ∷ (q ++ 10 ∷ body)) in
    let bound = codes "bound " ++ (bound_text m (es ++ e ∷ []) b ++ 32 ∷ times) in
    let time = codes "at " ++ (decimal now ++ 32 ∷ bound) in
    ap (λ (l : List ℕ). codes "stale" ∷ words l) (stale_parts base (decimal now) (bound_text m (es ++ e ∷ []) b) p q (body_in m (points_of es) e) rest)
    ∙ ap (λ (l : Words). codes "stale" ∷ l)
    (then_end base 32 time (decimal_word (e.base + 1)) refl
    ∙ ap (λ (l : Words). base ∷ l)
    (time_then now 32 bound refl
    ∙ ap (λ (l : Words). time_words now (codes "bound" ∷ l))
    (bound_then m (es ++ e ∷ []) b 32 times i k refl
    ∙ ap (λ (l : Words). bound_words m (es ++ e ∷ []) b (codes "times" ∷ l))
    (then_end p 32 (q ++ 10 ∷ body) (signed_word from) refl
    ∙ ap (λ (l : Words). p ∷ l) (then_end q 10 body (signed_word to) refl ∙ ap (λ (l : Words). q ∷ l) (body_then m (points_of es) e rest i h))))))

-- a word at the front of what was read
report_then : (m : Mission) (now : ℕ) (ps : List Point) (x : ℕ) (rest : List ℕ) → IsMission m → HasPoint m ps x → words (((point_in m ps x ++ at_text now) ++ codes "\n") ++ rest) ≡ number_words m ps x (time_words now (words rest))
report_then m now ps x rest i h =
    ap words (time_parts (point_in m ps x) (decimal now) rest)
    ∙ number_then m ps x 32 (codes "at " ++ (decimal now ++ 10 ∷ rest)) i h refl
    ∙ ap (number_words m ps x) (time_then now 10 rest refl)

held_then : (m : Mission) (now : ℕ) (es : List Extension) (b : Bound) (rest : List ℕ) → IsMission m → IsSpelledBound m (points_of es) b → words (((bound_text m es b ++ at_text now) ++ codes "\n") ++ rest) ≡ bound_words m es b (time_words now (words rest))
held_then m now es b rest i h =
    ap words (time_parts (bound_text m es b) (decimal now) rest)
    ∙ bound_then m es b 32 (codes "at " ++ (decimal now ++ 10 ∷ rest)) i h refl
    ∙ ap (bound_words m es b) (time_then now 10 rest refl)

-- the words of a deed's text, and those behind them
pub deed_then : (m : Mission) (now : ℕ) (es : List Extension) (d : Deed) (rest : List ℕ) → IsMission m → IsSpelledDeed m es d → words (deed_text m now es d ++ rest) ≡ deed_words m now es d (words rest)
deed_then m now es Tick rest i h = refl
deed_then m now es (Fire x) rest i h =
    ap (λ (o : Option Point). words ((fired_text m o ++ at_text now ++ codes "\n") ++ rest)) h.there
    ∙ fired_then m now h.point rest i h.writable
    ∙ ap (λ (o : Option Point). fired_words m o (time_words now (words rest))) (sym h.there)
deed_then m now es (Report x) rest i h = ap (λ (l : Words). codes "report" ∷ l) (report_then m now (points_of es) x.0 rest i h)
deed_then m now es (Handover e net) rest i h = handover_then m now es e net rest i h
deed_then m now es (Stale e b from to) rest i h = stale_then m now es e b from to rest i h.0 h.1
deed_then m now es (Late b) rest i h = ap (λ (l : Words). codes "late" ∷ l) (held_then m now es b rest i h)
deed_then m now es (Early b) rest i h = ap (λ (l : Words). codes "early" ∷ l) (held_then m now es b rest i h)
deed_then m now es (Broken v) rest i h =
    ap (λ (l : List ℕ). codes "broken" ∷ words l) (time_parts (variable_name m v.0) (decimal now) rest)
    ∙ ap (λ (l : Words). codes "broken" ∷ l)
    (then_end (variable_name m v.0) 32 (codes "at " ++ (decimal now ++ 10 ∷ rest)) (variable_word m v.0 i h) refl ∙ ap (λ (l : Words). variable_name m v.0 ∷ l) (time_then now 10 rest refl))
