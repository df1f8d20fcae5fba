-- A written plan has no more points than its text has pieces, and as many as the plan that it means.
use Rattle.std.proofs.Common.{◌≡◌, ℕ, ◌+◌, ◌<◌, ◌≤◌, ℤ, List, [], ◌∷◌, ◌++◌, length, take, get_or, ap, ◌∙◌, length-append, arith}
use Rattle.std.specs.List.{AllZip}
use Rattle.std.proofs.lemmas.Grind.{flat_map-append}
use Rattle.std.proofs.lemmas.List.{length-map}
use Rattle.hs_base.specs.declared.limits.TheConstants.{TEXT_BYTES}
use Rattle.hs_base.specs.declared.mission.Mission.{Mission}
use Rattle.hs_base.specs.declared.plan.Extension.{Extension}
use Rattle.hs_base.specs.Points.{tokens_of, count}
use Rattle.base_laws.proofs.PointLemmas.{count_is}
use Rattle.hs_texts.specs.Pieces.{Piece as Spelling}
use Rattle.hs_texts.specs.Languages.{Language, Then, Many, Keyword, Number}
use Rattle.hs_texts.specs.declared.written.WrittenBody.{WrittenBody}
use Rattle.hs_texts.specs.declared.written.WrittenTime.{WrittenTime}
use Rattle.hs_texts.specs.declared.written.WrittenKind.{WrittenKind}
use Rattle.hs_texts.specs.declared.written.WrittenSupport.{WrittenSupport}
use Rattle.hs_texts.specs.declared.written.WrittenToken.{WrittenToken}
use Rattle.hs_texts.specs.declared.written.WrittenExtension.{WrittenExtension}
use Rattle.hs_texts.specs.Kept.{Kept, kept, broken, onward, Items, Series}
use Rattle.hs_texts.specs.PlanGrammar.{token_names, Exactly, OneMore, FixText, NewTokenText, BodyEnd, BodyBack, BodyText, Extended, ExtensionBack, ExtensionText, PlanEnd, PlanBack, PlanGrammar}
use Rattle.hs_texts.specs.PlanSpelling.{KindMeans, ExtensionMeans, ExtensionsMean}
use Rattle.text_laws.specs.Parsers.{done}
use Rattle.ddl_read.specs.declared.piece.Piece.{Piece}
use Rattle.ddl_read.specs.Cutting.{IsCut}
use Rattle.ddl_read.specs.Spelled.{spellings}
use Rattle.ddl_read.proofs.CutLemmas.{few_pieces}
use Rattle.std.specs.Prelude.{drop}
use Rattle.plan_text.specs.Naming.{point_count}
use Rattle.plan_text.specs.PlanReading.{plan_at}
use Rattle.plan_text.specs.SoFar.{names_of_kinds}
use Rattle.plan_text.proofs.NamingLemmas.{take_split}
use Rattle.plan_text.proofs.PlanReadLemmas.{plan_reads}
use Rattle.plan_text.proofs.ReadingLemmas.{few_spelled}

-- In a text.

-- a value that is kept weighs no more than its sentence has pieces
pub record Weighs {A : Type 0} (R : Language (Kept A)) (w : A → ℕ) : Type 0 where
  pub weighs : (u : List Spelling) (x : A) → R u (kept x) → w x ≤ length u

same_kept : {A : Type 0} (x y : A) → kept x ≡ kept y → x ≡ y
same_kept x y e = cc

not_kept : {A : Type 0} (x : A) (n : ℕ) → kept x ≡ broken n → ⊥
not_kept x n e = cc

-- behind another sentence
weighs_then : {A B : Type 0} (R : Language A) (S : A → Language (Kept B)) (w : B → ℕ) → ((x : A) → Weighs (S x) w) → Weighs (Then R S) w
weighs_then R S w s = record { weighs = λ u y h. let k = (s h.value).weighs h.back y h.second in omega (arith, ap length h.joined, length-append h.front h.back, k) }

weighs_onward : {A B : Type 0} (S : A → Language (Kept B)) (w : B → ℕ) → ((x : A) → Weighs (S x) w) → (v : Kept A) → Weighs (onward S v) w
weighs_onward S w s (kept x) = s x
weighs_onward S w s (broken n) = record { weighs = λ u y h. absurd (not_kept y n h.1) }

-- tokens one after another
new_tokens : (u : List Spelling) (ks : List WrittenKind) → Many NewTokenText u ks → length ks ≤ length u
new_tokens u [] h = omega arith
new_tokens u (k ∷ ks) h =
    let more = new_tokens h.1 ks h.3 in
    let word = h.2 in
    omega (arith, more, ap length h.4, length-append h.0 h.1, ap length word.joined, length-append word.front word.back, ap length word.first.1)

abbrev pub tokens_in : WrittenBody → ℕ
tokens_in b = length b.tokens

body_end : (since : ℤ) (fixed : List WrittenTime) (tokens : List WrittenKind) (supports : List WrittenSupport) (goals : Kept (List WrittenToken)) (u : List Spelling) (b : WrittenBody) → onward (BodyEnd since fixed tokens supports) goals u (kept b) → tokens_in b ≡ length tokens
body_end since fixed tokens supports (kept goals) u b h = ap tokens_in (same_kept b _ h.second.1)
body_end since fixed tokens supports (broken n) u b h = absurd (not_kept b n h.1)

body_back : (since : ℤ) (fixed : List WrittenTime) → Weighs (BodyBack since fixed) tokens_in
body_back since fixed = record {
  weighs = λ u b h.
      let goals = h.second.second in
      omega (arith, new_tokens h.front h.value h.first, body_end since fixed h.value h.second.value goals.value goals.back b goals.second, ap length h.joined, length-append h.front h.back);
}

-- a body's text has a piece for each of its tokens
pub body_weighs : (m : Mission) (es : List WrittenExtension) → Weighs (BodyText m es) tokens_in
body_weighs m es =
    weighs_then (Keyword "since") _ tokens_in (λ _. weighs_then Number _ tokens_in (λ since.
    weighs_then (Series (FixText m) (λ before time. before) es) _ tokens_in (weighs_onward (BodyBack since) tokens_in (body_back since))))

extended_body : (base : ℕ) (u v : List Spelling) (m : Mission) (es : List WrittenExtension) (body : Kept WrittenBody) (e : WrittenExtension) → BodyText m es u body → onward (Extended base) body v (kept e) → tokens_in e.body ≤ length u
extended_body base u v m es (kept b) e h k = let is = same_kept e _ k.1 in omega (arith, (body_weighs m es).weighs u b h, ap (λ (x : WrittenExtension). tokens_in x.body) is)
extended_body base u v m es (broken n) e h k = absurd (not_kept e n k.1)

extension_back : (m : Mission) (es : List WrittenExtension) (base : ℕ) → Weighs (ExtensionBack m es base) (λ e. tokens_in e.body)
extension_back m es base = record { weighs = λ u e h. omega (arith, extended_body base h.front h.back m es h.value e h.first h.second, ap length h.joined, length-append h.front h.back) }

-- and that of an extension one more
extension : (m : Mission) (es : List WrittenExtension) (u : List Spelling) (e : WrittenExtension) → ExtensionText m es u (kept e) → tokens_in e.body + 1 ≤ length u
extension m es u e h =
    let k = (weighs_then OneMore _ (λ (x : WrittenExtension). tokens_in x.body) (weighs_onward (ExtensionBack m es) (λ (x : WrittenExtension). tokens_in x.body) (extension_back m es))).weighs h.back e h.second in
    omega (arith, k, ap length h.joined, length-append h.front h.back, ap length h.first.1)

-- the names of the tokens of one more
names-cons : (w : WrittenExtension) (ws : List WrittenExtension) → length (token_names (w ∷ ws)) ≡ length w.body.tokens + length (token_names ws)
names-cons w ws = length-append (names_of_kinds w.body.tokens) (token_names ws) ∙ ap (λ (n : ℕ). n + length (token_names ws)) (length-map w.body.tokens (λ (k : WrittenKind). k.sv))

extensions : (m : Mission) (before ws : List WrittenExtension) (u : List Spelling) → Items (ExtensionText m) (λ b e. b ++ e ∷ []) before u ws → length ws + length (token_names ws) ≤ length u
extensions m before [] u h = omega arith
extensions m before (w ∷ ws) u h = omega (arith, extension m before h.0 w h.2, extensions m (before ++ w ∷ []) ws h.1 h.3, names-cons w ws, ap length h.4, length-append h.0 h.1)

ended : (m : Mission) (u v : List Spelling) (es : Kept (List WrittenExtension)) (ws : List WrittenExtension) → Series (ExtensionText m) (λ b e. b ++ e ∷ []) [] u es → onward PlanEnd es v (kept ws) → length ws + length (token_names ws) ≤ length u
ended m u v (kept es) ws h k = let is = same_kept ws es k.second.1 in omega (arith, extensions m [] es u h, ap length is, ap (λ (x : List WrittenExtension). length (token_names x)) is)
ended m u v (broken n) ws h k = absurd (not_kept ws n k.1)

abbrev parts_of : List WrittenExtension → ℕ
parts_of ws = length ws + length (token_names ws)

plan_back : (m : Mission) (one : Unit {0}) → Weighs (PlanBack m one) parts_of
plan_back m one = record { weighs = λ u ws h. omega (arith, ended m h.front h.back h.value ws h.first h.second, ap length h.joined, length-append h.front h.back) }

-- a plan's text has a piece for each point
pub plan_weighs : (m : Mission) (u : List Spelling) (ws : List WrittenExtension) → PlanGrammar m u (kept ws) → point_count ws ≤ length u
plan_weighs m u ws h =
    let behind = weighs_then (Keyword "plan") _ parts_of (λ _. weighs_then (Exactly 1) _ parts_of (weighs_onward (PlanBack m) parts_of (plan_back m))) in
    omega (arith, behind.weighs h.back ws h.second, ap length h.joined, length-append h.front h.back, ap length h.first.1)

-- so a plan that was read has no more points than texts may have bytes
pub few_points : (m : Mission) (text : List ℕ) (i : ℕ) (ps : List Piece) (rest : List Spelling) (ws : List WrittenExtension) → IsCut text ps → plan_at m (spellings text (drop i ps)) ≡ done (kept ws) rest → point_count ws ≤ TEXT_BYTES
few_points m text i ps rest ws c h =
    let read = (plan_reads m).sound (spellings text (drop i ps)) rest (kept ws) h in
    omega (arith, plan_weighs m read.front ws read.sentence, ap length read.split, length-append read.front rest, few_spelled text i ps, few_pieces text ps c)

-- In a plan that is meant.

zip_length : {A B : Type 0} (P : A → B → Type 0) (xs : List A) (ys : List B) → AllZip P xs ys → length ys ≡ length xs
zip_length P [] [] h = omega arith
zip_length P [] (y ∷ ys) h = absurd h
zip_length P (x ∷ xs) [] h = absurd h
zip_length P (x ∷ xs) (y ∷ ys) h = omega (arith, zip_length P xs ys h.1)

-- an extension has the tokens that were written
pub tokens_meant : (m : Mission) (es : List Extension) (w : WrittenExtension) (e : Extension) → ExtensionMeans m es w e → length e.tokens ≡ length w.body.tokens
tokens_meant m es w e h = zip_length (KindMeans m) w.body.tokens e.tokens h.tokens

parts_meant : (m : Mission) (before : List Extension) (ws : List WrittenExtension) (es : List Extension) → ExtensionsMean m before ws es → length es + length (tokens_of es) ≡ length ws + length (token_names ws)
parts_meant m before [] [] h = omega arith
parts_meant m before [] (e ∷ es) h = absurd h
parts_meant m before (w ∷ ws) [] h = absurd h
parts_meant m before (w ∷ ws) (e ∷ es) h = omega (arith, parts_meant m (before ++ e ∷ []) ws es h.1, tokens_meant m before w e h.0, names-cons w ws, length-append e.tokens (tokens_of es))

-- a plan has the points that were written
pub points_meant : (m : Mission) (ws : List WrittenExtension) (es : List Extension) → ExtensionsMean m [] ws es → count es ≡ point_count ws
points_meant m ws es h = omega (arith, count_is es, parts_meant m [] ws es h)

-- the points of one extension are among all
pub room_written : (ws : List WrittenExtension) (i : ℕ) (w : WrittenExtension) → i < length ws → w ≡ get_or ws i w → point_count (take i ws) + 1 + length w.body.tokens ≤ point_count ws
room_written ws i w below is =
    let s = take_split ws i w below in
    let here = get_or ws i w in
    let names : length (token_names ws) ≡ length (token_names (take i ws)) + length (token_names (here ∷ s.0)) =
    ap (λ (x : List WrittenExtension). length (token_names x)) s.1 ∙ ap length (flat_map-append (λ (x : WrittenExtension). names_of_kinds x.body.tokens) (take i ws) (here ∷ s.0)) ∙ length-append (token_names (take i ws)) (token_names (here ∷ s.0)) in
    omega (arith, names, names-cons here s.0, ap (λ (x : WrittenExtension). length x.body.tokens) is, ap length s.1, length-append (take i ws) (here ∷ s.0))
