-- Each nonterminal of a plan's text is read by its parser.
use Rattle.std.proofs.Common.{◌≡◌, ℕ, ◌+◌, ℤ, List, [], ◌∷◌, ◌++◌, Bool, true, false, cond, refl, ap, ◌∙◌, subst}
use Rattle.std.specs.Prelude.{Some, None, codes}
use Rattle.std.specs.List.{list_any}
use Prim.Native.String.{String}
use Rattle.hs_base.specs.declared.mission.Mission.{Mission}
use Rattle.hs_base.specs.Names.{is_name}
use Rattle.hs_texts.specs.Pieces.{Piece, word, number as digits, symbol}
use Rattle.hs_texts.specs.Languages.{Language, Yields, Then, ◌∣◌, Many, Keyword, Number, After}
use Rattle.hs_texts.specs.MissionText.{name_says}
use Rattle.hs_texts.specs.PlanGrammar.{Name, count_says, Count}
use Rattle.text_laws.specs.Parsers.{Parser, next, ◌>>=◌, yields, is_word, choose, many, keyword, number, after}
use Rattle.text_laws.specs.Reads.{Avoids, Reads, Leads, BeginsWith}
use Rattle.text_laws.specs.MissionReading.{name_at}
use Rattle.text_laws.proofs.ParserLemmas.{one_reads, yields_reads}
use Rattle.text_laws.proofs.ThenLemmas.{then_reads, then_any}
use Rattle.text_laws.proofs.ChoiceLemmas.{choose_reads, not_found, begins_next}
use Rattle.text_laws.proofs.ListLemmas.{avoids_none}
use Rattle.text_laws.proofs.ManyLemmas.{AreItems, many_reads}
use Rattle.text_laws.proofs.FollowLemmas.{same_piece, avoids_test, leads_begin, leads_either, leads_then, leads_many, begins_then, begins_keyword, keyword_reads, number_reads, finds_word, after_reads, keyed_items}
use Rattle.text_laws.proofs.MissionLemmas.{kw, name_reads}
use Rattle.hs_texts.specs.declared.written.WrittenPoint.{WrittenPoint}
use Rattle.hs_texts.specs.declared.written.WrittenPoint.TheVariants.{Origin}
use Rattle.hs_texts.specs.declared.written.WrittenToken.{WrittenToken}
use Rattle.hs_texts.specs.declared.written.WrittenTime.{WrittenTime}
use Rattle.hs_texts.specs.declared.written.WrittenKind.{WrittenKind}
use Rattle.hs_texts.specs.declared.written.WrittenSupport.{WrittenSupport}
use Rattle.hs_texts.specs.declared.written.WrittenBody.{WrittenBody}
use Rattle.hs_texts.specs.declared.written.WrittenExtension.{WrittenExtension}
use Rattle.hs_texts.specs.Kept.{Kept, broken, onward, Series}
use Rattle.hs_texts.specs.PlanGrammar.{may_be_fixed, point_size, Exactly, OneMore, TokenText, HorizonPoint, EndPoint, PointText, FixedAt, FixText, NewTokenText, SupportText, GoalToken, GoalText, BodyEnd, BodyBack, BodyText, Extended, ExtensionBack, ExtensionText, PlanEnd, PlanBack, PlanGrammar}
use Rattle.plan_text.specs.PlanReading.{onward_at, series, count_at, exactly_at, one_more_at, token_at, horizon_point_at, end_point_at, point_at, fixed_at, fix_at, new_token_at, support_at, goal_token_at, goal_at, body_end_at, fixed_points_at, goals_at, body_back_at, body_at, extended_at, extension_back_at, extension_at, plan_end_at, extensions_at, plan_back_at, plan_at}
use Rattle.plan_text.proofs.OnwardLemmas.{onward_each, onward_reads}
use Rattle.plan_text.proofs.SeriesLemmas.{AreKept, series_kept, leads_series}

-- One piece.

pub count_reads : Reads Count count_at []
unfolding count_at
count_reads = one_reads count_says (record { pieces = digits [] ∷ []; value = 0; sentence = (digits [], refl, refl) })

pub exactly_reads : (n : ℕ) → Reads (Exactly n) (exactly_at n) []
unfolding exactly_at
exactly_reads n = then_any Count _ count_at _ [] count_reads (λ k. yields_reads _)

pub one_more_reads : Reads OneMore one_more_at []
unfolding one_more_at
one_more_reads = then_any Count _ count_at _ [] count_reads (λ k. yields_reads _)

-- Points and tokens.

pub token_reads : Reads TokenText token_at []
unfolding token_at
token_reads = then_any Name _ (name_at 1) _ [] (name_reads 1) (λ sv. then_any Count _ count_at _ [] count_reads (λ place. yields_reads _))

pub horizon_point_reads : Reads HorizonPoint horizon_point_at []
unfolding horizon_point_at
horizon_point_reads = then_any Count _ count_at _ [] count_reads (λ k. yields_reads _)

pub end_point_reads : Reads EndPoint end_point_at []
unfolding end_point_at
end_point_reads = then_any TokenText _ token_at _ [] token_reads (λ token. yields_reads _)

-- a name begins small, and Z and H don't
large_is_no_name : (w : List ℕ) (p : Piece) (x : List ℕ) → is_name w ≡ false → name_says 1 p ≡ Some x → Avoids (word w ∷ []) (Some p)
large_is_no_name w (word v) x n h = ((λ e. let k : is_name v ≡ false = subst (λ (z : Piece). named z ≡ false) e n in cc (h, ap (λ b. cond b (Some v) None) k)), tt) where
  named : Piece → Bool
  named (word v) = is_name v
  named _ = false
large_is_no_name w (digits ds) x n h = absurd cc
large_is_no_name w (symbol c) x n h = absurd cc

end_leads : (w : List ℕ) → is_name w ≡ false → Leads EndPoint [] (word w ∷ [])
end_leads w n = record { avoids = λ u rest x h a. avoided u rest x h } where
  avoided : (u rest : List Piece) (x : WrittenPoint) → EndPoint u x → Avoids (word w ∷ []) (next (u ++ rest))
  avoided u rest x h = rw (h.joined, h.first.joined, h.first.first.1) (large_is_no_name w h.first.first.0 h.first.value n h.first.first.2)

horizon_or_end_leads : Leads (After "H" HorizonPoint ∣ EndPoint) [] (kw "Z" ∷ [])
unfolding is_name
horizon_or_end_leads = leads_either (After "H" HorizonPoint) EndPoint [] (kw "Z" ∷ []) (leads_begin (After "H" HorizonPoint) (kw "H") [] (kw "Z" ∷ []) (begins_then (Keyword "H") _ (kw "H") (begins_keyword "H")) refl) (end_leads (codes "Z") refl)

horizon_or_end_reads : Reads (After "H" HorizonPoint ∣ EndPoint) (choose (is_word (codes "H")) (after "H" horizon_point_at) end_point_at) []
unfolding is_name
horizon_or_end_reads = choose_reads (is_word (codes "H")) (kw "H") (After "H" HorizonPoint) EndPoint (after "H" horizon_point_at) end_point_at [] (finds_word "H") (begins_then (Keyword "H") _ (kw "H") (begins_keyword "H")) (after_reads "H" HorizonPoint horizon_point_at [] horizon_point_reads) end_point_reads (end_leads (codes "H") refl)

pub point_reads : Reads PointText point_at []
unfolding point_at
point_reads = choose_reads (is_word (codes "Z")) (kw "Z") (After "Z" (Yields Origin)) (After "H" HorizonPoint ∣ EndPoint) (after "Z" (yields Origin)) (choose (is_word (codes "H")) (after "H" horizon_point_at) end_point_at) [] (finds_word "Z") (begins_then (Keyword "Z") _ (kw "Z") (begins_keyword "Z")) (after_reads "Z" (Yields Origin) (yields Origin) [] (yields_reads Origin)) horizon_or_end_reads horizon_or_end_leads

-- The clauses of a body.

fixed_reads : (point : WrittenPoint) → Reads (FixedAt point) (fixed_at point) []
unfolding fixed_at
fixed_reads point = then_any Number _ number _ [] number_reads (λ at. yields_reads _)

pub fix_reads : (m : Mission) (es : List WrittenExtension) → Reads (FixText m es) (fix_at m es) []
unfolding fix_at
fix_reads m es =
    then_any (Keyword "fix") _ (keyword "fix") _ [] (keyword_reads "fix") (λ _.
    then_any PointText _ point_at _ [] point_reads (λ point.
    elim (may_be_fixed m es point) as (λ b. Reads (cond b (FixedAt point) (Yields (broken (point_size point)))) (cond b (fixed_at point) (yields (broken (point_size point)))) []) [
      | true ↦ fixed_reads point
      | false ↦ yields_reads (broken (point_size point))
    ]))

pub new_token_reads : Reads NewTokenText new_token_at []
unfolding new_token_at
new_token_reads =
    then_any (Keyword "token") _ (keyword "token") _ [] (keyword_reads "token") (λ _.
    then_any Name _ (name_at 1) _ [] (name_reads 1) (λ sv.
    then_any Name _ (name_at 1) _ [] (name_reads 1) (λ value. yields_reads _)))

pub support_reads : Reads SupportText support_at []
unfolding support_at
support_reads =
    then_any (Keyword "support") _ (keyword "support") _ [] (keyword_reads "support") (λ _.
    then_any TokenText _ token_at _ [] token_reads (λ token.
    then_any Count _ count_at _ [] count_reads (λ need.
    then_any TokenText _ token_at _ [] token_reads (λ by. yields_reads _))))

goal_token_reads : (u : Unit {0}) → Reads (GoalToken u) (goal_token_at u) []
unfolding goal_token_at
goal_token_reads u = then_any TokenText _ token_at _ [] token_reads (λ token. yields_reads _)

pub goal_reads : (n : ℕ) → Reads (GoalText n) (goal_at n) []
unfolding goal_at
goal_reads n =
    then_any (Keyword "goal") _ (keyword "goal") _ [] (keyword_reads "goal") (λ _.
    then_any (Exactly n) (onward GoalToken) (exactly_at n) (onward_at goal_token_at) [] (exactly_reads n) (onward_each GoalToken goal_token_at goal_token_reads))

-- Items.

pub begins_word : {A : Type 0} (w : String) (S : Unit {0} → Language A) → BeginsWith (Then (Keyword w) S) (kw w)
begins_word w S = begins_then (Keyword w) S (kw w) (begins_keyword w)

keyed_series : {A S : Type 0} (w : String) (R : S → Language (Kept A)) (p : S → Parser (Kept A)) → ((s : S) → BeginsWith (R s) (kw w)) → ((s : S) → Reads (R s) (p s) []) → AreKept (is_word (codes w)) (kw w ∷ []) R p []
keyed_series w R p b r = record {
  none = refl;
  begins = λ s u rest v h. ap (is_word (codes w)) (begins_next (R s) (kw w) (b s) u rest v h) ∙ (finds_word w).here;
  reads = r;
  behind = λ o h. avoids_none o;
  stops = λ o a. (not_found (is_word (codes w)) (kw w) (finds_word w) o a, avoids_none o);
}

pub new_token_items : AreItems (is_word (codes "token")) (kw "token") NewTokenText new_token_at []
new_token_items = keyed_items "token" NewTokenText new_token_at [] (begins_word "token" _) new_token_reads refl

pub support_items : AreItems (is_word (codes "support")) (kw "support") SupportText support_at []
support_items = keyed_items "support" SupportText support_at [] (begins_word "support" _) support_reads refl

pub fix_series : (m : Mission) → AreKept (is_word (codes "fix")) (kw "fix" ∷ []) (FixText m) (fix_at m) []
fix_series m = keyed_series "fix" (FixText m) (fix_at m) (λ es. begins_word "fix" _) (fix_reads m)

pub goal_series : AreKept (is_word (codes "goal")) (kw "goal" ∷ []) GoalText goal_at []
goal_series = keyed_series "goal" GoalText goal_at (λ n. begins_word "goal" _) goal_reads

-- Bodies.

body_end_reads : (since : ℤ) (fixed : List WrittenTime) (tokens : List WrittenKind) (supports : List WrittenSupport) (goals : List WrittenToken) → Reads (BodyEnd since fixed tokens supports goals) (body_end_at since fixed tokens supports goals) []
unfolding body_end_at
body_end_reads since fixed tokens supports goals = then_any (Keyword "close") _ (keyword "close") _ [] (keyword_reads "close") (λ _. yields_reads _)

abbrev GoalsBack : ℤ → List WrittenTime → List WrittenKind → List WrittenSupport → Language (Kept WrittenBody)
GoalsBack since fixed tokens supports = Then (Series GoalText (λ n goal. n + 1) 0) (onward (BodyEnd since fixed tokens supports))

goals_back_reads : (since : ℤ) (fixed : List WrittenTime) (tokens : List WrittenKind) (supports : List WrittenSupport) → Reads (GoalsBack since fixed tokens supports) (goals_at >>= onward_at (body_end_at since fixed tokens supports)) []
unfolding goals_at
goals_back_reads since fixed tokens supports =
    onward_reads (Series GoalText (λ n goal. n + 1) 0) (BodyEnd since fixed tokens supports) (series (is_word (codes "goal")) goal_at (λ n goal. n + 1) 0) (body_end_at since fixed tokens supports) (kw "goal" ∷ [])
    (series_kept (is_word (codes "goal")) (kw "goal" ∷ []) GoalText goal_at (λ n goal. n + 1) goal_series 0)
    (λ goals. leads_begin (BodyEnd since fixed tokens supports goals) (kw "close") [] (kw "goal" ∷ []) (begins_word "close" _) refl)
    (body_end_reads since fixed tokens supports)

goals_back_lead : (since : ℤ) (fixed : List WrittenTime) (tokens : List WrittenKind) (supports : List WrittenSupport) (F : List Piece) → list_any (λ f. same_piece f (kw "goal")) F ≡ false → list_any (λ f. same_piece f (kw "close")) F ≡ false → Leads (GoalsBack since fixed tokens supports) [] F
goals_back_lead since fixed tokens supports F g c = leads_series (kw "goal") GoalText (λ n goal. n + 1) (BodyEnd since fixed tokens supports) F (λ n. begins_word "goal" _) (avoids_test F (kw "goal") g) (λ goals. leads_begin (BodyEnd since fixed tokens supports goals) (kw "close") [] F (begins_word "close" _) c) 0

supports_back_lead : (since : ℤ) (fixed : List WrittenTime) (tokens : List WrittenKind) (F : List Piece) → list_any (λ f. same_piece f (kw "support")) F ≡ false → list_any (λ f. same_piece f (kw "goal")) F ≡ false → list_any (λ f. same_piece f (kw "close")) F ≡ false → Leads (Then (Many SupportText) (λ supports. GoalsBack since fixed tokens supports)) [] F
supports_back_lead since fixed tokens F s g c = leads_then (Many SupportText) (λ supports. GoalsBack since fixed tokens supports) [] F F (leads_many SupportText (kw "support") F F (begins_word "support" _) s (record { keeps = λ o k. k })) (λ supports. goals_back_lead since fixed tokens supports F g c)

body_back_lead : (since : ℤ) (fixed : List WrittenTime) → Leads (BodyBack since fixed) [] (kw "fix" ∷ [])
body_back_lead since fixed = leads_then (Many NewTokenText) (λ tokens. Then (Many SupportText) (λ supports. GoalsBack since fixed tokens supports)) [] (kw "fix" ∷ []) (kw "fix" ∷ []) (leads_many NewTokenText (kw "token") (kw "fix" ∷ []) (kw "fix" ∷ []) (begins_word "token" _) refl (record { keeps = λ o k. k })) (λ tokens. supports_back_lead since fixed tokens (kw "fix" ∷ []) refl refl refl)

body_back_reads : (since : ℤ) (fixed : List WrittenTime) → Reads (BodyBack since fixed) (body_back_at since fixed) []
unfolding body_back_at
body_back_reads since fixed =
    then_reads (Many NewTokenText) _ (many (is_word (codes "token")) new_token_at) _ (kw "token" ∷ []) [] (many_reads (is_word (codes "token")) (kw "token") NewTokenText new_token_at [] new_token_items)
    (λ tokens. then_reads (Many SupportText) _ (many (is_word (codes "support")) support_at) _ (kw "support" ∷ []) [] (many_reads (is_word (codes "support")) (kw "support") SupportText support_at [] support_items)
    (λ supports. goals_back_reads since fixed tokens supports)
    (λ supports. goals_back_lead since fixed tokens supports (kw "support" ∷ []) refl refl))
    (λ tokens. supports_back_lead since fixed tokens (kw "token" ∷ []) refl refl refl)

fixed_points_back : (m : Mission) (es : List WrittenExtension) (since : ℤ) → Reads (Then (Series (FixText m) (λ before time. before) es) (onward (BodyBack since))) (fixed_points_at m es >>= onward_at (body_back_at since)) []
unfolding fixed_points_at
fixed_points_back m es since =
    onward_reads (Series (FixText m) (λ before time. before) es) (BodyBack since) (series (is_word (codes "fix")) (fix_at m) (λ before time. before) es) (body_back_at since) (kw "fix" ∷ [])
    (series_kept (is_word (codes "fix")) (kw "fix" ∷ []) (FixText m) (fix_at m) (λ before time. before) (fix_series m) es)
    (body_back_lead since)
    (body_back_reads since)

pub body_reads : (m : Mission) (es : List WrittenExtension) → Reads (BodyText m es) (body_at m es) []
unfolding body_at
body_reads m es =
    then_any (Keyword "since") _ (keyword "since") _ [] (keyword_reads "since") (λ _.
    then_any Number _ number _ [] number_reads (λ since. fixed_points_back m es since))

-- Extensions and plans.

extended_reads : (base : ℕ) (body : WrittenBody) → Reads (Extended base body) (extended_at base body) []
unfolding extended_at
extended_reads base body = yields_reads _

extension_back_reads : (m : Mission) (es : List WrittenExtension) (base : ℕ) → Reads (ExtensionBack m es base) (extension_back_at m es base) []
unfolding extension_back_at
extension_back_reads m es base = then_any (BodyText m es) (onward (Extended base)) (body_at m es) (onward_at (extended_at base)) [] (body_reads m es) (onward_each (Extended base) (extended_at base) (extended_reads base))

pub extension_reads : (m : Mission) (es : List WrittenExtension) → Reads (ExtensionText m es) (extension_at m es) []
unfolding extension_at
extension_reads m es =
    then_any (Keyword "extension") _ (keyword "extension") _ [] (keyword_reads "extension") (λ _.
    then_any OneMore (onward (ExtensionBack m es)) one_more_at (onward_at (extension_back_at m es)) [] one_more_reads (onward_each (ExtensionBack m es) (extension_back_at m es) (extension_back_reads m es)))

pub extension_series : (m : Mission) → AreKept (is_word (codes "extension")) (kw "extension" ∷ []) (ExtensionText m) (extension_at m) []
extension_series m = keyed_series "extension" (ExtensionText m) (extension_at m) (λ es. begins_word "extension" _) (extension_reads m)

plan_end_reads : (es : List WrittenExtension) → Reads (PlanEnd es) (plan_end_at es) []
unfolding plan_end_at
plan_end_reads es = then_any (Keyword "end") _ (keyword "end") _ [] (keyword_reads "end") (λ _. yields_reads _)

plan_back_reads : (m : Mission) (u : Unit {0}) → Reads (PlanBack m u) (plan_back_at m u) []
unfolding plan_back_at extensions_at
plan_back_reads m u =
    onward_reads (Series (ExtensionText m) (λ before e. before ++ e ∷ []) []) PlanEnd (series (is_word (codes "extension")) (extension_at m) (λ before e. before ++ e ∷ []) []) plan_end_at (kw "extension" ∷ [])
    (series_kept (is_word (codes "extension")) (kw "extension" ∷ []) (ExtensionText m) (extension_at m) (λ before e. before ++ e ∷ []) (extension_series m) [])
    (λ es. leads_begin (PlanEnd es) (kw "end") [] (kw "extension" ∷ []) (begins_word "end" _) refl)
    plan_end_reads

-- a plan's text is read from left to right
pub plan_reads : (m : Mission) → Reads (PlanGrammar m) (plan_at m) []
unfolding plan_at
plan_reads m =
    then_any (Keyword "hsts") _ (keyword "hsts") _ [] (keyword_reads "hsts") (λ _.
    then_any (Keyword "plan") _ (keyword "plan") _ [] (keyword_reads "plan") (λ _.
    then_any (Exactly 1) (onward (PlanBack m)) (exactly_at 1) (onward_at (plan_back_at m)) [] (exactly_reads 1) (onward_each (PlanBack m) (plan_back_at m) (plan_back_reads m))))
