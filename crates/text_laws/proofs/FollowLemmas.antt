-- What languages begin with, what may stand behind them, and the laws of the combined ways to read.
use Rattle.std.proofs.Common.{◌≡◌, ℕ, List, [], ◌∷◌, ◌++◌, Bool, true, false, cond, not, ◌||◌, refl, sym, ap, ◌∙◌, subst, append_assoc, inl, inr, nat_eq, arith}
use Rattle.std.specs.Prelude.{Option, Some, None, codes}
use Rattle.std.specs.List.{AllByRecursion, list_any, list_all}
use Rattle.std.specs.Str.{bytes_eq, byte}
use Rattle.std.proofs.lemmas.Slice.Eq.{bytes_eq-Decides}
use Rattle.std.proofs.lemmas.Bool.{and_parts}
use Rattle.std.proofs.lemmas.Bool.Decides.{nat_tests}
use Prim.Native.String.{String}
use Rattle.hs_texts.specs.Pieces.{Piece, word, number as digits, symbol}
use Rattle.hs_texts.specs.Languages.{Language, Yields, Then, ◌∣◌, Maybe, Many, Several, Keyword, Sign, Number, After, Behind, Apart, word_says, symbol_says, number_says}
use Rattle.text_laws.specs.Parsers.{Parser, next, ◌>>=◌, yields, many, is_word, is_sign, keyword, sign, number, after, behind, maybe_after, several, apart}
use Rattle.text_laws.specs.Reads.{Avoids, Reads, Leads, Finds, BeginsWith}
use Rattle.text_laws.proofs.ParserLemmas.{one_reads, yields_reads}
use Rattle.text_laws.proofs.ThenLemmas.{then_reads, then_any}
use Rattle.text_laws.proofs.ChoiceLemmas.{choose_reads}
use Rattle.text_laws.proofs.ManyLemmas.{AreItems, many_reads, avoids_tail}

-- Tests on pieces.

abbrev pub same_piece : Piece → Piece → Bool
same_piece (word a) (word b) = bytes_eq a b
same_piece (digits a) (digits b) = bytes_eq a b
same_piece (symbol a) (symbol b) = nat_eq a b
same_piece _ _ = false

is_same : (p q : Piece) → same_piece p q ≡ true → p ≡ q
is_same (word a) (word b) h = ap word ((bytes_eq-Decides a b).0 h)
is_same (digits a) (digits b) h = ap digits ((bytes_eq-Decides a b).0 h)
is_same (symbol a) (symbol b) h = ap symbol (grind (arith, nat_tests))
is_same (word a) (digits b) h = absurd cc
is_same (word a) (symbol b) h = absurd cc
is_same (digits a) (word b) h = absurd cc
is_same (digits a) (symbol b) h = absurd cc
is_same (symbol a) (word b) h = absurd cc
is_same (symbol a) (digits b) h = absurd cc

same_self : (p : Piece) → same_piece p p ≡ true
same_self (word a) = (bytes_eq-Decides a a).1 refl
same_self (digits a) = (bytes_eq-Decides a a).1 refl
same_self (symbol a) = grind (arith, nat_tests)

-- a piece that is none of the stops
pub avoids_test : (F : List Piece) (p : Piece) → list_any (λ f. same_piece f p) F ≡ false → Avoids F (Some p)
avoids_test [] p h = tt
avoids_test (f ∷ F) p h =
    elim (same_piece f p) as (λ b. same_piece f p ≡ b → Avoids (f ∷ F) (Some p)) [
      | true ↦ λ e. absurd (grind arith)
      | false ↦ λ e. ((λ k. let one' : same_piece f p ≡ true = subst (λ (z : Piece). same_piece f z ≡ true) k (same_self f) in cc (e, one')), avoids_test F p (grind arith))
    ] refl

-- what avoids the pieces of G avoids those of F
pub record Covers (G F : List Piece) : Type 0 where
  pub keeps : (o : Option Piece) → Avoids G o → Avoids F o

is_covered : (G : List Piece) (f p : Piece) → list_any (λ g. same_piece g f) G ≡ true → AllByRecursion (λ s. s ≡ p → ⊥) G → f ≡ p → ⊥
is_covered [] f p h k e = absurd cc
is_covered (g ∷ G) f p h k e =
    elim (same_piece g f) as (λ b. same_piece g f ≡ b → ⊥) [
      | true ↦ λ t. k.0 (is_same g f t ∙ e)
      | false ↦ λ t. is_covered G f p (grind arith) k.1 e
    ] refl

all_covered : (G F : List Piece) (p : Piece) → list_all (λ f. list_any (λ g. same_piece g f) G) F ≡ true → AllByRecursion (λ s. s ≡ p → ⊥) G → AllByRecursion (λ s. s ≡ p → ⊥) F
all_covered G [] p h k = tt
all_covered G (f ∷ F) p h k = (is_covered G f p (and_parts _ _ h).0 k, all_covered G F p (and_parts _ _ h).1 k)

some_covered : (G F : List Piece) → list_all (λ f. list_any (λ g. same_piece g f) G) F ≡ true → (o : Option Piece) → Avoids G o → Avoids F o
some_covered G F h None k = tt
some_covered G F h (Some p) k = all_covered G F p h k

pub covers_test : (G F : List Piece) → list_all (λ f. list_any (λ g. same_piece g f) G) F ≡ true → Covers G F
covers_test G F h = record { keeps = some_covered G F h }

-- more stops read the same
pub weaken : {A : Type 0} (R : Language A) (p : Parser A) (G F : List Piece) → Covers G F → Reads R p F → Reads R p G
weaken R p G F c r = record {
  sound = r.sound;
  complete = λ u rest x h a. r.complete u rest x h (c.keeps (next rest) a);
  halts = r.halts;
  lives = r.lives;
}

-- What languages begin with.

pub record StartsIn {A : Type 0} (R : Language A) (starts : List Piece) : Type 0 where
  pub first : (u : List Piece) (x : A) → R u x → (p : Piece) × (v : List Piece) × (u ≡ p ∷ v) × (list_any (λ s. same_piece s p) starts ≡ true)

pub leads_begin : {A : Type 0} (R : Language A) (s : Piece) (G F : List Piece) → BeginsWith R s → list_any (λ f. same_piece f s) F ≡ false → Leads R G F
leads_begin R s G F b h = record { avoids = λ u rest x k a. let e = b.begins u x k in subst (λ (zs : List Piece). Avoids F (next (zs ++ rest))) (sym e.1) (avoids_test F s h) }

pub leads_yields : {A : Type 0} (value : A) (G F : List Piece) → Covers G F → Leads (Yields value) G F
leads_yields value G F c = record { avoids = λ u rest x k a. subst (λ (zs : List Piece). Avoids F (next (zs ++ rest))) (sym k.0) (c.keeps (next rest) a) }

pub leads_either : {A : Type 0} (R S : Language A) (G F : List Piece) → Leads R G F → Leads S G F → Leads (R ∣ S) G F
leads_either R S G F l m = record { avoids = λ u rest x k a. elim k [ inl h ↦ l.avoids u rest x h a | inr h ↦ m.avoids u rest x h a ] }

pub leads_then : {A B : Type 0} (R : Language A) (S : A → Language B) (G H F : List Piece) → Leads R H F → ((x : A) → Leads (S x) G H) → Leads (Then R S) G F
leads_then R S G H F l m = record {
  avoids = λ u rest y k a.
      rw (k.joined, append_assoc k.front k.back rest)
      (l.avoids k.front (k.back ++ rest) k.value k.first ((m k.value).avoids k.back rest y k.second a));
}

many_avoids : {A : Type 0} (R : Language A) (s : Piece) (G F : List Piece) → BeginsWith R s → list_any (λ f. same_piece f s) F ≡ false → Covers G F → (u rest : List Piece) (xs : List A) → Many R u xs → Avoids G (next rest) → Avoids F (next (u ++ rest))
many_avoids R s G F b h c u rest [] k a = subst (λ (zs : List Piece). Avoids F (next (zs ++ rest))) (sym k) (c.keeps (next rest) a)
many_avoids R s G F b h c u rest (x ∷ xs) k a =
    let e = b.begins k.0 x k.2 in
    rw (k.4, append_assoc k.0 k.1 rest)
    (subst (λ (zs : List Piece). Avoids F (next (zs ++ (k.1 ++ rest)))) (sym e.1) (avoids_test F s h))

pub leads_many : {A : Type 0} (R : Language A) (s : Piece) (G F : List Piece) → BeginsWith R s → list_any (λ f. same_piece f s) F ≡ false → Covers G F → Leads (Many R) G F
leads_many R s G F b h c = record { avoids = many_avoids R s G F b h c }

pub begins_then : {A B : Type 0} (R : Language A) (S : A → Language B) (s : Piece) → BeginsWith R s → BeginsWith (Then R S) s
begins_then R S s b = record { begins = λ u y k. let e = b.begins k.front k.value k.first in (e.0 ++ k.back, k.joined ∙ ap (λ (zs : List Piece). zs ++ k.back) e.1) }

-- Keywords and symbols.

word_said : (w : List ℕ) (p : Piece) → word_says w p ≡ Some tt → p ≡ word w
word_said w (word v) h = elim (bytes_eq v w) as (λ b. bytes_eq v w ≡ b → word v ≡ word w) [ true ↦ λ e. ap word ((bytes_eq-Decides v w).0 e) | false ↦ λ e. absurd (grind arith) ] refl
word_said w (digits v) h = absurd cc
word_said w (symbol v) h = absurd cc

symbol_said : (c : ℕ) (p : Piece) → symbol_says c p ≡ Some tt → p ≡ symbol c
symbol_said c (symbol d) h = elim (nat_eq d c) as (λ b. nat_eq d c ≡ b → symbol d ≡ symbol c) [ true ↦ λ e. ap symbol (grind (arith, nat_tests)) | false ↦ λ e. absurd (grind arith) ] refl
symbol_said c (word d) h = absurd cc
symbol_said c (digits d) h = absurd cc

pub begins_keyword : (w : String) → BeginsWith (Keyword w) (word (codes w))
begins_keyword w = record { begins = λ u x k. ([], k.1 ∙ ap (λ (p : Piece). p ∷ []) (word_said (codes w) k.0 k.2)) }

pub begins_sign : (c : String) → BeginsWith (Sign c) (symbol (byte c))
begins_sign c = record { begins = λ u x k. ([], k.1 ∙ ap (λ (p : Piece). p ∷ []) (symbol_said (byte c) k.0 k.2)) }

pub keyword_reads : (w : String) → Reads (Keyword w) (keyword w) []
keyword_reads w = one_reads (word_says (codes w)) (record { pieces = word (codes w) ∷ []; value = tt; sentence = (word (codes w), refl, ap (λ b. cond b (Some tt) None) ((bytes_eq-Decides (codes w) (codes w)).1 refl)) })

pub sign_reads : (c : String) → Reads (Sign c) (sign c) []
sign_reads c = one_reads (symbol_says (byte c)) (record { pieces = symbol (byte c) ∷ []; value = tt; sentence = (symbol (byte c), refl, ap (λ b. cond b (Some tt) None) (same_self (symbol (byte c)))) })

pub number_reads : Reads Number number []
number_reads = one_reads number_says (record { pieces = digits [] ∷ []; value = _; sentence = (digits [], refl, refl) })

pub finds_word : (w : String) → Finds (is_word (codes w)) (word (codes w))
finds_word w = record { none = refl; here = (bytes_eq-Decides (codes w) (codes w)).1 refl; only = only_word (codes w) } where
  only_word : (v : List ℕ) (q : Piece) → is_word v (Some q) ≡ true → word v ≡ q
  only_word v (word u) h = ap word (sym ((bytes_eq-Decides u v).0 h))
  only_word v (digits u) h = absurd cc
  only_word v (symbol u) h = absurd cc

pub finds_sign : (c : String) → Finds (is_sign (byte c)) (symbol (byte c))
finds_sign c = record { none = refl; here = same_self (symbol (byte c)); only = only_sign (byte c) } where
  only_sign : (d : ℕ) (q : Piece) → is_sign d (Some q) ≡ true → symbol d ≡ q
  only_sign d (symbol u) h = sym (is_same (symbol u) (symbol d) h)
  only_sign d (word u) h = absurd cc
  only_sign d (digits u) h = absurd cc

pub starts_after : {A : Type 0} (w : String) (R : Language A) → StartsIn (After w R) (word (codes w) ∷ [])
starts_after w R = record {
  first = λ u x k.
      let e = (begins_then (Keyword w) (λ _. R) (word (codes w)) (begins_keyword w)).begins u x k in
      (word (codes w), e.0, e.1, ap (λ b. b || false) (same_self (word (codes w))));
}

pub starts_either : {A : Type 0} (R S : Language A) (s : Piece) (ss : List Piece) → StartsIn R (s ∷ []) → StartsIn S ss → StartsIn (R ∣ S) (s ∷ ss)
starts_either R S s ss r o = record {
  first = λ u x k.
      elim k [
        | inl h ↦ let f = r.first u x h in (f.0, f.1, f.2, grind arith)
        | inr h ↦ let f = o.first u x h in (f.0, f.1, f.2, grind arith)
      ];
}

-- a piece that starts a sentence is none of the stops
start_avoids : (ss F : List Piece) (p : Piece) → list_any (λ s. same_piece s p) ss ≡ true → list_all (λ s. list_all (λ f. not (same_piece f s)) F) ss ≡ true → Avoids F (Some p)
start_avoids [] F p h k = absurd cc
start_avoids (s ∷ ss) F p h k =
    elim (same_piece s p) as (λ b. same_piece s p ≡ b → Avoids F (Some p)) [
      | true ↦ λ e. subst (λ (q : Piece). Avoids F (Some q)) (is_same s p e) (each_differs F s (and_parts _ _ k).0)
      | false ↦ λ e. start_avoids ss F p (grind arith) (and_parts _ _ k).1
    ] refl
  where
    each_differs : (F : List Piece) (s : Piece) → list_all (λ f. not (same_piece f s)) F ≡ true → Avoids F (Some s)
    each_differs [] s h = tt
    each_differs (f ∷ F) s h = ((λ e. let t : same_piece f s ≡ true = subst (λ (z : Piece). same_piece f z ≡ true) e (same_self f) in grind arith), each_differs F s (and_parts _ _ h).1)

pub leads_starts : {A : Type 0} (R : Language A) (ss G F : List Piece) → StartsIn R ss → list_all (λ s. list_all (λ f. not (same_piece f s)) F) ss ≡ true → Leads R G F
leads_starts R ss G F b h = record {
  avoids = λ u rest x k a. let e = b.first u x k in subst (λ (zs : List Piece). Avoids F (next (zs ++ rest))) (sym e.2) (start_avoids ss F e.0 e.3 h);
}

-- The combined ways.

pub after_reads : {A : Type 0} (w : String) (R : Language A) (p : Parser A) (G : List Piece) → Reads R p G → Reads (After w R) (after w p) G
after_reads w R p G r = then_any (Keyword w) (λ _. R) (keyword w) (λ _. p) G (keyword_reads w) (λ _. r)

pub behind_reads : {A : Type 0} (c : String) (R : Language A) (p : Parser A) (G : List Piece) → Reads R p G → Reads (Behind c R) (behind c p) G
behind_reads c R p G r = then_any (Sign c) (λ _. R) (sign c) (λ _. p) G (sign_reads c) (λ _. r)

pub maybe_reads : {A : Type 0} (w : String) (R : Language A) (p : Parser A) (value : A) (G : List Piece) → Reads R p G → Covers G (word (codes w) ∷ []) → Reads (Maybe (After w R) value) (maybe_after w p value) G
maybe_reads w R p value G r c =
    choose_reads (is_word (codes w)) (word (codes w)) (After w R) (Yields value) (after w p) (yields value) G (finds_word w) (begins_then (Keyword w) (λ _. R) (word (codes w)) (begins_keyword w)) (after_reads w R p G r) (weaken (Yields value) (yields value) G [] (covers_test G [] refl) (yields_reads value)) (leads_yields value G (word (codes w) ∷ []) c)

-- an item, and further ones of the language S
rest_reads : {A : Type 0} (test : Option Piece → Bool) (s : Piece) (R S : Language A) (p q : Parser A) (F : List Piece) → Reads R p F → AreItems test s S q F → list_any (λ f. same_piece f s) F ≡ false → Reads (Then R (λ x. Then (Many S) (λ xs. Yields (x ∷ xs)))) (p >>= (λ x. many test q >>= (λ xs. yields (x ∷ xs)))) (s ∷ F)
rest_reads test s R S p q F r a h =
    then_reads R (λ x. Then (Many S) (λ xs. Yields (x ∷ xs))) p (λ x. many test q >>= (λ xs. yields (x ∷ xs))) F (s ∷ F) r
    (λ x. then_reads (Many S) (λ xs. Yields (x ∷ xs)) (many test q) (λ xs. yields (x ∷ xs)) (s ∷ F) (s ∷ F) (many_reads test s S q F a) (λ xs. weaken (Yields (x ∷ xs)) (yields (x ∷ xs)) (s ∷ F) [] (covers_test (s ∷ F) [] refl) (yields_reads (x ∷ xs))) (λ xs. leads_yields (x ∷ xs) (s ∷ F) (s ∷ F) (record { keeps = λ o k. k })))
    (λ x. leads_then (Many S) (λ xs. Yields (x ∷ xs)) (s ∷ F) (s ∷ F) F (leads_many S s (s ∷ F) F a.begins h (record { keeps = avoids_tail s F })) (λ xs. leads_yields (x ∷ xs) (s ∷ F) (s ∷ F) (record { keeps = λ o k. k })))

pub keyed_items : {A : Type 0} (w : String) (R : Language A) (p : Parser A) (F : List Piece) → BeginsWith R (word (codes w)) → Reads R p F → list_any (λ f. same_piece f (word (codes w))) F ≡ false → AreItems (is_word (codes w)) (word (codes w)) R p F
keyed_items w R p F b r h = record { finds = finds_word w; begins = b; reads = r; behind = avoids_test F (word (codes w)) h }

pub parted_items : {A : Type 0} (sep : String) (R : Language A) (p : Parser A) (F : List Piece) → Reads R p F → list_any (λ f. same_piece f (symbol (byte sep))) F ≡ false → AreItems (is_sign (byte sep)) (symbol (byte sep)) (Behind sep R) (behind sep p) F
parted_items sep R p F r h = record { finds = finds_sign sep; begins = begins_then (Sign sep) (λ _. R) (symbol (byte sep)) (begins_sign sep); reads = behind_reads sep R p F r; behind = avoids_test F (symbol (byte sep)) h }

pub several_reads : {A : Type 0} (w : String) (R : Language A) (p : Parser A) (F : List Piece) → BeginsWith R (word (codes w)) → Reads R p F → list_any (λ f. same_piece f (word (codes w))) F ≡ false → Reads (Several R) (several w p) (word (codes w) ∷ F)
several_reads w R p F b r h = rest_reads (is_word (codes w)) (word (codes w)) R R p p F r (keyed_items w R p F b r h) h

pub apart_reads : {A : Type 0} (sep : String) (R : Language A) (p : Parser A) (F : List Piece) → Reads R p F → list_any (λ f. same_piece f (symbol (byte sep))) F ≡ false → Reads (Apart sep R) (apart sep p) (symbol (byte sep) ∷ F)
apart_reads sep R p F r h = rest_reads (is_sign (byte sep)) (symbol (byte sep)) R (Behind sep R) p (behind sep p) F r (parted_items sep R p F r h) h
