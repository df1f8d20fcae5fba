-- The laws of reading the one or the other.
use Rattle.std.proofs.Common.{◌≡◌, List, [], ◌∷◌, ◌++◌, Bool, true, false, cond, refl, sym, ap, ◌∙◌, subst, append-nil, inl, inr}
use Rattle.std.specs.Prelude.{Option, Some, None}
use Rattle.hs_texts.specs.Pieces.{Piece}
use Rattle.hs_texts.specs.Languages.{Language, ◌∣◌}
use Rattle.text_laws.specs.Parsers.{done, stuck, Parser, next, choose}
use Rattle.text_laws.specs.Reads.{Avoids, Reads, Leads, Finds, BeginsWith}
use Rattle.text_laws.proofs.ListLemmas.{next_same, chosen}

-- a test that finds a piece fails at each other
pub not_found : (test : Option Piece → Bool) (s : Piece) → Finds test s → (p : Option Piece) → Avoids (s ∷ []) p → test p ≡ false
not_found test s t None a = t.none
not_found test s t (Some p) a = elim (test (Some p)) as (λ b. test (Some p) ≡ b → test (Some p) ≡ false) [ true ↦ λ e. absurd (a.0 (t.only p e)) | false ↦ λ e. e ] refl

-- and where it fails, its piece is not next
pub is_avoided : (test : Option Piece → Bool) (s : Piece) → Finds test s → (p : Option Piece) → test p ≡ false → Avoids (s ∷ []) p
is_avoided test s t None h = tt
is_avoided test s t (Some p) h = (λ e. let k : test (Some s) ≡ false = subst (λ (q : Piece). test (Some q) ≡ false) (sym e) h in cc (k, t.here), tt)

-- what is found is next
pub found_next : (test : Option Piece → Bool) (s : Piece) → Finds test s → (p : Option Piece) → test p ≡ true → p ≡ Some s
found_next test s t None h = absurd (cc (h, t.none))
found_next test s t (Some p) h = ap Some (sym (t.only p h))

-- a sentence that begins with the piece has it next
pub begins_next : {A : Type 0} (R : Language A) (s : Piece) → BeginsWith R s → (u rest : List Piece) (x : A) → R u x → next (u ++ rest) ≡ Some s
begins_next R s b u rest x h = let k = b.begins u x h in ap (λ (zs : List Piece). next (zs ++ rest)) k.1

-- by what is next, the one or the other is read
pub choose_reads : {A : Type 0} (test : Option Piece → Bool) (s : Piece) (R S : Language A) (p q : Parser A) (G : List Piece) → Finds test s → BeginsWith R s → Reads R p G → Reads S q G → Leads S G (s ∷ []) → Reads (R ∣ S) (choose test p q) G
choose_reads {A} test s R S p q G t b r o l =
    let met : (u : List Piece) (rest : List Piece) (x : A) → R u x → test (next (u ++ rest)) ≡ true = λ u rest x h. ap test (begins_next R s b u rest x h) ∙ t.here in
    let missed : (u : List Piece) (rest : List Piece) (x : A) → S u x → Avoids G (next rest) → test (next (u ++ rest)) ≡ false = λ u rest x h a. not_found test s t (next (u ++ rest)) (l.avoids u rest x h a) in
    record {
      sound = λ ps rest x h.
          elim (chosen (test (next ps)) (p ps) (q ps) (done x rest) h) [
            | inl k ↦
                let m = r.sound ps rest x k.1 in record {
                  front = m.front;
                  sentence = inl m.sentence;
                  split = m.split;
                  local = λ other e. ap (λ c. cond c (p (m.front ++ other)) (q (m.front ++ other))) (met m.front other x m.sentence) ∙ m.local other e;
                }
            | inr k ↦
                let m = o.sound ps rest x k.1 in record {
                  front = m.front;
                  sentence = inr m.sentence;
                  split = m.split;
                  local = λ other e.
                      ap (λ c. cond c (p (m.front ++ other)) (q (m.front ++ other))) (ap test (next_same m.front other rest e ∙ sym (ap next m.split)) ∙ k.0) ∙ m.local other e;
                }
          ];
      complete = λ u rest x h a.
          elim h [
            | inl k ↦ ap (λ c. cond c (p (u ++ rest)) (q (u ++ rest))) (met u rest x k) ∙ r.complete u rest x k a
            | inr k ↦ ap (λ c. cond c (p (u ++ rest)) (q (u ++ rest))) (missed u rest x k a) ∙ o.complete u rest x k a
          ];
      halts = λ ps rest h.
          elim (chosen (test (next ps)) (p ps) (q ps) (stuck rest) h) [
            | inl k ↦
                let m = r.halts ps rest k.1 in record {
                  front = m.front;
                  split = m.split;
                  begins = record { more = m.begins.more; value = m.begins.value; sentence = inl m.begins.sentence };
                  none = λ c others more x e g.
                      elim g [
                        | inl n ↦ m.none c others more x e n
                        | inr n ↦
                            let ahead : next (m.front ++ c ∷ more) ≡ next ps = next_same m.front (c ∷ more) rest (sym (ap next e)) ∙ sym (ap next m.split) in
                            let off : test (next ((m.front ++ c ∷ more) ++ [])) ≡ false = missed (m.front ++ c ∷ more) [] x n tt in
                            let off' : test (next (m.front ++ c ∷ more)) ≡ false = subst (λ (zs : List Piece). test (next zs) ≡ false) (append-nil (m.front ++ c ∷ more)) off in
                            cc (k.0, ap test ahead, off')
                      ];
                }
            | inr k ↦
                let m = o.halts ps rest k.1 in record {
                  front = m.front;
                  split = m.split;
                  begins = record { more = m.begins.more; value = m.begins.value; sentence = inr m.begins.sentence };
                  none = λ c others more x e g.
                      elim g [
                        | inl n ↦
                            let ahead : next (m.front ++ c ∷ more) ≡ next ps = next_same m.front (c ∷ more) rest (sym (ap next e)) ∙ sym (ap next m.split) in
                            let on : test (next ((m.front ++ c ∷ more) ++ [])) ≡ true = met (m.front ++ c ∷ more) [] x n in
                            let on' : test (next (m.front ++ c ∷ more)) ≡ true = subst (λ (zs : List Piece). test (next zs) ≡ true) (append-nil (m.front ++ c ∷ more)) on in
                            cc (k.0, ap test ahead, on')
                        | inr n ↦ m.none c others more x e n
                      ];
                }
          ];
      lives = record { pieces = r.lives.pieces; value = r.lives.value; sentence = inl r.lives.sentence };
    }
