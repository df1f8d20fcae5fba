-- Entries that are looked up one by one.
use Rattle.std.proofs.Common.{◌≡◌, ℕ, ◌+◌, ◌<◌, List, [], ◌∷◌, ◌++◌, length, take, get_or, refl, sym, ap, ◌∙◌, subst}
use Rattle.std.specs.Prelude.{flat_map, fold}
use Rattle.std.proofs.lemmas.List.{take_more}
use Rattle.hs_base.specs.declared.mission.Mission.{Mission}
use Rattle.hs_base.specs.declared.plan.Extension.{Extension}
use Rattle.log_laws.specs.declared.written.WrittenEntry.{WrittenEntry}
use Rattle.plan_index.specs.Contents.{Contents, contents_of}
use Rattle.plan_text.proofs.NamingLemmas.{known_push}
use Rattle.journal_read.specs.declared.noted.Noted.{Noted}
use Rattle.journal_read.specs.LogSpelling.{EntryMeans, EntriesMean, plan_after, plan_in, unknown_in_deed}

abbrev behind : List Extension → Noted → List Extension
behind es n = plan_after es n.what

-- one entry more
pub behind_push : (es : List Extension) (ns : List Noted) (n : Noted) → fold behind es (ns ++ n ∷ []) ≡ behind (fold behind es ns) n
behind_push es [] n = refl
behind_push es (x ∷ ns) n = behind_push (behind es x) ns n

pub plan_push : (ns : List Noted) (n : Noted) → plan_in (ns ++ n ∷ []) ≡ plan_after (plan_in ns) n.what
plan_push ns n = behind_push [] ns n

-- the entries before place i are followed
pub followed : (ns : List Noted) (i : ℕ) (n : Noted) (index : Contents) → i < length ns → n ≡ get_or ns i n → index ≡ contents_of (plan_after (plan_in (take i ns)) n.what) → index ≡ contents_of (plan_in (take (i + 1) ns))
followed ns i n index h is e = e ∙ ap contents_of (sym (ap plan_in (take_more ns i n h ∙ ap (λ (x : Noted). take i ns ++ x ∷ []) (sym is)) ∙ plan_push (take i ns) n))

-- those before place i are looked up
pub record EntriesLookedUp (m : Mission) (ws : List WrittenEntry) (i : ℕ) (ns : List Noted) (index : Contents) : Type 0 where
  pub means : EntriesMean m [] (take i ws) ns
  pub known : flat_map (λ (w : WrittenEntry). unknown_in_deed m w.deed) (take i ws) ≡ []
  pub index_is : index ≡ contents_of (plan_in ns)

entries_push : (m : Mission) (es : List Extension) (ws : List WrittenEntry) (ns : List Noted) (w : WrittenEntry) (n : Noted) → EntriesMean m es ws ns → EntryMeans m (fold behind es ns) w n → EntriesMean m es (ws ++ w ∷ []) (ns ++ n ∷ [])
entries_push m es [] [] w n h k = (k, tt)
entries_push m es [] (x ∷ ns) w n h k = absurd h
entries_push m es (v ∷ ws) [] w n h k = absurd h
entries_push m es (v ∷ ws) (x ∷ ns) w n h k = (h.0, entries_push m (behind es x) ws ns w n h.1 k)

-- one more is looked up
pub entry_step : (m : Mission) (ws : List WrittenEntry) (i : ℕ) (ns : List Noted) (index more : Contents) (w : WrittenEntry) (n : Noted) (all : List Noted) → EntriesLookedUp m ws i ns index → i < length ws → w ≡ get_or ws i w → (unknown_in_deed m w.deed ≡ []) × EntryMeans m (plan_in ns) w n → more ≡ contents_of (plan_after (plan_in ns) n.what) → all ≡ ns ++ n ∷ [] → EntriesLookedUp m ws (i + 1) all more
entry_step m ws i ns index more w n all l h is k grown s =
    let f : WrittenEntry → List (List ℕ) = λ (x : WrittenEntry). unknown_in_deed m x.deed in
    let means : EntriesMean m [] (take i ws ++ get_or ws i w ∷ []) (ns ++ n ∷ []) = entries_push m [] (take i ws) ns (get_or ws i w) n l.means (subst (λ (x : WrittenEntry). EntryMeans m (plan_in ns) x n) is k.1) in
    let means' : EntriesMean m [] (take (i + 1) ws) (ns ++ n ∷ []) = subst (λ (vs : List WrittenEntry). EntriesMean m [] vs (ns ++ n ∷ [])) (sym (take_more ws i w h)) means in
    record {
      means = subst (λ (xs : List Noted). EntriesMean m [] (take (i + 1) ws) xs) (sym s) means';
      known = known_push f ws i w l.known h is k.0;
      index_is = grown ∙ ap contents_of (sym (plan_push ns n)) ∙ ap (λ (xs : List Noted). contents_of (plan_in xs)) (sym s);
    }
