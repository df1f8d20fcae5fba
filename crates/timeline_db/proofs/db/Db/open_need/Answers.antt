use Rattle.std.proofs.Common.{◌≡◌, ℕ, ◌<◌, List, [], Some, length, slice_get, ap, subst, sym, arith}
use Rattle.std.specs.Prelude.{IfNone, IfSome}
use Rattle.search_tree.specs.Flaws.{open_needs}
use Rattle.search_tree.specs.declared.flaw.Flaw.TheVariants.{Need as NeedFlaw}
use Rattle.timeline_db.proofs.FewLemmas.{lines_db, need_db, size_db}
use Rattle.timeline_db.specs.Heads.{IsHead}
use Rattle.timeline_db.specs.Lines.{Shown}
use Rattle.timeline_db.specs.Plannings.{Planning, partial_of}
use Rattle.timeline_db.specs.Waiting.{IsFirstWaitingIn}
use Rattle.timeline_db.proofs.db.Db.open_need.Goals as goal

pub first_waiting-requires-clause-lines : goal.first_waiting-requires-clause-lines
first_waiting-requires-clause-lines c = let few = lines_db _ _ _ c.self.inside.draft.board _ _ c.self.invariant in omega (arith, few, ap length c.deref.ensures.value)

pub first_waiting-requires-clause-tokens : goal.first_waiting-requires-clause-tokens
first_waiting-requires-clause-tokens c = subst (λ (l : List Shown). (v : ℕ) (s : Shown) → slice_get l v ≡ Some s → length s.tokens < 4294967296) (sym c.deref.ensures.value)
    (λ v s is. let few = size_db _ _ _ c.self.inside.draft.board _ _ c.self.invariant v s is in omega (arith, few.1))

pub returns-clause-some : goal.returns-clause-some
returns-clause-some c =
    let waits = subst (λ (l : List Shown). IsFirstWaitingIn l c.first_waiting.result) c.deref.ensures.value c.first_waiting.ensures in
    subst (λ (p : Planning). IfSome c.first_waiting.result (λ n. IsHead (open_needs p.mission p.begun (partial_of p)) (NeedFlaw n.0 n.1))) c.self.view_is
    (need_db _ _ _ c.self.inside.draft.board _ _ c.self.invariant c.first_waiting.result waits).0

pub returns-clause-none : goal.returns-clause-none
returns-clause-none c =
    let waits = subst (λ (l : List Shown). IsFirstWaitingIn l c.first_waiting.result) c.deref.ensures.value c.first_waiting.ensures in
    subst (λ (p : Planning). IfNone c.first_waiting.result (open_needs p.mission p.begun (partial_of p) ≡ [])) c.self.view_is
    (need_db _ _ _ c.self.inside.draft.board _ _ c.self.invariant c.first_waiting.result waits).1
