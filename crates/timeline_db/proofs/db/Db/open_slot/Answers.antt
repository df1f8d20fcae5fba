use Rattle.std.proofs.Common.{◌≡◌, ℕ, ◌<◌, true, List, Some, length, slice_get, ap, subst, sym, arith}
use Rattle.timeline_db.proofs.FewLemmas.{first_db, line_db, lines_db, size_db}
use Rattle.timeline_db.specs.Lines.{Shown}
use Rattle.timeline_db.specs.Tracked.{IsLine}
use Rattle.timeline_db.specs.declared.token.Token.{Token}
use Rattle.timeline_db.proofs.db.Db.open_slot.Goals as goal

pub first_slot_of-requires-clause-few : goal.first_slot_of-requires-clause-few
first_slot_of-requires-clause-few c = let few = lines_db _ _ _ c.self.inside.draft.board _ _ c.self.invariant in omega (arith, few, ap length c.deref.ensures.value)

pub first_slot_of-requires-clause-lines : goal.first_slot_of-requires-clause-lines
first_slot_of-requires-clause-lines c = subst (λ (l : List Shown). (v : ℕ) (s : Shown) → slice_get l v ≡ Some s → IsLine s) (sym c.deref.ensures.value) (line_db _ _ _ c.self.inside.draft.board _ _ c.self.invariant)

pub first_slot_of-requires-clause-tokens : goal.first_slot_of-requires-clause-tokens
first_slot_of-requires-clause-tokens c = subst (λ (l : List Shown). (v : ℕ) (s : Shown) → slice_get l v ≡ Some s → (0 < length s.tokens) × (length s.tokens < 4294967296)) (sym c.deref.ensures.value)
    (λ v s is. let few = size_db _ _ _ c.self.inside.draft.board _ _ c.self.invariant v s is in (few.0, omega (arith, few.1)))

pub first_slot_of-requires-clause-first : goal.first_slot_of-requires-clause-first
first_slot_of-requires-clause-first c = subst (λ (l : List Shown). (v : ℕ) (s : Shown) (t : Token) → slice_get l v ≡ Some s → slice_get s.tokens 0 ≡ Some t → t.joined ≡ true) (sym c.deref.ensures.value) (first_db _ _ _ c.self.inside.draft.board _ _ c.self.invariant)
