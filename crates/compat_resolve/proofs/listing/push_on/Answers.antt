use Rattle.std.proofs.Common.{List, ◌<◌, ◌≡◌, ◌^◌, ◌∙◌, length, subst, sym}
use Rattle.std.specs.List.{AllByRecursion}
use Rattle.timeline_db.specs.Plannings.{partial_of}
use Rattle.timeline_db.specs.declared.token.Token.{Token}
use Rattle.compat_resolve.proofs.LineLemmas.{all_shown, end_shown, few_tokens, made_good, own_tokens, some_tokens}
use Rattle.compat_resolve.proofs.ListedLemmas.{wanted_full, wanted_room}
use Rattle.compat_resolve.proofs.listing.push_on.Goals as goal

pub push_connects-requires-clause-few : goal.push_connects-requires-clause-few
push_connects-requires-clause-few c =
    let d = c.args.db.now in
    subst (λ (l : List Token). length l < 2 ^ 32) (sym c.tokens.ensures) (few_tokens d.mission d.begun (partial_of d) c.was_allowed.ensures.begins (made_good d c.was_allowed.ensures.begins c.was_allowed.ensures.allowed) c.args.kind.sv.0 c.args.line.now c.requires.line c.requires.shows)

pub push_connects-requires-clause-own : goal.push_connects-requires-clause-own
push_connects-requires-clause-own c =
    let d = c.args.db.now in
    subst (AllByRecursion (λ (t : Token). t.held.kind.sv.0 ≡ c.args.kind.sv.0)) (sym c.tokens.ensures) (own_tokens d.mission d.begun (partial_of d) c.was_allowed.ensures.begins (made_good d c.was_allowed.ensures.begins c.was_allowed.ensures.allowed) c.args.kind.sv.0 c.args.line.now c.requires.line c.requires.shows)

pub push_inserts-requires-clause-few : goal.push_inserts-requires-clause-few
push_inserts-requires-clause-few c =
    let d = c.args.db.now in
    few_tokens d.mission d.begun (partial_of d) c.was_allowed.ensures.begins (made_good d c.was_allowed.ensures.begins c.was_allowed.ensures.allowed) c.args.kind.sv.0 c.args.line.now c.requires.line c.requires.shows

pub push_inserts-requires-clause-some : goal.push_inserts-requires-clause-some
push_inserts-requires-clause-some c =
    let d = c.args.db.now in
    some_tokens d.mission d.begun (partial_of d) c.was_allowed.ensures.begins (made_good d c.was_allowed.ensures.begins c.was_allowed.ensures.allowed) c.args.kind.sv.0 c.args.line.now c.requires.line c.requires.shows

pub returns-in_ok-push_inserts : goal.returns-in_ok-push_inserts
returns-in_ok-push_inserts c =
    let d = c.args.db.now in
    let p = partial_of d in
    let good = made_good d c.was_allowed.ensures.begins c.was_allowed.ensures.allowed in
    wanted_room d.begun p c.args.kind c.args.line.now (all_shown d.mission d.begun p c.was_allowed.ensures.begins good c.args.kind.sv.0 c.args.line.now c.requires.line c.requires.shows) (end_shown d.mission d.begun p c.was_allowed.ensures.begins good c.args.kind.sv.0 c.args.line.now c.requires.line c.requires.shows) c.tokens.result.now c.args.list.now _ _ (sym c.has_room.ensures ∙ c.if-has_room.true) c.tokens.ensures c.in_ok-push_connects.ensures c.in_ok-push_inserts.ensures

pub returns-else-has_room : goal.returns-else-has_room
returns-else-has_room c =
    let d = c.args.db.now in
    let p = partial_of d in
    let good = made_good d c.was_allowed.ensures.begins c.was_allowed.ensures.allowed in
    wanted_full d.begun p c.args.kind c.args.line.now (all_shown d.mission d.begun p c.was_allowed.ensures.begins good c.args.kind.sv.0 c.args.line.now c.requires.line c.requires.shows) (end_shown d.mission d.begun p c.was_allowed.ensures.begins good c.args.kind.sv.0 c.args.line.now c.requires.line c.requires.shows) c.tokens.result.now c.args.list.now _ (sym c.has_room.ensures ∙ c.if-has_room.false) c.tokens.ensures c.in_ok-push_connects.ensures
