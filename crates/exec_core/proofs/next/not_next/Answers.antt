use Rattle.std.proofs.Common.{◌≡◌, List, [], length, refl, sym, ap, subst, arith}
use Rattle.std.proofs.lemmas.Bool.Decides.{nat_tests}
use Rattle.hs_base.specs.declared.plan.Extension.{Extension}
use Rattle.hs_machine.specs.Machine.{AgreeOn, IsNext, base_of}
use Rattle.exec_core.proofs.NextLemmas.{agree_none, agree_whole, agree_self, agree_at_most, empty_of}
use Rattle.exec_core.proofs.next.not_next.Goals as goal
use Rattle.exec_core.proofs.next.not_next.Goals.{else-agree-newest-via-then-agree-newest+else-agree-base, else-agree-newest-via-else-agree-newest}

pub returns-then-is_empty : goal.returns-then-is_empty
returns-then-is_empty c =
    let none : c.args.offered.now ≡ [] = empty_of c.args.offered.now (let e = c.is_empty.ensures in let t = c.if-is_empty.true in grind (arith, nat_tests)) in
    record {
      current = length c.args.newest.now;
      agree = 0;
      is = refl;
      apart = (λ next. next.0 none, refl, subst (λ (es : List Extension). AgreeOn c.args.newest.now (base_of es) 0) (sym none) (agree_none c.args.newest.now));
    }

pub returns-then-agree-base : goal.returns-then-agree-base
returns-then-agree-base c = (
  λ (none : c.args.offered.now ≡ []). let z : length c.args.offered.now ≡ 0 = ap length none in let e = c.is_empty.ensures in let f = c.if-is_empty.false in absurd (grind (arith, nat_tests)),
  sym (agree_whole c.args.newest.now (base_of c.args.offered.now) c.agree_on-agree.result c.agree_on-agree.ensures c.if-agree-newest.true c.if-agree-base.true),
)

pub overflow_cast-result : goal.overflow_cast-result
overflow_cast-result c = record { fits = omega (arith, agree_at_most c.args.newest.now (base_of c.args.offered.now) c.agree_on-agree.result c.agree_on-agree.ensures) }

pub returns : goal.returns
returns c = record {
  current = length c.args.newest.now;
  agree = c.agree_on-agree.result;
  is = refl;
  apart = (
    λ (next : IsNext c.args.newest.now c.args.offered.now).
        let n = c.agree_on-agree.result in
        let all : n ≡ length c.args.newest.now = agree_self c.args.newest.now n (subst (λ (es : List Extension). AgreeOn c.args.newest.now es n) next.1 c.agree_on-agree.ensures) in
        let size : length (base_of c.args.offered.now) ≡ length c.args.newest.now = ap length next.1 in
        elim c.else-agree-newest.branch [
          | else-agree-newest-via-then-agree-newest+else-agree-base w ↦ absurd (omega (arith, w.if-agree-base.false, all, size))
          | else-agree-newest-via-else-agree-newest w ↦ absurd (omega (arith, w.if-agree-newest.false, all))
        ],
    refl,
    c.agree_on-agree.ensures,
  );
}
