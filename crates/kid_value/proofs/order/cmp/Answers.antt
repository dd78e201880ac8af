use Rattle.std.proofs.Common.{◌≡◌, ◌↔◌, subst, sym}
use Rattle.std.specs.declared.cmp.Ordering.TheVariants.{Less, Equal, Greater}
use Rattle.kid_value.specs.StrictOrder.{IsBefore}
use Rattle.kid_value.specs.ValueView.{plain}
use Rattle.kid_value.proofs.StrictOrderLaws.{before-is, equal-is, greater-is}
use Rattle.kid_value.proofs.ValueOrderLaws.{value_cmp-total}
use Rattle.kid_value.proofs.order.cmp.Goals as goal

pub returns-clause-less : goal.returns-clause-less
returns-clause-less c =
    subst (λ o. (o ≡ Less) ↔ IsBefore (plain c.args.a.now) (plain c.args.b.now)) (sym c.compare.ensures) (before-is (plain c.args.a.now) (plain c.args.b.now) c.canonical.ensures.canonical c.canonical-2.ensures.canonical)

pub returns-clause-equal : goal.returns-clause-equal
returns-clause-equal c = subst (λ o. (o ≡ Equal) ↔ (plain c.args.a.now ≡ plain c.args.b.now)) (sym c.compare.ensures) (equal-is (plain c.args.a.now) (plain c.args.b.now))

pub returns-clause-greater : goal.returns-clause-greater
returns-clause-greater c =
    subst (λ o. (o ≡ Greater) ↔ IsBefore (plain c.args.b.now) (plain c.args.a.now)) (sym c.compare.ensures) (greater-is (plain c.args.a.now) (plain c.args.b.now) c.canonical.ensures.canonical c.canonical-2.ensures.canonical)

pub returns-clause-total : goal.returns-clause-total
returns-clause-total c = value_cmp-total
