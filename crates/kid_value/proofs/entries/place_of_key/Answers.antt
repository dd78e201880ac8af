use Rattle.std.proofs.Common.{◌≡◌, ◌+◌, ◌-◌, ◌/◌, ℕ, map, take, drop, sym, subst, ap, ◌∙◌, arith, add-one}
use Rattle.kid_value.specs.ValueOrder.{value_cmp}
use Rattle.kid_value.specs.ValueSet.{AllAfter, Ascends}
use Rattle.kid_value.specs.ValueView.{plain}
use Rattle.kid_value.proofs.EntryLemmas.{plain_key, keys-map, KeyStandsAt-between, HoldsKey-equal}
use Rattle.kid_value.proofs.PlaceLemmas.{AllBefore, before-taken, after-dropped}
use Rattle.kid_value.proofs.ValueSetLaws.{Before-greater}
use Rattle.kid_value.proofs.entries.place_of_key.Goals as goal

pub loop-low-preserved-in-Less : goal.loop-low-preserved-in-Less
loop-low-preserved-in-Less c = record {
  ordered = omega arith;
  within = omega arith;
  before = c.loop-low.invariant.before;
  after = after-dropped plain_key (plain c.args.k.now) c.args.items.now _ c.index-items-middle.result (subst Ascends (keys-map c.args.items.now) c.requires) (omega arith) c.index-items-middle.is (ap (λ z. value_cmp (plain c.args.k.now) (plain_key z)) c.index-items-middle.is ∙ sym c.in-Less.ensures);
}

pub returns-in-Equal : goal.returns-in-Equal
returns-in-Equal c = HoldsKey-equal (plain c.args.k.now) c.args.items.now (c.loop-low.low + (c.loop-low.high - c.loop-low.low) / 2) c.index-items-middle.result c.requires (omega arith) c.index-items-middle.is (ap (λ z. value_cmp (plain c.args.k.now) (plain_key z)) c.index-items-middle.is ∙ sym c.in-Equal.ensures)

pub loop-low-preserved : goal.loop-low-preserved
loop-low-preserved c =
    let m : ℕ = c.loop-low.low + (c.loop-low.high - c.loop-low.low) / 2 in
    record {
      ordered = omega arith;
      within = omega arith;
      before = subst (λ n. AllBefore (plain c.args.k.now) (map plain_key (take n c.args.items.now))) (sym (add-one m))
          (before-taken plain_key (plain c.args.k.now) c.args.items.now m c.index-items-middle.result (subst Ascends (keys-map c.args.items.now) c.requires) (omega arith) c.index-items-middle.is
          (Before-greater (plain c.args.k.now) (plain_key c.index-items-middle.result) (ap (λ z. value_cmp (plain c.args.k.now) (plain_key z)) c.index-items-middle.is ∙ sym c.in-Greater.ensures)));
      after = c.loop-low.invariant.after;
    }

pub returns : goal.returns
returns c =
    let e : c.loop-low.high ≡ c.loop-low.low = omega arith in
    KeyStandsAt-between (plain c.args.k.now) c.args.items.now c.loop-low.low (omega arith) c.loop-low.invariant.before
    (subst (λ n. AllAfter (plain c.args.k.now) (map plain_key (drop n c.args.items.now))) e c.loop-low.invariant.after)
