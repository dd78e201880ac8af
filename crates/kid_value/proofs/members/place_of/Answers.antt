use Rattle.std.proofs.Common.{◌≡◌, ◌+◌, ◌-◌, ◌/◌, ℕ, map, take, drop, sym, subst, arith, add-one}
use Rattle.kid_value.specs.ValueSet.{AllAfter}
use Rattle.kid_value.specs.ValueView.{plain}
use Rattle.kid_value.proofs.PlaceLemmas.{AllBefore, before-taken, after-dropped}
use Rattle.kid_value.proofs.PutLemmas.{StandsAt-between, IsThere-equal}
use Rattle.kid_value.proofs.ValueSetLaws.{Before-greater}
use Rattle.kid_value.proofs.members.place_of.Goals as goal

pub loop-low-preserved-in-Less : goal.loop-low-preserved-in-Less
loop-low-preserved-in-Less c = record {
  ordered = omega arith;
  within = omega arith;
  before = c.loop-low.invariant.before;
  after = after-dropped plain (plain c.args.v.now) c.args.items.now _ c.index-items-middle.result c.requires (omega arith) c.index-items-middle.is (sym c.in-Less.ensures);
}

pub returns-in-Equal : goal.returns-in-Equal
returns-in-Equal c = IsThere-equal (plain c.args.v.now) c.args.items.now (c.loop-low.low + (c.loop-low.high - c.loop-low.low) / 2) c.index-items-middle.result c.requires (omega arith) c.index-items-middle.is (sym c.in-Equal.ensures)

pub loop-low-preserved : goal.loop-low-preserved
loop-low-preserved c =
    let m : ℕ = c.loop-low.low + (c.loop-low.high - c.loop-low.low) / 2 in
    record {
      ordered = omega arith;
      within = omega arith;
      before = subst (λ n. AllBefore (plain c.args.v.now) (map plain (take n c.args.items.now))) (sym (add-one m))
          (before-taken plain (plain c.args.v.now) c.args.items.now m c.index-items-middle.result c.requires (omega arith) c.index-items-middle.is
          (Before-greater (plain c.args.v.now) (plain c.index-items-middle.result) (sym c.in-Greater.ensures)));
      after = c.loop-low.invariant.after;
    }

pub returns : goal.returns
returns c =
    let e : c.loop-low.high ≡ c.loop-low.low = omega arith in
    StandsAt-between (plain c.args.v.now) c.args.items.now c.loop-low.low (omega arith) c.loop-low.invariant.before
    (subst (λ n. AllAfter (plain c.args.v.now) (map plain (drop n c.args.items.now))) e c.loop-low.invariant.after)
