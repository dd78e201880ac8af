use Rattle.std.proofs.Common.{◌≡◌, ◌+ℤ◌, true, map, drop}
use Rattle.kid_value.specs.ValueView.{plain}
use Rattle.kid_value.specs.Rows.Parts.{total}
use Rattle.kid_value.specs.Rows.Sums.{sums_small}
use Rattle.kid_eval.proofs.binder.total.Given as goal

abbrev pub invariant-loop-v : goal.invariant-loop-v
invariant-loop-v l =
    record {
      small : sums_small l.sum (map plain (drop l.v-index l.values)) ≡ true;
      sums : l.sum +ℤ total (map plain (drop l.v-index l.values)) ≡ total (map plain l.values);
    }
