use Rattle.std.proofs.Common.{◌≡◌, ◌+ℤ◌, true, map, drop}
use Rattle.kid_value.specs.ValueView.{plain}
use Rattle.kid_value.specs.Rows.Parts.{total as total_of}
use Rattle.kid_value.specs.Rows.Sums.{sums_small}
use Rattle.kid_ops.proofs.set.total_of.Given as goal

abbrev pub invariant-loop-v : goal.invariant-loop-v
invariant-loop-v l =
    record {
      small : sums_small l.sum (map plain (drop l.v-index l.values)) ≡ true;
      sums : l.sum +ℤ total_of (map plain (drop l.v-index l.values)) ≡ total_of (map plain l.values);
    }
