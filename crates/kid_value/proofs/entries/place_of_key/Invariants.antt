use Rattle.std.proofs.Common.{◌-◌, ◌≤◌, length, map, take, drop}
use Rattle.kid_value.specs.ValueSet.{AllAfter}
use Rattle.kid_value.specs.ValueView.{plain}
use Rattle.kid_value.proofs.EntryLemmas.{plain_key}
use Rattle.kid_value.proofs.PlaceLemmas.{AllBefore}
use Rattle.kid_value.proofs.entries.place_of_key.Given as goal

abbrev pub invariant-loop-low : goal.invariant-loop-low
invariant-loop-low l = record {
  ordered : l.low ≤ l.high;
  within : l.high ≤ length l.items;
  before : AllBefore (plain l.k) (map plain_key (take l.low l.items));
  after : AllAfter (plain l.k) (map plain_key (drop l.high l.items));
}

abbrev pub decreases-loop-low : goal.decreases-loop-low
decreases-loop-low l = l.high - l.low
