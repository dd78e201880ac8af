use Rattle.std.proofs.Common.{◌≡◌, ◌≤◌}
use Rattle.kid_term.specs.WordSorts.{bit_count}
use Rattle.kid_sorting.proofs.word.bit_count.Given as goal

abbrev pub decreases-loop-count : goal.decreases-loop-count
decreases-loop-count l = l.count

abbrev pub invariant-loop-count : goal.invariant-loop-count
invariant-loop-count l = record {
  told : bit_count l.count l.number ≡ bit_count l.size l.number;
  most : l.count ≤ l.size;
}
