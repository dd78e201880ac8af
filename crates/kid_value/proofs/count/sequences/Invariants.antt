use Rattle.std.proofs.Common.{◌≡◌}
use Rattle.kid_value.specs.SortCount.{capped, sequence_count}
use Rattle.kid_value.proofs.count.sequences.Given as goal

abbrev pub invariant-loop : goal.invariant-loop
invariant-loop l = l.count ≡ capped (sequence_count l.items l.counter)
