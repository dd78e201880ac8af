use Rattle.std.proofs.Common.{◌≡◌, ◌^◌}
use Rattle.kid_value.specs.SortCount.{capped}
use Rattle.kid_value.proofs.count.power.Given as goal

abbrev pub invariant-loop : goal.invariant-loop
invariant-loop l = l.power ≡ capped (l.base ^ l.counter)
