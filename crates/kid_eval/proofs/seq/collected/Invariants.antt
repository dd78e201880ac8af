use Rattle.std.proofs.Common.{◌≡◌, ◌++◌, map, drop}
use Rattle.kid_eval.specs.ScopeView.{plain_seen}
use Rattle.kid_eval.proofs.seq.collected.Given as goal

abbrev pub invariant-loop-seen : goal.invariant-loop-seen
invariant-loop-seen l = l.items ++ map plain_seen (drop l.seen-index l.values) ≡ map plain_seen l.values
