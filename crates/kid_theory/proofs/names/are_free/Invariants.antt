use Rattle.std.proofs.Common.{◌≡◌, drop, map}
use Rattle.kid_value.specs.NameView.{plain_name}
use Rattle.kid_theory.specs.Taken.{are_free}
use Rattle.kid_theory.proofs.names.are_free.Given as goal

-- the names that were passed are free
abbrev pub invariant-loop-name : goal.invariant-loop-name
invariant-loop-name l = are_free l.seen (map plain_name (drop l.name-index l.name-items)) ≡ are_free l.taken l.names
