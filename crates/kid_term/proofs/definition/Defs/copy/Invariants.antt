use Rattle.std.proofs.Common.{◌≡◌, ◌++◌, map, drop}
use Rattle.kid_term.specs.DefView.{plain_def}
use Rattle.kid_term.proofs.definition.Defs.copy.Given as goal

-- the definitions so far and those that are left are all definitions
abbrev pub invariant-loop-definition : goal.invariant-loop-definition
invariant-loop-definition l = l.copies ++ map plain_def (drop l.definition-index l.definition-items) ≡ l.self
