use Rattle.std.proofs.Common.{◌≡◌, ◌++◌, drop}
use Rattle.kid_theory.proofs.names.extend.Given as goal

abbrev pub invariant-loop-text : goal.invariant-loop-text
invariant-loop-text l = l.texts ++ drop l.text-index l.more ≡ l.initial.texts ++ l.more
