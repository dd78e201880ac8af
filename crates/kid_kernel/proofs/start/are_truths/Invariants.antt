use Rattle.std.proofs.Common.{◌≡◌, map, drop}
use Rattle.kid_term.specs.TermView.{plain_term}
use Rattle.kid_kernel.specs.Moves.{first_untrue}
use Rattle.kid_kernel.proofs.start.are_truths.Given as goal

abbrev pub invariant-loop-term : goal.invariant-loop-term
invariant-loop-term l =
    first_untrue l.theory.signature.definitions l.names (map plain_term l.terms) ≡ first_untrue l.theory.signature.definitions l.names (map plain_term (drop l.term-index l.terms))
