use Rattle.std.proofs.Common.{◌≡◌, map, take}
use Rattle.kid_term.specs.TermView.{plain_term}
use Rattle.kid_term.specs.Simultaneous.{substituted}
use Rattle.kid_term.specs.SubstView.{subst_of}
use Rattle.kid_term.proofs.substitute_all.+substituted.Given as goal

abbrev pub invariant-all_substituted-loop-t : goal.invariant-all_substituted-loop-t
invariant-all_substituted-loop-t l = map plain_term l.made.items ≡ map (λ t. substituted (subst_of l.scope) (plain_term t)) (take l.t-index l.terms)
