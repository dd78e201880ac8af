use Rattle.std.proofs.Common.{◌≡◌, drop}
use Rattle.kid_sexp.specs.Tree.{plains}
use Rattle.kid_theory.specs.Ahead.{is_defined_in}
use Rattle.kid_theory.proofs.ahead.is_defined_in.Given as goal

-- no form that was passed defines the name
abbrev pub invariant-loop-tree : goal.invariant-loop-tree
invariant-loop-tree l = is_defined_in (plains (drop l.tree-index l.forms)) l.name ≡ is_defined_in (plains l.forms) l.name
