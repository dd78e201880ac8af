use Rattle.std.proofs.Common.{◌≡◌, ◌++◌, drop, Some}
use Rattle.kid_sexp.specs.Tree.{plains}
use Rattle.kid_codec.specs.Reading.{◌>>=◌}
use Rattle.kid_codec.specs.TermSpelling.{spelled_terms}
use Rattle.kid_prog.proofs.shape.terms_from.Given as goal

abbrev pub invariant-loop-tree : goal.invariant-loop-tree
invariant-loop-tree l = (spelled_terms (plains (drop l.tree-index l.trees)) >>= λ ts. Some (l.terms ++ ts)) ≡ spelled_terms (plains l.trees)
