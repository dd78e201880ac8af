use Rattle.std.proofs.Common.{◌≡◌, ◌++◌, drop, Some}
use Rattle.kid_sexp.specs.Tree.{plains}
use Rattle.kid_codec.specs.Reading.{◌>>=◌}
use Rattle.kid_lines.specs.RuleReading.{spelled_plain_terms}
use Rattle.kid_lines.proofs.terms.plain_terms_of.Given as goal

abbrev pub invariant-loop-tree : goal.invariant-loop-tree
invariant-loop-tree l = (spelled_plain_terms (plains (drop l.tree-index l.trees)) >>= λ us. Some (l.terms ++ us)) ≡ spelled_plain_terms (plains l.trees)
