use Rattle.std.proofs.Common.{◌≡◌, ◌++◌, drop, Some}
use Rattle.kid_sexp.specs.Tree.{plains}
use Rattle.kid_codec.specs.NameSpelling.{spelled_names}
use Rattle.kid_codec.specs.Reading.{◌>>=◌}
use Rattle.kid_codec.proofs.tree_name.spelled_names.Given as goal

abbrev pub invariant-loop-tree : goal.invariant-loop-tree
invariant-loop-tree l = (spelled_names (plains (drop l.tree-index l.trees)) >>= λ ns. Some (l.names ++ ns)) ≡ spelled_names (plains l.trees)
