use Rattle.std.proofs.Common.{◌≡◌, ◌++◌, drop, map, Some}
use Rattle.kid_sexp.specs.Tree.{plains}
use Rattle.kid_codec.specs.Reading.{◌>>=◌}
use Rattle.kid_form.specs.FormLists.{read_each}
use Rattle.kid_form.proofs.lists.read_each.Given as goal

abbrev pub invariant-loop-tree : goal.invariant-loop-tree
invariant-loop-tree g l =
    (read_each g.F.TreeForm.form (plains (drop l.tree-index l.trees)) >>= λ others. Some (map g.F.TreeForm.view l.items.items ++ others)) ≡ read_each g.F.TreeForm.form (plains l.trees)
