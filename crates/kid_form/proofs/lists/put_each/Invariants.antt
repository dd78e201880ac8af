use Rattle.std.proofs.Common.{◌≡◌, drop, map}
use Rattle.kid_sexp.specs.Plain.{join}
use Rattle.kid_form.specs.FormLists.{spell_each}
use Rattle.kid_form.proofs.lists.put_each.Given as goal

abbrev pub invariant-loop-item : goal.invariant-loop-item
invariant-loop-item g l = join l.trees (spell_each g.F.TreeForm.form (map g.F.TreeForm.view (drop l.item-index l.items))) ≡ join l.initial.trees (spell_each g.F.TreeForm.form (map g.F.TreeForm.view l.items))
