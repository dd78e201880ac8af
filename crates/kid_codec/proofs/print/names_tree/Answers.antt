use Rattle.std.proofs.Common.{ℕ, List, ap, ◌∙◌}
use Rattle.kid_sexp.specs.Plain.{atom, list}
use Rattle.kid_sexp.specs.Tree.{plain as plain_tree}
use Rattle.kid_codec.proofs.Each.{print-step, print-end}
use Rattle.kid_codec.proofs.Printed.{names_print}
use Rattle.kid_codec.proofs.print.names_tree.Goals as goal

pub loop-name-preserved : goal.loop-name-preserved
loop-name-preserved c =
    print-step names_print c.loop-name.trees c.push.new.self _ c.args.names.now c.loop-name.name-index c.name-item.result (plain_tree c.in_ok-word_tree.field-0)
    c.loop-name-test.true c.name-item.is (c.in_ok-word_tree.ensures ∙ ap (λ (n : List ℕ). atom n) c.as_slice.ensures) c.in_ok-push.ensures.ok c.loop-name.invariant

pub returns : goal.returns
returns c = ap list (print-end names_print c.loop-name.trees _ c.args.names.now c.loop-name.name-index c.loop-name-test.false c.loop-name.invariant)
