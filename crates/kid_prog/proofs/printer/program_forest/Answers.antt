use Rattle.kid_sexp.specs.Tree.{plain as plain_tree}
use Rattle.kid_prog.specs.ProgramView.{plain_program}
use Rattle.kid_prog.proofs.ProgramForest.{last-joined}
use Rattle.kid_prog.proofs.printer.program_forest.Goals as goal

pub returns : goal.returns
returns c =
    last-joined (plain_program c.args.program.now) c.in_ok-forms.forms c.push.new.self c.push-2.new.self c.in_ok-forms-2.forms c.push-3.new.self c.push-4.new.self
    (plain_tree c.in_ok-condition_tree.field-0) (plain_tree c.in_ok-output_tree.field-0) (plain_tree c.in_ok-main_tree.field-0) (plain_tree c.in_ok-search_tree.field-0)
    c.in_ok-forms.ensures c.in_ok-push.ensures.ok c.in_ok-push-2.ensures.ok c.in_ok-forms-2.ensures c.in_ok-push-3.ensures.ok c.in_ok-push-4.ensures.ok
    c.in_ok-condition_tree.ensures c.in_ok-output_tree.ensures c.in_ok-main_tree.ensures c.in_ok-search_tree.ensures
