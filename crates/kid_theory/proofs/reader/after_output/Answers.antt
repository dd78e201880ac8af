use Rattle.std.proofs.Common.{sym, ◌∙◌, ◌+◌, subst, arith}
use Rattle.kid_theory.specs.FileView.{plain_file}
use Rattle.kid_theory.specs.Answers.{Reads}
use Rattle.kid_value.specs.SortView.{plain_sort}
use Rattle.kid_sexp.specs.Tree.{plains}
use Rattle.kid_theory.specs.Reading.{after_output}
use Rattle.kid_theory.specs.FrontView.{plain_front}
use Rattle.kid_theory.proofs.StageLemmas.{relation-next, relation-refused, handed}
use Rattle.kid_theory.proofs.reader.after_output.Goals as goal

pub returns : goal.returns
returns c =
    let e = relation-next c.args.before (c.args.before + 1) (plain_front c.args.front) (c.args.output, plain_sort c.args.sort) c.args.trees.now c.in-Some.rest.now c.in-Some.tree.now
    c.relation_form.result c.in_ok-relation.relation (plain_file c.file_with-file.result)
    (omega arith) c.in-Some.ensures.cases.0 c.relation_form.ensures (sym c.at.ensures ∙ c.in_ok-relation.was) c.file_with-file.ensures in
    subst (λ o. Reads plain_file c.after_relation.result o) (sym e) c.after_relation.ensures

pub returns-in_err-relation : goal.returns-in_err-relation
returns-in_err-relation c =
    let fails = relation-refused c.args.before (c.args.before + 1) (plain_front c.args.front) (c.args.output, plain_sort c.args.sort) c.args.trees.now c.in-Some.rest.now c.in-Some.tree.now
    c.relation_form.result c.in_err-relation.field-0.0
    (omega arith) c.in-Some.ensures.cases.0 c.relation_form.ensures (sym c.at.ensures ∙ c.in_err-relation.was) in
    handed plain_file c.from_residual.result c.in_err-relation.field-0.0 (after_output c.args.before (plain_front c.args.front) (c.args.output, plain_sort c.args.sort) (plains c.args.trees.now))
    c.from_residual.ensures.1 fails
