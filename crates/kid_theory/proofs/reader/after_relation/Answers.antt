use Rattle.std.proofs.Common.{refl, sym, ◌∙◌, ◌+◌, subst, arith}
use Rattle.kid_theory.specs.FileView.{plain_file}
use Rattle.kid_theory.specs.Answers.{Reads}
use Rattle.kid_theory.specs.Reading.{with_first}
use Rattle.kid_theory.proofs.StageLemmas.{first-next}
use Rattle.kid_theory.proofs.reader.after_relation.Goals as goal

pub returns : goal.returns
returns c =
    let e = first-next c.args.before (c.args.before + 1) (plain_file c.args.file) (with_first (plain_file c.args.file) c.in_ok-count.count) c.args.trees.now c.in-Some.rest.now c.in-Some.tree.now
    c.first_form.result c.in_ok-count.count
    (omega arith) c.in-Some.ensures.cases.0 c.first_form.ensures (sym c.at.ensures ∙ c.in_ok-count.was) refl in
    subst (λ o. Reads plain_file c.at_end.result o) (sym e) c.at_end.ensures
