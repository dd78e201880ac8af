use Rattle.std.proofs.Common.{sym, ap, ◌∙◌, ◌+◌, length, subst, arith}
use Rattle.kid_theory.specs.FileView.{plain_file}
use Rattle.kid_theory.specs.Answers.{Reads}
use Rattle.kid_sexp.specs.Tree.{plain}
use Rattle.kid_theory.specs.FrontView.{plain_front}
use Rattle.kid_kernel.specs.TheoryView.{plain_theory}
use Rattle.kid_term.specs.TermView.{plain_term}
use Rattle.kid_theory.proofs.KnownAfter.{condition_after, input_after, front_made, front_known}
use Rattle.kid_theory.proofs.StageLemmas.{input-next, require-next}
use Rattle.kid_theory.proofs.reader.+after_inputs.Goals as goal

pub returns-in_ok-push : goal.returns-in_ok-push
returns-in_ok-push t c =
    let e = input-next c.args.before (c.args.before + 1) c.args.title c.args.definitions c.args.inputs c.push.new.self c.args.taken c.declare.new.taken c.args.trees.now c.in-Some.rest.now c.in-Some.tree.now
    c.input_form.result (c.in_ok-name.name, c.in_ok-name.sort)
    (omega arith) c.in-Some.ensures.cases.0 (sym c.begins.ensures ∙ c.if-begins.true) c.input_form.ensures (sym c.at.ensures ∙ c.in_ok-name.was) c.in_ok-push.ensures.ok c.in_ok-declare.ensures in
    subst (λ o. Reads plain_file c.after_inputs.result o) (sym e) c.after_inputs.ensures

pub returns-in_ok-theory : goal.returns-in_ok-theory
returns-in_ok-theory t c =
    let e = require-next c.args.before (c.args.before + 1) c.args.title c.args.definitions c.args.inputs c.args.taken (plain_front c.front_of-front.result) c.args.trees.now c.in-Some.rest.now c.in-Some.tree.now
    c.requirement.result c.in_ok-condition.condition
    (omega arith) c.in-Some.ensures.cases.0 (sym c.begins.ensures ∙ c.if-begins.false) c.requirement.ensures (sym c.at-else-begins.ensures ∙ c.in_ok-condition.was)
    (front_made (plain_front c.front_of-front.result) c.args.title (plain_theory c.in_ok-theory.theory) c.args.taken c.args.definitions c.args.inputs (plain_term c.in_ok-condition.condition) c.front_of-front.ensures c.in_ok-theory.ensures) in
    subst (λ o. Reads plain_file c.after_condition.result o) (sym e) c.after_condition.ensures

pub after_inputs-requires : goal.after_inputs-requires
after_inputs-requires t c =
    let l = ap length c.in-Some.ensures.cases.0 in
    let declared = input_after (c.args.before + 1) c.args.definitions c.args.inputs c.push.new.self c.args.taken c.declare.new.taken (plain c.in-Some.tree.now) c.input_form.result (c.in_ok-name.name, c.in_ok-name.sort)
    c.requires.declared c.input_form.ensures (sym c.at.ensures ∙ c.in_ok-name.was) c.in_ok-push.ensures.ok c.in_ok-declare.ensures in
    (omega (arith, l), (omega (arith, l, c.requires.count), declared))

pub after_condition-requires-clause-known : goal.after_condition-requires-clause-known
after_condition-requires-clause-known t c =
    front_known (plain_front c.front_of-front.result) c.args.title (plain_theory c.in_ok-theory.theory) c.args.taken c.front_of-front.ensures
    (condition_after (c.args.before + 1) c.args.definitions c.args.inputs c.args.taken (plain_theory c.in_ok-theory.theory) (plain c.in-Some.tree.now) c.requirement.result c.in_ok-condition.condition
    c.requires.declared c.requirement.ensures (sym c.at-else-begins.ensures ∙ c.in_ok-condition.was) c.in_ok-theory.ensures)
