use Rattle.std.proofs.Common.{sym, ap, ◌∙◌, ◌+◌, length, subst, arith}
use Rattle.kid_theory.specs.FileView.{plain_file}
use Rattle.kid_theory.specs.Answers.{Reads}
use Rattle.kid_sexp.specs.Tree.{plain, plains}
use Rattle.kid_theory.proofs.KnownAfter.{definition_after}
use Rattle.kid_theory.proofs.StageLemmas.{definition-next}
use Rattle.kid_theory.proofs.reader.+after_definitions.Goals as goal

pub returns-in_ok-known : goal.returns-in_ok-known
returns-in_ok-known t c =
    let e = definition-next c.args.before (c.args.before + 1) c.args.known.title c.in_ok-known.known.title c.args.known.all c.in_ok-known.known.all c.args.known.taken c.in_ok-known.known.taken c.args.trees.now c.in-Some.rest.now c.in-Some.tree.now
    c.definition_after.result c.in_ok-definition.definition
    (omega arith) c.in-Some.ensures.cases.0 (sym c.begins.ensures ∙ c.if-begins.true) c.definition_after.ensures (sym c.at.ensures ∙ c.in_ok-definition.was) c.in_ok-known.ensures.0 c.in_ok-known.ensures.1 c.in_ok-known.ensures.3 in
    subst (λ o. Reads plain_file c.after_definitions.result o) (sym e) c.after_definitions.ensures

pub after_definitions-requires : goal.after_definitions-requires
after_definitions-requires t c =
    let l = ap length c.in-Some.ensures.cases.0 in
    let declared = definition_after (c.args.before + 1) c.args.known.all c.in_ok-known.known.all c.args.known.taken c.in_ok-known.known.taken (plains c.in-Some.rest.now) (plain c.in-Some.tree.now)
    c.definition_after.result c.in_ok-definition.definition c.requires.declared c.definition_after.ensures (sym c.at.ensures ∙ c.in_ok-definition.was) c.in_ok-known.ensures.1 c.in_ok-known.ensures.3 in
    (omega (arith, l), (omega (arith, l, c.requires.count), (c.in_ok-known.ensures.2, declared)))
