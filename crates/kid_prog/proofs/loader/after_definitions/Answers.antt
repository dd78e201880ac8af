use Rattle.std.proofs.Common.{sym, ◌∙◌, ◌+◌, arith}
use Rattle.kid_sexp.specs.Tree.{plain, plains}
use Rattle.kid_prog.proofs.StageLemmas.{next-counts, def-next, handed-on, def-refused}
use Rattle.kid_prog.proofs.loader.after_definitions.Goals as goal

pub returns-in_err-definition : goal.returns-in_err-definition
returns-in_err-definition c =
    handed-on c.from_residual.result c.in_err-definition.field-0.0 _ c.from_residual.ensures.1
    (def-refused c.loop-tree.number (c.loop-tree.number + 1) c.args.format c.loop-tree.known (plains c.loop-tree.rest.now) (plains c.in-Some.others.now) c.in-Some.tree.now
    c.def_form.result c.in_err-definition.field-0.0 _ (omega arith) c.in-Some.ensures c.def_form.ensures (sym c.at.ensures ∙ c.in_err-definition.was) c.loop-tree.invariant.told)

pub loop-tree-smaller : goal.loop-tree-smaller
loop-tree-smaller c =
    let counts = next-counts c.loop-tree.rest.now c.in-Some.others.now (plain c.in-Some.tree.now) c.in-Some.ensures in
    omega arith

pub loop-tree-preserved : goal.loop-tree-preserved
loop-tree-preserved c =
    let counts = next-counts c.loop-tree.rest.now c.in-Some.others.now (plain c.in-Some.tree.now) c.in-Some.ensures in
    record {
      told = sym (def-next c.loop-tree.number (c.loop-tree.number + 1) c.args.format c.loop-tree.known c.in_ok-known.known (plains c.loop-tree.rest.now) (plains c.in-Some.others.now) c.in-Some.tree.now
          c.def_form.result c.in_ok-definition.definition (omega arith) c.in-Some.ensures c.def_form.ensures (sym c.at.ensures ∙ c.in_ok-definition.was) c.in_ok-known.ensures)
          ∙ c.loop-tree.invariant.told;
      counted = omega arith;
    }
