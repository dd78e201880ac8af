use Rattle.std.proofs.Common.{◌+◌, arith, map, sym, ◌∙◌, subst}
use Rattle.kid_sexp.specs.Tree.{plains}
use Rattle.kid_value.specs.NameView.{plain_name}
use Rattle.kid_run.specs.InputReading.{inputs_from, AllFit, ValuesFit}
use Rattle.kid_run.proofs.InputLemmas.{inputs_more, all_fit}
use Rattle.kid_run.proofs.inputs.inputs_from.Goals as goal

pub loop-before-preserved : goal.loop-before-preserved
loop-before-preserved c =
    let names = map plain_name c.args.names.now in
    record {
      told = inputs_more names c.loop-before.before (c.loop-before.before + 1) c.args.trees.now c.index-trees-before.result c.loop-before.inputs c.in-Some.values c.push.new.self
          (inputs_from names 0 (plains c.args.trees.now)) (omega arith) c.loop-before-test.true c.index-trees-before.is (sym c.in-Some.is ∙ c.in_ok-values.ensures.values)
          c.in_ok-push.ensures.ok c.loop-before.invariant.told;
      fit = subst (AllFit names) (sym c.in_ok-push.ensures.ok)
          (all_fit names c.loop-before.inputs c.in-Some.values c.loop-before.invariant.fit (subst (ValuesFit names) c.in-Some.is c.in_ok-values.ensures.fit));
    }
