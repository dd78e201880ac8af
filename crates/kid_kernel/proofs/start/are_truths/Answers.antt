use Rattle.kid_kernel.proofs.StartLemmas.{refused_here}
use Rattle.kid_kernel.proofs.start.are_truths.Goals as goal

pub returns-in_err-is_truth : goal.returns-in_err-is_truth
returns-in_err-is_truth c =
    refused_here c.args.theory.now.signature.definitions c.args.names.now c.args.terms.now c.loop-term.term-index c.term-item.result c.from_residual.result c.in_err-is_truth.field-0.0 _ c.loop-term-test.true
    c.term-item.is c.loop-term.invariant c.in_err-is_truth.ensures c.from_residual.ensures.1
