use Rattle.std.proofs.Common.{arith}
use Rattle.kid_term.specs.Names.{latest_first}
use Rattle.kid_kernel.proofs.BoundLemmas.{one_bounded, among_past, leads_on}
use Rattle.kid_kernel.proofs.scope.+descend.Goals as goal

pub descend_among-descend-requires : goal.descend_among-descend-requires
descend_among-descend-requires t c = (omega (arith, c.decreases), one_bounded c.args.terms.now c.args.step c.index-terms-at.result (omega arith) c.index-terms-at.is c.requires)

pub descend_among-returns-then-at-terms : goal.descend_among-returns-then-at-terms
descend_among-returns-then-at-terms t c =
    leads_on (latest_first c.args.definitions.now) c.args.names.now c.descend.new.names c.args.assumed.now c.descend.new.assumed c.descend.result c.args.terms.now c.args.step c.args.path.now
    c.index-terms-at.result (omega arith) c.index-terms-at.is c.descend.ensures

pub descend_among-returns-else-at-terms : goal.descend_among-returns-else-at-terms
descend_among-returns-else-at-terms t c facts =
    among_past (latest_first c.args.definitions.now) c.args.terms.now c.args.step c.args.path.now (record { names = c.args.names.now; facts = facts; assumed = c.args.assumed.now }) (omega arith)
