use Rattle.std.proofs.Common.{sym}
use Rattle.kid_term.specs.TermView.{plain_term}
use Rattle.kid_scope.proofs.ClosedSorts.{closed_small}
use Rattle.kid_kernel.proofs.holding.is_plainly_true.Goals as goal

pub is_true-requires : goal.is_true-requires
is_true-requires c = closed_small c.args.scope.now.definitions.now c.args.scope.now.names (plain_term c.args.condition.now) c.requires.sound (sym c.if-not-is_closed.ensures) c.requires.sorted
