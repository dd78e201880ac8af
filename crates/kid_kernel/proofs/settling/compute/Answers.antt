use Rattle.std.proofs.Common.{sym}
use Rattle.kid_term.specs.TermView.{plain_term}
use Rattle.kid_scope.proofs.ClosedSorts.{closed_small}
use Rattle.kid_kernel.proofs.settling.compute.Goals as goal

pub term_of_value-requires : goal.term_of_value-requires
term_of_value-requires c = closed_small c.args.scope.now.definitions.now c.args.scope.now.names (plain_term c.args.term.now) c.requires.sound (sym c.if-not-is_closed.ensures) c.requires.sorted
