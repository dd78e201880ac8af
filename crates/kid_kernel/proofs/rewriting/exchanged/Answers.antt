use Rattle.std.proofs.Common.{map}
use Rattle.kid_term.specs.TermView.{plain_term}
use Rattle.kid_scope.specs.InstanceView.{plain_instance}
use Rattle.kid_kernel.specs.Placed.{top_scope}
use Rattle.kid_kernel.specs.TheoryView.{plain_theory}
use Rattle.kid_kernel.proofs.PlacedLemmas.{made_there}
use Rattle.kid_kernel.proofs.rewriting.exchanged.Goals as goal

pub put-requires : goal.put-requires
put-requires g c =
    made_there (g.E.Equal.rewrites c.args.rule.now) (plain_theory c.args.theory.now) (top_scope c.args.names.now (map plain_term c.args.facts.now)) (plain_term c.args.term) c.args.path.now
    (plain_instance c.in-Ok.new) c.in-Ok.ensures.0
