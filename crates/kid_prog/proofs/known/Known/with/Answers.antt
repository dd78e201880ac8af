use Rattle.kid_term.specs.DefView.{plain_def}
use Rattle.kid_prog.proofs.Depths.{known-more}
use Rattle.kid_prog.proofs.known.Known.with.Goals as goal

pub invariant_of-result : goal.invariant_of-result
invariant_of-result c =
    known-more c.self.inside.signature c.add_definition.new.self c.self.inside.depths c.push.new.self (plain_def c.args.definition) c.in_ok-copy.field-0 c.of_body-depth.result
    c.self.invariant.0 c.self.invariant.1 c.in_ok-copy.ensures c.of_body-depth.ensures c.in_ok-push.ensures.ok c.in_ok-add_definition.ensures.ok
