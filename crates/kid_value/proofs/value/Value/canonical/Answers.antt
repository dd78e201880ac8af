use Rattle.kid_value.specs.ValueView.{plain}
use Rattle.kid_value.proofs.CanonicalTests.{is_canonical-is}
use Rattle.kid_value.proofs.value.Value.canonical.Goals as goal

pub returns-clause-test : goal.returns-clause-test
returns-clause-test c = is_canonical-is (plain c.args.self.now) c.look_at.ensures
