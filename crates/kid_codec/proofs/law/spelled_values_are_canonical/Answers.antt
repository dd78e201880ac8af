use Rattle.kid_codec.proofs.SpelledCanonical.{canonical}
use Rattle.kid_codec.proofs.law.spelled_values_are_canonical.Goals as goal

pub returns : goal.returns
returns c = λ t v p. canonical t v p
