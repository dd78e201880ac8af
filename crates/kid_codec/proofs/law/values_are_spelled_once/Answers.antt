use Rattle.kid_codec.proofs.SpelledRead.{spelled_once}
use Rattle.kid_codec.proofs.law.values_are_spelled_once.Goals as goal

pub returns : goal.returns
returns c = λ t v w p q. spelled_once t v w p q
