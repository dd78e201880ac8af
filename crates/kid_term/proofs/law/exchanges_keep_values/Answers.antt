use Rattle.kid_term.proofs.Exchange.{exchange-kept}
use Rattle.kid_term.proofs.law.exchanges_keep_values.Goals as goal

pub returns : goal.returns
returns c = exchange-kept
