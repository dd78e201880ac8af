use Rattle.kid_value.specs.ValueView.{plain}
use Rattle.kid_term.proofs.QuoteLemmas.{quoted-value}
use Rattle.kid_term.proofs.quotation.quote.Goals as goal

pub returns-clause-value : goal.returns-clause-value
returns-clause-value c = quoted-value c.quoted.result (plain c.args.v.now) c.canonical.ensures.canonical c.quoted.ensures
