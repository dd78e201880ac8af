use Rattle.kid_term.specs.TermView.{plain_term}
use Rattle.kid_term.proofs.RenameLemmas.{values_renamed}
use Rattle.kid_term.proofs.Term.rename.Goals as goal

pub returns-clause-value : goal.returns-clause-value
returns-clause-value c = values_renamed c.args.to (plain_term c.args.self) c.renamed.result c.renamed.ensures.renamed
