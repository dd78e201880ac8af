use Rattle.std.proofs.Common.{map}
use Rattle.kid_term.specs.TermView.{plain_term}
use Rattle.kid_laws.proofs.ApplyLemmas.{one_each}
use Rattle.kid_laws.proofs.applying.applied_row.Goals as goal

pub zipped-requires : goal.zipped-requires
zipped-requires c =
    one_each c.in_ok-variables.variables (plain_term c.in_ok-from.from) (map plain_term c.args.args.now) (plain_term c.args.term.now) c.in-Some.terms c.in_ok-matched_terms.field-0
    c.in_ok-matched_terms.ensures c.in-Some.is plain_term c.items-in-Some.result.now c.items.result.now c.items-in-Some.ensures c.items.ensures
