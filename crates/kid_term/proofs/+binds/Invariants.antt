use Rattle.std.proofs.Common.{◌≡◌, map, drop}
use Rattle.kid_term.specs.TermView.{plain_term}
use Rattle.kid_term.specs.PlainTerm.{term_row}
use Rattle.kid_term.specs.Renaming.{some_bind}
use Rattle.kid_term.proofs.+binds.Given as goal

abbrev pub invariant-rename::some_bind-loop-t : goal.invariant-rename::some_bind-loop-t
invariant-rename::some_bind-loop-t l = some_bind l.x (term_row (map plain_term l.terms)) ≡ some_bind l.x (term_row (map plain_term (drop l.t-index l.terms)))
