use Rattle.std.proofs.Common.{◌≡◌, ◌++◌, map, option_map, drop}
use Rattle.kid_term.specs.TermView.{plain_term}
use Rattle.kid_laws.specs.Applied.{terms_of}
use Rattle.kid_laws.proofs.arguments.terms_of.Given as goal

-- the terms so far and those of the names that are left are all terms
abbrev pub invariant-loop-name : goal.invariant-loop-name
invariant-loop-name l = option_map (λ ts. l.terms ++ ts) (terms_of l.found (drop l.name-index l.names) (map plain_term l.left)) ≡ terms_of l.found l.names (map plain_term l.args)
