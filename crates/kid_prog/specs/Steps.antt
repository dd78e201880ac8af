-- What one statement makes of the names in scope.
use Rattle.std.specs.Prelude.{ℕ, Bool, false, ◌&&◌, List, Option, Some, None, Ok, Err, if◌then◌else◌}
use Rattle.kid_value.specs.PlainSort.{sets}
use Rattle.kid_term.specs.PlainTerm.{PlainTerm}
use Rattle.kid_term.specs.Names.{Names, is_named}
use Rattle.kid_term.specs.Sorted.{Sorted}
use Rattle.kid_term.specs.Sorting.{sort_of}
use Rattle.kid_sorting.specs.Declaring.{with_name, is_truth, is_within}
use Rattle.kid_prog.specs.PlainStmt.{PlainStmt, assign, when, each, emit, call, PlainStmts}
use Rattle.kid_prog.specs.Rules.{Setting, sorts_of, call_fits, obey}

-- the names with a new one that has the term's sort
abbrev pub bound : Names → List ℕ → Sorted → Option Names
bound names x (Ok s) = if is_named x names then None else Some (with_name names x s)
bound names x (Err fault) = None

-- the names with a new one of the set's element sort
abbrev pub ranged : Names → List ℕ → Sorted → Option Names
ranged names x (Ok (sets a)) = bound names x (Ok a)
ranged names x r = None

-- the test at names, if they are there
abbrev pub held : Option Names → (Names → Bool) → Bool
held (Some names) test = test names
held None test = false

abbrev pub if_obeys : Setting → Names → PlainTerm → PlainStmts → Bool
if_obeys g names t body = is_truth (sort_of g.definitions names t) && obey g names body

abbrev pub for_obeys : Setting → Names → List ℕ → PlainTerm → PlainStmts → Bool
for_obeys g names x t body = held (ranged names x (sort_of g.definitions names t)) (λ more. obey g more body)

abbrev pub kept : Names → Bool → Option Names
kept names b = if b then Some names else None

-- the names after a statement, if it meets the rules
abbrev pub step : Setting → Names → PlainStmt → Option Names
step g names (assign x t) = bound names x (sort_of g.definitions names t)
step g names (when t body) = kept names (if_obeys g names t body)
step g names (each x t body) = kept names (for_obeys g names x t body)
step g names (emit t) = kept names (is_within g.sort (sort_of g.definitions names t))
step g names (call ts) = kept names (call_fits g.parameters (sorts_of g.definitions names ts))
