-- Cuts and maintained parameters of the program as plain data.
use Rattle.kid_value.specs.SortView.{plain_sort}
use Rattle.kid_term.specs.TermView.{plain_term}
use Rattle.kid_search.specs.PlainPlan.{PlainCut, PlainParameter}
use Rattle.kid_search.specs.declared.plan.Cut.{Cut}
use Rattle.kid_search.specs.declared.plan.Parameter.{Parameter}

abbrev pub plain_cut : Cut → PlainCut
plain_cut c = record { kind = c.kind; term = plain_term c.term }

abbrev pub plain_parameter : Parameter → PlainParameter
plain_parameter p = record { name = p.name; sort = plain_sort p.sort; expression = plain_term p.expression; start = plain_term p.start; kids = p.kids }
