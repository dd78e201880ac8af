-- What a law or an axiom of the program says, as plain data.
use Rattle.kid_term.specs.PlainLaw.{PlainLaw}
use Rattle.kid_kernel.specs.LawView.{plain_conclusion}
use Rattle.kid_kernel.specs.declared.stated.Stated.{Stated}

abbrev pub plain_stated : Stated → PlainLaw
plain_stated s = record { name = s.name.now; variables = s.variables.now; conditions = s.conditions.now; conclusion = plain_conclusion s.conclusion.now }
