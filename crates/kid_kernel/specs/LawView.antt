-- Laws and axioms of the program as plain data.
use Rattle.kid_term.specs.TermView.{plain_term}
use Rattle.kid_term.specs.PlainLaw.{PlainConclusion, equal, holds, PlainLaw}
use Rattle.kid_kernel.specs.declared.law.Conclusion.{Conclusion}
use Rattle.kid_kernel.specs.declared.law.Conclusion.TheVariants.{Equal, Holds}
use Rattle.kid_kernel.specs.declared.law.Law.{Law}
use Rattle.kid_kernel.specs.declared.law.Axiom.{Axiom}

abbrev pub plain_conclusion : Conclusion → PlainConclusion
plain_conclusion (Equal l r) = equal (plain_term l) (plain_term r)
plain_conclusion (Holds c) = holds (plain_term c)

abbrev pub plain_law : Law → PlainLaw
plain_law l = record { name = l.name; variables = l.variables; conditions = l.conditions; conclusion = plain_conclusion l.conclusion }

abbrev pub plain_axiom : Axiom → PlainLaw
plain_axiom a = record { name = a.name; variables = a.variables; conditions = a.conditions; conclusion = plain_conclusion a.conclusion }
