-- Theories of the program as plain data.
use Rattle.kid_term.specs.PlainSpec.{plain_spec}
use Rattle.kid_term.specs.PlainTheory.{PlainTheory}
use Rattle.kid_kernel.specs.declared.theory.Theory.{Theory}

abbrev pub plain_theory : Theory → PlainTheory
plain_theory t = record { signature = t.signature; laws = t.laws; axioms = t.axioms; spec = plain_spec t.spec }
