-- A theory as plain data.
use Rattle.std.specs.Prelude.{List}
use Rattle.kid_term.specs.PlainSpec.{PlainSpec}
use Rattle.kid_term.specs.PlainSignature.{PlainSignature}
use Rattle.kid_term.specs.PlainLaw.{PlainLaw}

-- definitions and inputs, laws, axioms, and the problem
pub record PlainTheory : Type 0 where
  pub signature : PlainSignature
  pub laws : List PlainLaw
  pub axioms : List PlainLaw
  pub spec : PlainSpec
