-- Claims of the program as plain data.
use Rattle.kid_kernel.specs.LawView.{plain_law, plain_axiom}
use Rattle.kid_kernel.specs.declared.law.Axiom.{Axiom}
use Rattle.kid_moves.specs.declared.step.Moves.{Moves}
use Rattle.kid_moves.specs.PlainRule.{PlainMove}
use Rattle.kid_term.specs.PlainLaw.{PlainLaw}
use Rattle.std.specs.Prelude.{List}
use Rattle.kid_theory.specs.Claims.{PlainClaim, assumed, proved}
use Rattle.kid_theory.specs.declared.claims.Claim.{Claim}
use Rattle.kid_theory.specs.declared.claims.Claim.TheVariants.{Assumed, Proved}

abbrev pub plain_claim : Claim → PlainClaim
plain_claim (Assumed l) = assumed (plain_axiom l)
plain_claim (Proved l moves) = proved (plain_law l) moves

-- what a law says, with the moves of its proof
abbrev pub plain_proof : Axiom × Moves → PlainLaw × List PlainMove
plain_proof p = (plain_axiom p.0, p.1)
