-- What a theory claims: laws that are taken as true, and laws with the moves of their proofs.
use Rattle.std.specs.Prelude.{List, [], ◌∷◌, map}
use Rattle.kid_term.specs.PlainLaw.{PlainLaw}
use Rattle.kid_moves.specs.PlainRule.{PlainMove}

pub data PlainClaim : Type 0 where
  assumed : PlainLaw → PlainClaim
  proved : PlainLaw → List PlainMove → PlainClaim

-- what is claimed, by one and by all
abbrev pub law_of : PlainClaim → PlainLaw
law_of (assumed l) = l
law_of (proved l moves) = l

abbrev pub claimed : List PlainClaim → List PlainLaw
claimed cs = map law_of cs

-- the laws that are proved, and those that are taken as true, in their order
abbrev pub proved_among : List PlainClaim → List PlainLaw
proved_among [] = []
proved_among (assumed l ∷ cs) = proved_among cs
proved_among (proved l moves ∷ cs) = l ∷ proved_among cs

abbrev pub assumed_among : List PlainClaim → List PlainLaw
assumed_among [] = []
assumed_among (assumed l ∷ cs) = l ∷ assumed_among cs
assumed_among (proved l moves ∷ cs) = assumed_among cs
