-- How the logic stores claims.
use Rattle.std.specs.Prelude.{◌≡◌, ◌⊎◌, List, refl}
use Rattle.std.proofs.Common.{inl, inr}
use Rattle.std.specs.Coded.{Coded, code_by, coded_list, coded×, coded⊎}
use Rattle.kid_term.specs.PlainLaw.{PlainLaw}
use Rattle.kid_term.specs.TermCode.{coded_name, coded_terms}
use Rattle.kid_term.specs.DefCode.{coded_names}
use Rattle.kid_moves.specs.PlainRule.{PlainMove}
use Rattle.kid_moves.specs.RuleCode.{coded_moves}
use Rattle.kid_kernel.specs.LawCode.{coded_conclusion, LawParts, parts_of, law_from, law_from-parts}
use Rattle.kid_theory.specs.Claims.{PlainClaim, assumed, proved}

abbrev pub coded_law : Coded PlainLaw
coded_law = code_by LawParts (coded× coded_name (coded× coded_names (coded× coded_terms coded_conclusion))) parts_of law_from law_from-parts

abbrev pub ClaimParts : Type 0
ClaimParts = PlainLaw ⊎ (PlainLaw × List PlainMove)

abbrev pub claim_parts : PlainClaim → ClaimParts
claim_parts (assumed l) = inl l
claim_parts (proved l moves) = inr (l, moves)

abbrev pub claim_from : ClaimParts → PlainClaim
claim_from (inl l) = assumed l
claim_from (inr p) = proved p.0 p.1

pub claim_from-parts : (c : PlainClaim) → claim_from (claim_parts c) ≡ c
claim_from-parts (assumed l) = refl
claim_from-parts (proved l moves) = refl

abbrev pub coded_claims : Coded (List PlainClaim)
coded_claims = coded_list (code_by ClaimParts (coded⊎ coded_law (coded× coded_law coded_moves)) claim_parts claim_from claim_from-parts)
