use Rattle.kid_term.proofs.ClosedLemmas.{closed-unmentioned, unmentioned-closed, eval-closed}
use Rattle.kid_term.proofs.law.closed_terms_are_constant.Goals as goal

pub returns : goal.returns
returns c = λ t. record { free = (closed-unmentioned t, unmentioned-closed t); value = λ p calls env env'. eval-closed calls env env' t p }
