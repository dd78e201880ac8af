use Rattle.kid_term.proofs.SimultaneousLemmas.{substituted-one, captures_any-one}
use Rattle.kid_term.proofs.law.one_name_is_replaced.Goals as goal

pub returns : goal.returns
returns c = λ x new t. (substituted-one x new t, captures_any-one x new t)
