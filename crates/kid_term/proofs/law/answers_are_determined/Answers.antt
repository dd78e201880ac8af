use Rattle.kid_term.proofs.AnswerLemmas.{same_all, same_answer}
use Rattle.kid_term.proofs.law.answers_are_determined.Goals as goal

pub returns : goal.returns
returns c = (same_all, same_answer)
