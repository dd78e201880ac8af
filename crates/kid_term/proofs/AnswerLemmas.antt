-- A problem has one answer at an input.
use Rattle.std.proofs.Common.{◌≡◌, List, sym, ap, ◌∙◌}
use Rattle.kid_value.specs.PlainValue.{PlainValue}
use Rattle.kid_value.proofs.ValueSetLaws.{same_members}
use Rattle.kid_term.specs.Eval.{Env, Calls}
use Rattle.kid_term.specs.PlainSpec.{PlainSpec}
use Rattle.kid_term.specs.Answer.{AllAnswers, Answer, first_of}

module _ (calls : Calls) (spec : PlainSpec) (x : Env) where
  pub same_all : (vs ws : List PlainValue) → AllAnswers calls spec x vs → AllAnswers calls spec x ws → vs ≡ ws
  same_all vs ws a b = same_members vs ws a.ascends b.ascends (λ v. a.exact v ∙ sym (b.exact v))

  pub same_answer : (vs ws : List PlainValue) → Answer calls spec x vs → Answer calls spec x ws → vs ≡ ws
  same_answer vs ws a b = a.first ∙ ap (first_of spec.first) (same_all a.all b.all a.are_all b.are_all) ∙ sym b.first
