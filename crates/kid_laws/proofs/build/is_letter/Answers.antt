use Rattle.std.proofs.Common.{◌∷◌, [], ◌∙◌}
use Rattle.kid_term.proofs.EvalLemmas.{same_name-comm}
use Rattle.kid_term.proofs.NameLemmas.{same_from_equal}
use Rattle.kid_laws.proofs.build.is_letter.Goals as goal

pub returns : goal.returns
returns c = same_from_equal c.args.name.now (c.args.letter ∷ []) c.is.result c.is.ensures.equal ∙ same_name-comm c.args.name.now (c.args.letter ∷ [])
