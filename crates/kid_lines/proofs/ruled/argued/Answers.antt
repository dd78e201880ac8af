use Rattle.std.proofs.Common.{sym, ◌∙◌}
use Rattle.kid_value.specs.SortOrder.{both}
use Rattle.kid_lines.proofs.RulesRead.{argued_some}
use Rattle.kid_lines.proofs.ruled.argued.Goals as goal

pub returns : goal.returns
returns c =
    let r = c.in_ok-rule.ensures in
    let a = c.in_ok-args.ensures in
    argued_some c.args.word.now c.args.trees.now (sym c.is_empty.ensures ∙ c.if-is_empty.false) ∙ (λ i. both (λ x xs. (x, xs)) (r i) (a i))
