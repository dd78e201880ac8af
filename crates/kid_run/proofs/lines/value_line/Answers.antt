use Rattle.kid_value.specs.ValueView.{plain}
use Rattle.kid_run.proofs.SpelledValues.{forest-printable}
use Rattle.kid_run.proofs.lines.value_line.Goals as goal

pub print-requires : goal.print-requires
print-requires c = forest-printable _ _ _ (plain c.args.value.now) c.in_ok-push.ensures.ok c.new-trees.ensures c.in_ok-value_tree.ensures.spelling c.requires
