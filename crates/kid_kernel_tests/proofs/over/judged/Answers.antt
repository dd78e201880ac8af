use Rattle.std.proofs.Common.{sym, ◌∙◌}
use Rattle.kid_kernel.specs.TheoryView.{plain_theory}
use Rattle.kid_kernel_tests.proofs.NameLemmas.{names_are}
use Rattle.kid_kernel_tests.proofs.over.judged.Goals as goal

pub returns-then-are_allowed : goal.returns-then-are_allowed
returns-then-are_allowed c =
    names_are (plain_theory c.args.theory.now) c.new.result c.args.more.now c.args.names c.requires (sym c.are_new-2.ensures ∙ c.if-are_new.true) (sym c.are_allowed.ensures ∙ c.if-are_allowed.true)
