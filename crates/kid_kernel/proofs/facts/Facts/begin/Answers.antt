use Rattle.std.proofs.Common.{◌≡◌, None, subst}
use Rattle.kid_kernel.specs.Moves.{first_untrue}
use Rattle.kid_kernel.specs.TheoryView.{plain_theory}
use Rattle.kid_kernel.proofs.StartLemmas.{begin_kept}
use Rattle.kid_kernel.proofs.facts.Facts.begin.Goals as goal

pub invariant_of-result : goal.invariant_of-result
invariant_of-result c =
    begin_kept c.of.result.numbers (plain_theory c.args.theory.now) c.args.names c.len-starts.result c.args.start c.of.ensures c.len-starts.ensures c.if-starts.false c.requires.theory c.requires.names
    (subst (λ z. first_untrue c.args.theory.now.signature.definitions c.args.names z ≡ None) c.items.ensures c.in_ok-are_truths.ensures)
