-- Comparisons of the program as plain data.
use Rattle.kid_term.specs.TermView.{plain_term}
use Rattle.kid_kernel.specs.Comparing.{PlainComparison, is_at_most, is_below}
use Rattle.kid_kernel.specs.declared.comparing.Comparison.{Comparison}
use Rattle.kid_kernel.specs.declared.comparing.Comparison.TheVariants.{AtMost, Below}

abbrev pub plain_comparison : Comparison → PlainComparison
plain_comparison (AtMost a b) = is_at_most (plain_term a.now) (plain_term b.now)
plain_comparison (Below a b) = is_below (plain_term a.now) (plain_term b.now)
