use Rattle.std.proofs.Common.{map, ap, ◌∙◌}
use Rattle.std.proofs.lemmas.List.{take_all}
use Rattle.kid_term.specs.TermView.{plain_term}
use Rattle.kid_term.specs.PlainTerm.{term_row}
use Rattle.kid_term.specs.Simultaneous.{substituted}
use Rattle.kid_term.specs.SubstView.{subst_of}
use Rattle.kid_term.proofs.SimultaneousLemmas.{all_substituted-row}
use Rattle.kid_term.proofs.substitute_all.+substituted.Goals as goal

pub all_substituted-returns : goal.all_substituted-returns
all_substituted-returns t c =
    let e = take_all c.loop-t.t-index c.args.terms.now c.loop-t-test.false in
    ap term_row (c.loop-t.invariant ∙ ap (map (λ u. substituted (subst_of c.args.scope.now) (plain_term u))) e) ∙ all_substituted-row (subst_of c.args.scope.now) c.args.terms.now
