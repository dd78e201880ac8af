use Rattle.std.proofs.Common.{map, refl}
use Rattle.kid_term.specs.TermView.{plain_term}
use Rattle.kid_kernel.specs.Placed.{top_scope}
use Rattle.kid_kernel.specs.TheoryView.{plain_theory}
use Rattle.kid_kernel.proofs.PlacedLemmas.{kept_if}
use Rattle.kid_kernel.proofs.rewriting.rewrite_at.Goals as goal

pub returns-clause-kept : goal.returns-clause-kept
returns-clause-kept g c =
    kept_if (g.E.Equal.rewrites c.args.rule.now) (g.met.E.Equal.keeps c.args.rule.now) (plain_theory c.args.theory.now) c.args.names.now (top_scope c.args.names.now (map plain_term c.args.facts.now))
    (plain_term c.args.term) c.args.path.now c.exchanged.result refl c.requires.sorted c.exchanged.ensures
