use Rattle.std.proofs.Common.{◌≡◌, ℕ, List, sym, subst, arith}
use Rattle.std.proofs.lemmas.Grind.{common_steps}
use Rattle.kid_sexp.specs.Printing.{text}
use Rattle.kid_sexp.specs.Spells.{Spells}
use Rattle.kid_sexp.proofs.Printed.{text-spells}
use Rattle.kid_sexp.proofs.printer.print.Goals as goal

pub returns-clause-spells : goal.returns-clause-spells
returns-clause-spells c = λ shallow.
    let is : c.loop-tree.out.items ≡ text c.args.forest.now = grind (arith, common_steps) in
    subst (λ (bytes : List ℕ). Spells bytes c.args.forest.now) (sym is) (text-spells c.args.forest.now c.requires shallow)
