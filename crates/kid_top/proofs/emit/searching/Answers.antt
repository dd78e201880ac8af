use Rattle.std.proofs.Common.{◌≡◌, FitsSigned, w64}
use Rattle.std.proofs.lemmas.Int.{to_z-of_z}
use Rattle.kid_term.specs.Substitution.{captures}
use Rattle.kid_term.specs.TermView.{plain_term}
use Rattle.kid_kernel.specs.TheoryView.{plain_theory}
use Rattle.kid_prog.specs.ProgramView.{plain_program}
use Rattle.kid_top.specs.Emitted.{emitted_with}
use Rattle.kid_top.proofs.EmittedGiven.{not_captured, emitted_given}
use Rattle.kid_top.proofs.emit.searching.Goals as goal

pub returns-in-Ok : goal.returns-in-Ok
returns-in-Ok c =
    let t = plain_theory c.args.theory.now in
    let free = not_captured c.substitute.result c.in-Ok.test (captures t.spec.output (plain_term c.in_ok-leaf.leaf) t.spec.relation) c.in-Ok.is c.substitute.ensures.capture in
    let low : FitsSigned w64 c.args.lo = c.ranges.lo in
    let high : FitsSigned w64 c.args.hi = c.ranges.hi in
    let gives : plain_program c.in_ok-emitted-in-Ok.field-0 ≡ emitted_with t (plain_term c.in-Ok.test) c.args.lo c.args.hi = simp to_z-of_z at c.in_ok-emitted-in-Ok.ensures in
    emitted_given t (plain_term c.in_ok-leaf.leaf) (plain_term c.in-Ok.test) c.args.lo c.args.hi (plain_program c.in_ok-emitted-in-Ok.field-0)
    c.in_ok-leaf.ensures free c.in-Ok.ensures.replaced gives
