-- The program that is emitted where the leaf may stand in the output's place.
use Rattle.std.proofs.Common.{◌≡◌, Bool, true, false, not, if◌then◌else◌, Some, None, Result, Ok, Err, refl, sym, ap, ◌∙◌}
use Rattle.std.specs.Prelude.{◌↔◌, ℤ}
use Rattle.kid_term.specs.PlainTerm.{PlainTerm}
use Rattle.kid_term.specs.PlainTheory.{PlainTheory}
use Rattle.kid_term.specs.Substitution.{captures, replaced}
use Rattle.kid_term.specs.declared.Term.{Term}
use Rattle.kid_term.specs.declared.substitute.SubstFault.{SubstFault}
use Rattle.kid_term.specs.declared.substitute.SubstFault.TheVariants.{Capture}
use Rattle.kid_prog.specs.PlainProgram.{PlainProgram}
use Rattle.kid_top.specs.Emitted.{leaf, emitted_with, if_takes_leaf}

-- what was put in was not captured
pub not_captured : (r : Result Term SubstFault) (test : Term) (b : Bool) → r ≡ Ok test → ((r ≡ Err Capture) ↔ (b ≡ true)) → b ≡ false
not_captured r test false is when = refl
not_captured r test true is when = let captured : r ≡ Err Capture = when.1 refl in cc

pub emitted_given : (t : PlainTheory) (l test : PlainTerm) (lo hi : ℤ) (p : PlainProgram) → l ≡ leaf t.spec.sort → captures t.spec.output l t.spec.relation ≡ false
    → test ≡ replaced t.spec.output l t.spec.relation → p ≡ emitted_with t test lo hi → if_takes_leaf t lo hi ≡ Some p
emitted_given t l test lo hi p is free put gives =
    let same = sym is in
    (λ i. if not (captures t.spec.output (same i) t.spec.relation) then Some (emitted_with t (replaced t.spec.output (same i) t.spec.relation) lo hi) else None)
    ∙ ap (λ (b : Bool). if not b then Some (emitted_with t (replaced t.spec.output l t.spec.relation) lo hi) else None) free
    ∙ ap (λ (u : PlainTerm). Some (emitted_with t u lo hi)) (sym put)
    ∙ ap (λ (q : PlainProgram). Some q) (sym gives)
