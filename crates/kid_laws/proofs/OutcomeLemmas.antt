-- What the table gives is true.
use Rattle.std.proofs.Common.{◌≡◌, ℕ, Bool, true, false, cond, Option, Some, None, Result, Ok, Err, refl, sym, subst}
use Rattle.std.specs.Prelude.{IfOk}
use Rattle.kid_laws.specs.Law.{Law}
use Rattle.kid_laws.specs.Instances.{PlainInstance, plain_instance, filled, all_given, made_of, outcome, Gives, IsTrueInstance}
use Rattle.kid_term.specs.Simultaneous.{Subst}
use Rattle.kid_laws.specs.Table.{laws_of, law_at}
use Rattle.kid_laws.specs.declared.kind.LawKind.{LawKind}
use Rattle.kid_laws.specs.declared.parts.Instance.{Instance}
use Rattle.kid_laws.specs.declared.parts.LawFault.{LawFault}
use Rattle.kid_laws.specs.declared.parts.LawFault.TheVariants as fault
use Rattle.kid_laws.proofs.TableTrue.{instances_true}

one_instance : (i j : PlainInstance) → let o : Result PlainInstance LawFault = Ok i in o ≡ Ok j → i ≡ j
one_instance i j e = cc

filled_true : (kind : LawKind) (number : ℕ) (l : Law) (back : Bool) (σ : Subst) → law_at (laws_of kind) number ≡ Some l → IsTrueInstance (filled back σ l)
filled_true kind number l false σ at defs names env s s' sound allowed fits e f h = instances_true kind number l σ defs names env s s' at sound allowed fits e f h
filled_true kind number l true σ at defs names env s s' sound allowed fits e f h = sym (instances_true kind number l σ defs names env s' s at sound allowed fits f e h)

made_true : (kind : LawKind) (number : ℕ) (o : Option Law) (back : Bool) (σ : Subst) (i : PlainInstance) → law_at (laws_of kind) number ≡ o → made_of o back σ ≡ Ok i → IsTrueInstance i
made_true kind number None back σ i at e = cc
made_true kind number (Some l) back σ i at e = by (all_given l.variables σ) e
  where
    by : (b : Bool) → cond b (Ok (filled back σ l)) (Err fault.Missing) ≡ Ok i → IsTrueInstance i
    by true e = subst IsTrueInstance (one_instance (filled back σ l) i e) (filled_true kind number l back σ at)
    by false e = cc

pub outcome_true : (kind : LawKind) (number : ℕ) (back : Bool) (σ : Subst) (r : Result Instance LawFault) → Gives r (outcome kind number back σ) → IfOk r (λ i. IsTrueInstance (plain_instance i))
outcome_true kind number back σ (Ok i) h = made_true kind number (law_at (laws_of kind) number) back σ (plain_instance i) refl h
outcome_true kind number back σ (Err e) h = tt
