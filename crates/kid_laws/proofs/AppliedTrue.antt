-- What an equation makes of a term has its value, and what an implication says is true.
use Rattle.std.proofs.Common.{◌≡◌, ℕ, Bool, true, false, cond, List, Option, Some, None, option_map, Result, Ok, Err, refl, sym, ap, ◌∙◌, subst, length}
use Rattle.std.specs.Prelude.{IfOk, nat_eq}
use Rattle.kid_value.specs.PlainSort.{PlainSort, bools}
use Rattle.kid_value.specs.Rows.Parts.{truth_of}
use Rattle.kid_term.specs.PlainTerm.{PlainTerm}
use Rattle.kid_term.specs.Eval.{eval, calls_of}
use Rattle.kid_term.specs.Sorted.{Sorted}
use Rattle.kid_term.specs.Sorting.{sort_of}
use Rattle.kid_term.specs.Simultaneous.{Subst, substituted}
use Rattle.kid_laws.specs.Law.{Law}
use Rattle.kid_laws.specs.Table.{equations, implications, law_at}
use Rattle.kid_laws.specs.Applied.{PlainApplied, plain_applied, Outcome, zipped, matched_terms, side_from, side_to, put_in, answered, applied_law, applied_by, concluded_law, concluded_by, Applies}
use Rattle.kid_laws.specs.Applying.{KeepsTerm, IsTrueTerm, EquationsKeepValues, ImplicationsAreTrue}
use Rattle.kid_laws.specs.declared.kind.LawKind.TheVariants.{Equation, Implication}
use Rattle.kid_laws.specs.declared.parts.Applied.{Applied}
use Rattle.kid_laws.specs.declared.parts.ApplyFault.{ApplyFault}
use Rattle.kid_laws.proofs.ApplyLemmas.{matched_terms-stands}
use Rattle.kid_laws.proofs.TableTrue.{instances_true, conclusion_true}

abbrev given : PlainApplied → Outcome
given a = Ok a

one_answer : (a b : PlainApplied) → given a ≡ Ok b → a ≡ b
one_answer a b e = cc

-- ---- equations

law_keeps : (n : ℕ) (l : Law) (back : Bool) (σ : Subst) → law_at equations n ≡ Some l → KeepsTerm (substituted σ (side_from back l)) (put_in l (side_to back l) σ)
law_keeps n l false σ at defs names env s s' sound allowed fits e f h = sym (instances_true Equation n l σ defs names env s s' at sound allowed fits e f h)
law_keeps n l true σ at defs names env s s' sound allowed fits e f h = instances_true Equation n l σ defs names env s' s at sound allowed fits f e h

equation_keeps : (n : ℕ) (o : Option Law) (back : Bool) (args : List PlainTerm) (t : PlainTerm) (a : PlainApplied) → law_at equations n ≡ o → applied_law o back args t ≡ Ok a → KeepsTerm t a
equation_keeps n None back args t a at e = cc
equation_keeps n (Some l) back args t a at e = by (matched_terms l.variables (side_from back l) args t) refl e
  where
    by : (o : Option (List PlainTerm)) → matched_terms l.variables (side_from back l) args t ≡ o → answered (option_map (λ ts. put_in l (side_to back l) (zipped l.variables ts)) o) ≡ Ok a → KeepsTerm t a
    by None m e = cc
    by (Some ts) m e =
        subst (KeepsTerm t) (one_answer (put_in l (side_to back l) (zipped l.variables ts)) a e)
        (subst (λ u. KeepsTerm u (put_in l (side_to back l) (zipped l.variables ts))) (matched_terms-stands l.variables (side_from back l) args t ts m).1
        (law_keeps n l back (zipped l.variables ts) at))

pub equations_keep_values : EquationsKeepValues
equations_keep_values n back args t a e = equation_keeps n (law_at equations n) back args t a refl e

-- ---- implications

abbrev sort_ok : PlainSort → Sorted
sort_ok s = Ok s

law_says : (n : ℕ) (l : Law) (σ : Subst) → law_at implications n ≡ Some l → IsTrueTerm (put_in l l.left σ)
law_says n l σ at defs names env s sound allowed fits e h =
    let r = conclusion_true n l at in
    let f : sort_of defs names (substituted σ l.right) ≡ sort_ok bools = subst (λ u. sort_of defs names (substituted σ u) ≡ sort_ok bools) (sym r) refl in
    ap truth_of (instances_true Implication n l σ defs names env s bools at sound allowed fits e f h)
    ∙ ap (λ u. truth_of (eval (calls_of defs) env (substituted σ u))) r

implication_says : (n : ℕ) (o : Option Law) (ts : List PlainTerm) (a : PlainApplied) → law_at implications n ≡ o → concluded_law o ts ≡ Ok a → IsTrueTerm a
implication_says n None ts a at e = cc
implication_says n (Some l) ts a at e = by (nat_eq (length ts) (length l.variables)) e
  where
    by : (b : Bool) → answered (cond b (Some (put_in l l.left (zipped l.variables ts))) None) ≡ Ok a → IsTrueTerm a
    by true e = subst IsTrueTerm (one_answer (put_in l l.left (zipped l.variables ts)) a e) (law_says n l (zipped l.variables ts) at)
    by false e = cc

pub implications_are_true : ImplicationsAreTrue
implications_are_true n ts a e = implication_says n (law_at implications n) ts a refl e

-- ---- what the program answers

pub answer_keeps : (n : ℕ) (back : Bool) (args : List PlainTerm) (t : PlainTerm) (r : Result Applied ApplyFault) → Applies r (applied_by n back args t) → IfOk r (λ a. KeepsTerm t (plain_applied a))
answer_keeps n back args t (Ok a) h = equations_keep_values n back args t (plain_applied a) h
answer_keeps n back args t (Err e) h = tt

pub answer_says : (n : ℕ) (ts : List PlainTerm) (r : Result Applied ApplyFault) → Applies r (concluded_by n ts) → IfOk r (λ a. IsTrueTerm (plain_applied a))
answer_says n ts (Ok a) h = implications_are_true n ts (plain_applied a) h
answer_says n ts (Err e) h = tt
