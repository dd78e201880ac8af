-- Inputs that are read, one after another.
use Rattle.std.proofs.Common.{◌≡◌, ℕ, suc, ◌<◌, length, get_or, drop, drop-cons, IfOk, List, [], ◌∷◌, ◌++◌, Option, Some, None, Result, Ok, Err, option_map, refl, ap, sym, ◌∙◌, subst}
use Rattle.kid_sexp.specs.declared.tree.Tree.{Tree}
use Rattle.kid_sexp.specs.Plain.{Plain, Plains, more}
use Rattle.kid_sexp.specs.Tree.{plain, plains}
use Rattle.kid_value.specs.PlainValue.{PlainValue}
use Rattle.kid_value.specs.PlainSort.{PlainSort}
use Rattle.kid_value.specs.SortOrder.{both}
use Rattle.kid_term.specs.Names.{Names}
use Rattle.kid_term.specs.Fitting.{IsOfSort, AreOfSorts}
use Rattle.kid_run.specs.InputReading.{value_from, values_from, input_from, after_input, inputs_from, sorts_of, AllFit, ValuesFit, LaterFit}

-- these inputs, and then those that are read
abbrev pub put_before : List (List PlainValue) → Result (List (List PlainValue)) ℕ → Result (List (List PlainValue)) ℕ
put_before done (Ok inputs) = Ok (done ++ inputs)
put_before done (Err number) = Err number

append-one : {A : Type 0} (xs : List A) (x : A) (ys : List A) → (xs ++ x ∷ []) ++ ys ≡ xs ++ (x ∷ ys)
append-one [] x ys = refl
append-one (z ∷ xs) x ys = ap (λ zs. z ∷ zs) (append-one xs x ys)

pub one_after : (done : List PlainValue) (v : PlainValue) (o : Option (List PlainValue))
    → option_map (λ rest. (done ++ v ∷ []) ++ rest) o ≡ option_map (λ rest. done ++ rest) (both (λ w ws. w ∷ ws) (Some v) o)
one_after done v None = refl
one_after done v (Some vs) = ap Some (append-one done v vs)

pub later_fit : (n : List ℕ × PlainSort) (ns : Names) (done : List PlainValue) (v : PlainValue) (o : Option (List PlainValue))
    → IsOfSort n.1 v → LaterFit ns (done ++ v ∷ []) o → LaterFit (n ∷ ns) done o
later_fit n ns done v None here rest = tt
later_fit n ns done v (Some vs) here rest = (v ∷ rest.0, rest.1 ∙ append-one done v rest.0, (here, rest.2))

pub values_fit : (ns : Names) (o : Option (List PlainValue)) → LaterFit ns [] o → ValuesFit ns o
values_fit ns None h = tt
values_fit ns (Some vs) h = subst (AreOfSorts (sorts_of ns)) (sym h.1) h.2

pub all_fit : (ns : Names) (inputs : List (List PlainValue)) (vs : List PlainValue) → AllFit ns inputs → AreOfSorts (sorts_of ns) vs → AllFit ns (inputs ++ vs ∷ [])
all_fit ns [] vs all here = (here, tt)
all_fit ns (ws ∷ inputs) vs all here = (all.0, all_fit ns inputs vs all.1 here)

pub values_more : {E : Type 0} (n : List ℕ × PlainSort) (ns : Names) (t : Plain) (ts : Plains) (done : List PlainValue) (v : PlainValue) (pushed : List PlainValue)
    (r : Result (Option (List PlainValue)) E) → value_from n.1 t ≡ Some v → pushed ≡ done ++ v ∷ []
    → IfOk r (λ o. o ≡ option_map (λ rest. pushed ++ rest) (values_from ns ts)) → IfOk r (λ o. o ≡ option_map (λ rest. done ++ rest) (values_from (n ∷ ns) (more t ts)))
values_more n ns t ts done v pushed (Err e) found push h = tt
values_more n ns t ts done v pushed (Ok o) found push h =
    h ∙ ap (λ (p : List PlainValue). option_map (λ (rest : List PlainValue). p ++ rest) (values_from ns ts)) push ∙ one_after done v (values_from ns ts)
    ∙ ap (λ (w : Option PlainValue). option_map (λ rest. done ++ rest) (both (λ x xs. x ∷ xs) w (values_from ns ts))) (sym found)

put_more : (done : List (List PlainValue)) (vs : List PlainValue) (number : ℕ) (r : Result (List (List PlainValue)) ℕ)
    → put_before (done ++ vs ∷ []) r ≡ put_before done (after_input (Some vs) number r)
put_more done vs number (Ok inputs) = ap Ok (append-one done vs inputs)
put_more done vs number (Err later) = refl

inputs_suc : (ns : Names) (k : ℕ) (trees : List Tree) (d : Tree) (done : List (List PlainValue)) (vs : List PlainValue) (pushed : List (List PlainValue))
    (whole : Result (List (List PlainValue)) ℕ) → k < length trees → d ≡ get_or trees k d → Some vs ≡ input_from ns (plain d) → pushed ≡ done ++ vs ∷ []
    → put_before done (inputs_from ns k (plains (drop k trees))) ≡ whole → put_before pushed (inputs_from ns (suc k) (plains (drop (suc k) trees))) ≡ whole
inputs_suc ns k trees d done vs pushed whole within item found push h =
    ap (λ (p : List (List PlainValue)). put_before p (inputs_from ns (suc k) (plains (drop (suc k) trees)))) push
    ∙ put_more done vs (suc k) (inputs_from ns (suc k) (plains (drop (suc k) trees)))
    ∙ ap (λ (o : Option (List PlainValue)). put_before done (after_input o (suc k) (inputs_from ns (suc k) (plains (drop (suc k) trees))))) (found ∙ ap (λ (t : Tree). input_from ns (plain t)) item)
    ∙ ap (λ (ts : List Tree). put_before done (inputs_from ns k (plains ts))) (sym (drop-cons trees k d within)) ∙ h

pub inputs_more : (ns : Names) (k j : ℕ) (trees : List Tree) (d : Tree) (done : List (List PlainValue)) (vs : List PlainValue) (pushed : List (List PlainValue))
    (whole : Result (List (List PlainValue)) ℕ) → j ≡ suc k → k < length trees → d ≡ get_or trees k d → Some vs ≡ input_from ns (plain d) → pushed ≡ done ++ vs ∷ []
    → put_before done (inputs_from ns k (plains (drop k trees))) ≡ whole → put_before pushed (inputs_from ns j (plains (drop j trees))) ≡ whole
inputs_more ns k j trees d done vs pushed whole next within item found push h =
    subst (λ (i : ℕ). put_before pushed (inputs_from ns i (plains (drop i trees))) ≡ whole) (sym next)
    (inputs_suc ns k trees d done vs pushed whole within item found push h)

pub ruleset input_rules = (one_after, later_fit, values_fit, all_fit)
