-- Inputs that are read are what the file spells, and what it spells is read.
use Rattle.std.proofs.Common.{◌≡◌, ℕ, suc, ◌≤◌, Bool, true, false, List, [], ◌∷◌, length, Option, Some, None, Result, Ok, Err, IfOk, refl, ap, ◌∙◌, arith}
use Rattle.std.specs.Prelude.{nat_le, if◌then◌else◌}
use Rattle.std.specs.Result.{result_ok}
use Rattle.std.proofs.lemmas.Bool.Decides.{nat_tests}
use Rattle.kid_sexp.specs.Brackets.{Fault}
use Rattle.kid_sexp.specs.Plain.{Plain, Plains, atom, list, none, more}
use Rattle.kid_sexp.specs.Reading.{reading}
use Rattle.kid_sexp.proofs.Spelled.{reading-spelled, spelled-reading}
use Rattle.kid_value.specs.PlainValue.{PlainValue}
use Rattle.kid_value.specs.SortOrder.{both}
use Rattle.kid_term.specs.Names.{Names}
use Rattle.kid_codec.specs.ValueSpelling.{value_reading}
use Rattle.kid_codec.specs.declared.fault.CodecFault.{CodecFault}
use Rattle.kid_run.specs.Gives.{InputsGiven}
use Rattle.kid_run.specs.InputReading.{value_from, values_from, input_from, after_input, inputs_from, from_forest, inputs_reading}
use Rattle.kid_run.specs.InputSpelling.{AreValues, IsInput, AreInputs, InputsAreSpelled, ReadInputsAreSpelled, SpelledInputsAreRead}
use Rattle.kid_run.specs.declared.inputs.Inputs.{Inputs}
use Rattle.kid_run.specs.declared.inputs.InputFault.{InputFault}

-- ---- what is read is spelled so

found : {A E : Type 0} (r : Result A E) (x : A) → result_ok r ≡ Some x → r ≡ Ok x
found (Ok y) x e = ap Ok (let same : y ≡ x = cc in same)
found (Err fault) x e = absurd (let no : ⊥ = cc in no)

first_and_rest : {A : Type 0} (o : Option A) (os : Option (List A)) (x : A) (xs : List A)
    → both (λ y ys. y ∷ ys) o os ≡ Some (x ∷ xs) → (o ≡ Some x) × (os ≡ Some xs)
first_and_rest (Some y) (Some ys) x xs e = (ap Some (let same : y ≡ x = cc in same), ap Some (let same : ys ≡ xs = cc in same))
first_and_rest (Some y) None x xs e = absurd (let no : ⊥ = cc in no)
first_and_rest None os x xs e = absurd (let no : ⊥ = cc in no)

never_empty : {A : Type 0} (o : Option A) (os : Option (List A)) → both (λ y ys. y ∷ ys) o os ≡ Some [] → ⊥
never_empty (Some y) (Some ys) e = cc
never_empty (Some y) None e = cc
never_empty None os e = cc

values_told : (ns : Names) (ts : Plains) (vs : List PlainValue) → values_from ns ts ≡ Some vs → AreValues ns ts vs
values_told [] none [] e = tt
values_told [] none (v ∷ vs) e = absurd (let no : ⊥ = cc in no)
values_told [] (more t ts) vs e = absurd (let no : ⊥ = cc in no)
values_told (n ∷ ns) none vs e = absurd (let no : ⊥ = cc in no)
values_told (n ∷ ns) (more t ts) [] e = absurd (never_empty (value_from n.1 t) (values_from ns ts) e)
values_told (n ∷ ns) (more t ts) (v ∷ vs) e =
    let parts = first_and_rest (value_from n.1 t) (values_from ns ts) v vs e in
    (found (value_reading n.1 t) v parts.0, values_told ns ts vs parts.1)

input_told : (ns : Names) (t : Plain) (vs : List PlainValue) → input_from ns t ≡ Some vs → IsInput ns t vs
input_told ns (atom w) vs e = absurd (let no : ⊥ = cc in no)
input_told ns (list ts) vs e = values_told ns ts vs e

input_and_later : (o : Option (List PlainValue)) (number : ℕ) (r : Result (List (List PlainValue)) ℕ) (vs : List PlainValue) (inputs : List (List PlainValue))
    → after_input o number r ≡ Ok (vs ∷ inputs) → (o ≡ Some vs) × (r ≡ Ok inputs)
input_and_later None number r vs inputs e = absurd (let no : ⊥ = cc in no)
input_and_later (Some ws) number (Err later) vs inputs e = absurd (let no : ⊥ = cc in no)
input_and_later (Some ws) number (Ok others) vs inputs e = (ap Some (let same : ws ≡ vs = cc in same), ap Ok (let same : others ≡ inputs = cc in same))

never_none : (o : Option (List PlainValue)) (number : ℕ) (r : Result (List (List PlainValue)) ℕ) → after_input o number r ≡ Ok [] → ⊥
never_none None number r e = cc
never_none (Some ws) number (Err later) e = cc
never_none (Some ws) number (Ok others) e = cc

inputs_told : (ns : Names) (k : ℕ) (ts : Plains) (inputs : List (List PlainValue)) → inputs_from ns k ts ≡ Ok inputs → AreInputs ns ts inputs
inputs_told ns k none [] e = tt
inputs_told ns k none (vs ∷ inputs) e = absurd (let no : ⊥ = cc in no)
inputs_told ns k (more t ts) [] e = absurd (never_none (input_from ns t) (suc k) (inputs_from ns (suc k) ts) e)
inputs_told ns k (more t ts) (vs ∷ inputs) e =
    let parts = input_and_later (input_from ns t) (suc k) (inputs_from ns (suc k) ts) vs inputs e in
    (input_told ns t vs parts.0, inputs_told ns (suc k) ts inputs parts.1)

forest_of : (ns : Names) (b : Bool) (r : Result Plains Fault) (inputs : List (List PlainValue))
    → (if b then from_forest ns r else Err 0) ≡ Ok inputs → (b ≡ true) × (ts : Plains) × (r ≡ Ok ts) × (inputs_from ns 0 ts ≡ Ok inputs)
forest_of ns true (Ok ts) inputs e = (refl, ts, refl, e)
forest_of ns true (Err fault) inputs e = absurd (let no : ⊥ = cc in no)
forest_of ns false r inputs e = absurd (let no : ⊥ = cc in no)

at_most : (n limit : ℕ) → nat_le n limit ≡ true → n ≤ limit
at_most n limit e = grind (arith, nat_tests)

pub read_inputs_spelled : ReadInputsAreSpelled
read_inputs_spelled ns bytes inputs e =
    let f = forest_of ns (nat_le (length bytes) 4194304) (reading bytes) inputs e in
    record {
      few = at_most (length bytes) 4194304 f.0;
      forest = f.1;
      spells = reading-spelled bytes f.1 f.2;
      inputs_are = inputs_told ns 0 f.1 inputs f.3;
    }

-- inputs that were read
pub spelled_result : (ns : Names) (bytes : List ℕ) (r : Result Inputs InputFault) → InputsGiven r (inputs_reading ns bytes) → IfOk r (λ inputs. InputsAreSpelled ns bytes inputs)
spelled_result ns bytes (Ok inputs) e = read_inputs_spelled ns bytes inputs e
spelled_result ns bytes (Err fault) e = tt

-- ---- what is spelled so is read

values_here : (ns : Names) (ts : Plains) (vs : List PlainValue) → AreValues ns ts vs → values_from ns ts ≡ Some vs
values_here [] none [] a = refl
values_here [] none (v ∷ vs) a = absurd a
values_here [] (more t ts) vs a = absurd a
values_here (n ∷ ns) none vs a = absurd a
values_here (n ∷ ns) (more t ts) [] a = absurd a
values_here (n ∷ ns) (more t ts) (v ∷ vs) a =
    ap (λ (r : Result PlainValue CodecFault). both (λ w ws. w ∷ ws) (result_ok r) (values_from ns ts)) a.0
    ∙ ap (λ (o : Option (List PlainValue)). both (λ w ws. w ∷ ws) (Some v) o) (values_here ns ts vs a.1)

input_here : (ns : Names) (t : Plain) (vs : List PlainValue) → IsInput ns t vs → input_from ns t ≡ Some vs
input_here ns (atom w) vs a = absurd a
input_here ns (list ts) vs a = values_here ns ts vs a

inputs_here : (ns : Names) (k : ℕ) (ts : Plains) (inputs : List (List PlainValue)) → AreInputs ns ts inputs → inputs_from ns k ts ≡ Ok inputs
inputs_here ns k none [] a = refl
inputs_here ns k none (vs ∷ inputs) a = absurd a
inputs_here ns k (more t ts) [] a = absurd a
inputs_here ns k (more t ts) (vs ∷ inputs) a =
    ap (λ (o : Option (List PlainValue)). after_input o (suc k) (inputs_from ns (suc k) ts)) (input_here ns t vs a.0)
    ∙ ap (λ (r : Result (List (List PlainValue)) ℕ). after_input (Some vs) (suc k) r) (inputs_here ns (suc k) ts inputs a.1)

is_at_most : (n limit : ℕ) → n ≤ limit → nat_le n limit ≡ true
is_at_most n limit h = grind (arith, nat_tests)

pub spelled_inputs_read : SpelledInputsAreRead
spelled_inputs_read ns bytes inputs s =
    ap (λ (b : Bool). (if b then from_forest ns (reading bytes) else Err 0)) (is_at_most (length bytes) 4194304 s.few)
    ∙ ap (from_forest ns) (spelled-reading bytes s.forest s.spells) ∙ inputs_here ns 0 s.forest inputs s.inputs_are
