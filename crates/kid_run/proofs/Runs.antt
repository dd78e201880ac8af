-- The text and the report of inputs, one after another.
use Rattle.std.proofs.Common.{◌≡◌, ℕ, zero, suc, ◌+◌, ◌<◌, List, [], ◌∷◌, ◌++◌, length, get_or, take, drop, map, Option, Some, None, option_map, refl, sym, ap, ◌∙◌, subst, arith, append_assoc}
use Rattle.std.specs.List.{flat_map}
use Rattle.std.proofs.lemmas.Grind.{flat_map-append}
use Rattle.std.proofs.lemmas.List.{map-append, take-append-drop, drop_more, take_more}
use Rattle.kid_value.specs.PlainValue.{PlainValue}
use Rattle.kid_term.specs.Names.{Names}
use Rattle.kid_term.specs.Eval.{bound}
use Rattle.kid_term.specs.Fitting.{AreOfSorts}
use Rattle.kid_outer.specs.Written.{AppendsPrefix}
use Rattle.kid_prog.specs.PlainProgram.{PlainProgram}
use Rattle.kid_run.specs.InputReading.{envs_of, sorts_of, AllFit}
use Rattle.kid_run.specs.Lines.{input_lines, text_of, run_text}
use Rattle.kid_run.specs.Reporting.{report_of, input_entry}
use Rattle.kid_run.proofs.Fronts.{front_none, front_after}

abbrev pub Inputs : Type 0
Inputs = List (List PlainValue)

pub fits-at : (ns : Names) (inputs : Inputs) (i : ℕ) (input : List PlainValue) → i < length inputs → input ≡ get_or inputs i input → AllFit ns inputs → AreOfSorts (sorts_of ns) input
fits-at ns [] i input lt is h = let none : ⊥ = omega (arith, lt) in absurd none
fits-at ns (vs ∷ inputs) zero input lt is h = subst (AreOfSorts (sorts_of ns)) (sym is) h.0
fits-at ns (vs ∷ inputs) (suc i) input lt is h = fits-at ns inputs i input (omega (arith, lt)) is h.1

-- the text of all inputs
abbrev pub inputs_text : PlainProgram → ℕ → Inputs → List ℕ
inputs_text p fuel inputs = run_text p fuel (envs_of p.inputs inputs)

-- the text of one input
abbrev pub input_text : PlainProgram → ℕ → List PlainValue → List ℕ
input_text p fuel input = text_of (input_lines p fuel (bound p.inputs input))

text-first : (p : PlainProgram) (fuel : ℕ) (input : List PlainValue) (inputs : Inputs) → inputs_text p fuel (input ∷ inputs) ≡ input_text p fuel input ++ inputs_text p fuel inputs
text-first p fuel input inputs = flat_map-append (λ (l : List ℕ). l) (input_lines p fuel (bound p.inputs input)) (flat_map (input_lines p fuel) (envs_of p.inputs inputs))

text-append : (p : PlainProgram) (fuel : ℕ) (xs ys : Inputs) → inputs_text p fuel (xs ++ ys) ≡ inputs_text p fuel xs ++ inputs_text p fuel ys
text-append p fuel [] ys = refl
text-append p fuel (x ∷ xs) ys =
    text-first p fuel x (xs ++ ys)
    ∙ ap (λ z. input_text p fuel x ++ z) (text-append p fuel xs ys)
    ∙ sym (append_assoc (input_text p fuel x) (inputs_text p fuel xs) (inputs_text p fuel ys))
    ∙ ap (λ z. z ++ inputs_text p fuel ys) (sym (text-first p fuel x xs))

append-none : (xs : List ℕ) → xs ++ [] ≡ xs
append-none [] = refl
append-none (x ∷ xs) = ap (λ ys. x ∷ ys) (append-none xs)

next-at : (inputs : Inputs) (i : ℕ) (input : List PlainValue) → i < length inputs → input ≡ get_or inputs i input → take (i + 1) inputs ≡ take i inputs ++ input ∷ []
next-at inputs i input lt is = take_more inputs i input lt ∙ ap (λ (z : List PlainValue). take i inputs ++ z ∷ []) (sym is)

-- the text of one input more
pub text-next : (p : PlainProgram) (fuel : ℕ) (inputs : Inputs) (i : ℕ) (input : List PlainValue) → i < length inputs → input ≡ get_or inputs i input
    → inputs_text p fuel (take (i + 1) inputs) ≡ inputs_text p fuel (take i inputs) ++ input_text p fuel input
text-next p fuel inputs i input lt is =
    ap (inputs_text p fuel) (next-at inputs i input lt is)
    ∙ text-append p fuel (take i inputs) (input ∷ [])
    ∙ ap (λ z. inputs_text p fuel (take i inputs) ++ z) (text-first p fuel input [] ∙ append-none (input_text p fuel input))

-- the entry of one input more
pub report-next : (p : PlainProgram) (fuel : ℕ) (inputs : Inputs) (i : ℕ) (input : List PlainValue) → i < length inputs → input ≡ get_or inputs i input
    → report_of p fuel (envs_of p.inputs (take (i + 1) inputs)) ≡ report_of p fuel (envs_of p.inputs (take i inputs)) ++ input_entry p fuel (bound p.inputs input) ∷ []
report-next p fuel inputs i input lt is =
    ap (λ z. report_of p fuel (envs_of p.inputs z)) (next-at inputs i input lt is)
    ∙ ap (map (input_entry p fuel)) (map-append (bound p.inputs) (take i inputs) (input ∷ []))
    ∙ map-append (input_entry p fuel) (envs_of p.inputs (take i inputs)) (bound p.inputs input ∷ [])

-- what is put after what was put before
pub put-next : (done more all : List ℕ) (old mid new : Option (List ℕ)) → all ≡ done ++ more → mid ≡ option_map (λ w. w ++ done) old → new ≡ option_map (λ w. w ++ more) mid
    → new ≡ option_map (λ w. w ++ all) old
put-next done more all None mid new e f g = g ∙ ap (option_map (λ w. w ++ more)) f
put-next done more all (Some old) mid new e f g =
    g ∙ ap (option_map (λ w. w ++ more)) f ∙ ap (λ (w : List ℕ). Some w) (append_assoc old done more ∙ ap (λ z. old ++ z) (sym e))

-- the texts of the inputs before this one are a front
pub front-done : (p : PlainProgram) (fuel : ℕ) (inputs : Inputs) (i : ℕ) (old new : Option (List ℕ)) → new ≡ option_map (λ w. w ++ inputs_text p fuel (take i inputs)) old
    → AppendsPrefix (inputs_text p fuel inputs) old new
front-done p fuel inputs i old new e =
    let whole : inputs_text p fuel (take i inputs) ++ ([] ++ inputs_text p fuel (drop i inputs)) ≡ inputs_text p fuel inputs
    = sym (text-append p fuel (take i inputs) (drop i inputs)) ∙ ap (inputs_text p fuel) (take-append-drop i inputs) in
    subst (λ (text : List ℕ). AppendsPrefix text old new) whole
    (front_after (inputs_text p fuel (take i inputs)) [] (inputs_text p fuel (drop i inputs)) old new new e (front_none [] new new refl))

-- and then a front of the text of this one
pub front-part : (p : PlainProgram) (fuel : ℕ) (inputs : Inputs) (i : ℕ) (input : List PlainValue) (old mid new : Option (List ℕ)) → i < length inputs → input ≡ get_or inputs i input
    → mid ≡ option_map (λ w. w ++ inputs_text p fuel (take i inputs)) old → AppendsPrefix (input_text p fuel input) mid new → AppendsPrefix (inputs_text p fuel inputs) old new
front-part p fuel inputs i input old mid new lt is e f =
    let split : input ∷ drop (i + 1) inputs ≡ drop i inputs = ap (λ (z : List PlainValue). z ∷ drop (i + 1) inputs) is ∙ sym (drop_more inputs i input lt) in
    let whole : inputs_text p fuel (take i inputs) ++ (input_text p fuel input ++ inputs_text p fuel (drop (i + 1) inputs)) ≡ inputs_text p fuel inputs
    = ap (λ z. inputs_text p fuel (take i inputs) ++ z) (sym (text-first p fuel input (drop (i + 1) inputs)) ∙ ap (inputs_text p fuel) split)
    ∙ sym (text-append p fuel (take i inputs) (drop i inputs)) ∙ ap (inputs_text p fuel) (take-append-drop i inputs) in
    subst (λ (text : List ℕ). AppendsPrefix text old new) whole
    (front_after (inputs_text p fuel (take i inputs)) (input_text p fuel input) (inputs_text p fuel (drop (i + 1) inputs)) old mid new e f)

-- the lines of this input, as they are put
pub printed-front : (lines made wanted : List (List ℕ)) (old new : Option (List ℕ)) → lines ≡ made → made ≡ wanted → AppendsPrefix (text_of lines) old new → AppendsPrefix (text_of wanted) old new
printed-front lines made wanted old new e f h = subst (λ (ls : List (List ℕ)). AppendsPrefix (text_of ls) old new) (e ∙ f) h

pub printed-whole : (lines made wanted : List (List ℕ)) (old new : Option (List ℕ)) → lines ≡ made → made ≡ wanted → new ≡ option_map (λ w. w ++ text_of lines) old
    → new ≡ option_map (λ w. w ++ text_of wanted) old
printed-whole lines made wanted old new e f h = h ∙ ap (λ (ls : List (List ℕ)). option_map (λ w. w ++ text_of ls) old) (e ∙ f)
