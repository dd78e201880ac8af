-- What is printed for a run.
use Rattle.std.specs.Prelude.{ℕ, Bool, List, [], ◌∷◌, ◌++◌, map, length, min, if◌then◌else◌, codes}
use Rattle.std.specs.List.{flat_map}
use Rattle.std.specs.Fmt.{decimal}
use Rattle.kid_sexp.specs.Printing.{tree_text}
use Rattle.kid_value.specs.PlainValue.{PlainValue}
use Rattle.kid_value.specs.Rows.Parts.{truth_of}
use Rattle.kid_term.specs.Eval.{Env, eval, calls_of}
use Rattle.kid_codec.specs.ValueSpelling.{value_spelling}
use Rattle.kid_prog.specs.PlainProgram.{PlainProgram}
use Rattle.kid_prog.specs.Running.{Run, run_of}

abbrev pub value_line : PlainValue → List ℕ
value_line v = tree_text (value_spelling v) ++ 10 ∷ []

-- a number, or the greatest that is shown
abbrev pub shown : ℕ → ℕ
shown n = min n 18446744073709551615

abbrev pub closing_line : ℕ → ℕ → List ℕ
closing_line answers splits = codes "(answers " ++ decimal (shown answers) ++ codes " splits " ++ decimal splits ++ 41 ∷ 10 ∷ []

abbrev pub fuel_line : ℕ → List ℕ
fuel_line fuel = codes "(fuel " ++ decimal fuel ++ 41 ∷ 10 ∷ []

abbrev pub outside_line : List ℕ
outside_line = codes "(outside)" ++ 10 ∷ []

-- how a run with so much fuel is closed
abbrev pub last_line : Run → ℕ → List ℕ
last_line r fuel = if r.whole then closing_line (length r.values) r.calls else fuel_line fuel

-- a line for each value, and then the closing line
abbrev pub run_lines : Run → ℕ → List (List ℕ)
run_lines r fuel = map value_line r.values ++ last_line r fuel ∷ []

-- whether an input meets the input condition
abbrev pub is_inside : PlainProgram → Env → Bool
is_inside p x = truth_of (eval (calls_of p.definitions) x p.condition)

-- the lines for one input
abbrev pub input_lines : PlainProgram → ℕ → Env → List (List ℕ)
input_lines p fuel x = if is_inside p x then run_lines (run_of p x fuel) fuel else outside_line ∷ []

-- the lines for all inputs
abbrev pub all_lines : PlainProgram → ℕ → List Env → List (List ℕ)
all_lines p fuel xs = flat_map (input_lines p fuel) xs

-- the text of lines
abbrev pub text_of : List (List ℕ) → List ℕ
text_of lines = flat_map (λ line. line) lines

-- the text for all inputs
abbrev pub run_text : PlainProgram → ℕ → List Env → List ℕ
run_text p fuel xs = text_of (all_lines p fuel xs)
