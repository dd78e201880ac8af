-- What is printed for an input of a theory, by its answers.
use Rattle.std.specs.Prelude.{◌≡◌, ℕ, ℤ, Bool, true, not, ◌||◌, nat_le, List, [], ◌∷◌, ◌++◌, length, map, Option, MatchBool}
use Rattle.std.specs.List.{flat_map}
use Rattle.kid_value.specs.PlainSort.{PlainSort, ints}
use Rattle.kid_value.specs.PlainValue.{PlainValue, int}
use Rattle.kid_term.specs.Answer.{Answer}
use Rattle.kid_term.specs.Eval.{Env}
use Rattle.kid_term.specs.PlainTheory.{PlainTheory}
use Rattle.kid_prog.specs.PlainProgram.{PlainProgram}
use Rattle.kid_prog.specs.Running.{run_of}
use Rattle.kid_run.specs.Lines.{value_line, closing_line, fuel_line, outside_line}
use Rattle.kid_top.specs.RangeSearch.{range_count, range_found}
use Rattle.kid_top.specs.TheoryAt.{theory_calls, is_inside, relates_at}

-- the list is that of the theory's answers at the input, or of the first of them, where so many are wanted
abbrev pub AreAnswers : PlainTheory → Env → List PlainValue → Type 0
AreAnswers t x values = Answer (theory_calls t) t.spec x values

-- how many descriptors the search of a range visits where so many values are wanted
abbrev pub splits_in : PlainSort → (ℤ → Bool) → Option ℕ → ℕ
splits_in (ints lo hi) good first = range_count good first (lo, hi)
splits_in s good first = 0

-- how many the search of the theory's output visits at the input
abbrev pub splits_at : PlainTheory → Env → ℕ
splits_at t x = splits_in t.spec.sort (relates_at t x) t.spec.first

abbrev pub found_in : PlainSort → (ℤ → Bool) → Option ℕ → ℕ → List PlainValue
found_in (ints lo hi) good first n = map int (range_found good first n (lo, hi))
found_in s good first n = []

-- the answers in the first descriptors that the search visits, of which there are as many as the fuel
abbrev pub found_first : PlainTheory → ℕ → Env → List PlainValue
found_first t fuel x = found_in t.spec.sort (relates_at t x) t.spec.first fuel

-- whether so much fuel is for as many calls as the search takes
abbrev pub reaches : PlainTheory → ℕ → Env → Bool
reaches t fuel x = nat_le (splits_at t x) fuel

-- A line for each answer, and then how many there are and how many calls the program began, which are the descriptors that the search visits.
pub record Answers (t : PlainTheory) (p : PlainProgram) (fuel : ℕ) (x : Env) (text : List ℕ) : Type 0 where
  pub answers : List PlainValue
  pub exact : AreAnswers t x answers
  pub lines : text ≡ flat_map value_line answers ++ closing_line (length answers) (run_of p x fuel).calls
  pub counted : (run_of p x fuel).calls ≡ splits_at t x

-- The fuel ran out: a line for each answer that was found by then, before which there are no others, and then that it ran out.
pub record FirstAnswers (t : PlainTheory) (fuel : ℕ) (x : Env) (text : List ℕ) : Type 0 where
  pub others : List PlainValue
  pub exact : AreAnswers t x (found_first t fuel x ++ others)
  pub lines : text ≡ flat_map value_line (found_first t fuel x) ++ fuel_line fuel

-- the text for one input: its answers where the fuel is enough for the search, the first of them where it is not, and one line where the input condition is false
abbrev pub InputText : PlainTheory → PlainProgram → ℕ → Env → List ℕ → Type 0
InputText t p fuel x text =
    MatchBool (is_inside t x) (MatchBool (reaches t fuel x) (Answers t p fuel x text) (FirstAnswers t fuel x text)) (text ≡ outside_line)

-- the text for all inputs: that of the first, and then that of the others
abbrev pub Texts : PlainTheory → PlainProgram → ℕ → List Env → List ℕ → Type 0
Texts t p fuel [] text = text ≡ []
Texts t p fuel (x ∷ xs) text = (here : List ℕ) × (rest : List ℕ) × (text ≡ here ++ rest) × InputText t p fuel x here × Texts t p fuel xs rest

-- whether the fuel is enough for an input, or nothing is searched
abbrev pub is_answered : PlainTheory → ℕ → Env → Bool
is_answered t fuel x = not (is_inside t x) || reaches t fuel x

-- with some fuel the program finds just the answers at the input, and comes to its end
pub record FindsAnswers (t : PlainTheory) (p : PlainProgram) (x : Env) : Type 0 where
  pub fuel : ℕ
  pub answer : AreAnswers t x (run_of p x fuel).values
  pub whole : (run_of p x fuel).whole ≡ true

-- the program solves the theory
abbrev pub Implements : PlainTheory → PlainProgram → Type 0
Implements t p = (x : Env) → FindsAnswers t p x
