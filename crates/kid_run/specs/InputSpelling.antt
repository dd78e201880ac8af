-- Which inputs a file spells.
use Rattle.std.specs.Prelude.{◌≡◌, ℕ, ◌≤◌, List, [], ◌∷◌, length, Ok, ⊤}
use Rattle.kid_sexp.specs.Plain.{Plain, Plains, atom, list, none, more}
use Rattle.kid_sexp.specs.Spells.{Spells}
use Rattle.kid_value.specs.PlainValue.{PlainValue}
use Rattle.kid_value.specs.PlainSort.{PlainSort}
use Rattle.kid_term.specs.Names.{Names}
use Rattle.kid_codec.specs.ValueSpelling.{value_reading}
use Rattle.kid_run.specs.InputReading.{inputs_reading}

-- the tree spells the value, which is of the name's sort
abbrev pub IsValueOf : List ℕ × PlainSort → Plain → PlainValue → Type 0
IsValueOf n t v = value_reading n.1 t ≡ Ok v

-- as many trees as names and as values, and each tree spells the value of its name
abbrev pub AreValues : Names → Plains → List PlainValue → Type 0
AreValues [] none [] = ⊤
AreValues (n ∷ ns) (more t ts) (v ∷ vs) = IsValueOf n t v × AreValues ns ts vs
AreValues ns ts vs = ⊥

-- the tree is a list of the input's values
abbrev pub IsInput : Names → Plain → List PlainValue → Type 0
IsInput ns (atom w) vs = ⊥
IsInput ns (list ts) vs = AreValues ns ts vs

-- as many trees as inputs, and each tree spells its input
abbrev pub AreInputs : Names → Plains → List (List PlainValue) → Type 0
AreInputs ns none [] = ⊤
AreInputs ns (more t ts) (vs ∷ inputs) = IsInput ns t vs × AreInputs ns ts inputs
AreInputs ns ts inputs = ⊥

-- The file has at most so many bytes, and they spell a tree for each input, in order.
pub record InputsAreSpelled (ns : Names) (bytes : List ℕ) (inputs : List (List PlainValue)) : Type 0 where
  pub few : length bytes ≤ 4194304
  pub forest : Plains
  pub spells : Spells bytes forest
  pub inputs_are : AreInputs ns forest inputs

-- inputs that are read are what the file spells
abbrev pub ReadInputsAreSpelled : Type 0
ReadInputsAreSpelled = (ns : Names) (bytes : List ℕ) (inputs : List (List PlainValue)) → inputs_reading ns bytes ≡ Ok inputs → InputsAreSpelled ns bytes inputs

-- inputs that a file spells are read
abbrev pub SpelledInputsAreRead : Type 0
SpelledInputsAreRead = (ns : Names) (bytes : List ℕ) (inputs : List (List PlainValue)) → InputsAreSpelled ns bytes inputs → inputs_reading ns bytes ≡ Ok inputs
