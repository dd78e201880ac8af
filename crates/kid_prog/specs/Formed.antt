-- The rules that the program of a file keeps.
use Rattle.std.specs.Prelude.{◌≡◌, ℕ, ◌≤◌, Bool, true, ◌&&◌, List, [], ◌∷◌, ◌++◌, length, Ok}
use Rattle.kid_value.specs.PlainSort.{PlainSort, bools}
use Rattle.kid_value.specs.SortLimits.{is_allowed}
use Rattle.kid_term.specs.Names.{PlainDef}
use Rattle.kid_term.specs.PlainSpec.{is_wanted}
use Rattle.kid_term.specs.Sorting.{sort_of}
use Rattle.kid_sorting.specs.Declaring.{are_new, are_allowed, is_sorted_definition}
use Rattle.kid_term.specs.PlainSignature.{PlainSignature}
use Rattle.kid_prog.specs.Forms.{is_formed_definition, is_undeclared, are_undefined, are_undeclared}
use Rattle.kid_prog.specs.PlainProgram.{PlainProgram}
use Rattle.kid_prog.specs.Rules.{obey, setting_of, search_scope}

-- after some definitions, each further one keeps the rules over those before it
abbrev pub are_formed : List PlainDef → List PlainDef → Bool
are_formed before [] = true
are_formed before (d ∷ ds) = is_formed_definition before d && is_sorted_definition before d && are_formed (before ++ d ∷ []) ds

abbrev pub signature_of : PlainProgram → PlainSignature
signature_of p = record { definitions = p.definitions; inputs = p.inputs }

abbrev pub output_of : PlainProgram → List ℕ × PlainSort
output_of p = (p.output, p.sort)

-- The program keeps the rules: each definition over those before it, names that are new, sorts that are allowed, all values wanted or from 1 to 1,000,000, and terms and statements that have their sorts.
pub record IsFormed (p : PlainProgram) : Type 0 where
  pub definitions : are_formed [] p.definitions ≡ true
  pub inputs_undefined : are_undefined p.inputs p.definitions ≡ true
  pub inputs_differ : are_new [] p.inputs ≡ true
  pub inputs_few : length p.inputs ≤ 16
  pub inputs_allowed : are_allowed p.inputs ≡ true
  pub condition : sort_of p.definitions p.inputs p.condition ≡ Ok bools
  pub output_new : is_undeclared (signature_of p) p.output ≡ true
  pub output_allowed : is_allowed p.sort ≡ true
  pub wanted : is_wanted p.first ≡ true
  pub parameters_new : are_undeclared (signature_of p) (output_of p) p.parameters ≡ true
  pub parameters_allowed : are_allowed p.parameters ≡ true
  pub main : obey (setting_of p) p.inputs p.main ≡ true
  pub search : obey (setting_of p) (search_scope p) p.search ≡ true
