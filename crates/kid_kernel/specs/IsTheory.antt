-- What each theory keeps.
use Rattle.std.specs.Prelude.{◌≡◌, ◌≤◌, ℕ, nat_le, Bool, true, false, ◌&&◌, List, [], ◌∷◌, ◌++◌, length, map, Ok}
use Rattle.std.specs.List.{list_all}
use Rattle.kid_value.specs.PlainSort.{bools}
use Rattle.kid_value.specs.SortLimits.{is_allowed}
use Rattle.kid_term.specs.CallDepth.{depths_of}
use Rattle.kid_term.specs.Fitting.{AreAllowed, AreSound}
use Rattle.kid_term.specs.Names.{is_named, PlainDef}
use Rattle.kid_term.specs.PlainSpec.{is_wanted, relation_scope}
use Rattle.kid_term.specs.Sorting.{sort_of}
use Rattle.kid_kernel.specs.Differ.{words_of, differ, are_apart}
use Rattle.kid_term.specs.PlainLaw.{PlainLaw}
use Rattle.kid_term.specs.PlainTheory.{PlainTheory}
use Rattle.kid_kernel.specs.SortedLaw.{is_sorted_law}
use Rattle.kid_kernel.specs.Wordless.{is_wordless, is_wordless_definition, is_wordless_law}

-- laws and axioms
abbrev pub laws_of : PlainTheory → List PlainLaw
laws_of t = t.laws ++ t.axioms

-- the names of definitions, inputs, laws, axioms and the output
abbrev pub declared_names : PlainTheory → List (List ℕ)
declared_names t =
    ((map (λ d. d.name) t.signature.definitions ++ words_of t.spec.inputs) ++ map (λ l. l.name) (laws_of t)) ++ t.spec.output ∷ []

-- no call goes deeper than 16
abbrev pub are_shallow : List PlainDef → Bool
are_shallow defs = list_all (λ d. nat_le d.1 16) (depths_of defs)

abbrev pub have_own_parameters : List PlainDef → Bool
have_own_parameters defs = list_all (λ d. differ (words_of d.parameters)) defs

-- a law's variables differ from one another and from these names
abbrev pub has_own_variables : List (List ℕ) → PlainLaw → Bool
has_own_variables names l = differ (words_of l.variables) && are_apart (words_of l.variables) names

-- The definitions are sound, and neither they nor the rest hold an operator on words or rows. The names differ, the sorts are allowed, the conditions are truth values over the names that they see, and laws and axioms are sorted. All answers are wanted, or from 1 to 1,000,000.
pub record IsTheory (t : PlainTheory) : Type 0 where
  pub sound : AreSound t.signature.definitions
  pub shallow : are_shallow t.signature.definitions ≡ true
  pub definitions_wordless : list_all is_wordless_definition t.signature.definitions ≡ true
  pub parameters_differ : have_own_parameters t.signature.definitions ≡ true
  pub names_differ : differ (declared_names t) ≡ true
  pub same_inputs : t.signature.inputs ≡ t.spec.inputs
  pub few_inputs : length t.spec.inputs ≤ 16
  pub inputs_allowed : AreAllowed t.spec.inputs
  pub condition : sort_of t.signature.definitions t.spec.inputs t.spec.condition ≡ Ok bools
  pub condition_wordless : is_wordless t.spec.condition ≡ true
  pub laws_sorted : list_all (is_sorted_law t.signature.definitions t.spec.inputs) (laws_of t) ≡ true
  pub laws_wordless : list_all is_wordless_law (laws_of t) ≡ true
  pub variables_differ : list_all (has_own_variables (declared_names t)) (laws_of t) ≡ true
  pub sort_allowed : is_allowed t.spec.sort ≡ true
  pub output_new : is_named t.spec.output t.spec.inputs ≡ false
  pub relation : sort_of t.signature.definitions (relation_scope t.spec) t.spec.relation ≡ Ok bools
  pub relation_wordless : is_wordless t.spec.relation ≡ true
  pub wanted : is_wanted t.spec.first ≡ true
