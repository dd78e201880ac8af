-- What the forms so far keep, so that a theory can be made of them.
use Rattle.std.specs.Prelude.{◌≡◌, ◌≤◌, ℕ, Bool, true, false, not, List, ◌++◌, length, map}
use Rattle.std.specs.List.{list_all}
use Rattle.kid_value.specs.NameSet.{is_among}
use Rattle.kid_term.specs.Fitting.{AreSound}
use Rattle.kid_term.specs.Names.{Names, PlainDef}
use Rattle.kid_term.specs.PlainLaw.{PlainLaw}
use Rattle.kid_term.specs.PlainTheory.{PlainTheory}
use Rattle.kid_sorting.specs.Declaring.{are_allowed}
use Rattle.kid_codec.specs.Name.{is_name}
use Rattle.kid_kernel.specs.Differ.{words_of, differ}
use Rattle.kid_kernel.specs.IsTheory.{declared_names, are_shallow, have_own_parameters, laws_of, IsTheory}
use Rattle.kid_kernel.specs.Wordless.{is_wordless_definition}
use Rattle.kid_theory.specs.Taken.{Taken}

abbrev pub names_of : List PlainDef → Taken
names_of defs = map (λ d. d.name) defs

-- Definitions and inputs that may stand in a theory. What is taken are their names, which differ.
pub record AreDeclared (defs : List PlainDef) (inputs : Names) (taken : Taken) : Type 0 where
  pub sound : AreSound defs
  pub shallow : are_shallow defs ≡ true
  pub wordless : list_all is_wordless_definition defs ≡ true
  pub parameters : have_own_parameters defs ≡ true
  pub few : length inputs ≤ 16
  pub allowed : are_allowed inputs ≡ true
  pub names : taken ≡ names_of defs ++ words_of inputs
  pub named : list_all is_name taken ≡ true
  pub distinct : differ taken ≡ true

-- whether the law has no variable of this name
abbrev pub lacks : List ℕ → PlainLaw → Bool
lacks x l = not (is_among x (words_of l.variables))

-- The theory so far is one. A name that is not taken is new to it, and one that is not among the variables is none of a law's.
pub record IsKnown (t : PlainTheory) (taken variables : Taken) : Type 0 where
  pub theory : IsTheory t
  pub new : (x : List ℕ) → is_name x ≡ true → is_among x taken ≡ false → is_among x (declared_names t) ≡ false
  pub free : (x : List ℕ) → is_among x variables ≡ false → list_all (lacks x) (laws_of t) ≡ true
