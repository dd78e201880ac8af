-- The rules of sorts that a program meets.
use Rattle.std.specs.Prelude.{◌≡◌, ℕ, Bool, true, false, not, ◌&&◌, List, [], ◌∷◌, ◌++◌, Option, Some, None, Result, Ok, Err}
use Rattle.kid_value.specs.PlainSort.{PlainSort, bools, sets}
use Rattle.kid_value.specs.SortLimits.{is_allowed}
use Rattle.kid_term.specs.PlainTerm.{PlainTerm}
use Rattle.kid_term.specs.Names.{Names, is_named, PlainDef}
use Rattle.kid_term.specs.PlainSpec.{is_wanted}
use Rattle.kid_term.specs.Sorted.{Fault, Sorted, ◌>>=◌}
use Rattle.kid_term.specs.Sorting.{sort_of, fit_parameters}
use Rattle.kid_term.specs.Fitting.{AreAllowed, AreSound}
use Rattle.kid_codec.specs.SortSpelling.{is_spelled_sort}
use Rattle.kid_sorting.specs.Declaring.{with_name, is_truth, is_within}
use Rattle.kid_prog.specs.PlainStmt.{assign, when, each, emit, call, PlainStmts, no_stmt, stmt}
use Rattle.kid_prog.specs.PlainProgram.{PlainProgram}

-- what statements are judged against: the definitions, the sort of what is emitted, and the parameters of the search procedure, where they are known
pub record Setting : Type 0 where
  pub definitions : List PlainDef
  pub sort : PlainSort
  pub parameters : Option Names

-- the sorts of terms, each of which keeps the limits of a term for itself
abbrev pub sorts_of : List PlainDef → Names → List PlainTerm → Result (List PlainSort) Fault
sorts_of defs names [] = Ok []
sorts_of defs names (t ∷ ts) = sort_of defs names t >>= λ s. sorts_of defs names ts >>= λ ss. Ok (s ∷ ss)

-- as many arguments as parameters, each within its parameter's sort; where the parameters are not known, the arguments have sorts
abbrev pub call_fits : Option Names → Result (List PlainSort) Fault → Bool
call_fits parameters (Err fault) = false
call_fits None (Ok ss) = true
call_fits (Some ps) (Ok ss) = fit_parameters ps ss

-- a name that is new has the term's sort
abbrev pub binds : Names → List ℕ → Sorted → (Names → Bool) → Bool
binds names x (Ok s) rest = not (is_named x names) && rest (with_name names x s)
binds names x (Err fault) rest = false

-- a name that is new is of the set's element sort
abbrev pub ranges : Names → List ℕ → Sorted → (Names → Bool) → Bool
ranges names x (Ok (sets a)) body = not (is_named x names) && body (with_name names x a)
ranges names x r body = false

-- whether statements meet the rules where these names are in scope
abbrev pub obey : Setting → Names → PlainStmts → Bool
obey g names no_stmt = true
obey g names (stmt (assign x t) ss) = binds names x (sort_of g.definitions names t) (λ more. obey g more ss)
obey g names (stmt (when t body) ss) = is_truth (sort_of g.definitions names t) && obey g names body && obey g names ss
obey g names (stmt (each x t body) ss) = ranges names x (sort_of g.definitions names t) (λ more. obey g more body) && obey g names ss
obey g names (stmt (emit t) ss) = is_within g.sort (sort_of g.definitions names t) && obey g names ss
obey g names (stmt (call ts) ss) = call_fits g.parameters (sorts_of g.definitions names ts) && obey g names ss

abbrev pub setting_of : PlainProgram → Setting
setting_of p = record { definitions = p.definitions; sort = p.sort; parameters = Some p.parameters }

-- the names that the search procedure sees
abbrev pub search_scope : PlainProgram → Names
search_scope p = p.parameters ++ p.inputs

-- the program can be run: its definitions are sound, its sorts are allowed, that of its values has a spelling, all values are wanted or from 1 to 1,000,000, and its terms and statements have their sorts
pub record IsRunnable (p : PlainProgram) : Type 0 where
  pub sound : AreSound p.definitions
  pub inputs_allowed : AreAllowed p.inputs
  pub parameters_allowed : AreAllowed p.parameters
  pub sort_allowed : is_allowed p.sort ≡ true
  pub spelled : is_spelled_sort p.sort ≡ true
  pub wanted : is_wanted p.first ≡ true
  pub condition : sort_of p.definitions p.inputs p.condition ≡ Ok bools
  pub main : obey (setting_of p) p.inputs p.main ≡ true
  pub search : obey (setting_of p) (search_scope p) p.search ≡ true
