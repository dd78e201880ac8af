-- The instance of a law, or why there is none.
use Rattle.std.specs.Prelude.{◌≡◌, ℕ, Bool, true, false, ◌&&◌, cond, List, [], ◌∷◌, map, Option, Some, None, Result, Ok, Err, is_some}
use Rattle.kid_value.specs.PlainSort.{PlainSort}
use Rattle.kid_term.specs.PlainTerm.{PlainTerm}
use Rattle.kid_term.specs.TermView.{plain_term}
use Rattle.kid_term.specs.Names.{Names, PlainDef}
use Rattle.kid_term.specs.Eval.{Env, eval, calls_of}
use Rattle.kid_term.specs.Sorting.{sort_of}
use Rattle.kid_term.specs.Fitting.{Fits, AreAllowed, AreSound}
use Rattle.kid_term.specs.Simultaneous.{Subst, term_at, substituted}
use Rattle.kid_term.specs.Truths.{AllTrue}
use Rattle.kid_laws.specs.Law.{Law}
use Rattle.kid_laws.specs.Table.{laws_of, law_at}
use Rattle.kid_laws.specs.declared.kind.LawKind.{LawKind}
use Rattle.kid_laws.specs.declared.parts.Instance.{Instance}
use Rattle.kid_laws.specs.declared.parts.Pattern.{Pattern}
use Rattle.kid_laws.specs.declared.parts.LawFault.{LawFault}
use Rattle.kid_laws.specs.declared.parts.LawFault.TheVariants as fault

pub record PlainInstance : Type 0 where
  pub conditions : List PlainTerm
  pub left : PlainTerm
  pub right : PlainTerm

abbrev pub plain_instance : Instance → PlainInstance
plain_instance i = record { conditions = i.conditions; left = plain_term i.left; right = plain_term i.right }

-- a law with the terms put in, with its sides exchanged where back is true
abbrev pub filled : Bool → Subst → Law → PlainInstance
filled false σ l = record { conditions = map (substituted σ) l.conditions; left = substituted σ l.left; right = substituted σ l.right }
filled true σ l = record { conditions = map (substituted σ) l.conditions; left = substituted σ l.right; right = substituted σ l.left }

-- whether each of the names has a term
abbrev pub all_given : List (List ℕ) → Subst → Bool
all_given [] σ = true
all_given (x ∷ xs) σ = is_some (term_at x σ) && all_given xs σ

abbrev pub made_of : Option Law → Bool → Subst → Result PlainInstance LawFault
made_of None back σ = Err fault.NoLaw
made_of (Some l) back σ = cond (all_given l.variables σ) (Ok (filled back σ l)) (Err fault.Missing)

abbrev pub outcome : LawKind → ℕ → Bool → Subst → Result PlainInstance LawFault
outcome kind number back σ = made_of (law_at (laws_of kind) number) back σ

-- what the program answers, want of memory aside
abbrev pub Gives : Result Instance LawFault → Result PlainInstance LawFault → Type 0
Gives (Ok i) r = r ≡ Ok (plain_instance i)
Gives (Err fault.Memory) r = Unit {0}
Gives (Err e) r = r ≡ Err e

-- where both sides have a sort and the conditions are true, the sides have one value
abbrev pub IsTrueInstance : PlainInstance → Type 0
IsTrueInstance i =
    (defs : List PlainDef) (names : Names) (env : Env) (s s' : PlainSort) → AreSound defs → AreAllowed names → Fits names env
    → sort_of defs names i.left ≡ Ok s → sort_of defs names i.right ≡ Ok s' → AllTrue (calls_of defs) env i.conditions
    → eval (calls_of defs) env i.left ≡ eval (calls_of defs) env i.right

abbrev pub plain_pattern : Pattern → Law
plain_pattern p = record { variables = p.variables; conditions = p.conditions; left = plain_term p.left; right = plain_term p.right }

-- the law as it is written, want of memory aside
abbrev pub Shows : Result Pattern LawFault → Option Law → Type 0
Shows (Ok p) o = o ≡ Some (plain_pattern p)
Shows (Err fault.NoLaw) o = o ≡ None
Shows (Err fault.Missing) o = ⊥
Shows (Err fault.Memory) o = Unit {0}
