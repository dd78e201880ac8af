-- What a stage of loading found, where it did not refuse.
use Rattle.std.proofs.Common.{◌≡◌, ℕ, Bool, true, false, List, Option, Some, None, Result, Ok, Err, refl, sym, ap, ◌∙◌}
use Rattle.std.specs.Prelude.{nat_le, length, if◌then◌else◌}
use Rattle.kid_sexp.specs.Brackets.{Fault}
use Rattle.kid_sexp.specs.Plain.{Plains, none, more}
use Rattle.kid_sexp.specs.Reading.{reading}
use Rattle.kid_prog.specs.PlainProgram.{PlainProgram}
use Rattle.kid_prog.specs.Forms.{judged}
use Rattle.kid_prog.specs.Loading.{Loaded, ◌>>=◌, refused, at, at_end, program_from, from_forest, loading}
use Rattle.kid_prog.specs.declared.fault.LoadCode.{LoadCode}
use Rattle.kid_prog.specs.declared.fault.LoadCode.TheVariants as code

pub staged : {A B : Type 0} (k : ℕ) (r : Result A LoadCode) (f : A → Loaded B) (y : B) → (at k r >>= f) ≡ Ok y → (x : A) × (r ≡ Ok x) × (f x ≡ Ok y)
staged k (Ok x) f y p = (x, refl, p)
staged k (Err c) f y p = cc

abbrev made : {A : Type 0} → A → Result A LoadCode
made x = Ok x

pub judged_ok : {A : Type 0} (f g : A → Bool) (o : Option A) (x : A) → judged f g o ≡ Ok x → (o ≡ Some x) × (f x ≡ true) × (g x ≡ true)
judged_ok f g None x p = cc
judged_ok f g (Some y) x p = by (f y) (g y) refl refl p
  where
    by : (a b : Bool) → f y ≡ a → g y ≡ b → (if a then (if b then made y else Err code.Sort) else Err code.Form) ≡ made x → (Some y ≡ Some x) × (f x ≡ true) × (g x ≡ true)
    by true true d e p = let q : y ≡ x = cc in (ap Some q, ap f (sym q) ∙ d, ap g (sym q) ∙ e)
    by true false d e p = cc
    by false b d e p = cc

pub ended : (k : ℕ) (p q : PlainProgram) (ts : Plains) → at_end k p ts ≡ Ok q → (ts ≡ none) × (p ≡ q)
ended k p q none e = (refl, (let same : p ≡ q = cc in same))
ended k p q (more t ts) e = cc

forest_of : (b : Bool) (r : Result Plains Fault) (p : PlainProgram) → (if b then from_forest r else refused 0 code.Large) ≡ Ok p → (ts : Plains) × (r ≡ Ok ts) × (program_from ts ≡ Ok p)
forest_of true (Ok ts) p e = (ts, refl, e)
forest_of true (Err fault) p e = cc
forest_of false r p e = cc

-- the forest of a file that loads
pub loaded_forest : (bytes : List ℕ) (p : PlainProgram) → loading bytes ≡ Ok p → (ts : Plains) × (reading bytes ≡ Ok ts) × (program_from ts ≡ Ok p)
loaded_forest bytes p e = forest_of (nat_le (length bytes) 4194304) (reading bytes) p e
