-- What a stage of reading found, where it did not refuse.
use Rattle.std.proofs.Common.{◌≡◌, ℕ, suc, ◌≤◌, Bool, true, false, List, Result, Ok, Err, refl, arith}
use Rattle.std.specs.Prelude.{nat_le, length, if◌then◌else◌}
use Rattle.std.proofs.lemmas.Bool.Decides.{nat_tests}
use Rattle.kid_sexp.specs.Brackets.{Fault}
use Rattle.kid_sexp.specs.Plain.{Plains, none, more}
use Rattle.kid_sexp.specs.Reading.{reading}
use Rattle.kid_theory.specs.Judged.{Judged}
use Rattle.kid_theory.specs.PlainFile.{PlainFile}
use Rattle.kid_theory.specs.Reading.{Read, ◌>>=◌, refused, numbered, at, at_end, file_from, from_forest, file_reading}
use Rattle.kid_theory.specs.declared.fault.TheoryCode.{TheoryCode}
use Rattle.kid_theory.specs.declared.fault.TheoryCode.TheVariants as code

pub not_refused : {A : Type 0} (k : ℕ) (c : TheoryCode) (x : A) → refused k c ≡ Ok x → ⊥
not_refused k c x p = cc

staged_if : {A B : Type 0} (b : Bool) (k : ℕ) (r : Judged A) (f : A → Read B) (y : B) → ((if b then numbered k r else refused k code.Limit) >>= f) ≡ Ok y → (x : A) × (r ≡ Ok x) × (f x ≡ Ok y)
staged_if true k (Ok x) f y p = (x, refl, p)
staged_if true k (Err c) f y p = cc
staged_if false k r f y p = cc

pub staged : {A B : Type 0} (k : ℕ) (r : Judged A) (f : A → Read B) (y : B) → (at k r >>= f) ≡ Ok y → (x : A) × (r ≡ Ok x) × (f x ≡ Ok y)
staged k r f y p = staged_if (nat_le k 1024) k r f y p

within_by : {A B : Type 0} (b : Bool) (k : ℕ) (r : Judged A) (f : A → Read B) (y : B) → ((if b then numbered k r else refused k code.Limit) >>= f) ≡ Ok y → b ≡ true
within_by true k r f y e = refl
within_by false k r f y e = cc

pub at_most : (n limit : ℕ) → nat_le n limit ≡ true → n ≤ limit
at_most n limit e = grind (arith, nat_tests)

-- the number of a form that is not refused
pub within : {A B : Type 0} (k : ℕ) (r : Judged A) (f : A → Read B) (y : B) → (at k r >>= f) ≡ Ok y → k ≤ 1024
within k r f y e = at_most k 1024 (within_by (nat_le k 1024) k r f y e)

abbrev refused_if : Bool → ℕ → Read PlainFile
refused_if b k = if b then refused k code.Form else refused k code.Limit

none_further : (b : Bool) (k : ℕ) (t : PlainFile) → refused_if b k ≡ Ok t → ⊥
none_further true k t p = cc
none_further false k t p = cc

pub ended : (k : ℕ) (p q : PlainFile) (ts : Plains) → at_end k p ts ≡ Ok q → p ≡ q
ended k p q none e = cc
ended k p q (more t ts) e = absurd (none_further (nat_le (suc k) 1024) (suc k) q e)

pub ended_none : (k : ℕ) (p q : PlainFile) (ts : Plains) → at_end k p ts ≡ Ok q → ts ≡ none
ended_none k p q none e = refl
ended_none k p q (more t ts) e = absurd (none_further (nat_le (suc k) 1024) (suc k) q e)

forest_of : (b : Bool) (r : Result Plains Fault) (t : PlainFile) → (if b then from_forest r else refused 0 code.Large) ≡ Ok t → (ts : Plains) × (r ≡ Ok ts) × (file_from ts ≡ Ok t)
forest_of true (Ok ts) t e = (ts, refl, e)
forest_of true (Err fault) t e = cc
forest_of false r t e = cc

-- the forest of a file that is read
pub read_forest : (bytes : List ℕ) (t : PlainFile) → file_reading bytes ≡ Ok t → (ts : Plains) × (reading bytes ≡ Ok ts) × (file_from ts ≡ Ok t)
read_forest bytes t e = forest_of (nat_le (length bytes) 4194304) (reading bytes) t e
