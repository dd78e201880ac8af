-- What may follow the relation of a theory file that is read.
use Rattle.std.proofs.Common.{◌≡◌, ℕ, suc, ◌+◌, ◌≤◌, true, List, Option, Some, None, Ok, refl, ap, arith}
use Rattle.kid_sexp.specs.Plain.{Plain, Plains, none, more, forest_len}
use Rattle.kid_value.specs.PlainSort.{PlainSort}
use Rattle.kid_term.specs.PlainSpec.{is_wanted}
use Rattle.kid_term.specs.PlainTerm.{PlainTerm}
use Rattle.kid_theory.specs.Forms.{first_form}
use Rattle.kid_theory.specs.PlainFile.{PlainFile}
use Rattle.kid_theory.specs.Reading.{Read, Front, file_with, at_end, with_first, after_relation}
use Rattle.kid_theory.specs.Spelling.{first_before}
use Rattle.kid_theory.proofs.FormTold.{first_told}
use Rattle.kid_theory.proofs.Stages.{staged, within, ended, ended_none}

-- the file with so many answers wanted, or all
abbrev pub wanting : PlainFile → Option ℕ → PlainFile
wanting t first = record t { first = first }

-- the form that says how many answers are wanted, or no form
pub record WantedTold (k : ℕ) (p t : PlainFile) (ts : Plains) : Type 0 where
  pub first : Option ℕ
  pub wanted : is_wanted first ≡ true
  pub trees : ts ≡ first_before first none
  pub few : k + forest_len ts ≤ 1024
  pub whole : wanting p first ≡ t

one_last : (k : ℕ) (u : Plain) (us : Plains) → suc k ≤ 1024 → us ≡ none → k + forest_len (more u us) ≤ 1024
one_last k u us number is = let empty = ap forest_len is in omega (arith, empty)

pub wanted_told : (k : ℕ) (f : Front) (output : List ℕ × PlainSort) (relation : PlainTerm) (t : PlainFile) (ts : Plains) → k ≤ 1024
    → after_relation k (file_with f output relation) ts ≡ Ok t → WantedTold k (file_with f output relation) t ts
wanted_told k f output relation t none few e =
    let p = file_with f output relation in
    record { first = None; wanted = refl; trees = refl; few = omega (arith, few); whole = let same : p ≡ t = cc in same }
wanted_told k f output relation t (more u us) few e =
    let p = file_with f output relation in
    let stage : ℕ → Read PlainFile = λ n. at_end (suc k) (with_first p n) us in
    let a = staged (suc k) (first_form u) stage t e in
    let n : ℕ = a.0 in
    let number = within (suc k) (first_form u) stage t e in
    let last = ended_none (suc k) (with_first p n) t us a.2 in
    let told = first_told u n a.1 in
    let c = told.0 in
    record {
      first = Some n;
      wanted = told.1;
      trees = λ i. more (c i) (last i);
      few = one_last k u us number last;
      whole = ended (suc k) (with_first p n) t us a.2;
    }
