-- The program for a theory searches the theory's range.
use Rattle.std.proofs.Common.{◌≡◌, ℤ, Some}
use Rattle.kid_value.specs.PlainSort.{ints}
use Rattle.kid_term.specs.PlainTheory.{PlainTheory}
use Rattle.kid_theory.specs.IsRead.{IsRead}
use Rattle.kid_prog.specs.PlainProgram.{PlainProgram}
use Rattle.kid_top.specs.Emitted.{emitted, program_for}
use Rattle.kid_top.proofs.EmittedCall.{Searchable}
use Rattle.kid_top.proofs.EmittedSpelled.{program_emits, are_ends}

-- the program is the one that searches from lo to hi, and the theory is searched so
pub record Searches (t : PlainTheory) (p : PlainProgram) : Type 0 where
  pub lo : ℤ
  pub hi : ℤ
  pub of_sort : t.spec.sort ≡ ints lo hi
  pub is : p ≡ emitted t lo hi
  pub can : Searchable t lo hi

pub program_searches : (t : PlainTheory) (p : PlainProgram) → IsRead t → program_for t ≡ Some p → Searches t p
program_searches t p is e =
    let m = program_emits t p e in
    record {
      lo = m.lo;
      hi = m.hi;
      of_sort = m.of_sort;
      is = m.is;
      can = record {
        of_sort = m.of_sort;
        ordered = (are_ends m.lo m.hi m.ends).ordered;
        apart = m.apart;
        takes = m.takes;
        sorted = is.is_theory.relation;
      };
    }
