-- What the program for a theory is, and that it has a spelling where the theory has one.
use Rattle.std.proofs.Common.{◌≡◌, ℕ, zero, suc, ℤ, Bool, true, false, cond, List, length, Some, refl, sym, ap, ◌∙◌, arith}
use Rattle.std.specs.Prelude.{pos, negsuc, neg_ℤ, ◌+ℤ◌, ◌-ℤ◌, ◌≤ℤ◌, int_lt, int_le, ◌&&◌, ◌==◌, is_some, codes}
use Rattle.std.specs.List.{list_all}
use Rattle.std.proofs.lemmas.Int.{ints as int_rules}
use Rattle.kid_value.specs.PlainSort.{PlainSort, never, bools, ints, pairs, sets, seqs, maps, enums}
use Rattle.kid_value.specs.SortLimits.{in_limits}
use Rattle.kid_value.proofs.SortLemmas.{and_parts, and_both}
use Rattle.kid_term.specs.Names.{same_name}
use Rattle.kid_term.specs.PlainTerm.{PlainHead, op, call, cast, PlainTerm, var, number, truth, tag, app, bind, PlainTerms, no_term, term, terms}
use Rattle.kid_term.specs.Substitution.{replaced, replaced_in}
use Rattle.kid_term.specs.Written.{number_in}
use Rattle.kid_codec.specs.Name as name
use Rattle.kid_codec.specs.Name.{is_name}
use Rattle.kid_codec.specs.SortSpelling.{is_spelled_sort}
use Rattle.kid_codec.specs.DeclaredSpelling.{is_spelled_name, is_spelled_definition}
use Rattle.kid_codec.specs.TermSpelling.{begin_with_numbers, is_spelled_head, is_spelled_term, are_spelled_terms}
use Rattle.kid_codec.specs.Takes.{takes, numbers_first}
use Rattle.kid_codec.proofs.Found.{same_some, if_some}
use Rattle.kid_term.specs.PlainTheory.{PlainTheory}
use Rattle.kid_theory.specs.IsRead.{IsRead}
use Rattle.kid_prog.specs.PlainProgram.{PlainProgram}
use Rattle.kid_prog.specs.Spelling.{is_spelled_stmt, is_spelled_program}
use Rattle.kid_prog.proofs.ProgramParts.{spelled_whole}
use Rattle.kid_top.specs.Emitted.{equal_ends, leaf, leaf_part, kid_part, emitted, is_apart, takes_leaf, has_ends, if_takes_leaf, program_at, program_for}

-- ---- the program for a theory

-- the program is the one that searches from lo to hi
pub record Emits (t : PlainTheory) (p : PlainProgram) : Type 0 where
  pub lo : ℤ
  pub hi : ℤ
  pub of_sort : t.spec.sort ≡ ints lo hi
  pub ends : has_ends lo hi ≡ true
  pub apart : is_apart t ≡ true
  pub takes : takes_leaf t ≡ true
  pub is : p ≡ emitted t lo hi

program_at_emits : (t : PlainTheory) (p : PlainProgram) (s : PlainSort) → t.spec.sort ≡ s → program_at t s ≡ Some p → Emits t p
program_at_emits t p never of e = cc
program_at_emits t p bools of e = cc
program_at_emits t p (ints lo hi) of e =
    let a = if_some (has_ends lo hi && is_apart t) (if_takes_leaf t lo hi) p e in
    let b = and_parts (has_ends lo hi) (is_apart t) a.0 in
    let c = if_some (takes_leaf t) (Some (emitted t lo hi)) p a.1 in
    record { lo = lo; hi = hi; of_sort = of; ends = b.0; apart = b.1; takes = c.0; is = sym (same_some (emitted t lo hi) p c.1) }
program_at_emits t p (pairs a b) of e = cc
program_at_emits t p (sets a) of e = cc
program_at_emits t p (seqs a n) of e = cc
program_at_emits t p (maps a b) of e = cc
program_at_emits t p (enums ns) of e = cc

pub program_emits : (t : PlainTheory) (p : PlainProgram) → program_for t ≡ Some p → Emits t p
program_emits t p e = program_at_emits t p t.spec.sort refl e

-- ---- replaced terms

cond_spelled : (b : Bool) (t u : PlainTerm) → is_spelled_term t ≡ true → is_spelled_term u ≡ true → is_spelled_term (cond b t u) ≡ true
cond_spelled true t u h k = h
cond_spelled false t u h k = k

length-replaced : (x : List ℕ) (new : PlainTerm) (ts : PlainTerms) → length (terms (replaced_in x new ts)) ≡ length (terms ts)
length-replaced x new no_term = refl
length-replaced x new (term t ts) = ap suc (length-replaced x new ts)

-- a number stays as it is
stays_number : (x : List ℕ) (new t : PlainTerm) → is_some (number_in t) ≡ true → is_some (number_in (replaced x new t)) ≡ true
stays_number x new (number n) h = refl
stays_number x new t h = cc

begin-replaced : (x : List ℕ) (new : PlainTerm) (n : ℕ) (ts : PlainTerms) → begin_with_numbers n (terms ts) ≡ true → begin_with_numbers n (terms (replaced_in x new ts)) ≡ true
begin-replaced x new zero ts h = refl
begin-replaced x new (suc n) no_term h = h
begin-replaced x new (suc n) (term t ts) h =
    let r = and_parts (is_some (number_in t)) (begin_with_numbers n (terms ts)) h in
    and_both (is_some (number_in (replaced x new t))) (begin_with_numbers n (terms (replaced_in x new ts))) (stays_number x new t r.0) (begin-replaced x new n ts r.1)

-- a head may stand before the terms still
head-replaced : (x : List ℕ) (new : PlainTerm) (f : PlainHead) (ts : PlainTerms) → is_spelled_head f (terms ts) ≡ true → is_spelled_head f (terms (replaced_in x new ts)) ≡ true
head-replaced x new (op o) ts h =
    let r = and_parts (takes o (length (terms ts))) (begin_with_numbers (numbers_first o) (terms ts)) h in
    and_both (takes o (length (terms (replaced_in x new ts)))) (begin_with_numbers (numbers_first o) (terms (replaced_in x new ts)))
    (ap (takes o) (length-replaced x new ts) ∙ r.0) (begin-replaced x new (numbers_first o) ts r.1)
head-replaced x new (call g) ts h = h
head-replaced x new (cast s) ts h =
    let r = and_parts (length (terms ts) == 1) (is_spelled_sort s) h in
    and_both (length (terms (replaced_in x new ts)) == 1) (is_spelled_sort s) (ap (λ n. n == 1) (length-replaced x new ts) ∙ r.0) r.1

mutual
  replaced_spelled : (x : List ℕ) (new t : PlainTerm) → is_spelled_term new ≡ true → is_spelled_term t ≡ true → is_spelled_term (replaced x new t) ≡ true
  replaced_spelled x new (var y) h k = cond_spelled (same_name x y) new (var y) h k
  replaced_spelled x new (number n) h k = k
  replaced_spelled x new (truth b) h k = refl
  replaced_spelled x new (tag n) h k = k
  replaced_spelled x new (app f ts) h k =
      let r = and_parts (is_spelled_head f (terms ts)) (are_spelled_terms ts) k in
      and_both (is_spelled_head f (terms (replaced_in x new ts))) (are_spelled_terms (replaced_in x new ts))
      (head-replaced x new f ts r.0) (replaced_in_spelled x new ts h r.1)
  replaced_spelled x new (bind b y s t) h k =
      let r = and_parts (is_name y && is_spelled_term s) (is_spelled_term t) k in
      let q = and_parts (is_name y) (is_spelled_term s) r.0 in
      and_both (is_name y && is_spelled_term (replaced x new s)) (is_spelled_term (cond (same_name x y) t (replaced x new t)))
      (and_both (is_name y) (is_spelled_term (replaced x new s)) q.0 (replaced_spelled x new s h q.1))
      (cond_spelled (same_name x y) t (replaced x new t) r.1 (replaced_spelled x new t h r.1))

  replaced_in_spelled : (x : List ℕ) (new : PlainTerm) (ts : PlainTerms) → is_spelled_term new ≡ true → are_spelled_terms ts ≡ true → are_spelled_terms (replaced_in x new ts) ≡ true
  replaced_in_spelled x new no_term h k = refl
  replaced_in_spelled x new (term t ts) h k =
      let r = and_parts (is_spelled_term t) (are_spelled_terms ts) k in
      and_both (is_spelled_term (replaced x new t)) (are_spelled_terms (replaced_in x new ts)) (replaced_spelled x new t h r.0) (replaced_in_spelled x new ts h r.1)

-- ---- the parts of the program

alone : (b : Bool) → b ≡ true → (b && true) ≡ true
alone b h = and_both b true h refl

low_name : is_name (codes "low") ≡ true
unfolding name.is_reserved
low_name = refl

high_name : is_name (codes "high") ≡ true
unfolding name.is_reserved
high_name = refl

equal_spelled : is_spelled_term equal_ends ≡ true
unfolding name.is_reserved
equal_spelled = refl

kid_spelled : is_spelled_stmt kid_part ≡ true
unfolding name.is_reserved
kid_spelled = refl

leaf_spelled : (s : PlainSort) → is_spelled_sort s ≡ true → is_spelled_term (leaf s) ≡ true
leaf_spelled s h = and_both (is_spelled_sort s) (is_name (codes "low") && true) h (alone (is_name (codes "low")) low_name)

leaf_part-spelled : (s : PlainSort) (test : PlainTerm) → is_spelled_sort s ≡ true → is_spelled_term test ≡ true → is_spelled_stmt (leaf_part s test) ≡ true
leaf_part-spelled s test h k =
    and_both (is_spelled_term equal_ends) _ equal_spelled
    (alone _ (and_both (is_spelled_term test) _ k (alone (is_spelled_term (leaf s)) (leaf_spelled s h))))

range_spelled : (a b : ℤ) → int_le a b ≡ true → int_le (negsuc 4611686018427387903) a ≡ true → int_le b (pos 4611686018427387904) ≡ true → is_spelled_sort (ints a b) ≡ true
range_spelled a b h low high =
    alone _ (alone _ (and_both (int_le a b && int_le (negsuc 4611686018427387903) a) (int_le b (pos 4611686018427387904)) (and_both (int_le a b) (int_le (negsuc 4611686018427387903) a) h low) high))

-- the ends, and the numbers beside them, are within the limits
pub record AreEnds (lo hi : ℤ) : Type 0 where
  pub ordered : lo ≤ℤ hi
  pub low : in_limits lo ≡ true
  pub high : in_limits hi ≡ true
  pub lows : is_spelled_sort (ints lo (hi +ℤ pos 1)) ≡ true
  pub highs : is_spelled_sort (ints (lo -ℤ pos 1) hi) ≡ true

pub are_ends : (lo hi : ℤ) → has_ends lo hi ≡ true → AreEnds lo hi
are_ends lo hi h =
    let a = and_parts (int_lt (neg_ℤ (pos 4611686018427387904)) lo && int_le lo hi) (int_lt hi (pos 4611686018427387904)) h in
    let b = and_parts (int_lt (neg_ℤ (pos 4611686018427387904)) lo) (int_le lo hi) a.0 in
    let least = b.0 in
    let order = b.1 in
    let greatest = a.1 in
    record {
      ordered = grind (arith, int_rules);
      low = grind (arith, int_rules);
      high = grind (arith, int_rules);
      lows = range_spelled lo (hi +ℤ pos 1) (grind (arith, int_rules)) (grind (arith, int_rules)) (grind (arith, int_rules));
      highs = range_spelled (lo -ℤ pos 1) hi (grind (arith, int_rules)) (grind (arith, int_rules)) (grind (arith, int_rules));
    }

-- ---- the program

pub emitted_spelled : (t : PlainTheory) (p : PlainProgram) → IsRead t → program_for t ≡ Some p → is_spelled_program p ≡ true
emitted_spelled t p is e =
    let m = program_emits t p e in
    let lo : ℤ = m.lo in
    let hi : ℤ = m.hi in
    let ends = are_ends lo hi m.ends in
    let defs = list_all is_spelled_definition t.signature.definitions in
    let inputs = list_all is_spelled_name t.spec.inputs in
    let output = is_spelled_name (t.spec.output, t.spec.sort) in
    let a = and_parts (defs && inputs && is_spelled_term t.spec.condition && output) (is_spelled_term t.spec.relation) is.spelled in
    let b = and_parts (defs && inputs && is_spelled_term t.spec.condition) output a.0 in
    let c = and_parts (defs && inputs) (is_spelled_term t.spec.condition) b.0 in
    let e = and_parts defs inputs c.0 in
    let d = and_parts (is_name t.spec.output) (is_spelled_sort t.spec.sort) b.1 in
    let test = replaced_spelled t.spec.output (leaf t.spec.sort) t.spec.relation (leaf_spelled t.spec.sort d.1) a.1 in
    ap is_spelled_program m.is
    ∙ spelled_whole (emitted t lo hi) (record {
      definitions = e.0;
      inputs = e.1;
      condition = c.1;
      output = b.1;
      wanted = is.is_theory.wanted;
      main = alone _ (alone _ (and_both (in_limits lo) (in_limits hi && true) ends.low (alone (in_limits hi) ends.high)));
      parameters =
          and_both (is_spelled_name (codes "low", ints lo (hi +ℤ pos 1))) _ (and_both (is_name (codes "low")) (is_spelled_sort (ints lo (hi +ℤ pos 1))) low_name ends.lows)
          (alone _ (and_both (is_name (codes "high")) (is_spelled_sort (ints (lo -ℤ pos 1) hi)) high_name ends.highs));
      search = and_both (is_spelled_stmt (leaf_part t.spec.sort (replaced t.spec.output (leaf t.spec.sort) t.spec.relation))) _ (leaf_part-spelled t.spec.sort (replaced t.spec.output (leaf t.spec.sort) t.spec.relation) d.1 test) (alone (is_spelled_stmt kid_part) kid_spelled);
    })
