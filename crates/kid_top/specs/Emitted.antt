-- The program that searches a theory's output, which is a range of integers, by halving it.
use Rattle.std.specs.Prelude.{ℤ, pos, neg_ℤ, ◌+ℤ◌, ◌-ℤ◌, int_lt, int_le, Bool, true, not, ◌&&◌, [], ◌∷◌, Some, None, Option, if◌then◌else◌, codes}
use Rattle.kid_value.specs.PlainSort.{PlainSort, ints}
use Rattle.kid_term.specs.PlainTerm.{PlainTerm, var, number, truth, app, op, cast, no_term, term}
use Rattle.kid_term.specs.Names.{is_named}
use Rattle.kid_term.specs.PlainSpec.{relation_scope}
use Rattle.kid_term.specs.Substitution.{replaced, captures}
use Rattle.kid_term.specs.declared.operator.Op.TheVariants.{Logic, Number}
use Rattle.kid_term.specs.declared.operator.LogicOp.TheVariants.{Eq}
use Rattle.kid_term.specs.declared.operator.NumberOp.{NumberOp}
use Rattle.kid_term.specs.declared.operator.NumberOp.TheVariants.{Lt, Add, Div}
use Rattle.kid_term.specs.PlainTheory.{PlainTheory}
use Rattle.kid_prog.specs.PlainStmt.{PlainStmt, when, emit, call, PlainStmts, no_stmt, stmt}
use Rattle.kid_prog.specs.PlainProgram.{PlainProgram}

-- the lower and the upper end of what is left to search
abbrev pub low : PlainTerm
low = var (codes "low")

abbrev pub high : PlainTerm
high = var (codes "high")

abbrev pub number_pair : NumberOp → PlainTerm → PlainTerm → PlainTerm
number_pair o s t = app (op (Number o)) (term s (term t no_term))

abbrev pub equal_ends : PlainTerm
equal_ends = app (op (Logic Eq)) (term low (term high no_term))

abbrev pub middle : PlainTerm
middle = number_pair Div (number_pair Add low high) (number (pos 2))

-- the value of the output where one integer is left
abbrev pub leaf : PlainSort → PlainTerm
leaf s = app (cast s) (term low no_term)

abbrev pub single : PlainStmt → PlainStmts
single s = stmt s no_stmt

-- a call that no filter guards
abbrev pub open_call : PlainTerm → PlainTerm → PlainStmt
open_call a b = when (truth true) (single (call (a ∷ b ∷ [])))

-- one integer is left: it is found where the test is true
abbrev pub leaf_part : PlainSort → PlainTerm → PlainStmt
leaf_part s test = when equal_ends (single (when test (single (emit (leaf s)))))

-- more are left: the halves in their order
abbrev pub kid_part : PlainStmt
kid_part = when (number_pair Lt low high) (stmt (open_call low middle) (single (open_call (number_pair Add middle (number (pos 1))) high)))

-- the program that searches from lo to hi, with this test where one integer is left
abbrev pub emitted_with : PlainTheory → PlainTerm → ℤ → ℤ → PlainProgram
emitted_with t test lo hi = record {
  definitions = t.signature.definitions;
  inputs = t.spec.inputs;
  condition = t.spec.condition;
  output = t.spec.output;
  sort = t.spec.sort;
  first = t.spec.first;
  main = single (open_call (number lo) (number hi));
  parameters = (codes "low", ints lo (hi +ℤ pos 1)) ∷ (codes "high", ints (lo -ℤ pos 1) hi) ∷ [];
  search = stmt (leaf_part t.spec.sort test) (single kid_part);
}

-- the test is the relation with the leaf in the output's place
abbrev pub emitted : PlainTheory → ℤ → ℤ → PlainProgram
emitted t lo hi = emitted_with t (replaced t.spec.output (leaf t.spec.sort) t.spec.relation) lo hi

-- whether no input and not the output has one of the search's own names
abbrev pub is_apart : PlainTheory → Bool
is_apart t = not (is_named (codes "low") (relation_scope t.spec)) && not (is_named (codes "high") (relation_scope t.spec))

-- whether the leaf may stand in the relation in the output's place
abbrev pub takes_leaf : PlainTheory → Bool
takes_leaf t = not (captures t.spec.output (leaf t.spec.sort) t.spec.relation)

-- whether the ends of the search lie within the limits of integers
abbrev pub has_ends : ℤ → ℤ → Bool
has_ends lo hi = int_lt (neg_ℤ (pos 4611686018427387904)) lo && int_le lo hi && int_lt hi (pos 4611686018427387904)

abbrev pub if_takes_leaf : PlainTheory → ℤ → ℤ → Option PlainProgram
if_takes_leaf t lo hi = if takes_leaf t then Some (emitted t lo hi) else None

-- the program for a theory, where there is one
abbrev pub program_at : PlainTheory → PlainSort → Option PlainProgram
program_at t (ints lo hi) = if has_ends lo hi && is_apart t then if_takes_leaf t lo hi else None
program_at t s = None

abbrev pub program_for : PlainTheory → Option PlainProgram
program_for t = program_at t t.spec.sort
