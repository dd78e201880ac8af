-- A plan of a search as plain data.
use Rattle.std.specs.Prelude.{ℕ, List}
use Rattle.kid_value.specs.PlainSort.{PlainSort}
use Rattle.kid_term.specs.PlainTerm.{PlainTerm}
use Rattle.kid_search.specs.Pieces.{PlainPieces}
use Rattle.kid_search.specs.declared.cut_kind.CutKind.{CutKind}

-- a cut: what it changes, and the term whose value it does this by
pub record PlainCut : Type 0 where
  pub kind : CutKind
  pub term : PlainTerm

-- a maintained parameter: the expression whose value it has, and the terms that give this value at the start and at each kid
pub record PlainParameter : Type 0 where
  pub name : List ℕ
  pub sort : PlainSort
  pub expression : PlainTerm
  pub start : PlainTerm
  pub kids : List PlainTerm

-- The pieces, what prunes the search, and the terms by which a program does it: tests of the start, the leaf and each kid, and the
-- arguments of the call for each kid after the cuts.
pub record PlainPlan : Type 0 where
  pub pieces : PlainPieces
  pub cuts : List PlainCut
  pub filters : List PlainTerm
  pub start_test : PlainTerm
  pub leaf_test : PlainTerm
  pub kid_tests : List PlainTerm
  pub calls : List (List PlainTerm)
  pub parameters : List PlainParameter
