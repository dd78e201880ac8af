-- A search program as plain data.
use Rattle.std.specs.Prelude.{ℕ, List, Option}
use Rattle.kid_value.specs.PlainSort.{PlainSort}
use Rattle.kid_term.specs.PlainTerm.{PlainTerm}
use Rattle.kid_term.specs.Names.{Names, PlainDef}
use Rattle.kid_prog.specs.PlainStmt.{PlainStmts}

pub record PlainProgram : Type 0 where
  pub definitions : List PlainDef
  pub inputs : Names
  pub condition : PlainTerm
  pub output : List ℕ
  pub sort : PlainSort
  pub first : Option ℕ
  pub main : PlainStmts
  pub parameters : Names
  pub search : PlainStmts
