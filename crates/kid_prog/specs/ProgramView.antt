-- A program of the code as plain data.
use Rattle.kid_value.specs.SortView.{plain_sort}
use Rattle.kid_term.specs.TermView.{plain_term}
use Rattle.kid_prog.specs.PlainStmt.{stmt_row}
use Rattle.kid_prog.specs.PlainProgram.{PlainProgram}
use Rattle.kid_prog.specs.declared.program.Program.{Program}

abbrev pub plain_program : Program → PlainProgram
plain_program p = record {
  definitions = p.signature.definitions;
  inputs = p.signature.inputs;
  condition = plain_term p.condition;
  output = p.output;
  sort = plain_sort p.sort;
  first = p.first;
  main = stmt_row p.main;
  parameters = p.parameters;
  search = stmt_row p.search;
}
