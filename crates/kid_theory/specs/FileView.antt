-- A theory file of the program as plain data.
use Rattle.kid_value.specs.SortView.{plain_sort}
use Rattle.kid_term.specs.TermView.{plain_term}
use Rattle.kid_theory.specs.PlainFile.{PlainFile}
use Rattle.kid_theory.specs.declared.file.TheoryFile.{TheoryFile}

abbrev pub plain_file : TheoryFile → PlainFile
plain_file f = record {
  title = f.title;
  definitions = f.signature.definitions;
  inputs = f.signature.inputs;
  condition = plain_term f.condition;
  claims = f.claims;
  output = f.output;
  sort = plain_sort f.sort;
  relation = plain_term f.relation;
  first = f.first;
}
