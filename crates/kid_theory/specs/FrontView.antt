-- What the forms before hold, in the program.
use Rattle.kid_kernel.specs.TheoryView.{plain_theory}
use Rattle.kid_theory.specs.Reading as plain
use Rattle.kid_theory.specs.declared.reader.Front.{Front}

abbrev pub plain_front : Front → plain.Front
plain_front f = record {
  title = f.title;
  theory = plain_theory f.theory;
  claims = f.claims;
  taken = f.taken;
  variables = f.variables;
}
