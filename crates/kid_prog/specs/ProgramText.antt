-- The text of a program.
use Rattle.std.specs.Prelude.{ℕ, List}
use Rattle.kid_sexp.specs.Printing.{text}
use Rattle.kid_prog.specs.PlainProgram.{PlainProgram}
use Rattle.kid_prog.specs.Spelling.{program_spelling}

abbrev pub program_text : PlainProgram → List ℕ
program_text p = text (program_spelling p)
