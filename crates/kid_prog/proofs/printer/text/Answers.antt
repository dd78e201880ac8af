use Rattle.std.proofs.Common.{ap, ◌∙◌}
use Rattle.kid_sexp.specs.Printing.{is_printable}
use Rattle.kid_prog.specs.ProgramView.{plain_program}
use Rattle.kid_prog.proofs.Printable.{program_printable}
use Rattle.kid_prog.proofs.printer.text.Goals as goal

pub print-requires : goal.print-requires
print-requires c = ap is_printable c.in_ok-forest.ensures ∙ program_printable (plain_program c.args.program.now) c.requires
