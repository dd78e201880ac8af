-- Terms of one operator over a row of terms.
use Rattle.std.specs.Prelude.{List}
use Rattle.kid_term.specs.PlainTerm.{op, PlainTerm, app, term_row}
use Rattle.kid_term.specs.declared.operator.Op.{Op}
use Rattle.kid_term.specs.declared.operator.Op.TheVariants as ops
use Rattle.kid_term.specs.declared.operator.LogicOp.{LogicOp}
use Rattle.kid_term.specs.declared.operator.NumberOp.{NumberOp}
use Rattle.kid_term.specs.declared.operator.SetOp.{SetOp}
use Rattle.kid_term.specs.declared.operator.SeqOp.{SeqOp}
use Rattle.kid_term.specs.declared.operator.MapOp.{MapOp}

abbrev pub applied : Op → List PlainTerm → PlainTerm
applied o ts = app (op o) (term_row ts)

abbrev pub on_truths : LogicOp → List PlainTerm → PlainTerm
on_truths o ts = app (op (ops.Logic o)) (term_row ts)

abbrev pub on_numbers : NumberOp → List PlainTerm → PlainTerm
on_numbers o ts = app (op (ops.Number o)) (term_row ts)

abbrev pub on_sets : SetOp → List PlainTerm → PlainTerm
on_sets o ts = app (op (ops.Set o)) (term_row ts)

abbrev pub on_seqs : SeqOp → List PlainTerm → PlainTerm
on_seqs o ts = app (op (ops.Seq o)) (term_row ts)

abbrev pub on_maps : MapOp → List PlainTerm → PlainTerm
on_maps o ts = app (op (ops.Map o)) (term_row ts)
