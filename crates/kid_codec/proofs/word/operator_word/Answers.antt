use Rattle.std.proofs.Common.{sym, ap, ◌∙◌, Some}
use Rattle.kid_term.specs.declared.operator.Op.TheVariants.{Logic, Number, Pair, Set, Seq, Map, Word}
use Rattle.kid_codec.specs.Word.{op_of}
use Rattle.kid_codec.proofs.Words.{op_of-word}
use Rattle.kid_codec.proofs.word.operator_word.Goals as goal

pub returns-in-Logic-clause-back : goal.returns-in-Logic-clause-back
returns-in-Logic-clause-back c = ap op_of c.logic_word.ensures ∙ op_of-word (Logic c.in-Logic.op) ∙ ap Some (sym c.in-Logic.is)

pub returns-in-Number-clause-back : goal.returns-in-Number-clause-back
returns-in-Number-clause-back c = ap op_of c.number_word.ensures ∙ op_of-word (Number c.in-Number.op) ∙ ap Some (sym c.in-Number.is)

pub returns-in-Pair-clause-back : goal.returns-in-Pair-clause-back
returns-in-Pair-clause-back c = ap op_of c.pair_word.ensures ∙ op_of-word (Pair c.in-Pair.op) ∙ ap Some (sym c.in-Pair.is)

pub returns-in-Set-clause-back : goal.returns-in-Set-clause-back
returns-in-Set-clause-back c = ap op_of c.set_word.ensures ∙ op_of-word (Set c.in-Set.op) ∙ ap Some (sym c.in-Set.is)

pub returns-in-Seq-clause-back : goal.returns-in-Seq-clause-back
returns-in-Seq-clause-back c = ap op_of c.seq_word.ensures ∙ op_of-word (Seq c.in-Seq.op) ∙ ap Some (sym c.in-Seq.is)

pub returns-in-Map-clause-back : goal.returns-in-Map-clause-back
returns-in-Map-clause-back c = ap op_of c.map_word.ensures ∙ op_of-word (Map c.in-Map.op) ∙ ap Some (sym c.in-Map.is)

pub returns-in-Word-clause-back : goal.returns-in-Word-clause-back
returns-in-Word-clause-back c = ap op_of c.word_operator_word.ensures ∙ op_of-word (Word c.in-Word.op) ∙ ap Some (sym c.in-Word.is)
