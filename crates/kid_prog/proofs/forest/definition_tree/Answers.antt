use Rattle.kid_value.proofs.SortLemmas.{and_parts}
use Rattle.kid_term.specs.TermView.{plain_term}
use Rattle.kid_codec.specs.TermSpelling.{is_spelled_term}
use Rattle.kid_prog.proofs.forest.definition_tree.Goals as goal

pub term_tree-requires : goal.term_tree-requires
term_tree-requires c = (and_parts _ (is_spelled_term (plain_term c.args.definition.now.body)) c.requires).1
