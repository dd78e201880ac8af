-- Terms with operators on words and rows.
use Rattle.std.specs.Prelude.{Bool, true, false, ◌||◌}
use Rattle.kid_term.specs.PlainTerm.{PlainHead, op, PlainTerm, var, number, truth, tag, app, bind, PlainTerms, no_term, term}
use Rattle.kid_term.specs.declared.operator.Op.TheVariants.{Word}

abbrev pub is_word_head : PlainHead → Bool
is_word_head (op (Word o)) = true
is_word_head h = false

-- whether such an operator stands anywhere in the term
abbrev mutual
  pub holds_word_operator : PlainTerm → Bool
  holds_word_operator (var x) = false
  holds_word_operator (number n) = false
  holds_word_operator (truth b) = false
  holds_word_operator (tag n) = false
  holds_word_operator (app h ts) = is_word_head h || some_hold_word_operator ts
  holds_word_operator (bind b x s t) = holds_word_operator s || holds_word_operator t

  pub some_hold_word_operator : PlainTerms → Bool
  some_hold_word_operator no_term = false
  some_hold_word_operator (term t ts) = holds_word_operator t || some_hold_word_operator ts
