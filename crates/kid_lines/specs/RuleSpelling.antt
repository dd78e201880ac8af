-- Rules as trees, and those that have a spelling.
use Rattle.std.specs.Prelude.{ℕ, pos, Bool, true, false, not, ◌&&◌, nat_le, List, [], ◌∷◌, codes}
use Rattle.std.specs.Fmt.{signed_decimal}
use Rattle.std.specs.List.{list_all}
use Rattle.kid_sexp.specs.Plain.{Plain, atom, more, one}
use Rattle.kid_term.specs.PlainTerm.{PlainTerm, term_row}
use Rattle.kid_term.specs.WordTerms.{holds_word_operator}
use Rattle.kid_codec.specs.Name.{is_name}
use Rattle.kid_codec.specs.SortSpelling.{number_tree, headed}
use Rattle.kid_codec.specs.TermSpelling.{term_spellings, is_spelled_term}
use Rattle.kid_moves.specs.PlainRule.{PlainRule, by_equation, by_implication, by_binder, by_law, by_unfolding, by_folding, by_computing, by_fact, by_holding, by_failing, by_uncasting}

-- a letter before a number
abbrev pub lettered : ℕ → ℕ → List ℕ
lettered c n = c ∷ signed_decimal (pos n)

-- the word that a rule is or begins with: e, m or b before a number, the name of a law, or a word of its own
abbrev pub rule_word : PlainRule → List ℕ
rule_word (by_equation n) = lettered 101 n
rule_word (by_implication n) = lettered 109 n
rule_word (by_binder n) = lettered 98 n
rule_word (by_law f) = f
rule_word by_unfolding = codes "unfold"
rule_word (by_folding f) = codes "fold"
rule_word by_computing = codes "compute"
rule_word (by_fact k) = codes "use"
rule_word by_holding = codes "holds"
rule_word by_failing = codes "fails"
rule_word by_uncasting = codes "uncast"

-- a word alone, or a list of it and the terms
abbrev pub worded : List ℕ → List PlainTerm → Plain
worded w [] = atom w
worded w (t ∷ ts) = headed w (term_spellings (term_row (t ∷ ts)))

-- the tree of a rule with its arguments: (fold NAME TERM ..), (use NUMBER), WORD or (WORD TERM ..)
abbrev pub rule_spelling : PlainRule → List PlainTerm → Plain
rule_spelling (by_folding f) ts = headed (codes "fold") (more (atom f) (term_spellings (term_row ts)))
rule_spelling (by_fact k) ts = headed (codes "use") (one (number_tree (pos k)))
rule_spelling r ts = worded (rule_word r) ts

-- whether a number counts children or facts
abbrev pub is_index : ℕ → Bool
is_index n = nat_le n 4294967295

-- whether the numbers in a rule are no greater than they may be, and its names are names
abbrev pub is_spelled_word : PlainRule → Bool
is_spelled_word (by_equation n) = nat_le n 255
is_spelled_word (by_implication n) = nat_le n 255
is_spelled_word (by_binder n) = nat_le n 255
is_spelled_word (by_law f) = is_name f
is_spelled_word (by_folding f) = is_name f
is_spelled_word (by_fact k) = is_index k
is_spelled_word r = true

-- the terms that stand in lines and moves, without the operators on words and rows
abbrev pub is_plain_term : PlainTerm → Bool
is_plain_term t = is_spelled_term t && not (holds_word_operator t)

-- whether the rule may have the arguments; a fact takes none
abbrev pub may_have : PlainRule → List PlainTerm → Bool
may_have (by_fact k) (t ∷ ts) = false
may_have r ts = true

-- the rules with arguments that have a spelling
abbrev pub is_spelled_rule : PlainRule → List PlainTerm → Bool
is_spelled_rule r ts = is_spelled_word r && may_have r ts && list_all is_plain_term ts
