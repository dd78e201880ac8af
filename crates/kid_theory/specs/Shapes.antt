-- The parts of a theory's forms by their shape. A word that is to be declared may be a name or not.
use Rattle.std.specs.Prelude.{ℕ, ℤ, List, [], ◌∷◌, Option, Some, None, option_map, if◌then◌else◌, codes}
use Rattle.kid_sexp.specs.Plain.{Plain, Plains, atom, list, none, more}
use Rattle.kid_value.specs.PlainSort.{PlainSort}
use Rattle.kid_value.specs.SortOrder.{both}
use Rattle.kid_term.specs.PlainTerm.{PlainTerm}
use Rattle.kid_term.specs.Names.{Names, PlainDef}
use Rattle.kid_term.specs.WordTerms.{holds_word_operator}
use Rattle.kid_codec.specs.Reading.{◌>>=◌}
use Rattle.kid_codec.specs.Shape.{form, single, couple, quadruple}
use Rattle.kid_codec.specs.SortSpelling.{spelled_number, spelled_sort}
use Rattle.kid_codec.specs.TermSpelling.{spelled_term}
use Rattle.kid_term.specs.PlainLaw.{PlainConclusion, equal, holds, PlainLaw}
use Rattle.kid_moves.specs.PlainRule.{PlainMove}
use Rattle.kid_lines.specs.LineReading.{spelled_move}

-- a word
abbrev pub word_of : Plain → Option (List ℕ)
word_of (atom w) = Some w
word_of (list ts) = None

-- a term; the operators on words and rows stand in programs alone
abbrev pub if_theory_term : PlainTerm → Option PlainTerm
if_theory_term t = if holds_word_operator t then None else Some t

abbrev pub theory_term : Plain → Option PlainTerm
theory_term t = spelled_term t >>= if_theory_term

abbrev pub theory_terms : Plains → Option (List PlainTerm)
theory_terms none = Some []
theory_terms (more t ts) = theory_term t >>= λ u. option_map (λ us. u ∷ us) (theory_terms ts)

-- a word with a sort
abbrev pub declared : Plain × Plain → Option (List ℕ × PlainSort)
declared p = both (λ w s. (w, s)) (word_of p.0) (spelled_sort p.1)

abbrev pub declared_pair : Plains → Option (List ℕ × PlainSort)
declared_pair ts = couple ts >>= declared

abbrev pub declared_list : Plain → Option (List ℕ × PlainSort)
declared_list (atom w) = None
declared_list (list ts) = declared_pair ts

-- a list of words with their sorts
abbrev pub declared_each : Plains → Option Names
declared_each none = Some []
declared_each (more t ts) = both (λ n ns. n ∷ ns) (declared_list t) (declared_each ts)

abbrev pub declared_names : Plain → Option Names
declared_names (atom w) = None
declared_names (list ts) = declared_each ts

-- what stands alone behind the form's word
abbrev pub lone : List ℕ → Plain → Option Plain
lone word t = form word t >>= single

abbrev pub lone_word : List ℕ → Plain → Option (List ℕ)
lone_word word t = lone word t >>= word_of

abbrev pub lone_number : List ℕ → Plain → Option ℤ
lone_number word t = lone word t >>= spelled_number

abbrev pub lone_term : List ℕ → Plain → Option PlainTerm
lone_term word t = lone word t >>= theory_term

-- a word and its sort behind the form's word
abbrev pub declared_form : List ℕ → Plain → Option (List ℕ × PlainSort)
declared_form word t = form word t >>= declared_pair

-- ---- definitions: a word, parameters, a sort and a body

abbrev pub with_body : List ℕ → Names → Option PlainSort → Option PlainTerm → Option PlainDef
with_body f ps s t = both (λ a b. record { name = f; parameters = ps; sort = a; body = b }) s t

abbrev pub definition_of : Plain × Plain × Plain × Plain → Option PlainDef
definition_of p = word_of p.0 >>= λ f. declared_names p.1 >>= λ ps. with_body f ps (spelled_sort p.2) (theory_term p.3)

abbrev pub definition_shape : Plain → Option PlainDef
definition_shape t = form (codes "def") t >>= quadruple >>= definition_of

-- ---- axioms and laws: a word, variables, conditions and a conclusion, and of a law the moves of its proof

abbrev pub given_terms : Plain → Option (List PlainTerm)
given_terms t = form (codes "given") t >>= theory_terms

abbrev pub equal_sides : Plain × Plain → Option PlainConclusion
equal_sides p = both equal (theory_term p.0) (theory_term p.1)

abbrev pub equal_parts : Plains → Option PlainConclusion
equal_parts ts = couple ts >>= equal_sides

abbrev pub holds_shape : Plain → Option PlainConclusion
holds_shape t = option_map holds (lone_term (codes "holds") t)

-- (equal LEFT RIGHT) or (holds TERM)
abbrev pub equal_or : Option Plains → Plain → Option PlainConclusion
equal_or (Some ts) t = equal_parts ts
equal_or None t = holds_shape t

abbrev pub conclusion_shape : Plain → Option PlainConclusion
conclusion_shape t = equal_or (form (codes "equal") t) t

abbrev pub with_conclusion : List ℕ → Names → Option (List PlainTerm) → Option PlainConclusion → Option PlainLaw
with_conclusion n vs given conclusion =
    both (λ cs c. record { name = n; variables = vs; conditions = cs; conclusion = c }) given conclusion

abbrev pub axiom_of : Plain × Plain × Plain × Plain → Option PlainLaw
axiom_of p = word_of p.0 >>= λ n. declared_names p.1 >>= λ vs. with_conclusion n vs (given_terms p.2) (conclusion_shape p.3)

abbrev pub axiom_shape : Plain → Option PlainLaw
axiom_shape t = form (codes "axiom") t >>= quadruple >>= axiom_of

abbrev pub spelled_moves : Plains → Option (List PlainMove)
spelled_moves none = Some []
spelled_moves (more t ts) = spelled_move t >>= λ m. option_map (λ ms. m ∷ ms) (spelled_moves ts)

-- (by MOVE ..)
abbrev pub proof_shape : Plain → Option (List PlainMove)
proof_shape t = form (codes "by") t >>= spelled_moves

abbrev pub law_with : Plain → Plain × Plain × Plain × Plain → Option (PlainLaw × List PlainMove)
law_with t p = both (λ l moves. (l, moves)) (axiom_of (t, p.0, p.1, p.2)) (proof_shape p.3)

abbrev pub law_of_parts : Plains → Option (PlainLaw × List PlainMove)
law_of_parts none = None
law_of_parts (more t ts) = quadruple ts >>= law_with t

abbrev pub law_shape : Plain → Option (PlainLaw × List PlainMove)
law_shape t = form (codes "law") t >>= law_of_parts
