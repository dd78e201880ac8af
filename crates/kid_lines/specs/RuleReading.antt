-- What rule a tree is read as.
use Rattle.std.specs.Prelude.{ℕ, ℤ, pos, negsuc, ◌==◌, nat_le, List, [], ◌∷◌, Option, Some, None, option_map, if◌then◌else◌, codes, Result, Ok, Err}
use Rattle.std.specs.Str.{bytes_eq}
use Rattle.kid_sexp.specs.Plain.{Plain, Plains, atom, list, none, more}
use Rattle.kid_value.specs.SortOrder.{both}
use Rattle.kid_term.specs.PlainTerm.{PlainTerm}
use Rattle.kid_term.specs.WordTerms.{holds_word_operator}
use Rattle.kid_codec.specs.Name.{is_name}
use Rattle.kid_codec.specs.NameSpelling.{spelled_name}
use Rattle.kid_codec.specs.Number.{number_of}
use Rattle.kid_codec.specs.Reading.{◌>>=◌}
use Rattle.kid_codec.specs.Shape.{single}
use Rattle.kid_codec.specs.TermSpelling.{term_reading}
use Rattle.kid_codec.specs.declared.fault.CodecFault.{CodecFault}
use Rattle.kid_codec.specs.Word.{first_with}
use Rattle.kid_moves.specs.PlainRule.{PlainRule, by_equation, by_implication, by_binder, by_law, by_unfolding, by_folding, by_computing, by_fact, by_holding, by_failing, by_uncasting}
use Rattle.kid_lines.specs.RuleSpelling.{rule_word}

-- ---- numbers

-- a number from 0 to the top
abbrev pub up_to : ℕ → ℤ → Option ℕ
up_to top (pos n) = if nat_le n top then Some n else None
up_to top (negsuc n) = None

abbrev pub spelled_index : Plain → Option ℕ
spelled_index (atom w) = number_of w >>= up_to 4294967295
spelled_index (list ts) = None

-- ---- terms

abbrev pub without_words : Result PlainTerm CodecFault → Option PlainTerm
without_words (Ok t) = if holds_word_operator t then None else Some t
without_words (Err fault) = None

-- a term whose casts are to allowed sorts, without the operators on words and rows
abbrev pub spelled_plain_term : Plain → Option PlainTerm
spelled_plain_term t = without_words (term_reading t)

abbrev pub spelled_plain_terms : Plains → Option (List PlainTerm)
spelled_plain_terms none = Some []
spelled_plain_terms (more t ts) = spelled_plain_term t >>= λ u. option_map (λ us. u ∷ us) (spelled_plain_terms ts)

-- ---- rules that are one word

-- the rule of a letter and a number
abbrev pub rule_of_letter : ℕ → ℕ → Option PlainRule
rule_of_letter c n =
    if c == 101 then Some (by_equation n)
    else (if c == 109 then Some (by_implication n)
    else (if c == 98 then Some (by_binder n) else None))

abbrev pub numbered_rule : List ℕ → Option PlainRule
numbered_rule [] = None
numbered_rule (c ∷ cs) = number_of cs >>= λ z. up_to 255 z >>= rule_of_letter c

-- the rules that have a word of their own, which no number or name stands behind
abbrev pub fixed_rules : List PlainRule
fixed_rules = by_unfolding ∷ by_computing ∷ by_holding ∷ by_failing ∷ by_uncasting ∷ []

abbrev pub fixed_rule : List ℕ → Option PlainRule
fixed_rule w = first_with rule_word fixed_rules w

abbrev pub or_else : {A : Type 0} → Option A → Option A → Option A
or_else (Some a) o = Some a
or_else None o = o

abbrev pub word_rule : List ℕ → Option PlainRule
word_rule w = if is_name w then Some (by_law w) else or_else (fixed_rule w) (numbered_rule w)

-- ---- rules with their arguments

abbrev pub Ruled : Type 0
Ruled = PlainRule × List PlainTerm

-- the word that a list begins with, and what stands behind it
abbrev pub headed_parts : Plain → Option (List ℕ × Plains)
headed_parts (atom w) = None
headed_parts (list none) = None
headed_parts (list (more (list us) ts)) = None
headed_parts (list (more (atom w) ts)) = Some (w, ts)

-- what stands behind `use`
abbrev pub used : Plains → Option Ruled
used ts = single ts >>= λ t. option_map (λ k. (by_fact k, [])) (spelled_index t)

-- what stands behind `fold`
abbrev pub folded : Plains → Option Ruled
folded none = None
folded (more t ts) = both (λ f us. (by_folding f, us)) (spelled_name t) (spelled_plain_terms ts)

-- what stands behind another word, which is at least one term
abbrev pub argued : List ℕ → Plains → Option Ruled
argued w none = None
argued w (more t ts) = both (λ r us. (r, us)) (word_rule w) (spelled_plain_terms (more t ts))

abbrev pub ruled_by : List ℕ → Plains → Option Ruled
ruled_by w ts = if bytes_eq w (codes "use") then used ts else (if bytes_eq w (codes "fold") then folded ts else argued w ts)

abbrev pub spelled_rule : Plain → Option Ruled
spelled_rule (atom w) = option_map (λ r. (r, [])) (word_rule w)
spelled_rule (list ts) = headed_parts (list ts) >>= λ p. ruled_by p.0 p.1
