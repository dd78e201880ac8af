-- What the trees of a row spell.
use Rattle.std.specs.Prelude.{◌≡◌, ℕ, List, [], ◌∷◌, codes, Result, Ok, Err, zero, suc}
use Rattle.kid_sexp.specs.Plain.{Plain, Plains, atom, list, join, one}
use Rattle.kid_term.specs.PlainTerm.{PlainTerm, term_row}
use Rattle.kid_term.specs.TermView.{plain_term}
use Rattle.kid_term.specs.declared.Term.{Term}
use Rattle.kid_term.specs.declared.why.Why.{Why}
use Rattle.kid_term.specs.declared.why.Why.TheVariants.{NoPath, UnknownLaw, NoMatch, Capture, Condition, IllSorted, Limit}
use Rattle.kid_codec.specs.TermSpelling.{term_spelling, term_spellings}

-- the number of a condition that does not hold; no row has a greater one
abbrev pub condition_word : ℕ → List ℕ
condition_word (suc zero) = codes "condition-1"
condition_word (suc (suc zero)) = codes "condition-2"
condition_word (suc (suc (suc zero))) = codes "condition-3"
condition_word n = []

-- the word of a refusal; those that no row has are no word
abbrev pub why_word : Why → List ℕ
why_word NoPath = codes "no-path"
why_word UnknownLaw = codes "unknown-law"
why_word NoMatch = codes "no-match"
why_word Capture = codes "capture"
why_word (Condition n) = condition_word n
why_word IllSorted = codes "ill-sorted"
why_word Limit = codes "limit"
why_word why = []

abbrev pub spellings : List PlainTerm → Plains
spellings ts = term_spellings (term_row ts)

-- the new term is spelled by what is wanted, or that is the refusal and the old term is given back
abbrev pub Answers : Result Term (Term × Why) → Plain → Plain → Type 0
Answers (Ok new) old want = want ≡ term_spelling (plain_term new)
Answers (Err p) old want = (want ≡ atom (why_word p.1)) × (old ≡ term_spelling (plain_term p.0))

-- the tree of one term more
abbrev pub with_last : Plain → Plain → Plain
with_last (list ts) want = list (join ts (one want))
with_last (atom word) want = atom word

-- there is one fact more, which is wanted, or that is the refusal and there are those at the start
abbrev pub Follows : {A : Type 0} → Result A Why → List PlainTerm → Plain → Plain → Type 0
Follows (Ok x) facts start want = with_last start want ≡ list (spellings facts)
Follows (Err why) facts start want = (want ≡ atom (why_word why)) × (start ≡ list (spellings facts))
