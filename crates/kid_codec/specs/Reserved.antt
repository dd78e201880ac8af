-- The words that are no names, by what they are for.
use Rattle.std.specs.Prelude.{ℕ, List, [], ◌∷◌, ◌++◌, codes}

-- the operators on values
abbrev pub operator_words : List (List ℕ)
operator_words =
    codes "not" ∷ codes "and" ∷ codes "or" ∷ codes "implies" ∷ codes "if" ∷ codes "eq" ∷ codes "le" ∷
    codes "lt" ∷ codes "add" ∷ codes "sub" ∷ codes "neg" ∷ codes "mul" ∷ codes "div" ∷ codes "mod" ∷
    codes "min" ∷ codes "max" ∷ codes "pair" ∷ codes "fst" ∷ codes "snd" ∷ codes "set" ∷ codes "range" ∷
    codes "in" ∷ codes "subset" ∷ codes "union" ∷ codes "with" ∷ codes "inter" ∷ codes "diff" ∷ codes "without" ∷
    codes "card" ∷ codes "sum" ∷ codes "least" ∷ codes "seq" ∷ codes "len" ∷ codes "at" ∷ codes "snoc" ∷
    codes "rest" ∷ codes "items" ∷ codes "total" ∷ codes "prefix" ∷ codes "map" ∷ codes "dom" ∷ codes "ran" ∷
    codes "get" ∷ codes "put" ∷ codes "drop" ∷ codes "fill" ∷ codes "submap" ∷ codes "fits" ∷ codes "narrow" ∷
    codes "cast" ∷ []

-- the binders
abbrev pub binder_words : List (List ℕ)
binder_words = codes "all" ∷ codes "some" ∷ codes "setof" ∷ codes "image" ∷ codes "sumof" ∷ []

-- the operators on words and rows
abbrev pub word_operator_words : List (List ℕ)
word_operator_words =
    codes "wenc" ∷ codes "wdec" ∷ codes "wor" ∷ codes "wand" ∷ codes "wnot" ∷ codes "wcard" ∷ codes "win" ∷
    codes "wleast" ∷ codes "renc" ∷ codes "rdec" ∷ codes "rget" ∷ codes "rput" ∷ codes "rdrop" ∷ []

-- the truth values and the sorts that no operator is named after
abbrev pub value_words : List (List ℕ)
value_words = codes "true" ∷ codes "false" ∷ codes "bool" ∷ codes "int" ∷ []

-- the forms of theories
abbrev pub theory_words : List (List ℕ)
theory_words =
    codes "theory" ∷ codes "def" ∷ codes "input" ∷ codes "require" ∷ codes "law" ∷ codes "axiom" ∷
    codes "given" ∷ codes "equal" ∷ codes "holds" ∷ codes "by" ∷ codes "output" ∷ codes "ensure" ∷ []

-- the forms of programs
abbrev pub program_words : List (List ℕ)
program_words = codes "program" ∷ codes "main" ∷ codes "search" ∷ codes "let" ∷ codes "for" ∷ codes "emit" ∷ codes "call" ∷ []

-- the steps of scripts, and the rules of rewriting
abbrev pub script_words : List (List ℕ)
script_words =
    codes "match" ∷ codes "filter" ∷ codes "cut" ∷ codes "simplify" ∷ codes "maintain" ∷ codes "refine" ∷
    codes "left" ∷ codes "right" ∷ codes "join" ∷ codes "again" ∷ codes "have" ∷ codes "copy" ∷ codes "back" ∷
    codes "normal" ∷ codes "closure" ∷ codes "want" ∷ codes "unfold" ∷ codes "fold" ∷ codes "compute" ∷
    codes "use" ∷ codes "fails" ∷ codes "uncast" ∷ []

abbrev pub reserved_words : List (List ℕ)
reserved_words = operator_words ++ binder_words ++ word_operator_words ++ value_words ++ theory_words ++ program_words ++ script_words
