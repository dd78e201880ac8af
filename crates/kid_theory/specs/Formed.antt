-- The rules that a theory file keeps, and which files are read.
use Rattle.std.specs.Prelude.{◌≡◌, ◌≤◌, ◌↔◌, ℕ, Bool, true, not, ◌&&◌, List, [], ◌∷◌, ◌++◌, length, Ok}
use Rattle.std.specs.List.{list_all}
use Rattle.kid_sexp.specs.Plain.{Plains, forest_len}
use Rattle.kid_sexp.specs.Spells.{Spells}
use Rattle.kid_value.specs.SortLimits.{is_allowed}
use Rattle.kid_term.specs.Names.{PlainDef}
use Rattle.kid_term.specs.PlainSpec.{is_wanted}
use Rattle.kid_term.specs.PlainTerm.{term_row}
use Rattle.kid_term.specs.Sorting.{sort_of}
use Rattle.kid_sorting.specs.Declaring.{are_allowed, is_truth, is_sorted_definition, is_shallow}
use Rattle.kid_codec.specs.DeclaredSpelling.{definitions_before, is_spelled_name, is_spelled_definition}
use Rattle.kid_codec.specs.Name.{is_name}
use Rattle.kid_codec.specs.TermSpelling.{is_spelled_term, are_spelled_terms}
use Rattle.kid_kernel.specs.Differ.{words_of}
use Rattle.kid_term.specs.PlainLaw.{PlainConclusion, equal, holds, PlainLaw}
use Rattle.kid_term.specs.PlainTheory.{PlainTheory}
use Rattle.kid_kernel.specs.SortedLaw.{is_sorted_law}
use Rattle.kid_kernel.specs.Wordless.{is_wordless, is_wordless_definition, is_wordless_law}
use Rattle.kid_lines.specs.LineSpelling.{is_spelled_move}
use Rattle.kid_theory.specs.Ahead.{calls_ahead}
use Rattle.kid_theory.specs.Before.{theory_before, are_shown}
use Rattle.kid_theory.specs.Claims.{PlainClaim, assumed, proved, claimed}
use Rattle.kid_theory.specs.Forms.{is_named_law}
use Rattle.kid_theory.specs.Known.{names_of}
use Rattle.kid_theory.specs.PlainFile.{PlainFile, output_of, relation_names, theory_of}
use Rattle.kid_theory.specs.Reading.{file_reading}
use Rattle.kid_theory.specs.Spelling.{from_inputs, file_spelling}
use Rattle.kid_theory.specs.Taken.{Taken, is_free, are_free}

-- ---- what has a spelling

abbrev pub is_spelled_conclusion : PlainConclusion → Bool
is_spelled_conclusion (equal l r) = is_spelled_term l && is_spelled_term r
is_spelled_conclusion (holds c) = is_spelled_term c

-- a law's names, sorts and terms have spellings
abbrev pub is_spelled_law : PlainLaw → Bool
is_spelled_law l = is_name l.name && list_all is_spelled_name l.variables && are_spelled_terms (term_row l.conditions) && is_spelled_conclusion l.conclusion

abbrev pub is_spelled_claim : PlainClaim → Bool
is_spelled_claim (assumed l) = is_spelled_law l
is_spelled_claim (proved l moves) = is_spelled_law l && list_all is_spelled_move moves

-- ---- definitions

-- a definition after those before and before these forms: its calls are not deep and call nothing ahead, its names are free, and it is sorted
abbrev pub is_formed_definition : List PlainDef → Plains → PlainDef → Bool
is_formed_definition before later d =
    is_shallow before d && is_free (names_of before) d.name && are_free [] d.parameters && not (calls_ahead d.name later d.body) && is_sorted_definition before d

abbrev pub are_formed_definitions : List PlainDef → List PlainDef → Plains → Bool
are_formed_definitions before [] later = true
are_formed_definitions before (d ∷ ds) later =
    is_formed_definition before (definitions_before ds later) d && are_formed_definitions (before ++ d ∷ []) ds later

-- ---- names after the definitions

-- each law is named after what is taken, and so is the output after all of them
abbrev pub are_named_before : Taken → Taken → List PlainLaw → List ℕ → Bool
are_named_before taken variables [] output = is_free (taken ++ variables) output
are_named_before taken variables (a ∷ others) output =
    is_named_law taken variables a && are_named_before (taken ++ a.name ∷ []) (variables ++ words_of a.variables) others output

-- the names of the definitions and the inputs
abbrev pub names_before_laws : PlainFile → Taken
names_before_laws f = names_of f.definitions ++ words_of f.inputs

-- ---- the file

-- A theory file keeps the rules: at most 1024 forms, and for each part a spelling, no operator on words or rows, and what its form asks of it. Each law is proved from what stands before it.
pub record IsFormed (f : PlainFile) : Type 0 where
  pub named : is_name f.title ≡ true
  pub few_forms : forest_len (file_spelling f) ≤ 1024
  pub definitions_spelled : list_all is_spelled_definition f.definitions ≡ true
  pub definitions_wordless : list_all is_wordless_definition f.definitions ≡ true
  pub definitions_formed : are_formed_definitions [] f.definitions (from_inputs f) ≡ true
  pub few_inputs : length f.inputs ≤ 16
  pub inputs_spelled : list_all is_spelled_name f.inputs ≡ true
  pub inputs_free : are_free (names_of f.definitions) f.inputs ≡ true
  pub inputs_allowed : are_allowed f.inputs ≡ true
  pub condition_spelled : is_spelled_term f.condition ≡ true
  pub condition_wordless : is_wordless f.condition ≡ true
  pub condition_sorted : is_truth (sort_of f.definitions f.inputs f.condition) ≡ true
  pub claims_spelled : list_all is_spelled_claim f.claims ≡ true
  pub laws_wordless : list_all is_wordless_law (claimed f.claims) ≡ true
  pub laws_sorted : list_all (is_sorted_law f.definitions f.inputs) (claimed f.claims) ≡ true
  pub laws_named : are_named_before (names_before_laws f) [] (claimed f.claims) f.output ≡ true
  pub laws_shown : are_shown (theory_before f.definitions f.inputs f.condition) f.claims ≡ true
  pub output_spelled : is_spelled_name (output_of f) ≡ true
  pub sort_allowed : is_allowed f.sort ≡ true
  pub relation_spelled : is_spelled_term f.relation ≡ true
  pub relation_wordless : is_wordless f.relation ≡ true
  pub relation_sorted : is_truth (sort_of f.definitions (relation_names f) f.relation) ≡ true
  pub wanted : is_wanted f.first ≡ true

-- The bytes are at most so many, and they spell the file, which keeps the rules.
pub record IsFileOf (bytes : List ℕ) (f : PlainFile) : Type 0 where
  pub few : length bytes ≤ 4194304
  pub formed : IsFormed f
  pub spells : Spells bytes (file_spelling f)

-- bytes are read as a theory file exactly where they spell it and it keeps the rules
abbrev pub FilesAreRead : Type 0
FilesAreRead = (bytes : List ℕ) (f : PlainFile) → (file_reading bytes ≡ Ok f) ↔ IsFileOf bytes f

-- the theory is that of a file that the bytes spell, which keeps the rules
pub record IsSpelledBy (bytes : List ℕ) (t : PlainTheory) : Type 0 where
  pub file : PlainFile
  pub gives : theory_of file ≡ t
  pub is_file : IsFileOf bytes file
