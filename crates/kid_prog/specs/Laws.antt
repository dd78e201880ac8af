-- What holds of loading and of the text.
use Rattle.std.specs.Prelude.{◌≡◌, ℕ, ◌≤◌, true, List, length, Ok}
use Rattle.kid_sexp.specs.Plain.{depth}
use Rattle.kid_sexp.specs.Spells.{Spells}
use Rattle.kid_prog.specs.Formats.{may_stand}
use Rattle.kid_prog.specs.Formed.{IsFormed}
use Rattle.kid_prog.specs.PlainProgram.{PlainProgram}
use Rattle.kid_prog.specs.Rules.{IsRunnable}
use Rattle.kid_prog.specs.Spelling.{spelling_in, program_spelling, is_spelled_program}
use Rattle.kid_prog.specs.Loading.{loading}
use Rattle.kid_prog.specs.ProgramText.{program_text}
use Rattle.kid_prog.specs.Tags.{program_has_tags}
use Rattle.kid_prog.specs.declared.format.Format.{Format}

-- a program that loads can be run, may stand in a file of some format, and is the one that the file's forms spell in that format
pub record IsLoaded (bytes : List ℕ) (p : PlainProgram) : Type 0 where
  pub runnable : IsRunnable p
  pub spelled : is_spelled_program p ≡ true
  pub format : Format
  pub stands : may_stand format (program_has_tags p) ≡ true
  pub spells : Spells bytes (spelling_in format p)

abbrev pub LoadsAreSpelled : Type 0
LoadsAreSpelled = (bytes : List ℕ) (p : PlainProgram) → loading bytes ≡ Ok p → IsLoaded bytes p

-- where a program's text loads, it gives the program
abbrev pub TextsGiveBack : Type 0
TextsGiveBack = (p q : PlainProgram) → is_spelled_program p ≡ true → loading (program_text p) ≡ Ok q → q ≡ p

-- a program that has a spelling and keeps the rules loads from each file of at most 4,194,304 bytes that spells it in a format in which it may stand
abbrev pub FormedProgramsLoad : Type 0
FormedProgramsLoad = (bytes : List ℕ) (f : Format) (p : PlainProgram) → is_spelled_program p ≡ true → IsFormed p → may_stand f (program_has_tags p) ≡ true → length bytes ≤ 4194304 → Spells bytes (spelling_in f p) → loading bytes ≡ Ok p

-- so does its own text, where lists nest at most 250 deep in it
abbrev pub TextsLoad : Type 0
TextsLoad = (p : PlainProgram) → is_spelled_program p ≡ true → IsFormed p → depth (program_spelling p) ≤ 250 → length (program_text p) ≤ 4194304 → loading (program_text p) ≡ Ok p

-- no other files load: with what loads_are_spelled says, these are all
abbrev pub LoadsAreFormed : Type 0
LoadsAreFormed = (bytes : List ℕ) (p : PlainProgram) → loading bytes ≡ Ok p → (length bytes ≤ 4194304) × IsFormed p
