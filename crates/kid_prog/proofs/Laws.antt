-- What holds of loading and of the text.
use Rattle.std.proofs.Common.{◌≡◌, ℕ, List, Result, Ok, Err, sym, ◌∙◌, subst}
use Rattle.std.specs.Prelude.{IfOk}
use Rattle.kid_sexp.specs.Spells.{Spells}
use Rattle.kid_sexp.proofs.Printed.{text-only}
use Rattle.kid_sexp.proofs.Spelled.{reading-spelled}
use Rattle.kid_prog.specs.PlainProgram.{PlainProgram}
use Rattle.kid_prog.specs.Formats.{format_for}
use Rattle.kid_prog.specs.ProgramText.{program_text}
use Rattle.kid_prog.specs.Tags.{program_has_tags}
use Rattle.kid_prog.specs.Laws.{IsLoaded, LoadsAreSpelled, TextsGiveBack}
use Rattle.kid_prog.specs.Loading.{Loads, loading}
use Rattle.kid_prog.specs.ProgramView.{plain_program}
use Rattle.kid_prog.specs.Rules.{IsRunnable}
use Rattle.kid_prog.specs.Spelling.{program_spelling}
use Rattle.kid_prog.specs.declared.fault.LoadFault.{LoadFault}
use Rattle.kid_prog.specs.declared.program.Program.{Program}
use Rattle.kid_prog.proofs.LoadTold.{program_told}
use Rattle.kid_prog.proofs.Printable.{program_printable}
use Rattle.kid_prog.proofs.ProgramParts.{spelled_parts}
use Rattle.kid_prog.proofs.SpellingSame.{spelling_same}
use Rattle.kid_prog.proofs.Stages.{loaded_forest}

pub loaded_runnable : (bytes : List ℕ) (p : PlainProgram) → loading bytes ≡ Ok p → IsRunnable p
loaded_runnable bytes p e = let f = loaded_forest bytes p e in (program_told f.0 p f.2).runnable

pub loads_spelled : LoadsAreSpelled
loads_spelled bytes p e =
    let f = loaded_forest bytes p e in
    let told = program_told f.0 p f.2 in
    record { runnable = told.runnable; spelled = told.spelled; format = told.format; stands = told.stands; spells = subst (Spells bytes) told.trees (reading-spelled bytes f.0 f.1) }

-- a program that was loaded
pub loaded_result : (bytes : List ℕ) (r : Result Program LoadFault) → Loads plain_program r (loading bytes) → IfOk r (λ p. IsLoaded bytes (plain_program p))
loaded_result bytes (Ok p) e = loads_spelled bytes (plain_program p) e
loaded_result bytes (Err fault) e = tt

pub texts_back : TextsGiveBack
texts_back p q h e =
    let f = loaded_forest (program_text p) q e in
    let told = program_told f.0 q f.2 in
    let same = text-only (program_spelling p) f.0 (program_printable p h) f.1 in
    spelling_same told.format (format_for (program_has_tags p)) q p (spelled_parts q told.spelled) (spelled_parts p h) (sym told.trees ∙ same)
