-- A run of a program that was derived does what solving the theory does.
use Rattle.std.proofs.Common.{◌≡◌, ℕ, Bool, true, false, List, Option, Some, None, Result, Ok, refl, sym, ap, ◌∙◌}
use Rattle.std.specs.Prelude.{nat_le, length, if◌then◌else◌}
use Rattle.kid_sexp.specs.Reading.{reading}
use Rattle.kid_term.specs.Eval.{Env}
use Rattle.kid_term.specs.Names.{Names}
use Rattle.kid_term.specs.PlainTheory.{PlainTheory}
use Rattle.kid_prog.specs.declared.fault.LoadCode.TheVariants as code
use Rattle.kid_prog.specs.ProgramText.{program_text}
use Rattle.kid_prog.specs.Loading.{refused, from_forest, loading}
use Rattle.kid_prog.specs.PlainProgram.{PlainProgram}
use Rattle.kid_top.specs.declared.stop.Stop.{Stop}
use Rattle.kid_top.specs.Derivation.{derivation_text}
use Rattle.kid_top.specs.Done.{RunsAlike}
use Rattle.kid_top.specs.Outcome.{◌>>=◌, Work, runs, saves, theory_stage, program_or, program_file, program_stage, inputs_stage, script_program, run_inputs}
use Rattle.kid_top.proofs.Derives.{derive_parts}
use Rattle.kid_top.proofs.Headline.{solve_parts}
use Rattle.kid_top.proofs.Outcomes.{same_ok, stage_theory, script_gives}

-- the saved text
saved_text : (derivation program bytes text derivation_bytes program_bytes : List ℕ)
    → saves derivation program derivation_bytes program_bytes ≡ saves derivation program bytes text → program_bytes ≡ text
saved_text derivation program bytes text derivation_bytes program_bytes e = cc

-- ---- the program's file

if_loads : (bytes : List ℕ) (p : PlainProgram) (fits : Bool) → (if fits then from_forest (reading bytes) else refused 0 code.Large) ≡ Ok p → fits ≡ true
if_loads bytes p true e = refl
if_loads bytes p false e = cc

-- a text that loads is a file of the program
text_stage : (k : ℕ) (bytes : List ℕ) (p : PlainProgram) → loading bytes ≡ Ok p → program_stage k (Some bytes) ≡ Ok p
text_stage k bytes p e =
    ap (λ (fits : Bool). program_file (if fits then Some bytes else None)) (if_loads bytes p (nat_le (length bytes) 4194304) e)
    ∙ ap program_or e

-- ---- the inputs' file, whose number tells only where it is refused

inputs_anywhere : (j k : ℕ) (ns : Names) (file : Option (List ℕ)) (xs : List Env) → inputs_stage j ns file ≡ Ok xs → inputs_stage k ns file ≡ Ok xs
inputs_anywhere j k ns None xs e = cc
inputs_anywhere j k ns (Some bytes) xs e = e

-- the work of a run
abbrev ready : PlainProgram → ℕ → List Env → Result Work Stop
ready p fuel xs = Ok (runs p xs fuel)

run_ready : (k fuel : ℕ) (p : PlainProgram) (file : Option (List ℕ)) (xs : List Env) → inputs_stage k p.inputs file ≡ Ok xs → run_inputs k p file fuel ≡ Ok (runs p xs fuel)
run_ready k fuel p file xs e = ap (λ (r : Result (List Env) Stop). r >>= λ (ys : List Env). ready p fuel ys) e

pub runs_alike : RunsAlike
runs_alike files theory script inputs derivation program bytes text fuel w d held e =
    let a = derive_parts files theory script derivation program (saves derivation program bytes text) d in
    let b = solve_parts files theory script inputs fuel w e in
    let t : PlainTheory = a.of_theory in
    let p : PlainProgram = a.of_program in
    let xs : List Env = b.of_inputs in
    let one_theory = same_ok (theory_stage 1 (files theory)) t b.of_theory a.theory_read b.theory_read in
    let one_program = same_ok (script_program t (files script)) p b.program a.derived (ap (λ (u : PlainTheory). script_program u (files script)) one_theory ∙ b.derived) in
    let given = script_gives t (files script) p (stage_theory 1 (files theory) t a.theory_read) a.derived in
    let is_text = saved_text derivation program bytes text (derivation_text p) (program_text p) a.is in
    let staged : program_stage 1 (files program) ≡ Ok p =
    ap (program_stage 1) (held ∙ ap (λ (u : List ℕ). Some u) (sym is_text)) ∙ text_stage 1 (program_text p) p given.loads in
    let read = inputs_anywhere 3 2 p.inputs (files inputs) xs (ap (λ (q : PlainProgram). inputs_stage 3 q.inputs (files inputs)) one_program ∙ b.inputs_read) in
    let done : Work → Result Work Stop = λ v. Ok v in
    ap (λ (r : Result PlainProgram Stop). r >>= λ (q : PlainProgram). run_inputs 2 q (files inputs) fuel) staged
    ∙ run_ready 2 fuel p (files inputs) xs read
    ∙ ap done (ap (λ (q : PlainProgram). runs q xs fuel) one_program ∙ b.is)
