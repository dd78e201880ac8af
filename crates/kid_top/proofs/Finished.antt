-- Runs that were made are the work.
use Rattle.std.proofs.Common.{◌≡◌, ℕ, List, ◌++◌, Option, option_map, refl, sym, ap, ◌∙◌, subst}
use Rattle.kid_outer.specs.Held.{Held}
use Rattle.kid_value.specs.PlainValue.{PlainValue}
use Rattle.kid_prog.specs.ProgramView.{plain_program}
use Rattle.kid_prog.specs.declared.program.Program.{Program}
use Rattle.kid_run.specs.InputReading.{envs_of}
use Rattle.kid_run.specs.Lines.{run_text}
use Rattle.kid_run.specs.Reporting.{report_of}
use Rattle.kid_run.specs.declared.report.RunEntry.{RunEntry}
use Rattle.kid_top.specs.declared.work.Work.{Work as Given}
use Rattle.kid_top.specs.declared.work.Work.TheVariants.{Run}
use Rattle.kid_top.specs.WorkView.{plain_work}
use Rattle.kid_top.specs.Finishing.{Finishes, report_status}
use Rattle.kid_top.proofs.Reports.{report-status}

pub run-finishes : (w : Given) (program : Program) (inputs : List (List PlainValue)) (fuel : ℕ) (entries : List RunEntry) (status : ℕ) (old new : Option (List ℕ)) (files : Option Held)
    → w ≡ Run program inputs fuel → entries ≡ report_of (plain_program program) fuel (envs_of (plain_program program).inputs inputs) → status ≡ report_status entries
    → new ≡ option_map (λ text. text ++ run_text (plain_program program) fuel (envs_of (plain_program program).inputs inputs)) old
    → Finishes (plain_work w) status old new files files
run-finishes w program inputs fuel entries status old new files is report told printed =
    subst (λ (v : Given). Finishes (plain_work v) status old new files files) (sym is) (record {
      status_is = told ∙ ap report_status report ∙ report-status (plain_program program) fuel (envs_of (plain_program program).inputs inputs);
      printed = printed;
      saved = refl;
    })
