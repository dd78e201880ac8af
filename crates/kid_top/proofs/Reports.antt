-- The status by the report of the runs is that of the work.
use Rattle.std.proofs.Common.{◌≡◌, ℕ, Bool, true, false, List, [], ◌∷◌, refl, ap, ◌∙◌}
use Rattle.std.specs.Prelude.{not, ◌&&◌, ◌||◌, if◌then◌else◌}
use Rattle.std.specs.List.{list_all}
use Rattle.kid_term.specs.Eval.{Env}
use Rattle.kid_prog.specs.PlainProgram.{PlainProgram}
use Rattle.kid_run.specs.declared.report.Outcome.{Outcome}
use Rattle.kid_run.specs.declared.report.Outcome.TheVariants.{Done, Fuel, Outside}
use Rattle.kid_run.specs.declared.report.RunEntry.{RunEntry}
use Rattle.kid_run.specs.Lines.{is_inside}
use Rattle.kid_run.specs.Reporting.{run_entry, report_of}
use Rattle.kid_prog.specs.Running.{Run, run_of}
use Rattle.kid_top.specs.Finishing.{ran_out, report_status}
use Rattle.kid_top.specs.Outcome.{runs, is_whole, work_status}

abbrev status : Bool → ℕ
status whole = if whole then 0 else 4

-- the status of an entry that ended so, and of those after it
abbrev after : Outcome → List RunEntry → ℕ
after outcome others = if ran_out outcome then 4 else report_status others

-- the status of an entry and of those after it
entry-status : (inside : Bool) (r : Run) (whole rest : Bool) (others : List RunEntry) → r.whole ≡ whole → report_status others ≡ status rest
    → report_status ((if inside then run_entry r else record { answers = 0; splits = 0; outcome = Outside }) ∷ others) ≡ status ((not inside || whole) && rest)
entry-status true r true rest others e h = ap (λ (b : Bool). after (if b then Done else Fuel) others) e ∙ h
entry-status true r false rest others e h = ap (λ (b : Bool). after (if b then Done else Fuel) others) e
entry-status false r whole rest others e h = h

pub report-status : (p : PlainProgram) (fuel : ℕ) (xs : List Env) → report_status (report_of p fuel xs) ≡ work_status (runs p xs fuel)
report-status p fuel [] = refl
report-status p fuel (x ∷ xs) =
    entry-status (is_inside p x) (run_of p x fuel) (run_of p x fuel).whole (list_all (is_whole p fuel) xs) (report_of p fuel xs) refl (report-status p fuel xs)

pub ruleset reports = (report-status)
