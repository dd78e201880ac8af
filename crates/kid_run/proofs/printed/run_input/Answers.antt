use Rattle.std.proofs.Common.{rules, ◌≡◌, true, List, [], ◌∷◌, IfOk, ap, sym, ◌∙◌, subst, cond}
use Rattle.kid_value.specs.PlainValue.{PlainValue}
use Rattle.kid_value.specs.Rows.Parts.{truth_of}
use Rattle.kid_term.specs.Eval.{Env, bound, eval, calls_of}
use Rattle.kid_term.specs.Fitting.{Fits}
use Rattle.kid_term.specs.Small.{StaysSmall}
use Rattle.kid_prog.specs.ProgramView.{plain_program}
use Rattle.kid_run.specs.Account.{account}
use Rattle.kid_run.specs.Lines.{run_lines, outside_line, is_inside}
use Rattle.kid_run.specs.Reporting.{run_entry}
use Rattle.kid_prog.specs.Running.{run_of}
use Rattle.kid_run.specs.declared.report.Outcome.TheVariants.{Outside}
use Rattle.kid_run.specs.declared.report.RunEntry.{RunEntry}
use Rattle.kid_run.proofs.Scopes.{AreOfSorts-fit}
use Rattle.kid_run.proofs.Steps.{condition-small}
use Rattle.kid_run.proofs.printed.run_input.Goals as goal

pub value_of-requires : goal.value_of-requires
value_of-requires c =
    let p = plain_program c.args.program.now in
    let fit = AreOfSorts-fit p.inputs c.args.input.now c.requires.fits in
    subst (λ (env : Env). StaysSmall p.definitions env p.condition) (sym (c.input_env-env.ensures ∙ ap (bound p.inputs) c.items.ensures.items))
    (condition-small p c.requires.runs (bound p.inputs c.args.input.now) fit.1)

pub run_at-requires-clause-fits : goal.run_at-requires-clause-fits
run_at-requires-clause-fits c =
    let p = plain_program c.args.program.now in
    let fit = AreOfSorts-fit p.inputs c.args.input.now c.requires.fits in
    subst (λ (vs : List PlainValue). Fits p.inputs (bound p.inputs vs)) (sym c.items-2.ensures.items) fit.1

pub returns-clause-lines : goal.returns-clause-lines
returns-clause-lines c =
    let p = plain_program c.args.program.now in
    let x = bound p.inputs c.args.input.now in
    let holds : c.is_true.result ≡ true = search rules in
    let inside : is_inside p x ≡ true
    = ap (λ (env : Env). truth_of (eval (calls_of p.definitions) env p.condition)) (sym (c.input_env-env.ensures ∙ ap (bound p.inputs) c.items.ensures.items))
    ∙ ap truth_of (sym c.in_ok-condition.ensures) ∙ sym c.is_true.ensures ∙ holds in
    let ended = c.in_ok-ended.ensures ∙ ap (λ (vs : List PlainValue). account [] 0 0 (run_of p (bound p.inputs vs) c.args.fuel)) c.items-2.ensures.items in
    subst (λ (z : List (List _)). IfOk c.closed.result (λ q. q.lines.items ≡ z)) (ap (λ b. cond b (run_lines (run_of p x c.args.fuel) c.args.fuel) (outside_line ∷ [])) (sym inside))
    (c.closed.ensures.lines (run_of p x c.args.fuel) ended)

pub returns-clause-entry : goal.returns-clause-entry
returns-clause-entry c =
    let p = plain_program c.args.program.now in
    let x = bound p.inputs c.args.input.now in
    let holds : c.is_true.result ≡ true = search rules in
    let inside : is_inside p x ≡ true
    = ap (λ (env : Env). truth_of (eval (calls_of p.definitions) env p.condition)) (sym (c.input_env-env.ensures ∙ ap (bound p.inputs) c.items.ensures.items))
    ∙ ap truth_of (sym c.in_ok-condition.ensures) ∙ sym c.is_true.ensures ∙ holds in
    let ended = c.in_ok-ended.ensures ∙ ap (λ (vs : List PlainValue). account [] 0 0 (run_of p (bound p.inputs vs) c.args.fuel)) c.items-2.ensures.items in
    let out : RunEntry = record { answers = 0; splits = 0; outcome = Outside } in
    subst (λ (z : RunEntry). IfOk c.closed.result (λ q. q.entry ≡ z)) (ap (λ b. cond b (run_entry (run_of p x c.args.fuel)) out) (sym inside))
    (c.closed.ensures.entry (run_of p x c.args.fuel) ended)
