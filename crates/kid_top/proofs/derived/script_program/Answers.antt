use Rattle.kid_kernel.specs.TheoryView.{plain_theory}
use Rattle.kid_top.proofs.StageLemmas.{after_script}
use Rattle.kid_top.proofs.derived.script_program.Goals as goal

pub returns-clause-outcome : goal.returns-clause-outcome
returns-clause-outcome g c =
    after_script (g.S.Store.held c.args.store.now) (plain_theory c.args.theory.now) c.args.script.now c.in_ok-script_stage.field-0 c.emitted_program.result
    c.in_ok-script_stage.ensures.outcome c.emitted_program.ensures.comes
