use Rattle.std.proofs.Common.{Option, subst}
use Rattle.kid_outer.specs.Held.{Held}
use Rattle.kid_top.specs.declared.work.Work.{Work as Given}
use Rattle.kid_top.specs.Outcome.{Work, Outcomes, theory_stage, derive_theory}
use Rattle.kid_kernel.specs.TheoryView.{plain_theory}
use Rattle.kid_top.specs.WorkView.{plain_work}
use Rattle.kid_top.proofs.StageLemmas.{after_stage, derive_rose}
use Rattle.kid_top.proofs.work.derive_work.Goals as goal

pub returns-clause-outcome : goal.returns-clause-outcome
returns-clause-outcome g c =
    after_stage (g.S.Store.held c.args.store.now) plain_theory c.in_ok-theory.theory plain_work c.derive_theory.result (λ files. theory_stage 1 (files c.args.theory.now))
    (λ files t. derive_theory files c.args.script.now c.args.derivation.now c.args.program.now t) c.in_ok-theory.ensures.outcome
    (subst (λ (h : Option Held). Outcomes {X = Given} {Y = Work} h plain_work c.derive_theory.result
    (λ files. derive_theory files c.args.script.now c.args.derivation.now c.args.program.now (plain_theory c.in_ok-theory.theory)))
    c.in_ok-theory.ensures.held c.derive_theory.ensures.outcome)

pub returns-clause-failed : goal.returns-clause-failed
returns-clause-failed g c = λ e.
    derive_rose (g.S.Store.held c.args.store.now) (g.S.Store.faults c.args.store.now) (g.S.Store.faults c.theory_stage.new.store) (g.S.Store.faults c.derive_theory.new.store)
    c.args.theory.now c.args.script.now c.in_ok-theory.theory c.theory_stage.ensures.later c.in_ok-theory.ensures.outcome (c.derive_theory.ensures.failed e)
