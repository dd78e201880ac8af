use Rattle.std.proofs.Common.{Ok}
use Rattle.kid_kernel.specs.TheoryView.{plain_theory}
use Rattle.kid_prog.specs.ProgramText.{program_text}
use Rattle.kid_prog.specs.ProgramView.{plain_program}
use Rattle.kid_top.specs.Derivation.{derivation_text}
use Rattle.kid_top.specs.Outcome.{saves, script_program}
use Rattle.kid_top.specs.WorkView.{plain_work}
use Rattle.kid_top.proofs.StageLemmas.{after_stage, at_any}
use Rattle.kid_top.proofs.work.derive_theory.Goals as goal

pub returns-clause-outcome : goal.returns-clause-outcome
returns-clause-outcome g c =
    let p = plain_program c.in_ok-derived.derived in
    after_stage (g.S.Store.held c.args.store.now) plain_program c.in_ok-derived.derived plain_work c.saving.result (λ files. script_program (plain_theory c.args.theory.now) (files c.args.script.now))
    (λ files q. Ok (saves c.args.derivation.now c.args.program.now (derivation_text q) (program_text q))) c.in_ok-derived.ensures.outcome
    (at_any (g.S.Store.held c.args.store.now) plain_work c.saving.result (Ok (saves c.args.derivation.now c.args.program.now (derivation_text p) (program_text p))) c.saving.ensures.outcome)
