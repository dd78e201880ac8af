use Rattle.kid_top.proofs.StageLemmas.{after_load}
use Rattle.kid_top.proofs.stages.theory_stage.Goals as goal

pub returns-clause-outcome : goal.returns-clause-outcome
returns-clause-outcome g c =
    after_load (g.S.Store.held c.args.store.now) 1 c.args.name.now c.deref.result.now c.in-Some.bytes c.in_ok-bytes.field-0 c.theory_from.result
    c.in_ok-bytes.ensures.outcome c.in-Some.is c.deref.ensures.value c.theory_from.ensures.comes
