use Rattle.kid_top.proofs.Whole.{second-saved, none-later}
use Rattle.kid_top.proofs.save.save_both.Goals as goal

pub returns-clause-whole : goal.returns-clause-whole
returns-clause-whole g c = λ none.
    let p = c.args.program.now in
    let old = c.args.store.now in
    let mid = c.save.new.store in
    let new = c.save-2.new.store in
    second-saved c.save-2.result c.args.derivation.now p c.args.derivation_bytes.now c.args.program_bytes.now (g.S.Store.held old) (g.S.Store.held mid) (g.S.Store.held new)
    c.in_ok-save.ensures.ok c.save-2.ensures.ok
    (c.save-2.ensures.whole (none-later (g.S.Store.faults old p) (g.S.Store.faults mid p) (g.S.Store.faults new p) (c.save.ensures.later p) none.1))
