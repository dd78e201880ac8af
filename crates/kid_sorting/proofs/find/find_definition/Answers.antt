use Rattle.std.proofs.Common.{◌≡◌, true, false, sym, ◌∙◌}
use Rattle.kid_term.specs.Names.{same_name}
use Rattle.kid_sorting.proofs.Calls.{definition_of-here, definition_of-earlier}
use Rattle.kid_sorting.proofs.find.find_definition.Goals as goal

pub returns-then-is_same : goal.returns-then-is_same
returns-then-is_same c =
    let e : same_name c.args.name.now c.in-Some.latest.now.name ≡ true = sym c.is_same.ensures ∙ c.if-is_same.true in
    sym (definition_of-here c.args.name.now c.loop-latest.rest.now c.in-Some.earlier.now c.in-Some.latest.now c.in-Some.ensures.cases.0 e) ∙ c.loop-latest.invariant

pub loop-latest-preserved : goal.loop-latest-preserved
loop-latest-preserved c =
    let e : same_name c.args.name.now c.in-Some.latest.now.name ≡ false = sym c.is_same.ensures ∙ c.if-is_same.false in
    sym (definition_of-earlier c.args.name.now c.loop-latest.rest.now c.in-Some.earlier.now c.in-Some.latest.now c.in-Some.ensures.cases.0 e) ∙ c.loop-latest.invariant
