use Rattle.std.proofs.Common.{sym}
use Rattle.kid_eval.proofs.OpeningLemmas.{undefined, place_within, opens_at}
use Rattle.kid_eval.proofs.opened.opened.Goals as goal

pub definition_at-requires : goal.definition_at-requires
definition_at-requires c =
    place_within c.args.f.now c.args.known.now.count c.items.result.now c.args.known.now.defs.now c.items.ensures c.in-Some.place (sym c.in-Some.ensures)

pub returns-in-Some : goal.returns-in-Some
returns-in-Some c =
    opens_at c.args.f.now c.args.known.now.count c.items.result.now c.args.known.now.defs.now c.items.ensures c.in-Some.place c.definition_at.result.now (sym c.in-Some.ensures)
    c.definition_at.ensures

pub returns-in-None : goal.returns-in-None
returns-in-None c = undefined c.args.f.now c.args.known.now.count c.args.known.now.defs.now (sym c.in-None.ensures)
