use Rattle.std.proofs.Common.{◌≡◌, ◌<◌, List, length, get_or, map, ap, sym, ◌∙◌, subst}
use Rattle.kid_term.specs.DefView.{plain_def}
use Rattle.kid_term.specs.Definition.{definition_of}
use Rattle.kid_term.specs.declared.definition.Def.{Def}
use Rattle.kid_term.proofs.LatestLemmas.{place-within, definition-there, definition-absent}
use Rattle.kid_term.proofs.definition.Defs.find.Goals as goal

pub definition_at-requires : goal.definition_at-requires
definition_at-requires c =
    subst (λ (ds : List Def). c.in-Some.place.now < length ds) (sym c.as_slice.ensures.value)
    (place-within c.args.name.now c.self.inside.items.items c.in-Some.place.now (sym (c.in-Some.ensures.value ∙ c.self.invariant c.args.name.now)))

pub returns-in-Some : goal.returns-in-Some
returns-in-Some c =
    sym (definition-there c.args.name.now c.self.inside.items.items c.in-Some.place.now c.definition_at.result.now
    (sym (c.in-Some.ensures.value ∙ c.self.invariant c.args.name.now))
    (subst (λ (ds : List Def). c.definition_at.result.now ≡ get_or ds c.in-Some.place.now c.definition_at.result.now) c.as_slice.ensures.value c.definition_at.ensures))
    ∙ ap (definition_of c.args.name.now) c.self.view_is

pub returns-in-None : goal.returns-in-None
returns-in-None c =
    sym (definition-absent c.args.name.now (map plain_def c.self.inside.items.items) (sym (c.in-None.ensures.value ∙ c.self.invariant c.args.name.now)))
    ∙ ap (definition_of c.args.name.now) c.self.view_is
