use Rattle.std.proofs.Common.{◌∷◌, [], ◌++◌, map, sym, ap, subst, ◌∙◌}
use Rattle.std.proofs.lemmas.List.{map-append}
use Rattle.kid_value.specs.Canonical.{IsCanonical}
use Rattle.kid_value.specs.PlainValue.{map_of, table}
use Rattle.kid_value.specs.ValueMap.{keys}
use Rattle.kid_value.specs.ValueSet.{Ascends}
use Rattle.kid_value.specs.ValueView.{plain, plain_entry}
use Rattle.kid_value.proofs.FoundLemmas.{IsCanonical-pushed}
use Rattle.kid_value.proofs.entries.Entries.push.Goals as goal

pub invariant_of-self-2 : goal.invariant_of-self-2
invariant_of-self-2 c =
    subst (λ z. IsCanonical (map_of (table z))) (sym (ap (map plain_entry) c.in_ok-push.ensures.items ∙ map-append plain_entry c.self.inside.items.items ((c.args.k, c.args.v) ∷ [])))
    (IsCanonical-pushed (plain c.args.k) (plain c.args.v) (map plain_entry c.self.inside.items.items) c.canonical.ensures.canonical c.canonical-2.ensures.canonical
    (subst (λ z. Ascends (keys z ++ plain c.args.k ∷ [])) (sym c.self.view_is) c.requires) c.self.invariant)
