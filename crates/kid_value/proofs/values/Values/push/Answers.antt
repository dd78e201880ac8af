use Rattle.std.proofs.Common.{◌∷◌, [], subst, sym, ap, ◌∙◌, map}
use Rattle.std.proofs.lemmas.List.{map-append}
use Rattle.kid_value.specs.PlainValue.{row}
use Rattle.kid_value.specs.ValueView.{plain}
use Rattle.kid_value.specs.Canonical.{AreCanonical}
use Rattle.kid_value.proofs.CanonicalLemmas.{AreCanonical-append}
use Rattle.kid_value.proofs.values.Values.push.Goals as goal

pub invariant_of-self-2 : goal.invariant_of-self-2
invariant_of-self-2 c =
    subst (λ z. AreCanonical (row z)) (sym (ap (map plain) c.in_ok-push.ensures.items ∙ map-append plain c.self.inside.items.items (c.args.v ∷ [])))
    (AreCanonical-append (map plain c.self.inside.items.items) (plain c.args.v) c.self.invariant c.canonical.ensures.canonical)
