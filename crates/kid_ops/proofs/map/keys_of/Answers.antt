use Rattle.std.proofs.Common.{◌≡◌, subst, sym, ap, ◌∙◌}
use Rattle.kid_value.specs.ValueMap.{keys}
use Rattle.kid_value.specs.ValueSet.{Ascends}
use Rattle.kid_ops.proofs.EntryViews.{keys-key_of}
use Rattle.kid_ops.proofs.map.keys_of.Goals as goal

pub from_ascending-requires : goal.from_ascending-requires
from_ascending-requires c =
    let e : c.in_ok-keys.keys ≡ keys c.args.entries.now = c.in_ok-keys.ensures ∙ keys-key_of c.items.result.now ∙ ap keys c.items.ensures.items in
    subst Ascends (sym e) c.items.ensures.ascends

pub returns : goal.returns
returns c = c.from_ascending.ensures ∙ c.in_ok-keys.ensures ∙ keys-key_of c.items.result.now ∙ ap keys c.items.ensures.items
