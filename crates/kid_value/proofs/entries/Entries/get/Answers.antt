use Rattle.std.proofs.Common.{map, sym, ap, ◌∙◌}
use Rattle.kid_value.specs.ValueMap.{lookup}
use Rattle.kid_value.specs.ValueView.{plain, plain_entry}
use Rattle.kid_value.proofs.CanonicalLemmas.{ascends-map}
use Rattle.kid_value.proofs.FoundLemmas.{held-key, absent-key}
use Rattle.kid_value.proofs.entries.Entries.get.Goals as goal

pub place_of_key-requires : goal.place_of_key-requires
place_of_key-requires c = rw c.as_slice.ensures.value (ascends-map (map plain_entry c.self.inside.items.items) c.self.invariant)

pub returns-in-Ok : goal.returns-in-Ok
returns-in-Ok c =
    ap (lookup (plain c.args.k.now)) (sym c.self.view_is)
    ∙ held-key (plain c.args.k.now) c.self.inside.items.items c.in-Ok.at c.index.result.now (rw c.as_slice.ensures.value at c.in-Ok.ensures) c.index.ensures

pub returns-in-Err : goal.returns-in-Err
returns-in-Err c =
    ap (lookup (plain c.args.k.now)) (sym c.self.view_is)
    ∙ absent-key (plain c.args.k.now) (map plain_entry c.self.inside.items.items) c.in-Err.field-0 (ascends-map (map plain_entry c.self.inside.items.items) c.self.invariant) (rw c.as_slice.ensures.value at c.in-Err.ensures)
