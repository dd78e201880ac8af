use Rattle.std.proofs.Common.{map, ap, ◌∙◌}
use Rattle.kid_value.specs.ValueSet.{is_member}
use Rattle.kid_value.specs.ValueView.{plain}
use Rattle.kid_value.proofs.CanonicalLemmas.{ascends-set}
use Rattle.kid_value.proofs.FoundLemmas.{is_ok-member}
use Rattle.kid_value.proofs.members.Members.contains.Goals as goal

pub place_of-requires : goal.place_of-requires
place_of-requires c = rw c.as_slice.ensures.value (ascends-set (map plain c.self.inside.items.items) c.self.invariant)

pub returns : goal.returns
returns c =
    c.is_ok.ensures.value
    ∙ is_ok-member (plain c.args.v.now) (map plain c.self.inside.items.items) c.place_of.result (ascends-set (map plain c.self.inside.items.items) c.self.invariant) (rw c.as_slice.ensures.value at c.place_of.ensures)
    ∙ ap (is_member (plain c.args.v.now)) c.self.view_is
