use Rattle.std.proofs.Common.{◌≡◌, map, sym, ap, ◌∙◌, is_ok}
use Rattle.kid_value.specs.ValueView.{plain}
use Rattle.kid_value.specs.ValueSet.{put, is_member}
use Rattle.kid_value.proofs.CanonicalLemmas.{ascends-set}
use Rattle.kid_value.proofs.PutLemmas.{map-insert, IsCanonical-inserted}
use Rattle.kid_value.proofs.ValueSetLaws.{is_member-put}
use Rattle.kid_value.proofs.members.Members.put.Goals as goal

pub place_of-requires : goal.place_of-requires
place_of-requires c = rw c.as_slice.ensures.value (ascends-set (map plain c.self.inside.items.items) c.self.invariant)

pub invariant_of-self-in-Err : goal.invariant_of-self-in-Err
invariant_of-self-in-Err c =
    IsCanonical-inserted (is_ok c.insert.result) c.self.inside.items.items c.insert.new.self.items c.in-Err.at c.args.v c.insert.ensures.items (rw c.as_slice.ensures.value at c.in-Err.ensures.1) c.canonical.ensures.canonical c.self.invariant

pub returns-in-Ok-clause-members : goal.returns-in-Ok-clause-members
returns-in-Ok-clause-members c =
    let e : put (plain c.args.v) (map plain c.self.inside.items.items) ≡ map plain c.self.inside.items.items = rw c.as_slice.ensures.value at c.in-Ok.ensures in
    λ x. ap (is_member x) (sym (ap (put (plain c.args.v)) (sym c.self.view_is) ∙ e ∙ c.self.view_is)) ∙ is_member-put x (plain c.args.v) c.args.self.now

pub returns-in_ok-insert-in-Err-clause-ok : goal.returns-in_ok-insert-in-Err-clause-ok
returns-in_ok-insert-in-Err-clause-ok c =
    let e = ap (map plain) c.in_ok-insert-in-Err.ensures.items in
    let f = map-insert c.self.inside.items.items c.in-Err.at c.args.v in
    let g = c.in-Err.ensures.1 in
    let h = c.as_slice.ensures.value in
    e ∙ f ∙ sym (rw h at g) ∙ ap (put (plain c.args.v)) c.self.view_is

pub returns-in_ok-insert-in-Err-clause-members : goal.returns-in_ok-insert-in-Err-clause-members
returns-in_ok-insert-in-Err-clause-members c =
    let e = ap (map plain) c.in_ok-insert-in-Err.ensures.items in
    let f = map-insert c.self.inside.items.items c.in-Err.at c.args.v in
    let g = c.in-Err.ensures.1 in
    let h = c.as_slice.ensures.value in
    let w = e ∙ f ∙ sym (rw h at g) ∙ ap (put (plain c.args.v)) c.self.view_is in
    λ x. ap (is_member x) w ∙ is_member-put x (plain c.args.v) c.args.self.now
