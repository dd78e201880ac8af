use Rattle.std.proofs.Common.{map, sym, ap, ◌∙◌, is_ok}
use Rattle.std.proofs.lemmas.List.{map-set}
use Rattle.kid_value.specs.ValueMap.{put_entry, lookup}
use Rattle.kid_value.specs.ValueView.{plain, plain_entry}
use Rattle.kid_value.proofs.CanonicalLemmas.{ascends-map}
use Rattle.kid_value.proofs.EntryLemmas.{map_entry-insert, IsCanonical-entered, IsCanonical-exchanged, lookup-put_entry}
use Rattle.kid_value.proofs.entries.Entries.put.Goals as goal

pub place_of_key-requires : goal.place_of_key-requires
place_of_key-requires c = rw c.as_slice.ensures.value (ascends-map (map plain_entry c.self.inside.items.items) c.self.invariant)

pub invariant_of-self : goal.invariant_of-self
invariant_of-self c =
    let p = rw c.as_slice.ensures.value at c.in-Ok.ensures in
    IsCanonical-exchanged c.self.inside.items.items c.set_entry.new.entries.items c.in-Ok.at c.args.k c.args.v c.set_entry.ensures (p.1 (plain c.args.v)) c.canonical.ensures.canonical c.canonical-2.ensures.canonical c.self.invariant

pub invariant_of-self-in-Err : goal.invariant_of-self-in-Err
invariant_of-self-in-Err c =
    let p = rw c.as_slice.ensures.value at c.in-Err.ensures in
    IsCanonical-entered (is_ok c.insert.result) c.self.inside.items.items c.insert.new.self.items c.in-Err.at c.args.k c.args.v c.insert.ensures.items (p.1 (plain c.args.v)) c.canonical.ensures.canonical c.canonical-2.ensures.canonical c.self.invariant

pub returns-in-Ok-clause-ok : goal.returns-in-Ok-clause-ok
returns-in-Ok-clause-ok c =
    let p = rw c.as_slice.ensures.value at c.in-Ok.ensures in
    ap (map plain_entry) c.set_entry.ensures ∙ map-set plain_entry c.self.inside.items.items c.in-Ok.at (c.args.k, c.args.v) ∙ sym (p.1 (plain c.args.v)) ∙ ap (put_entry (plain c.args.k) (plain c.args.v)) c.self.view_is

pub returns-in-Ok-clause-values : goal.returns-in-Ok-clause-values
returns-in-Ok-clause-values c =
    let p = rw c.as_slice.ensures.value at c.in-Ok.ensures in
    let w = ap (map plain_entry) c.set_entry.ensures ∙ map-set plain_entry c.self.inside.items.items c.in-Ok.at (c.args.k, c.args.v) ∙ sym (p.1 (plain c.args.v)) ∙ ap (put_entry (plain c.args.k) (plain c.args.v)) c.self.view_is in
    λ x. ap (lookup x) w ∙ lookup-put_entry x (plain c.args.k) (plain c.args.v) c.args.self.now

pub returns-in_ok-insert-in-Err-clause-ok : goal.returns-in_ok-insert-in-Err-clause-ok
returns-in_ok-insert-in-Err-clause-ok c =
    let p = rw c.as_slice.ensures.value at c.in-Err.ensures in
    ap (map plain_entry) c.in_ok-insert-in-Err.ensures.items ∙ map_entry-insert c.self.inside.items.items c.in-Err.at (c.args.k, c.args.v) ∙ sym (p.1 (plain c.args.v)) ∙ ap (put_entry (plain c.args.k) (plain c.args.v)) c.self.view_is

pub returns-in_ok-insert-in-Err-clause-values : goal.returns-in_ok-insert-in-Err-clause-values
returns-in_ok-insert-in-Err-clause-values c =
    let p = rw c.as_slice.ensures.value at c.in-Err.ensures in
    let w = ap (map plain_entry) c.in_ok-insert-in-Err.ensures.items ∙ map_entry-insert c.self.inside.items.items c.in-Err.at (c.args.k, c.args.v) ∙ sym (p.1 (plain c.args.v)) ∙ ap (put_entry (plain c.args.k) (plain c.args.v)) c.self.view_is in
    λ x. ap (lookup x) w ∙ lookup-put_entry x (plain c.args.k) (plain c.args.v) c.args.self.now
