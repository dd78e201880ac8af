use Rattle.std.proofs.Common.{◌≡◌, sym, ap, ◌∙◌, map}
use Rattle.kid_value.specs.ValueSet.{put, union}
use Rattle.kid_ops.specs.Parts.{held_by}
use Rattle.kid_ops.proofs.MergeLemmas.{union-put}
use Rattle.kid_ops.proofs.map.values_held.Goals as goal

pub loop-last-preserved : goal.loop-last-preserved
loop-last-preserved c =
    let e : c.put.new.self ≡ put (held_by c.in-Some.last.now) c.loop-last.members = c.in_ok-put.ensures.ok ∙ ap (λ z. put z c.loop-last.members) c.in_ok-copy.ensures in
    ap (union (map held_by c.in-Some.earlier.now)) e
    ∙ sym (union-put held_by c.loop-last.left.now c.in-Some.earlier.now c.in-Some.last.now c.loop-last.members c.in-Some.ensures.cases.0)
    ∙ c.loop-last.invariant
