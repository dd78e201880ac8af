use Rattle.std.proofs.Common.{◌≡◌, sym, ap, ◌∙◌, map}
use Rattle.kid_value.specs.ValueView.{plain}
use Rattle.kid_value.specs.ValueSet.{put, union}
use Rattle.kid_eval.proofs.BindingLemmas.{union_step}
use Rattle.kid_eval.proofs.binder.image.Goals as goal

pub loop-v-preserved : goal.loop-v-preserved
loop-v-preserved c =
    let e : c.put.new.self ≡ put (plain c.in-Some.v) c.loop-v.set = c.in_ok-put.ensures.ok in
    ap (union (map plain c.pop.new.self.items)) e
    ∙ sym (union_step plain c.loop-v.values.items c.pop.new.self.items c.in-Some.v c.loop-v.set c.in-Some.ensures.items)
    ∙ c.loop-v.invariant
