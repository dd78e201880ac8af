use Rattle.kid_value.proofs.SetMeaning.{members_held}
use Rattle.kid_value.proofs.law.sets_hold_members.Goals as goal

pub returns : goal.returns
returns c = members_held
