use Rattle.std.proofs.Common.{ap, ◌∙◌}
use Rattle.kid_codec.specs.SortSpelling.{sort_reading}
use Rattle.kid_codec.proofs.SortBack.{sort_reads_back}
use Rattle.kid_codec.proofs.law.spelled_sorts_are_read.Goals as goal

pub returns : goal.returns
returns c = λ t s h e. ap sort_reading e ∙ sort_reads_back s h
