use Rattle.std.proofs.Common.{ap, ◌∙◌}
use Rattle.kid_codec.specs.TermSpelling.{term_reading}
use Rattle.kid_codec.proofs.TermBack.{term_reads_back}
use Rattle.kid_codec.proofs.law.spelled_terms_are_read.Goals as goal

pub returns : goal.returns
returns c = λ t u h e. ap term_reading e ∙ term_reads_back u h
