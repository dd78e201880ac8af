use Rattle.kid_seqs.proofs.SeqsLifting.{seqs_are_lawful}
use Rattle.kid_seqs.proofs.law.sequences_are_lawful.Goals as goal

pub returns : goal.returns
returns c = seqs_are_lawful
