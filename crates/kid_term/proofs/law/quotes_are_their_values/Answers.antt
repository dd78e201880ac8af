use Rattle.kid_term.proofs.ClosedLemmas.{unmentioned-closed}
use Rattle.kid_term.proofs.QuoteLemmas.{eval-quote, mentions-quote, wordless-quote}
use Rattle.kid_term.specs.Quote.{quote}
use Rattle.kid_term.proofs.law.quotes_are_their_values.Goals as goal

pub returns : goal.returns
returns c = λ v canonical. record {
  value = λ calls env. eval-quote calls env v canonical;
  closed = unmentioned-closed (quote v) (λ x. mentions-quote x v);
  wordless = wordless-quote v;
}
