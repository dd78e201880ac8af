-- The term of a value.
use Rattle.kid_value.specs.PlainValue as value
use Rattle.kid_value.specs.PlainValue.{PlainValue, int, bool, pair, set, seq, map_of, PlainValues, none, more, PlainEntries, no_entry, entry}
use Rattle.kid_term.specs.PlainTerm.{op, PlainTerm, number, truth, tag, app, PlainTerms, no_term, term}
use Rattle.kid_term.specs.declared.operator.Op.TheVariants.{Pair, Set, Seq, Map}
use Rattle.kid_term.specs.declared.operator.PairOp.TheVariants as pairs
use Rattle.kid_term.specs.declared.operator.SetOp.TheVariants as sets
use Rattle.kid_term.specs.declared.operator.SeqOp.TheVariants as seqs
use Rattle.kid_term.specs.declared.operator.MapOp.TheVariants as maps

abbrev pub couple : PlainTerm → PlainTerm → PlainTerm
couple a b = app (op (Pair pairs.Pair)) (term a (term b no_term))

abbrev pub empty_map : PlainTerm
empty_map = app (op (Map maps.Map)) no_term

abbrev pub put : PlainTerm → PlainTerm → PlainTerm → PlainTerm
put m k v = app (op (Map maps.Put)) (term m (term k (term v no_term)))

-- a map is put together key by key, so that its last key is the outermost
abbrev mutual
  pub quote : PlainValue → PlainTerm
  quote (int n) = number n
  quote (bool b) = truth b
  quote (pair a b) = couple (quote a) (quote b)
  quote (set vs) = app (op (Set sets.Set)) (quotes vs)
  quote (seq vs) = app (op (Seq seqs.Seq)) (quotes vs)
  quote (map_of es) = all_put empty_map es
  quote (value.tag n) = tag n

  pub quotes : PlainValues → PlainTerms
  quotes none = no_term
  quotes (more v vs) = term (quote v) (quotes vs)

  pub all_put : PlainTerm → PlainEntries → PlainTerm
  all_put m no_entry = m
  all_put m (entry k v es) = all_put (put m (quote k) (quote v)) es
