-- An operator on words and rows takes one argument to four.
use Rattle.std.proofs.Common.{◌≡◌, ◌<◌, ◌≤◌, false, List, [], ◌∷◌, map, length, refl, arith}
use Rattle.kid_value.specs.PlainValue.{PlainValue, bool}
use Rattle.kid_term.specs.WordRows.{word_value}
use Rattle.kid_term.specs.declared.operator.WordOp.{WordOp}
use Rattle.kid_term.specs.declared.operator.WordOp.TheVariants.{Wenc, Wdec, Wor, Wand, Wnot, Wcard, Win, Wleast, Renc, Rdec, Rget, Rput, Rdrop}
use Rattle.kid_eval.specs.ScopeView.{plain_seen}
use Rattle.kid_eval.specs.declared.scope.Seen.{Seen}

of_none : (o : WordOp) → bool false ≡ word_value o []
of_none Wenc = refl
of_none Wdec = refl
of_none Wor = refl
of_none Wand = refl
of_none Wnot = refl
of_none Wcard = refl
of_none Win = refl
of_none Wleast = refl
of_none Renc = refl
of_none Rdec = refl
of_none Rget = refl
of_none Rput = refl
of_none Rdrop = refl

of_many : (o : WordOp) (t u v w x : PlainValue) (vs : List PlainValue) → bool false ≡ word_value o (t ∷ u ∷ v ∷ w ∷ x ∷ vs)
of_many Wenc t u v w x vs = refl
of_many Wdec t u v w x vs = refl
of_many Wor t u v w x vs = refl
of_many Wand t u v w x vs = refl
of_many Wnot t u v w x vs = refl
of_many Wcard t u v w x vs = refl
of_many Win t u v w x vs = refl
of_many Wleast t u v w x vs = refl
of_many Renc t u v w x vs = refl
of_many Rdec t u v w x vs = refl
of_many Rget t u v w x vs = refl
of_many Rput t u v w x vs = refl
of_many Rdrop t u v w x vs = refl

pub none_given : (o : WordOp) (vs : List Seen) → length vs < 1 → bool false ≡ word_value o (map plain_seen vs)
none_given o [] p = of_none o
none_given o (v ∷ vs) p = absurd (omega arith)

pub many_given : (o : WordOp) (vs : List Seen) → 5 ≤ length vs → bool false ≡ word_value o (map plain_seen vs)
many_given o [] p = absurd (omega arith)
many_given o (t ∷ []) p = absurd (omega arith)
many_given o (t ∷ u ∷ []) p = absurd (omega arith)
many_given o (t ∷ u ∷ v ∷ []) p = absurd (omega arith)
many_given o (t ∷ u ∷ v ∷ w ∷ []) p = absurd (omega arith)
many_given o (t ∷ u ∷ v ∷ w ∷ x ∷ vs) p = of_many o (plain_seen t) (plain_seen u) (plain_seen v) (plain_seen w) (plain_seen x) (map plain_seen vs)
