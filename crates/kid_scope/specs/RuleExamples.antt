-- What the rules make of small terms.
use Rattle.std.specs.Prelude.{◌≡◌, true, false, pos, [], ◌∷◌, Result, Err}
use Rattle.kid_value.specs.PlainSort.{bools, ints, sets, seqs}
use Rattle.kid_term.specs.PlainTerm.{PlainTerm, op, call, cast, var, number, truth, app, bind, no_term, term}
use Rattle.kid_term.specs.Names.{PlainDef}
use Rattle.kid_term.specs.PlainTheory.{PlainTheory}
use Rattle.kid_term.specs.declared.operator.Op.TheVariants.{Logic, Number, Seq}
use Rattle.kid_term.specs.declared.operator.LogicOp.TheVariants as logic
use Rattle.kid_term.specs.declared.operator.NumberOp.TheVariants as num
use Rattle.kid_term.specs.declared.operator.SeqOp.TheVariants as seq_word
use Rattle.kid_term.specs.declared.operator.Binder.TheVariants as binder
use Rattle.kid_term.specs.declared.why.Why.{Why}
use Rattle.kid_term.specs.declared.why.Why.TheVariants.{UnknownLaw, Capture}
use Rattle.kid_scope.specs.Scope.{PlainScope, negated}
use Rattle.kid_scope.specs.Rewriting.{PlainInstance, Rule}
use Rattle.kid_scope.specs.Instances.{no_match, just, provided}
use Rattle.kid_scope.specs.Examples.{theory, here, p, q, a, b, less, at_most, numbers}
use Rattle.kid_scope.specs.Settling as settling
use Rattle.kid_scope.specs.Settling.{compute}
use Rattle.kid_scope.specs.Uncasting.{length_of, uncast}
use Rattle.kid_scope.specs.Unfolding.{unfold_call, fold_call}
use Rattle.kid_scope.specs.Using.{use_fact}

abbrev pub z : PlainTerm
z = var (5 ∷ [])

abbrev pub sum : PlainTerm → PlainTerm → PlainTerm
sum t u = app (op (Number num.Add)) (term t (term u no_term))

abbrev pub equation : PlainTerm → PlainTerm → PlainTerm
equation t u = app (op (Logic logic.Eq)) (term t (term u no_term))

-- twice x is (add x x)
abbrev pub twice : PlainDef
twice = record {
  name = 7 ∷ [];
  parameters = (6 ∷ [], ints (pos 0) (pos 5)) ∷ [];
  sort = ints (pos 0) (pos 10);
  body = sum (var (6 ∷ [])) (var (6 ∷ []));
}

-- above x says that each z of the set of 1 and 2 is less
abbrev pub above : PlainDef
above = record {
  name = 8 ∷ [];
  parameters = (6 ∷ [], ints (pos 0) (pos 5)) ∷ [];
  sort = bools;
  body = bind binder.All (5 ∷ []) numbers (less z (var (6 ∷ [])));
}

abbrev pub twice_of : PlainTerm → PlainTerm
twice_of t = app (call (7 ∷ [])) (term t no_term)

abbrev pub above_of : PlainTerm → PlainTerm
above_of t = app (call (8 ∷ [])) (term t no_term)

abbrev pub defined : PlainTheory
defined = record theory { signature = record { definitions = twice ∷ above ∷ []; inputs = [] } }

-- the scope of the other examples, with two facts
abbrev pub proved : PlainScope
proved = record here { facts = q ∷ equation a b ∷ [] }

abbrev pub gives : Rule → PlainTerm → Result PlainInstance Why
gives rule old = rule defined proved old

abbrev pub three_items : PlainTerm
three_items = app (op (Seq seq_word.Seq)) (term a (term a (term a no_term)))

abbrev pub within_sets : PlainTerm
within_sets = app (cast (sets (ints (pos 0) (pos 9)))) (term numbers no_term)

pub record RuleExamples : Type 0 where
  pub unfolded : gives (unfold_call false []) (twice_of a) ≡ just (sum a a)
  pub captured : gives (unfold_call false []) (above_of z) ≡ Err Capture
  pub not_captured : gives (unfold_call false []) (above_of a) ≡ just (bind binder.All (5 ∷ []) numbers (less z a))
  pub no_call : gives (unfold_call false []) a ≡ no_match
  pub two_arguments : gives (unfold_call false []) (app (call (7 ∷ [])) (term a (term a no_term))) ≡ no_match
  pub no_way_back : gives (unfold_call true []) (twice_of a) ≡ no_match
  pub needless_argument : gives (unfold_call false (a ∷ [])) (twice_of a) ≡ no_match
  pub folded : gives (fold_call (7 ∷ []) false (a ∷ [])) (sum a a) ≡ just (twice_of a)
  pub other_body : gives (fold_call (7 ∷ []) false (a ∷ [])) (sum a b) ≡ no_match
  pub no_definition : gives (fold_call (9 ∷ []) false (a ∷ [])) (sum a a) ≡ Err UnknownLaw
  pub folded_back : gives (fold_call (7 ∷ []) true (a ∷ [])) (sum a a) ≡ no_match
  pub no_definition_back : gives (fold_call (9 ∷ []) true (a ∷ [])) (sum a a) ≡ Err UnknownLaw
  pub would_be_bound : gives (fold_call (8 ∷ []) false (z ∷ [])) (bind binder.All (5 ∷ []) numbers (less z z)) ≡ no_match
  pub computed : gives (compute false []) (twice_of (number (pos 2))) ≡ just (number (pos 4))
  pub free_name : gives (compute false []) (twice_of a) ≡ no_match
  pub held : gives (settling.holds false []) p ≡ provided (p ∷ []) (truth true)
  pub failing : gives (settling.fails false []) p ≡ provided (negated p ∷ []) (truth false)
  pub no_truth : gives (settling.holds false []) a ≡ no_match
  pub fact : gives (use_fact 1 false []) q ≡ just (truth true)
  pub fact_back : gives (use_fact 1 true []) q ≡ no_match
  pub forth : gives (use_fact 2 false []) a ≡ just b
  pub back : gives (use_fact 2 true []) b ≡ just a
  pub other_side : gives (use_fact 2 false []) b ≡ no_match
  pub no_fact : gives (use_fact 0 false []) q ≡ no_match
  pub beyond : gives (use_fact 3 false []) q ≡ no_match
  pub interval : gives (uncast false []) (app (cast (ints (pos 1) (pos 2))) (term a no_term)) ≡ provided (at_most (number (pos 1)) a ∷ at_most a (number (pos 2)) ∷ []) a
  pub bound : gives (uncast false []) (app (cast (seqs (ints (pos 0) (pos 3)) 2)) (term three_items no_term)) ≡ provided (at_most (length_of three_items) (number (pos 2)) ∷ []) three_items
  pub other_items : gives (uncast false []) (app (cast (seqs (ints (pos 0) (pos 2)) 4)) (term three_items no_term)) ≡ no_match
  pub within : gives (uncast false []) within_sets ≡ just numbers
  pub not_within : gives (uncast false []) (app (cast (sets (ints (pos 2) (pos 9)))) (term numbers no_term)) ≡ no_match
