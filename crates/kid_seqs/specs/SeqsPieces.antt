-- The pieces of the search of sequences, and what holds of them.
use Rattle.std.specs.Prelude.{◌≡◌, ℕ, ℤ, pos, true, List, [], ◌∷◌, Some}
use Rattle.kid_value.specs.InSort.{in_sort}
use Rattle.kid_value.specs.PlainSort.{PlainSort, sets, seqs}
use Rattle.kid_value.specs.PlainValue.{int}
use Rattle.kid_term.specs.PlainTerm.{cast, PlainTerm, var, number, truth, app, term_row}
use Rattle.kid_term.specs.Eval.{Env, Calls, eval}
use Rattle.kid_term.specs.declared.operator.LogicOp.TheVariants.{And}
use Rattle.kid_term.specs.declared.operator.NumberOp.TheVariants.{Le, Lt, Sub, Min, Max}
use Rattle.kid_term.specs.declared.operator.SeqOp.TheVariants.{Seq, Len, Snoc, Rest, Items, Prefix}
use Rattle.kid_term.specs.declared.operator.SetOp.TheVariants.{Subset}
use Rattle.kid_search.specs.Operators.{on_numbers, on_sets, on_seqs, on_truths}
use Rattle.kid_search.specs.Pieces.{PlainPieces, AreLawful, lacks, are_apart}

-- sequences of items of the sort a, at most so many by the sort
module _ (a : PlainSort) (bound : ℕ) (v w b z : List ℕ) (s n : PlainTerm) where
  abbrev length_of : PlainTerm
  length_of = on_seqs Len (var v ∷ [])

  abbrev fewer : PlainTerm
  fewer = on_numbers Min (n ∷ number (pos bound) ∷ [])

  -- sequences of at most n items from s: a descriptor has the items so far, and the values that may follow
  abbrev pub seqs_pieces : PlainPieces
  seqs_pieces = record {
    components = (v, seqs a bound) ∷ (w, sets a) ∷ [];
    start = on_seqs Seq [] ∷ s ∷ [];
    inv = truth true;
    sat = on_seqs Prefix (var v ∷ var z ∷ []) ∷ on_sets Subset (on_seqs Items (on_seqs Rest (var z ∷ length_of ∷ []) ∷ []) ∷ var w ∷ []) ∷ on_numbers Le (on_seqs Len (var z ∷ []) ∷ n ∷ []) ∷ [];
    goal = on_truths And (on_sets Subset (on_seqs Items (var z ∷ []) ∷ s ∷ []) ∷ on_numbers Le (on_seqs Len (var z ∷ []) ∷ n ∷ []) ∷ []);
    leaf_guard = on_numbers Le (length_of ∷ n ∷ []);
    leaf = var v;
    kid_guard = on_numbers Lt (length_of ∷ fewer ∷ []);
    branch = Some record { name = b; sort = a; pool = var w };
    kids = (app (cast (seqs a bound)) (term_row (on_seqs Snoc (var v ∷ var b ∷ []) ∷ [])) ∷ var w ∷ []) ∷ [];
    measure = on_numbers Max (number (pos 0) ∷ on_numbers Sub (fewer ∷ length_of ∷ []) ∷ []);
  }

-- where the names differ, none of them stands in the set or in the number, and these have values of their sorts
abbrev pub SeqsAreLawful : Type 0
SeqsAreLawful =
    (a : PlainSort) (bound : ℕ) (v w b z : List ℕ) (s n : PlainTerm) (calls : Calls) (input : Env) (most : ℤ)
    → are_apart (z ∷ b ∷ v ∷ w ∷ []) ≡ true → lacks s (z ∷ []) ≡ true → lacks n (z ∷ v ∷ w ∷ []) ≡ true
    → in_sort (sets a) (eval calls input s) ≡ true → eval calls input n ≡ int most
    → AreLawful calls input z (seqs_pieces a bound v w b z s n) (seqs a bound)
