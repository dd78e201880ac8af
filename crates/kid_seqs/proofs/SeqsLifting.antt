-- The pieces of the search of sequences make its search space.
use Rattle.std.proofs.Common.{◌≡◌, ℕ, ℤ, pos, Bool, true, false, cond, List, [], ◌∷◌, map, Some, None, refl, sym, ◌∙◌}
use Rattle.std.specs.Prelude.{◌&&◌, not}
use Rattle.std.specs.Int.{int_gap}
use Rattle.std.specs.List.{flat_map}
use Rattle.kid_value.specs.InSort.{in_sort}
use Rattle.kid_value.specs.Least.{least_value}
use Rattle.kid_value.specs.PlainSort.{PlainSort, sets, seqs, has_sort}
use Rattle.kid_value.specs.PlainValue.{PlainValue, int}
use Rattle.kid_value.specs.Rows.Parts.{truth_of, number_of, members_of}
use Rattle.kid_value.specs.Rows.Logic.{and}
use Rattle.kid_value.specs.Rows.Number.{le, lt, min, max, sub}
use Rattle.kid_value.specs.Rows.Seq as rows
use Rattle.kid_value.specs.Rows.Set.{subset}
use Rattle.kid_value.specs.ValueSet.{is_member}
use Rattle.kid_value.proofs.SortLemmas.{and_parts}
use Rattle.kid_term.specs.PlainTerm.{PlainTerm}
use Rattle.kid_term.specs.Eval.{Env, Calls, value_at, eval}
use Rattle.kid_search.specs.Space.{Descriptor, Space, fit, all_true}
use Rattle.kid_search.specs.SpaceLaws.{IsLawful}
use Rattle.kid_seqs.specs.Seqs.{seqs_kept, fewer_of, seqs_space, seqs_goal, seqs_start}
use Rattle.kid_search.proofs.BoolLemmas.{false_true, false_not}
use Rattle.kid_search.proofs.JustOne.{just-one}
use Rattle.kid_search.proofs.SameSpace.{SameAtGood, lawful-same, starts-same}
use Rattle.kid_seqs.proofs.SeqsLaws.{seqs-lawful, seqs-starts, kid-sorted}
use Rattle.kid_search.proofs.SetMeaning.{in_sort-parts}
use Rattle.kid_search.specs.Pieces.{space_of, is_goal, lacks, are_apart, AreLawful}
use Rattle.kid_seqs.specs.SeqsPieces.{seqs_pieces, SeqsAreLawful}
use Rattle.kid_search.proofs.ReadLemmas.{no_fit, no_end, found, passed, unmentioned, over_pool, separate, lacks_one}
use Rattle.kid_term.specs.Names.{same_name}
use Rattle.kid_term.specs.Substitution.{mentions}

-- the names differ, and do not stand in the term of the bound
pub record AreFresh (v w b z : List ℕ) (n : PlainTerm) : Type 0 where
  pub second_first : same_name w v ≡ false
  pub first_branch : same_name v b ≡ false
  pub second_branch : same_name w b ≡ false
  pub first_output : same_name v z ≡ false
  pub second_output : same_name w z ≡ false
  pub not_first : mentions v n ≡ false
  pub not_second : mentions w n ≡ false
  pub not_output : mentions z n ≡ false

module _ (a : PlainSort) (bound : ℕ) (v w b z : List ℕ) (s n : PlainTerm) (calls : Calls) (input : Env) (fresh : AreFresh v w b z n) (most : ℤ) (most_is : eval calls input n ≡ int most) where
  abbrev made : Space
  made = space_of calls input z (seqs_pieces a bound v w b z s n)

  abbrev space : Space
  space = seqs_space bound most a

  abbrev env : PlainValue → PlainValue → Env
  env x y = (v, x) ∷ (w, y) ∷ input

  at_v : (x y : PlainValue) → value_at v (env x y) ≡ x
  at_v x y = found v x ((w, y) ∷ input)

  at_w : (x y : PlainValue) → value_at w (env x y) ≡ y
  at_w x y = passed w v x ((w, y) ∷ input) fresh.second_first ∙ found w y input

  at_n : (x y : PlainValue) → eval calls (env x y) n ≡ int most
  at_n x y = unmentioned calls v x ((w, y) ∷ input) n fresh.not_first ∙ unmentioned calls w y input n fresh.not_second ∙ most_is

  good : (d : Descriptor) → made.is_good d ≡ space.is_good d
  good (x ∷ y ∷ []) = refl
  good [] = refl
  good (x ∷ []) = no_fit (in_sort (seqs a bound) x && false) _ _ (no_end (in_sort (seqs a bound) x) true)
  good (x ∷ y ∷ t ∷ ts) = no_fit (in_sort (seqs a bound) x && (in_sort (sets a) y && false)) _ _ (no_end (in_sort (seqs a bound) x) (in_sort (sets a) y))

  no : (d : Descriptor) → seqs_kept d ≡ false → space.is_good d ≡ true → ⊥
  no d e g = false_true (sym e ∙ (and_parts (fit (seqs a bound ∷ sets a ∷ []) d) (seqs_kept d) g).1)

  satisfies : (d : Descriptor) (t : PlainValue) → space.is_good d ≡ true → in_sort (seqs a bound) t ≡ true → made.satisfies d t ≡ space.satisfies d t
  satisfies (x ∷ y ∷ []) t g i =
      let rv = passed v z t (env x y) fresh.first_output ∙ at_v x y in
      let rw' = passed w z t (env x y) fresh.second_output ∙ at_w x y in
      let rz = found z t (env x y) in
      let rn = unmentioned calls z t (env x y) n fresh.not_output ∙ at_n x y in
      λ i. all_true (rows.prefix (rv i) (rz i) ∷ subset (rows.items (rows.rest (rz i) (rows.len (rv i)))) (rw' i) ∷ le (rows.len (rz i)) (rn i) ∷ [])
  satisfies d t g i = absurd (no d refl g)

  leaf : (d : Descriptor) → space.is_good d ≡ true → made.leaf d ≡ space.leaf d
  leaf (x ∷ y ∷ []) g = λ i. cond (truth_of (le (rows.len (at_v x y i)) (at_n x y i))) (Some (at_v x y i)) None
  leaf d g = absurd (no d refl g)

  -- what a kid's terms give
  abbrev each : Env → Descriptor
  each e = cond (has_sort (seqs a bound) (rows.snoc (value_at v e) (value_at b e))) (rows.snoc (value_at v e) (value_at b e)) (least_value (seqs a bound)) ∷ value_at w e ∷ []

  kids : (d : Descriptor) → space.is_good d ≡ true → made.kids d ≡ space.kids d
  kids (x ∷ y ∷ []) g = guard ∙ by (truth_of (lt (rows.len x) (fewer_of bound most))) refl
    where
      guard : made.kids (x ∷ y ∷ []) ≡ cond (truth_of (lt (rows.len x) (fewer_of bound most))) (flat_map (λ e. each e ∷ []) (map (λ t. (b, t) ∷ env x y) (members_of y))) []
      guard = λ i. cond (truth_of (lt (rows.len (at_v x y i)) (min (at_n x y i) (int (pos bound))))) (flat_map (λ e. each e ∷ []) (map (λ t. (b, t) ∷ env x y) (members_of (at_w x y i)))) []

      kid_at : (t : PlainValue) → is_member t (members_of y) ≡ true → truth_of (lt (rows.len x) (fewer_of bound most)) ≡ true → each ((b, t) ∷ env x y) ≡ rows.snoc x t ∷ y ∷ []
      kid_at t m e =
          let rv = passed v b t (env x y) fresh.first_branch ∙ at_v x y in
          let rw' = passed w b t (env x y) fresh.second_branch ∙ at_w x y in
          let rb = found b t (env x y) in
          let h = (in_sort-parts (seqs a bound) (rows.snoc x t) (kid-sorted a bound most x y t g m e)).0 in
          (λ i. cond (has_sort (seqs a bound) (rows.snoc (rv i) (rb i))) (rows.snoc (rv i) (rb i)) (least_value (seqs a bound)) ∷ rw' i ∷ [])
          ∙ (λ i. cond (h i) (rows.snoc x t) (least_value (seqs a bound)) ∷ y ∷ [])

      by : (c : Bool) → truth_of (lt (rows.len x) (fewer_of bound most)) ≡ c
          → cond c (flat_map (λ e. each e ∷ []) (map (λ t. (b, t) ∷ env x y) (members_of y))) [] ≡ cond c (map (λ t. rows.snoc x t ∷ y ∷ []) (members_of y)) []
      by true e = over_pool (λ t. (b, t) ∷ env x y) each (λ t. rows.snoc x t ∷ y ∷ []) (members_of y) (λ t m. kid_at t m e)
      by false e = refl
  kids d g = absurd (no d refl g)

  rank : (d : Descriptor) → space.is_good d ≡ true → made.rank d ≡ space.rank d
  rank (x ∷ y ∷ []) g = λ i. int_gap (pos 0) (number_of (max (int (pos 0)) (sub (min (at_n x y i) (int (pos bound))) (rows.len (at_v x y i)))))
  rank d g = absurd (no d refl g)

  same : SameAtGood space made (in_sort (seqs a bound))
  same = record { good = good; satisfies = satisfies; leaf = leaf; kids = kids; rank = rank }

  pub pieces-lawful : IsLawful made (in_sort (seqs a bound))
  pieces-lawful = lawful-same space made (in_sort (seqs a bound)) (seqs-lawful a bound most) same

fresh_names : (v w b z : List ℕ) (n : PlainTerm) → are_apart (z ∷ b ∷ v ∷ w ∷ []) ≡ true → lacks n (z ∷ v ∷ w ∷ []) ≡ true → AreFresh v w b z n
fresh_names v w b z n e k =
    let names = separate v w b z e in
    let p = and_parts (not (mentions z n)) (not (mentions v n) && (not (mentions w n) && true)) k in
    let q = and_parts (not (mentions v n)) (not (mentions w n) && true) p.1 in
    record {
      second_first = names.second_first;
      first_branch = names.first_branch;
      second_branch = names.second_branch;
      first_output = names.first_output;
      second_output = names.second_output;
      not_first = false_not (mentions v n) q.0;
      not_second = false_not (mentions w n) (and_parts (not (mentions w n)) true q.1).0;
      not_output = false_not (mentions z n) p.0;
    }

pub seqs_are_lawful : SeqsAreLawful
seqs_are_lawful a bound v w b z s n calls input most names lack fresh sorted most_is =
    let made = space_of calls input z (seqs_pieces a bound v w b z s n) in
    let f = fresh_names v w b z n names fresh in
    let lawful = pieces-lawful a bound v w b z s n calls input f most most_is in
    record {
      lawful = lawful;
      just_one = just-one made (in_sort (seqs a bound)) lawful;
      starts = starts-same (seqs_space bound most a) made (in_sort (seqs a bound)) (seqs_goal bound most (eval calls input s)) (is_goal calls input z (seqs_pieces a bound v w b z s n)) (seqs_start (eval calls input s))
          (same a bound v w b z s n calls input f most most_is) (seqs-starts a bound most (eval calls input s) sorted)
          (λ x i. truth_of (and (subset (rows.items (found z x input i)) (lacks_one calls z x input s lack i))
          (le (rows.len (found z x input i)) ((unmentioned calls z x input n f.not_output ∙ most_is) i))));
    }
