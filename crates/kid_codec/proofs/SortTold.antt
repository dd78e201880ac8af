-- A tree that spells an allowed sort is the tree of that sort.
use Rattle.std.proofs.Common.{◌≡◌, inl, inr, ℕ, ℤ, Bool, true, false, List, Some, None, refl, ap, ◌∙◌, arith, subst}
use Rattle.std.specs.Prelude.{pos, negsuc, not, ◌&&◌, ◌||◌, nat_le, option_map, if◌then◌else◌, codes}
use Rattle.std.specs.Str.{bytes_eq}
use Rattle.std.proofs.lemmas.Bool.Decides.{nat_tests}
use Rattle.kid_sexp.specs.Plain.{Plain, Plains, atom, list, none, more}
use Rattle.kid_value.specs.PlainSort.{PlainSort, bools, ints, pairs, sets, seqs, maps, enums, has_never}
use Rattle.kid_value.specs.SortOrder.{both}
use Rattle.kid_value.specs.SortCount.{count_of}
use Rattle.kid_value.specs.SortLimits.{sort_depth, is_bounded, is_allowed}
use Rattle.kid_value.proofs.SortLemmas.{and_parts, and_both}
use Rattle.kid_codec.specs.NameSpelling.{spelled_names}
use Rattle.kid_codec.specs.SortSpelling.{number_tree, sort_spelling, has_spelled_names, is_spelled_sort, spelled_number, bound_from, spelled_bound, sort_of_one, sort_of_two, spelled_sort, sort_of_list, sort_of_parts}
use Rattle.kid_codec.proofs.Numbers.{bytes_eq-true}
use Rattle.kid_codec.proofs.NameLemmas.{names_told}
use Rattle.kid_codec.proofs.Found.{same_some, if_some, if_else, mapped, both_some, number_from}

pub record SortTold (t : Plain) (s : PlainSort) : Type 0 where
  pub tree : t ≡ sort_spelling s
  pub whole : has_never s ≡ false
  pub named : has_spelled_names s ≡ true

number_told : (t : Plain) (n : ℤ) → spelled_number t ≡ Some n → t ≡ number_tree n
number_told (atom w) n p = ap atom (number_from w n p).0
number_told (list ts) n p = cc

or_both : (b c : Bool) → b ≡ false → c ≡ false → (b || c) ≡ false
or_both b c p q = rw (p, q) refl

bound_told : (n : ℤ) (k : ℕ) → bound_from n ≡ k → nat_le k 65536 ≡ true → n ≡ pos k
bound_told (pos m) k p h = ap pos (grind (arith, nat_tests))
bound_told (negsuc m) k p h = absurd (grind (arith, nat_tests))

-- what reading tells of one tree
abbrev Tells : Plain → Type 0
Tells t = (s : PlainSort) → spelled_sort t ≡ Some s → is_bounded s ≡ true → SortTold t s

set_told : (w : List ℕ) (a : Plain) (s : PlainSort) → Tells a → sort_of_one w (spelled_sort a) ≡ Some s → is_bounded s ≡ true → SortTold (list (more (atom w) (more a none))) s
set_told w a s f p b =
    let r = if_some (bytes_eq w (codes "set")) (option_map sets (spelled_sort a)) s p in
    let m = mapped sets (spelled_sort a) s r.1 in
    let x : PlainSort = m.0 in
    let k = f x m.1 (and_parts (is_bounded x) (nat_le (count_of x) 65536) (ap is_bounded m.2 ∙ b)).0 in
    let q = bytes_eq-true w (codes "set") r.0 in
    let e = k.tree in
    subst (SortTold (list (more (atom w) (more a none)))) m.2 (record { tree = λ i. list (more (atom (q i)) (more (e i) none)); whole = k.whole; named = k.named })

int_told : (w : List ℕ) (a c : Plain) (s : PlainSort) → bytes_eq w (codes "int") ≡ true → both ints (spelled_number a) (spelled_number c) ≡ Some s → SortTold (list (more (atom w) (more a (more c none)))) s
int_told w a c s h p =
    let m = both_some ints (spelled_number a) (spelled_number c) s p in
    let q = bytes_eq-true w (codes "int") h in
    let d = number_told a m.0 m.2 in
    let e = number_told c m.1 m.3 in
    subst (SortTold (list (more (atom w) (more a (more c none))))) m.4 (record { tree = λ i. list (more (atom (q i)) (more (d i) (more (e i) none))); whole = refl; named = refl })

pair_told : (w : List ℕ) (a c : Plain) (s : PlainSort) → Tells a → Tells c → bytes_eq w (codes "pair") ≡ true → both pairs (spelled_sort a) (spelled_sort c) ≡ Some s → is_bounded s ≡ true
    → SortTold (list (more (atom w) (more a (more c none)))) s
pair_told w a c s f g h p b =
    let m = both_some pairs (spelled_sort a) (spelled_sort c) s p in
    let x : PlainSort = m.0 in
    let y : PlainSort = m.1 in
    let r = and_parts (is_bounded x) (is_bounded y) (ap is_bounded m.4 ∙ b) in
    let j = f x m.2 r.0 in
    let k = g y m.3 r.1 in
    let q = bytes_eq-true w (codes "pair") h in
    let d = j.tree in
    let e = k.tree in
    subst (SortTold (list (more (atom w) (more a (more c none))))) m.4
    (record { tree = λ i. list (more (atom (q i)) (more (d i) (more (e i) none))); whole = or_both (has_never x) (has_never y) j.whole k.whole; named = and_both (has_spelled_names x) (has_spelled_names y) j.named k.named })

seq_told : (w : List ℕ) (a c : Plain) (s : PlainSort) → Tells a → bytes_eq w (codes "seq") ≡ true → both seqs (spelled_sort a) (spelled_bound c) ≡ Some s → is_bounded s ≡ true
    → SortTold (list (more (atom w) (more a (more c none)))) s
seq_told w a c s f h p b =
    let m = both_some seqs (spelled_sort a) (spelled_bound c) s p in
    let x : PlainSort = m.0 in
    let r = and_parts (is_bounded x) (nat_le m.1 65536) (ap is_bounded m.4 ∙ b) in
    let j = f x m.2 r.0 in
    let u = mapped bound_from (spelled_number c) m.1 m.3 in
    let q = bytes_eq-true w (codes "seq") h in
    let d = j.tree in
    let e = number_told c u.0 u.1 ∙ ap number_tree (bound_told u.0 m.1 u.2 r.1) in
    subst (SortTold (list (more (atom w) (more a (more c none))))) m.4
    (record { tree = λ i. list (more (atom (q i)) (more (d i) (more (e i) none))); whole = j.whole; named = j.named })

map_told : (w : List ℕ) (a c : Plain) (s : PlainSort) → Tells a → Tells c → bytes_eq w (codes "map") ≡ true → both maps (spelled_sort a) (spelled_sort c) ≡ Some s → is_bounded s ≡ true
    → SortTold (list (more (atom w) (more a (more c none)))) s
map_told w a c s f g h p b =
    let m = both_some maps (spelled_sort a) (spelled_sort c) s p in
    let x : PlainSort = m.0 in
    let y : PlainSort = m.1 in
    let r = and_parts (is_bounded x && nat_le (count_of x) 65536) (is_bounded y) (ap is_bounded m.4 ∙ b) in
    let j = f x m.2 (and_parts (is_bounded x) (nat_le (count_of x) 65536) r.0).0 in
    let k = g y m.3 r.1 in
    let q = bytes_eq-true w (codes "map") h in
    let d = j.tree in
    let e = k.tree in
    subst (SortTold (list (more (atom w) (more a (more c none))))) m.4
    (record { tree = λ i. list (more (atom (q i)) (more (d i) (more (e i) none))); whole = or_both (has_never x) (has_never y) j.whole k.whole; named = and_both (has_spelled_names x) (has_spelled_names y) j.named k.named })

two_told : (w : List ℕ) (a c : Plain) (s : PlainSort) → Tells a → Tells c → sort_of_two w (spelled_sort a) (spelled_sort c) a c ≡ Some s → is_bounded s ≡ true
    → SortTold (list (more (atom w) (more a (more c none)))) s
two_told w a c s f g p b =
    let i = both ints (spelled_number a) (spelled_number c) in
    let j = both pairs (spelled_sort a) (spelled_sort c) in
    let k = both seqs (spelled_sort a) (spelled_bound c) in
    let l = both maps (spelled_sort a) (spelled_sort c) in
    elim (if_else (bytes_eq w (codes "int")) i (if bytes_eq w (codes "pair") then j else (if bytes_eq w (codes "seq") then k else (if bytes_eq w (codes "map") then l else None))) s p) [
      | inl r ↦ int_told w a c s r.0 r.1
      | inr r ↦ elim (if_else (bytes_eq w (codes "pair")) j (if bytes_eq w (codes "seq") then k else (if bytes_eq w (codes "map") then l else None)) s r.1) [
        | inl u ↦ pair_told w a c s f g u.0 u.1 b
        | inr u ↦ elim (if_else (bytes_eq w (codes "seq")) k (if bytes_eq w (codes "map") then l else None) s u.1) [
          | inl v ↦ seq_told w a c s f v.0 v.1 b
          | inr v ↦ let o = if_some (bytes_eq w (codes "map")) l s v.1 in map_told w a c s f g o.0 o.1 b
        ]
      ]
    ]

enum_told : (w : List ℕ) (ts : Plains) (s : PlainSort) → bytes_eq w (codes "enum") ≡ true → option_map enums (spelled_names ts) ≡ Some s → SortTold (list (more (atom w) ts)) s
enum_told w ts s h p =
    let m = mapped enums (spelled_names ts) s p in
    let k = names_told ts m.0 m.1 in
    let q = bytes_eq-true w (codes "enum") h in
    let e = k.0 in
    subst (SortTold (list (more (atom w) ts))) m.2 (record { tree = λ i. list (more (atom (q i)) (e i)); whole = refl; named = k.1 })

mutual
  pub sort_told : (t : Plain) (s : PlainSort) → spelled_sort t ≡ Some s → is_bounded s ≡ true → SortTold t s
  sort_told (atom w) s p b =
      let r = if_some (bytes_eq w (codes "bool")) (Some bools) s p in
      subst (SortTold (atom w)) (same_some bools s r.1) (record { tree = ap atom (bytes_eq-true w (codes "bool") r.0); whole = refl; named = refl })
  sort_told (list ts) s p b = list_told ts s p b

  list_told : (ts : Plains) (s : PlainSort) → sort_of_list ts ≡ Some s → is_bounded s ≡ true → SortTold (list ts) s
  list_told none s p b = cc
  list_told (more (list us) ts) s p b = cc
  list_told (more (atom w) ts) s p b =
      elim (if_else (bytes_eq w (codes "enum")) (option_map enums (spelled_names ts)) (sort_of_parts ts w) s p) [
        | inl r ↦ enum_told w ts s r.0 r.1
        | inr r ↦ parts_told ts w s r.1 b
      ]

  parts_told : (ts : Plains) (w : List ℕ) (s : PlainSort) → sort_of_parts ts w ≡ Some s → is_bounded s ≡ true → SortTold (list (more (atom w) ts)) s
  parts_told none w s p b = cc
  parts_told (more a none) w s p b = set_told w a s (λ x q k. sort_told a x q k) p b
  parts_told (more a (more c none)) w s p b = two_told w a c s (λ x q k. sort_told a x q k) (λ x q k. sort_told c x q k) p b
  parts_told (more a (more c (more d ts))) w s p b = cc

pub bounded_by_allowed : (s : PlainSort) → is_allowed s ≡ true → is_bounded s ≡ true
bounded_by_allowed s h = (and_parts (nat_le (sort_depth s) 8) (is_bounded s) h).1

pub sort_whole : (t : Plain) (s : PlainSort) → spelled_sort t ≡ Some s → is_allowed s ≡ true → (t ≡ sort_spelling s) × (is_spelled_sort s ≡ true)
sort_whole t s p h =
    let k = sort_told t s p (bounded_by_allowed s h) in
    (k.tree, and_both (is_allowed s && not (has_never s)) (has_spelled_names s) (and_both (is_allowed s) (not (has_never s)) h (ap not k.whole)) k.named)
