-- What is read as a rule was spelled so, and a rule that has a spelling is read back.
use Rattle.std.proofs.Common.{◌≡◌, ◌<◌, ◌⊎◌, inl, inr, ℕ, ℤ, pos, negsuc, Bool, true, false, List, [], ◌∷◌, length, Option, Some, None, Result, Ok, Err, refl, sym, ap, ◌∙◌, arith, subst}
use Rattle.std.specs.Prelude.{not, ◌&&◌, ◌||◌, ◌==◌, nat_le, int_le, option_map, if◌then◌else◌, codes}
use Rattle.std.specs.Fmt.{decimal, signed_decimal}
use Rattle.std.specs.List.{list_all}
use Rattle.std.specs.Str.{bytes_eq}
use Rattle.std.specs.Str.Parse.{AllDigits}
use Rattle.std.proofs.lemmas.Bool.Decides.{nat_tests}
use Rattle.std.proofs.lemmas.Fmt.{decimal_is_IsNumeral}
use Rattle.std.proofs.lemmas.Int.{ints as int_rules}
use Rattle.std.proofs.lemmas.Str.Parse.{digit_from_value}
use Rattle.kid_sexp.specs.Plain.{Plain, Plains, atom, list, none, more, one}
use Rattle.kid_sexp.specs.Tree.{plains}
use Rattle.kid_sexp.specs.declared.tree.Tree.{Tree}
use Rattle.kid_value.specs.NameSet.{is_among}
use Rattle.kid_value.specs.SortOrder.{both}
use Rattle.kid_value.specs.SortLimits.{in_limits}
use Rattle.kid_value.proofs.SortLemmas.{and_parts, and_both}
use Rattle.kid_term.specs.PlainTerm.{PlainTerm, term_row}
use Rattle.kid_term.specs.WordTerms.{holds_word_operator}
use Rattle.kid_codec.specs.Name as name
use Rattle.kid_codec.specs.Name.{is_name, is_digit, is_name_byte, is_rule_number, starts_rule, starts_with_letter}
use Rattle.kid_codec.specs.NameSpelling.{spelled_name}
use Rattle.kid_codec.specs.Number.{number_of}
use Rattle.kid_codec.specs.Reading.{judged, ◌>>=◌}
use Rattle.kid_codec.specs.Reserved.{reserved_words}
use Rattle.kid_codec.specs.Shape.{single}
use Rattle.kid_codec.specs.SortSpelling.{number_tree, headed}
use Rattle.kid_codec.specs.TermSpelling.{term_spelling, term_spellings, is_spelled_term, spelled_term, casts_are_allowed, term_reading}
use Rattle.kid_codec.specs.declared.fault.CodecFault.{CodecFault}
use Rattle.kid_codec.specs.declared.fault.CodecFault.TheVariants as fault
use Rattle.kid_codec.proofs.Found.{same_some, if_some, if_else, mapped, both_some, bind_some, first_with-word, first_with-all, number_from, or_true}
use Rattle.kid_codec.proofs.NameLemmas.{name_told}
use Rattle.kid_codec.proofs.Numbers.{bytes_eq-true, small_pos, number_of-decimal}
use Rattle.kid_codec.proofs.ShapeTold.{single_told}
use Rattle.kid_codec.proofs.TermBack.{term_reads_back}
use Rattle.kid_codec.proofs.TermTold.{term_told}
use Rattle.kid_moves.specs.PlainRule.{PlainRule, by_equation, by_implication, by_binder, by_law, by_unfolding, by_folding, by_computing, by_fact, by_holding, by_failing, by_uncasting}
use Rattle.kid_lines.specs.RuleReading.{up_to, spelled_index, without_words, spelled_plain_term, spelled_plain_terms, rule_of_letter, numbered_rule, fixed_rules, fixed_rule, or_else, word_rule, Ruled, headed_parts, used, folded, argued, ruled_by, spelled_rule}
use Rattle.kid_lines.specs.RuleSpelling.{rule_word, worded, rule_spelling, is_index, is_spelled_word, is_plain_term, may_have, is_spelled_rule}

-- ---- numbers

up_to_told : (top : ℕ) (z : ℤ) (n : ℕ) → up_to top z ≡ Some n → (z ≡ pos n) × (nat_le n top ≡ true)
up_to_told top (pos m) n e =
    let r = if_some (nat_le m top) (Some m) n e in
    let is = same_some m n r.1 in
    (ap pos is, ap (λ (k : ℕ). nat_le k top) (sym is) ∙ r.0)
up_to_told top (negsuc m) n e = cc

up_to_back : (top n : ℕ) → nat_le n top ≡ true → up_to top (pos n) ≡ Some n
up_to_back top n h = ap (λ (b : Bool). if b then Some n else None) h

small : (n : ℕ) → nat_le n 4294967295 ≡ true → in_limits (pos n) ≡ true
small n h =
    let low : int_le (negsuc 4611686018427387903) (pos n) ≡ true = grind (arith, int_rules, nat_tests) in
    let high : int_le (pos n) (pos 4611686018427387904) ≡ true = grind (arith, int_rules, nat_tests) in
    and_both (int_le (negsuc 4611686018427387903) (pos n)) (int_le (pos n) (pos 4611686018427387904)) low high

pub index_told : (t : Plain) (n : ℕ) → spelled_index t ≡ Some n → (t ≡ number_tree (pos n)) × (is_index n ≡ true)
index_told (atom w) n e =
    let b = bind_some (number_of w) (up_to 4294967295) n e in
    let u = up_to_told 4294967295 b.0 n b.2 in
    let k = number_from w b.0 b.1 in
    (ap atom (k.0 ∙ ap signed_decimal u.0), u.1)
index_told (list ts) n e = cc

pub index_back : (n : ℕ) → is_index n ≡ true → spelled_index (number_tree (pos n)) ≡ Some n
index_back n h = ap (λ (o : Option ℤ). o >>= up_to 4294967295) (number_of-decimal (pos n) (small n h)) ∙ up_to_back 4294967295 n h

-- ---- terms

if_ok : (b : Bool) (v u : PlainTerm) → (if b then Ok v else Err fault.Sort) ≡ Ok u → (b ≡ true) × (Some v ≡ Some u)
if_ok true v u e = (refl, cc)
if_ok false v u e = cc

judged_ok : (o : Option PlainTerm) (u : PlainTerm) → judged casts_are_allowed o ≡ Ok u → (o ≡ Some u) × (casts_are_allowed u ≡ true)
judged_ok None u e = cc
judged_ok (Some v) u e =
    let r = if_ok (casts_are_allowed v) v u e in
    (r.1, ap casts_are_allowed (sym (same_some v u r.1)) ∙ r.0)

if_not : (b : Bool) (v u : PlainTerm) → (if b then None else Some v) ≡ Some u → (not b ≡ true) × (v ≡ u)
if_not true v u e = cc
if_not false v u e = (refl, same_some v u e)

wordless : (r : Result PlainTerm CodecFault) (u : PlainTerm) → without_words r ≡ Some u → (r ≡ Ok u) × (not (holds_word_operator u) ≡ true)
wordless (Ok v) u e =
    let k = if_not (holds_word_operator v) v u e in
    (ap (λ (t : PlainTerm). Ok t) k.1, ap (λ (t : PlainTerm). not (holds_word_operator t)) (sym k.1) ∙ k.0)
wordless (Err f) u e = cc

pub plain_term_told : (t : Plain) (u : PlainTerm) → spelled_plain_term t ≡ Some u → (t ≡ term_spelling u) × (is_plain_term u ≡ true)
plain_term_told t u e =
    let k = wordless (term_reading t) u e in
    let j = judged_ok (spelled_term t) u k.0 in
    let m = term_told t u j.0 j.1 in
    (m.tree, and_both (is_spelled_term u) (not (holds_word_operator u)) m.spelled k.1)

not_held : (b : Bool) (u : PlainTerm) → not b ≡ true → (if b then None else Some u) ≡ Some u
not_held true u h = cc
not_held false u h = refl

pub plain_term_back : (u : PlainTerm) → is_plain_term u ≡ true → spelled_plain_term (term_spelling u) ≡ Some u
plain_term_back u h =
    let r = and_parts (is_spelled_term u) (not (holds_word_operator u)) h in
    ap without_words (term_reads_back u r.0) ∙ not_held (holds_word_operator u) u r.1

pub plain_terms_told : (ts : Plains) (us : List PlainTerm) → spelled_plain_terms ts ≡ Some us → (ts ≡ term_spellings (term_row us)) × (list_all is_plain_term us ≡ true)
plain_terms_told none us e =
    let is = same_some [] us e in
    (ap (λ (l : List PlainTerm). term_spellings (term_row l)) is, ap (list_all is_plain_term) (sym is))
plain_terms_told (more t ts) us e =
    let m = bind_some (spelled_plain_term t) (λ (u : PlainTerm). option_map (λ (l : List PlainTerm). u ∷ l) (spelled_plain_terms ts)) us e in
    let u : PlainTerm = m.0 in
    let n = mapped (λ (l : List PlainTerm). u ∷ l) (spelled_plain_terms ts) us m.2 in
    let rest : List PlainTerm = n.0 in
    let is : u ∷ rest ≡ us = n.2 in
    let j = plain_term_told t u m.1 in
    let k = plain_terms_told ts rest n.1 in
    let c = j.0 in
    let d = k.0 in
    ((λ i. more (c i) (d i)) ∙ ap (λ (l : List PlainTerm). term_spellings (term_row l)) is, ap (list_all is_plain_term) (sym is) ∙ and_both (is_plain_term u) (list_all is_plain_term rest) j.1 k.1)

pub plain_terms_back : (us : List PlainTerm) → list_all is_plain_term us ≡ true → spelled_plain_terms (term_spellings (term_row us)) ≡ Some us
plain_terms_back [] h = refl
plain_terms_back (u ∷ us) h =
    let r = and_parts (is_plain_term u) (list_all is_plain_term us) h in
    let c = plain_term_back u r.0 in
    let d = plain_terms_back us r.1 in
    λ i. c i >>= λ x. option_map (λ rest. x ∷ rest) (d i)

-- ---- rules that are one word

-- all but the use of a fact and the folding of a call
is_word : PlainRule → Bool
is_word (by_folding f) = false
is_word (by_fact k) = false
is_word r = true

record WordTold (w : List ℕ) (r : PlainRule) : Type 0 where
  word : w ≡ rule_word r
  spelled : is_spelled_word r ≡ true
  alone : is_word r ≡ true

fixed_told : (w : List ℕ) (r : PlainRule) → fixed_rule w ≡ Some r → WordTold w r
unfolding is_word
fixed_told w r e = record {
  word = first_with-word rule_word fixed_rules w r e;
  spelled = first_with-all rule_word is_spelled_word fixed_rules w r e refl;
  alone = first_with-all rule_word is_word fixed_rules w r e refl;
}

letter : (c d : ℕ) → (c == d) ≡ true → c ≡ d
letter c d p = grind (arith, nat_tests)

letter_told : (c n : ℕ) (cs : List ℕ) (r : PlainRule) → cs ≡ signed_decimal (pos n) → nat_le n 255 ≡ true → rule_of_letter c n ≡ Some r → WordTold (c ∷ cs) r
unfolding is_word
letter_told c n cs r is h e =
    elim (if_else (c == 101) (Some (by_equation n)) (if c == 109 then Some (by_implication n) else (if c == 98 then Some (by_binder n) else None)) r e) [
      | inl p ↦ let d = letter c 101 p.0 in subst (WordTold (c ∷ cs)) (same_some (by_equation n) r p.1) (record { word = λ i. d i ∷ is i; spelled = h; alone = refl })
      | inr p ↦ elim (if_else (c == 109) (Some (by_implication n)) (if c == 98 then Some (by_binder n) else None) r p.1) [
        | inl q ↦ let d = letter c 109 q.0 in subst (WordTold (c ∷ cs)) (same_some (by_implication n) r q.1) (record { word = λ i. d i ∷ is i; spelled = h; alone = refl })
        | inr q ↦
            let o = if_some (c == 98) (Some (by_binder n)) r q.1 in
            let d = letter c 98 o.0 in
            subst (WordTold (c ∷ cs)) (same_some (by_binder n) r o.1) (record { word = λ i. d i ∷ is i; spelled = h; alone = refl })
      ]
    ]

numbered_told : (w : List ℕ) (r : PlainRule) → numbered_rule w ≡ Some r → WordTold w r
numbered_told [] r e = cc
numbered_told (c ∷ cs) r e =
    let b = bind_some (number_of cs) (λ (z : ℤ). up_to 255 z >>= rule_of_letter c) r e in
    let m = bind_some (up_to 255 b.0) (rule_of_letter c) r b.2 in
    let u = up_to_told 255 b.0 m.0 m.1 in
    let k = number_from cs b.0 b.1 in
    letter_told c m.0 cs r (k.0 ∙ ap signed_decimal u.0) u.1 m.2

one_of : (w : List ℕ) (r : PlainRule) (o p : Option PlainRule) → (o ≡ Some r → WordTold w r) → (p ≡ Some r → WordTold w r) → or_else o p ≡ Some r → WordTold w r
one_of w r (Some x) p f g e = f e
one_of w r None p f g e = g e

word_told : (w : List ℕ) (r : PlainRule) → word_rule w ≡ Some r → WordTold w r
unfolding is_word
word_told w r e =
    elim (if_else (is_name w) (Some (by_law w)) (or_else (fixed_rule w) (numbered_rule w)) r e) [
      | inl p ↦ subst (WordTold w) (same_some (by_law w) r p.1) (record { word = refl; spelled = p.0; alone = refl })
      | inr p ↦ one_of w r (fixed_rule w) (numbered_rule w) (fixed_told w r) (numbered_told w r) p.1
    ]

-- e, m or b before a number is no name
and_false : (b c : Bool) → c ≡ false → (b && c) ≡ false
and_false true c p = p
and_false false c p = refl

no_name : (w : List ℕ) → is_rule_number w ≡ true → is_name w ≡ false
unfolding name.is_reserved
no_name w h =
    and_false (starts_with_letter w && nat_le (length w) 32 && list_all is_name_byte w) (not (is_among w reserved_words || is_rule_number w))
    (ap not (or_true (is_among w reserved_words) (is_rule_number w) h))

all_digits : (ds : List ℕ) → AllDigits 10 ds → list_all is_digit ds ≡ true
all_digits [] a = refl
all_digits (c ∷ cs) a =
    let k = digit_from_value c a.0 in
    let e : is_digit c ≡ true = grind (arith, nat_tests) in
    and_both (is_digit c) (list_all is_digit cs) e (all_digits cs a.1)

some_digits : (ds : List ℕ) → 0 < length ds → not (length ds == 0) ≡ true
some_digits ds h = grind (arith, nat_tests)

byte : (n : ℕ) → nat_le n 255 ≡ true → nat_le n 4294967295 ≡ true
byte n h = grind (arith, nat_tests)

numbered_none : (c n : ℕ) → starts_rule c ≡ true → nat_le n 255 ≡ true → is_name (c ∷ signed_decimal (pos n)) ≡ false
numbered_none c n starts h =
    let d = decimal_is_IsNumeral n (omega (arith, small_pos n (small n (byte n h)))) in
    no_name (c ∷ decimal n)
    (and_both (starts_rule c && not (length (decimal n) == 0)) (list_all is_digit (decimal n)) (and_both (starts_rule c) (not (length (decimal n) == 0)) starts (some_digits (decimal n) d.0.0)) (all_digits (decimal n) d.0.1))

numbered_back : (c n : ℕ) (r : PlainRule) → starts_rule c ≡ true → nat_le n 255 ≡ true → fixed_rule (c ∷ signed_decimal (pos n)) ≡ None → rule_of_letter c n ≡ Some r → word_rule (c ∷ signed_decimal (pos n)) ≡ Some r
numbered_back c n r starts h free is =
    let w = c ∷ signed_decimal (pos n) in
    ap (λ (b : Bool). if b then Some (by_law w) else or_else (fixed_rule w) (numbered_rule w)) (numbered_none c n starts h)
    ∙ ap (λ (o : Option PlainRule). or_else o (numbered_rule w)) free
    ∙ ap (λ (o : Option ℤ). o >>= λ z. up_to 255 z >>= rule_of_letter c) (number_of-decimal (pos n) (small n (byte n h)))
    ∙ ap (λ (o : Option ℕ). o >>= rule_of_letter c) (up_to_back 255 n h) ∙ is

word_back : (r : PlainRule) → is_word r ≡ true → is_spelled_word r ≡ true → word_rule (rule_word r) ≡ Some r
unfolding is_word name.is_reserved
word_back (by_equation n) a h = numbered_back 101 n (by_equation n) refl h refl refl
word_back (by_implication n) a h = numbered_back 109 n (by_implication n) refl h refl refl
word_back (by_binder n) a h = numbered_back 98 n (by_binder n) refl h refl refl
word_back (by_law f) a h = ap (λ (b : Bool). if b then Some (by_law f) else or_else (fixed_rule f) (numbered_rule f)) h
word_back by_unfolding a h = refl
word_back (by_folding f) a h = cc
word_back by_computing a h = refl
word_back (by_fact k) a h = cc
word_back by_holding a h = refl
word_back by_failing a h = refl
word_back by_uncasting a h = refl

-- ---- rules with their arguments

pub headed_told : (t : Plain) (q : List ℕ × Plains) → headed_parts t ≡ Some q → t ≡ headed q.0 q.1
headed_told (atom w) q e = cc
headed_told (list none) q e = cc
headed_told (list (more (list us) ts)) q e = cc
headed_told (list (more (atom w) ts)) q e = ap (λ (p : List ℕ × Plains). headed p.0 p.1) (same_some (w, ts) q e)

pub record RuleTold (t : Plain) (p : Ruled) : Type 0 where
  pub tree : t ≡ rule_spelling p.0 p.1
  pub spelled : is_spelled_rule p.0 p.1 ≡ true

-- a rule that is one word stands before its arguments, and may have any
alone_tree : (r : PlainRule) (ts : List PlainTerm) → is_word r ≡ true → (rule_spelling r ts ≡ worded (rule_word r) ts) × (may_have r ts ≡ true)
unfolding is_word
alone_tree (by_folding f) ts h = cc
alone_tree (by_fact k) ts h = cc
alone_tree r ts h = (refl, refl)

word_rule_told : (w : List ℕ) (r : PlainRule) (ts : List PlainTerm) (t : Plain) → WordTold w r → t ≡ worded w ts → list_all is_plain_term ts ≡ true → RuleTold t (r, ts)
word_rule_told w r ts t k is h =
    let a = alone_tree r ts k.alone in
    record {
      tree = is ∙ ap (λ (v : List ℕ). worded v ts) k.word ∙ sym a.0;
      spelled = and_both (is_spelled_word r && may_have r ts) (list_all is_plain_term ts) (and_both (is_spelled_word r) (may_have r ts) k.spelled a.1) h;
    }

used_told : (ts : Plains) (p : Ruled) → used ts ≡ Some p → RuleTold (headed (codes "use") ts) p
used_told ts p e =
    let b = bind_some (single ts) (λ (t : Plain). option_map (λ (k : ℕ). (by_fact k, [])) (spelled_index t)) p e in
    let into : ℕ → Ruled = λ k. (by_fact k, []) in
    let m = mapped into (spelled_index b.0) p b.2 in
    let k : ℕ = m.0 in
    let j = index_told b.0 k m.1 in
    subst (RuleTold (headed (codes "use") ts)) m.2 (record {
      tree = ap (headed (codes "use")) (single_told ts b.0 b.1 ∙ ap one j.0);
      spelled = and_both (is_index k && true) true (and_both (is_index k) true j.1 refl) refl;
    })

folded_told : (ts : Plains) (p : Ruled) → folded ts ≡ Some p → RuleTold (headed (codes "fold") ts) p
folded_told none p e = cc
folded_told (more t ts) p e =
    let into : List ℕ → List PlainTerm → Ruled = λ f us. (by_folding f, us) in
    let m = both_some into (spelled_name t) (spelled_plain_terms ts) p e in
    let f : List ℕ = m.0 in
    let us : List PlainTerm = m.1 in
    let j = name_told t f m.2 in
    let k = plain_terms_told ts us m.3 in
    let c = j.0 in
    let d = k.0 in
    subst (RuleTold (headed (codes "fold") (more t ts))) m.4 (record {
      tree = λ i. headed (codes "fold") (more (c i) (d i));
      spelled = and_both (is_name f && true) (list_all is_plain_term us) (and_both (is_name f) true j.1 refl) k.1;
    })

some_worded : (w : List ℕ) (t : Plain) (ts : Plains) (us : List PlainTerm) → more t ts ≡ term_spellings (term_row us) → headed w (more t ts) ≡ worded w us
some_worded w t ts [] e = cc
some_worded w t ts (u ∷ us) e = ap (headed w) e

argued_told : (w : List ℕ) (ts : Plains) (p : Ruled) → argued w ts ≡ Some p → RuleTold (headed w ts) p
argued_told w none p e = cc
argued_told w (more t ts) p e =
    let into : PlainRule → List PlainTerm → Ruled = λ r us. (r, us) in
    let m = both_some into (word_rule w) (spelled_plain_terms (more t ts)) p e in
    let k = plain_terms_told (more t ts) m.1 m.3 in
    subst (RuleTold (headed w (more t ts))) m.4 (word_rule_told w m.0 m.1 (headed w (more t ts)) (word_told w m.0 m.2) (some_worded w t ts m.1 k.0) k.1)

-- behind a word stands at least one term
pub argued_some : (w : List ℕ) (ts : List Tree) → (length ts == 0) ≡ false → argued w (plains ts) ≡ both (λ r us. (r, us)) (word_rule w) (spelled_plain_terms (plains ts))
argued_some w [] h = cc
argued_some w (t ∷ ts) h = refl

ruled_told : (w : List ℕ) (ts : Plains) (p : Ruled) → ruled_by w ts ≡ Some p → RuleTold (headed w ts) p
ruled_told w ts p e =
    elim (if_else (bytes_eq w (codes "use")) (used ts) (if bytes_eq w (codes "fold") then folded ts else argued w ts) p e) [
      | inl q ↦ subst (λ (v : List ℕ). RuleTold (headed v ts) p) (sym (bytes_eq-true w (codes "use") q.0)) (used_told ts p q.1)
      | inr q ↦ elim (if_else (bytes_eq w (codes "fold")) (folded ts) (argued w ts) p q.1) [
        | inl o ↦ subst (λ (v : List ℕ). RuleTold (headed v ts) p) (sym (bytes_eq-true w (codes "fold") o.0)) (folded_told ts p o.1)
        | inr o ↦ argued_told w ts p o.1
      ]
    ]

pub rule_told : (t : Plain) (p : Ruled) → spelled_rule t ≡ Some p → RuleTold t p
rule_told (atom w) p e =
    let into : PlainRule → Ruled = λ r. (r, []) in
    let m = mapped into (word_rule w) p e in
    subst (RuleTold (atom w)) m.2 (word_rule_told w m.0 [] (atom w) (word_told w m.0 m.1) refl refl)
rule_told (list ts) p e =
    let b = bind_some (headed_parts (list ts)) (λ (q : List ℕ × Plains). ruled_by q.0 q.1) p e in
    subst (λ (t : Plain). RuleTold t p) (sym (headed_told (list ts) b.0 b.1)) (ruled_told b.0.0 b.0.1 p b.2)

-- the word of a rule is neither `use` nor `fold`
no_fold : is_name (codes "fold") ≡ false
unfolding name.is_reserved
no_fold = refl

no_use : is_name (codes "use") ≡ false
unfolding name.is_reserved
no_use = refl

name_apart : (v w : List ℕ) (b : Bool) → bytes_eq v w ≡ b → is_name w ≡ false → is_name v ≡ true → b ≡ false
name_apart v w true is h n = let e = ap is_name (bytes_eq-true v w is) in cc
name_apart v w false is h n = refl

use_apart : (r : PlainRule) → is_word r ≡ true → is_spelled_word r ≡ true → bytes_eq (rule_word r) (codes "use") ≡ false
unfolding is_word
use_apart (by_law f) a h = name_apart f (codes "use") _ refl no_use h
use_apart (by_folding f) a h = cc
use_apart (by_fact k) a h = cc
use_apart r a h = refl

fold_apart : (r : PlainRule) → is_word r ≡ true → is_spelled_word r ≡ true → bytes_eq (rule_word r) (codes "fold") ≡ false
unfolding is_word
fold_apart (by_law f) a h = name_apart f (codes "fold") _ refl no_fold h
fold_apart (by_folding f) a h = cc
fold_apart (by_fact k) a h = cc
fold_apart r a h = refl

worded_back : (r : PlainRule) (ts : List PlainTerm) → is_word r ≡ true → is_spelled_word r ≡ true → list_all is_plain_term ts ≡ true → spelled_rule (worded (rule_word r) ts) ≡ Some (r, ts)
worded_back r [] a h g = ap (option_map (λ (x : PlainRule). (x, []))) (word_back r a h)
worded_back r (t ∷ ts) a h g =
    let w = rule_word r in
    let us = term_spellings (term_row (t ∷ ts)) in
    let c = word_back r a h in
    let d = plain_terms_back (t ∷ ts) g in
    ap (λ (b : Bool). if b then used us else (if bytes_eq w (codes "fold") then folded us else argued w us)) (use_apart r a h)
    ∙ ap (λ (b : Bool). if b then folded us else argued w us) (fold_apart r a h)
    ∙ (λ i. both (λ x xs. (x, xs)) (c i) (d i))

pub rule_back : (r : PlainRule) (ts : List PlainTerm) → is_spelled_rule r ts ≡ true → spelled_rule (rule_spelling r ts) ≡ Some (r, ts)
unfolding is_word
rule_back (by_folding f) ts h =
    let p = and_parts (is_name f && true) (list_all is_plain_term ts) h in
    let q = and_parts (is_name f) true p.0 in
    let c : spelled_name (atom f) ≡ Some f = ap (λ (b : Bool). if b then Some f else None) q.0 in
    let d = plain_terms_back ts p.1 in
    λ i. both (λ x xs. (by_folding x, xs)) (c i) (d i)
rule_back (by_fact k) [] h =
    let p = and_parts (is_index k && true) true h in
    let q = and_parts (is_index k) true p.0 in
    ap (option_map (λ (n : ℕ). (by_fact n, []))) (index_back k q.0)
rule_back (by_fact k) (t ∷ ts) h = let p = and_parts (is_index k && false) (list_all is_plain_term (t ∷ ts)) h in let q = and_parts (is_index k) false p.0 in cc
rule_back r ts h =
    let p = and_parts (is_spelled_word r && may_have r ts) (list_all is_plain_term ts) h in
    let q = and_parts (is_spelled_word r) (may_have r ts) p.0 in
    worded_back r ts refl q.0 p.1
