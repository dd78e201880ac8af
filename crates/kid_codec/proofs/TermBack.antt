-- The tree of a term reads back to it.
use Rattle.std.proofs.Common.{◌≡◌, ℕ, ℤ, Bool, true, false, List, ◌∷◌, length, Option, Some, None, Ok, Err, refl, sym, ap, ◌∙◌, arith}
use Rattle.std.specs.Prelude.{◌&&◌, ◌==◌, nat_le, not, is_some, option_map, if◌then◌else◌, codes}
use Rattle.std.specs.List.{list_all}
use Rattle.std.specs.Fmt.{signed_decimal}
use Rattle.std.specs.Str.{bytes_eq}
use Rattle.std.proofs.lemmas.Bool.Decides.{nat_tests}
use Rattle.kid_sexp.specs.Plain.{more, one}
use Rattle.kid_value.specs.SortOrder.{both}
use Rattle.kid_value.specs.SortLimits.{in_limits}
use Rattle.kid_value.proofs.SortLemmas.{and_parts, and_both}
use Rattle.kid_term.specs.declared.operator.Op.{Op}
use Rattle.kid_term.specs.declared.operator.Binder.{Binder}
use Rattle.kid_term.specs.declared.operator.Binder.TheVariants as binder
use Rattle.kid_term.specs.PlainTerm.{PlainHead, op, call, cast, PlainTerm, var, number, truth, tag, app, bind, PlainTerms, no_term, term, terms, term_row}
use Rattle.kid_codec.specs.Name.{is_name, is_reserved, starts_with_letter, is_name_byte}
use Rattle.kid_codec.specs.NameSpelling.{is_tag, tag_name}
use Rattle.kid_codec.specs.Number.{number_of}
use Rattle.kid_codec.specs.Reading.{judged, ◌>>=◌}
use Rattle.kid_codec.specs.SortSpelling.{sort_spelling, is_spelled_sort}
use Rattle.kid_codec.specs.TermSpelling.{term_spelling, term_spellings, is_spelled_head, is_spelled_term, are_spelled_terms, is_allowed_head, casts_are_allowed, all_casts_are_allowed, suits, called, casted, headed_by, term_of_parts, body_of, spelled_term, spelled_terms, spelled_cast, spelled_body, term_reading}
use Rattle.kid_codec.specs.Word.{operator_word, binder_word, op_of, binder_of}
use Rattle.kid_codec.specs.declared.fault.CodecFault.TheVariants as fault
use Rattle.kid_codec.proofs.Numbers.{number_of-decimal, no_letter}
use Rattle.kid_codec.proofs.SortBack.{spelled_parts}
use Rattle.kid_codec.proofs.NameLemmas.{tag_term_read}
use Rattle.kid_codec.proofs.ValueBack.{number_no_word, number_no_tag}
use Rattle.kid_codec.proofs.Words.{op_of-word, binder_of-word, of_each}

refused : (b : Bool) → not b ≡ true → b ≡ false
refused false h = refl
refused true h = sym h

op_no_name : (o : Op) → is_name (operator_word o) ≡ false
unfolding is_reserved
op_no_name o = refused (is_name (operator_word o)) (of_each (λ o. not (is_name (operator_word o))) refl o)

op_no_cast : (o : Op) → bytes_eq (operator_word o) (codes "cast") ≡ false
op_no_cast o = refused (bytes_eq (operator_word o) (codes "cast")) (of_each (λ o. not (bytes_eq (operator_word o) (codes "cast"))) refl o)

no_binder : (b : Option Binder) → not (is_some b) ≡ true → b ≡ None
no_binder None h = refl
no_binder (Some b) h = cc

op_no_binder : (o : Op) → binder_of (operator_word o) ≡ None
unfolding binder_of
op_no_binder o = no_binder (binder_of (operator_word o)) (of_each (λ o. not (is_some (binder_of (operator_word o)))) refl o)

binder_no_name : (b : Binder) → is_name (binder_word b) ≡ false
unfolding is_reserved
binder_no_name binder.All = refl
binder_no_name binder.Some = refl
binder_no_name binder.SetOf = refl
binder_no_name binder.Image = refl
binder_no_name binder.SumOf = refl

binder_no_cast : (b : Binder) → bytes_eq (binder_word b) (codes "cast") ≡ false
binder_no_cast binder.All = refl
binder_no_cast binder.Some = refl
binder_no_cast binder.SetOf = refl
binder_no_cast binder.Image = refl
binder_no_cast binder.SumOf = refl

cast_no_name : is_name (codes "cast") ≡ false
unfolding is_reserved
cast_no_name = refl

true_no_name : is_name (codes "true") ≡ false
unfolding is_reserved
true_no_name = refl

false_no_name : is_name (codes "false") ≡ false
unfolding is_reserved
false_no_name = refl

not_letter : (n : ℤ) → in_limits n ≡ true → (b : Bool) → starts_with_letter (signed_decimal n) ≡ b → b ≡ false
not_letter n h true p = absurd (no_letter n h p)
not_letter n h false p = refl

number_no_name : (n : ℤ) → in_limits n ≡ true → is_name (signed_decimal n) ≡ false
number_no_name n h =
    let w = signed_decimal n in
    ap (λ (b : Bool). b && nat_le (length w) 32 && list_all is_name_byte w && not (is_reserved w)) (not_letter n h (starts_with_letter w) refl)

row_terms : (ts : PlainTerms) → term_row (terms ts) ≡ ts
row_terms no_term = refl
row_terms (term t ts) = ap (term t) (row_terms ts)

counted : (m n : ℕ) → (m == n) ≡ true → m ≡ n
counted m n p = grind (arith, nat_tests)

op_read : (o : Op) (ts : PlainTerms) (cast_term : Option PlainTerm) (body : Option (Binder → PlainTerm)) → suits o (terms ts) ≡ true
    → term_of_parts (operator_word o) (Some (terms ts)) cast_term body ≡ Some (app (op o) ts)
op_read o ts cast_term body h =
    let p = op_no_name o in
    let q = op_no_cast o in
    let r = op_no_binder o in
    let s = op_of-word o in
    (λ i. if p i then Some (called (operator_word o) (terms ts)) else (if q i then cast_term else headed_by (r i) (s i) (Some (terms ts)) body))
    ∙ ap (λ (b : Bool). if b then Some (app (op o) (term_row (terms ts))) else None) h ∙ ap (λ (us : PlainTerms). Some (app (op o) us)) (row_terms ts)

call_read : (f : List ℕ) (ts : PlainTerms) (cast_term : Option PlainTerm) (body : Option (Binder → PlainTerm)) → is_name f ≡ true
    → term_of_parts f (Some (terms ts)) cast_term body ≡ Some (app (call f) ts)
call_read f ts cast_term body h =
    ap (λ (b : Bool). if b then Some (called f (terms ts)) else (if bytes_eq f (codes "cast") then cast_term else headed_by (binder_of f) (op_of f) (Some (terms ts)) body)) h
    ∙ ap (λ (us : PlainTerms). Some (app (call f) us)) (row_terms ts)

cast_read : (ts : Option (List PlainTerm)) (t : PlainTerm) (body : Option (Binder → PlainTerm)) → term_of_parts (codes "cast") ts (Some t) body ≡ Some t
cast_read ts t body =
    ap (λ (b : Bool). if b then option_map (called (codes "cast")) ts else Some t) cast_no_name

binder_read : (b : Binder) (ts : Option (List PlainTerm)) (cast_term : Option PlainTerm) (body : Option (Binder → PlainTerm))
    → term_of_parts (binder_word b) ts cast_term body ≡ option_map (λ f. f b) body
binder_read b ts cast_term body =
    let p = binder_no_name b in
    let q = binder_no_cast b in
    let r = binder_of-word b in
    λ i. if p i then option_map (called (binder_word b)) ts else (if q i then cast_term else headed_by (r i) (op_of (binder_word b)) ts body)

named : (x : List ℕ) → is_name x ≡ true → (if is_name x then Some x else None) ≡ Some x
named x h = ap (λ (b : Bool). if b then Some x else None) h

mutual
  pub term_back : (t : PlainTerm) → is_spelled_term t ≡ true → spelled_term (term_spelling t) ≡ Some t
  term_back (var x) h =
      ap (λ (b : Bool). if b then Some (var x) else (if bytes_eq x (codes "true") then Some (truth true) else (if bytes_eq x (codes "false") then Some (truth false) else (if is_tag x then Some (tag (tag_name x)) else option_map number (number_of x))))) h
  term_back (number n) h =
      let o = number_no_name n h in
      let p = number_no_word n (codes "true") h refl in
      let q = number_no_word n (codes "false") h refl in
      let c = number_no_tag n h in
      let r = number_of-decimal n h in
      λ i. if o i then Some (var (signed_decimal n)) else (if p i then Some (truth true) else (if q i then Some (truth false) else (if c i then Some (tag (tag_name (signed_decimal n))) else option_map number (r i))))
  term_back (truth true) h = ap (λ (b : Bool). if b then Some (var (codes "true")) else Some (truth true)) true_no_name
  term_back (truth false) h = ap (λ (b : Bool). if b then Some (var (codes "false")) else Some (truth false)) false_no_name
  term_back (tag n) h = tag_term_read n h
  term_back (app (op o) ts) h =
      let r = and_parts (suits o (terms ts)) (are_spelled_terms ts) h in
      ap (λ (us : Option (List PlainTerm)). term_of_parts (operator_word o) us (spelled_cast (term_spellings ts)) (spelled_body (term_spellings ts))) (terms_back ts r.1)
      ∙ op_read o ts (spelled_cast (term_spellings ts)) (spelled_body (term_spellings ts)) r.0
  term_back (app (call f) ts) h =
      let r = and_parts (is_name f) (are_spelled_terms ts) h in
      ap (λ (us : Option (List PlainTerm)). term_of_parts f us (spelled_cast (term_spellings ts)) (spelled_body (term_spellings ts))) (terms_back ts r.1)
      ∙ call_read f ts (spelled_cast (term_spellings ts)) (spelled_body (term_spellings ts)) r.0
  term_back (app (cast s) no_term) h = cc
  term_back (app (cast s) (term t no_term)) h =
      let r = and_parts (is_spelled_sort s) (is_spelled_term t && true) h in
      let q = and_parts (is_spelled_term t) true r.1 in
      let p = (spelled_parts s r.0).1 in
      let u = term_back t q.0 in
      ap (λ (o : Option PlainTerm). term_of_parts (codes "cast") (spelled_terms (more (sort_spelling s) (one (term_spelling t)))) o (spelled_body (more (sort_spelling s) (one (term_spelling t))))) (λ i. both casted (p i) (u i))
      ∙ cast_read (spelled_terms (more (sort_spelling s) (one (term_spelling t)))) (app (cast s) (term t no_term)) (spelled_body (more (sort_spelling s) (one (term_spelling t))))
  term_back (app (cast s) (term t (term u ts))) h =
      let n = length (terms (term t (term u ts))) in
      let r = and_parts (n == 1 && is_spelled_sort s) (are_spelled_terms (term t (term u ts))) h in
      let q = and_parts (n == 1) (is_spelled_sort s) r.0 in
      absurd (omega (arith, counted n 1 q.0))
  term_back (bind b x s t) h =
      let r = and_parts (is_name x && is_spelled_term s) (is_spelled_term t) h in
      let q = and_parts (is_name x) (is_spelled_term s) r.0 in
      let n = named x q.0 in
      let p = term_back s q.1 in
      let u = term_back t r.1 in
      binder_read b _ _ _ ∙ (λ i. option_map (λ f. f b) (body_of (n i) (p i) (u i)))

  pub terms_back : (ts : PlainTerms) → are_spelled_terms ts ≡ true → spelled_terms (term_spellings ts) ≡ Some (terms ts)
  terms_back no_term h = refl
  terms_back (term t ts) h =
      let r = and_parts (is_spelled_term t) (are_spelled_terms ts) h in
      let p = term_back t r.0 in
      let q = terms_back ts r.1 in
      λ i. p i >>= λ x. option_map (λ xs. x ∷ xs) (q i)

allowed_head : (h : PlainHead) (ts : List PlainTerm) → is_spelled_head h ts ≡ true → is_allowed_head h ≡ true
allowed_head (op o) ts p = refl
allowed_head (call f) ts p = refl
allowed_head (cast s) ts p = (spelled_parts s (and_parts (length ts == 1) (is_spelled_sort s) p).1).0

mutual
  allowed_back : (t : PlainTerm) → is_spelled_term t ≡ true → casts_are_allowed t ≡ true
  allowed_back (var x) h = refl
  allowed_back (number n) h = refl
  allowed_back (truth b) h = refl
  allowed_back (tag n) h = refl
  allowed_back (app g ts) h =
      let r = and_parts (is_spelled_head g (terms ts)) (are_spelled_terms ts) h in
      and_both (is_allowed_head g) (all_casts_are_allowed ts) (allowed_head g (terms ts) r.0) (all_allowed_back ts r.1)
  allowed_back (bind b x s t) h =
      let r = and_parts (is_name x && is_spelled_term s) (is_spelled_term t) h in
      let q = and_parts (is_name x) (is_spelled_term s) r.0 in
      and_both (casts_are_allowed s) (casts_are_allowed t) (allowed_back s q.1) (allowed_back t r.1)

  all_allowed_back : (ts : PlainTerms) → are_spelled_terms ts ≡ true → all_casts_are_allowed ts ≡ true
  all_allowed_back no_term h = refl
  all_allowed_back (term t ts) h =
      let r = and_parts (is_spelled_term t) (are_spelled_terms ts) h in
      and_both (casts_are_allowed t) (all_casts_are_allowed ts) (allowed_back t r.0) (all_allowed_back ts r.1)

pub term_reads_back : (t : PlainTerm) → is_spelled_term t ≡ true → term_reading (term_spelling t) ≡ Ok t
term_reads_back t h = ap (judged casts_are_allowed) (term_back t h) ∙ ap (λ (b : Bool). if b then Ok t else Err fault.Sort) (allowed_back t h)
