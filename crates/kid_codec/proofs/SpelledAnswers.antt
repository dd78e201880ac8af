-- What an answer tells that is what reading gives.
use Rattle.std.proofs.Common.{◌≡◌, Bool, true, false, Option, Some, None, Result, Ok, Err, refl, sym, ap, ◌∙◌}
use Rattle.std.specs.Prelude.{IfOk, if◌then◌else◌}
use Rattle.kid_sexp.specs.Plain.{Plain}
use Rattle.kid_value.specs.PlainSort.{PlainSort, has_sort}
use Rattle.kid_value.specs.PlainValue.{PlainValue}
use Rattle.kid_value.specs.ValueView.{plain}
use Rattle.kid_value.specs.declared.value.Value.{Value}
use Rattle.kid_codec.specs.Reading.{Gives, fitting}
use Rattle.kid_codec.specs.SpelledValue.{Spells, TellsValue, IsReadAs}
use Rattle.kid_codec.specs.ValueSpelling.{is_spelled_value, spelled_value, value_reading}
use Rattle.kid_codec.specs.declared.fault.CodecFault.{CodecFault}
use Rattle.kid_codec.specs.declared.fault.CodecFault.TheVariants.{Form, Sort, Memory}
use Rattle.kid_codec.proofs.SpelledRead.{value_read, spelled_once}
use Rattle.kid_codec.proofs.SpelledTold.{value_told}
use Rattle.kid_codec.proofs.ValueTold.{value_spelled}

fits : (p : PlainValue → Bool) (o : Option PlainValue) (v : PlainValue) → fitting p o ≡ Ok v → (o ≡ Some v) × (p v ≡ true)
fits p None v h = cc
fits p (Some x) v h = by_cases (p x) refl h
  where
    same : (x y : PlainValue) (r : Result PlainValue CodecFault) → r ≡ Ok x → r ≡ Ok y → x ≡ y
    same x y r a b = cc

    by_cases : (b : Bool) → p x ≡ b → (if b then Ok x else Err Form) ≡ Ok v → (Some x ≡ Some v) × (p v ≡ true)
    by_cases true e q = let is : x ≡ v = cc in (ap Some is, ap p (sym is) ∙ e)
    by_cases false e q = cc

no_sort : (p : PlainValue → Bool) (o : Option PlainValue) → fitting p o ≡ Err Sort → ⊥
no_sort p None h = cc
no_sort p (Some x) h = by_cases (p x) h
  where
    by_cases : (b : Bool) → (if b then Ok x else Err Form) ≡ Err Sort → ⊥
    by_cases true q = cc
    by_cases false q = cc

-- what is spelled and of the sort is read
is_read : (s : PlainSort) (t : Plain) (v : PlainValue) → Spells t v → has_sort s v ≡ true → value_reading s t ≡ Ok v
is_read s t v h p = ap (fitting (has_sort s)) (value_read t v h) ∙ ap (λ (b : Bool). if b then Ok v else Err Form) p

pub tells : (s : PlainSort) (t : Plain) (r : Result Value CodecFault) → Gives plain r (value_reading s t) → TellsValue s t r
tells s t (Ok v) g = let q = fits (has_sort s) (spelled_value t) (plain v) g in (value_told t (plain v) q.0, q.1)
tells s t (Err Form) g = λ v h p. two_answers (value_reading s t) v (is_read s t v h p) g
  where
    two_answers : (r : Result PlainValue CodecFault) (v : PlainValue) → r ≡ Ok v → r ≡ Err Form → ⊥
    two_answers r v a b = cc
tells s t (Err Sort) g = no_sort (has_sort s) (spelled_value t) g
tells s t (Err Memory) g = tt

pub reads : (s : PlainSort) (t : Plain) (v : PlainValue) (r : Result Value CodecFault) → TellsValue s t r → Spells t v → has_sort s v ≡ true → IsReadAs v r
reads s t v (Ok w) g h p = spelled_once t (plain w) v g.0 h
reads s t v (Err Form) g h p = g v h p
reads s t v (Err Sort) g h p = g
reads s t v (Err Memory) g h p = tt

pub can_be_printed : (s : PlainSort) (t : Plain) (r : Result Value CodecFault) → Gives plain r (value_reading s t) → IfOk r (λ v. is_spelled_value (plain v) ≡ true)
can_be_printed s t (Ok v) g = value_spelled t (plain v) (fits (has_sort s) (spelled_value t) (plain v) g).0
can_be_printed s t (Err fault) g = tt
