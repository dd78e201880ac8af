-- The file of a script is one that spells it.
use Rattle.std.proofs.Common.{◌≡◌, ℕ, List, Some, Result, Ok, Err, ap, ◌∙◌, subst}
use Rattle.std.specs.Prelude.{codes}
use Rattle.std.specs.Result.{result_ok}
use Rattle.kid_sexp.specs.Plain.{Plain, Plains, atom, list, one}
use Rattle.kid_sexp.specs.Reading.{reading}
use Rattle.kid_sexp.specs.Spells.{Spells}
use Rattle.kid_sexp.proofs.Spelled.{reading-spelled, spelled-reading}
use Rattle.kid_codec.specs.Reading.{◌>>=◌}
use Rattle.kid_codec.specs.Shape.{is_atom, form, single}
use Rattle.kid_codec.specs.SortSpelling.{headed}
use Rattle.kid_codec.proofs.Found.{bind_some, if_some}
use Rattle.kid_codec.proofs.Numbers.{bytes_eq-true}
use Rattle.kid_codec.proofs.ShapeTold.{form_told, single_told}
use Rattle.kid_top.specs.Files.{is_range_word, script_of, script_file}
use Rattle.kid_top.specs.ScriptSpelling.{range_script, ScriptsAreSpelled}

ok_some : {A E : Type 0} (r : Result A E) (x : A) → result_ok r ≡ Some x → r ≡ Ok x
ok_some (Ok y) x e = cc
ok_some (Err f) x e = cc

range_told : (t : Plain) → is_range_word t ≡ Some tt → t ≡ atom (codes "range")
range_told (atom w) e = ap atom (bytes_eq-true w (codes "range") (if_some (is_atom (codes "range") (atom w)) (Some tt) tt e).0)
range_told (list ts) e = cc

script_told : (ts : Plains) → script_of ts ≡ Some tt → ts ≡ range_script
script_told ts e =
    let a = bind_some (single ts >>= form (codes "match") >>= single) is_range_word tt e in
    let b = bind_some (single ts >>= form (codes "match")) single a.0 a.1 in
    let c = bind_some (single ts) (form (codes "match")) b.0 b.1 in
    single_told ts c.0 c.1
    ∙ ap one (form_told (codes "match") c.0 b.0 c.2 ∙ ap (headed (codes "match")) (single_told b.0 a.0 b.2 ∙ ap one (range_told a.0 a.2)))

taken : (bytes : List ℕ) → script_file bytes ≡ Some tt → Spells bytes range_script
taken bytes e =
    let f = bind_some (result_ok (reading bytes)) script_of tt e in
    subst (Spells bytes) (script_told f.0 f.2) (reading-spelled bytes f.0 (ok_some (reading bytes) f.0 f.1))

spelled : (bytes : List ℕ) → Spells bytes range_script → script_file bytes ≡ Some tt
spelled bytes s = ap (λ r. result_ok r >>= script_of) (spelled-reading bytes range_script s)

pub scripts_spelled : ScriptsAreSpelled
scripts_spelled = record { taken = taken; spelled = spelled }
