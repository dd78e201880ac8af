-- Names that are put one by one, the last first.
use Rattle.std.proofs.Common.{◌≡◌, ℕ, List, [], ◌∷◌, ◌++◌, map, length, refl, sym, ap, ◌∙◌, arith}
use Rattle.std.proofs.lemmas.List.{map-append, length-map, length-append}
use Rattle.kid_value.specs.PlainValue.{PlainValue}
use Rattle.kid_value.specs.PlainSort.{PlainSort}
use Rattle.kid_value.specs.NameView.{plain_name}
use Rattle.kid_value.specs.ValueView.{plain}
use Rattle.kid_value.specs.declared.value.Value.{Value}
use Rattle.kid_value.specs.declared.sort.Sort.{Sort}
use Rattle.kid_term.specs.Names.{Names}
use Rattle.kid_term.specs.Eval.{Env, bound}

bound-last : (ns : Names) (vs : List PlainValue) (n : List ℕ × PlainSort) (v : PlainValue) (env : Env) → length vs ≡ length ns → bound (ns ++ n ∷ []) (vs ++ v ∷ []) ++ env ≡ bound ns vs ++ (n.0, v) ∷ env
bound-last [] [] n v env e = refl
bound-last [] (w ∷ vs) n v env e = let none : ⊥ = omega (arith, e) in absurd none
bound-last (m ∷ ns) [] n v env e = let none : ⊥ = omega (arith, e) in absurd none
bound-last (m ∷ ns) (w ∷ vs) n v env e = ap (λ z. (m.0, w) ∷ z) (bound-last ns vs n v env (omega (arith, e)))

-- the last name and the last value go into the environment
pub bound-pushed : (names earlier : List (List ℕ × Sort)) (name : List ℕ × Sort) (values before : List Value) (value : Value) (env : Env)
    → names ≡ earlier ++ name ∷ [] → values ≡ before ++ value ∷ [] → length before ≡ length earlier
    → bound (map plain_name earlier) (map plain before) ++ (name.0, plain value) ∷ env ≡ bound (map plain_name names) (map plain values) ++ env
bound-pushed names earlier name values before value env e f l =
    sym
    (ap (λ z. bound (map plain_name z) (map plain values) ++ env) e ∙ ap (λ z. bound (map plain_name (earlier ++ name ∷ [])) (map plain z) ++ env) f
    ∙ ap (λ z. bound z (map plain (before ++ value ∷ [])) ++ env) (map-append plain_name earlier (name ∷ []))
    ∙ ap (λ z. bound (map plain_name earlier ++ plain_name name ∷ []) z ++ env) (map-append plain before (value ∷ []))
    ∙ bound-last (map plain_name earlier) (map plain before) (plain_name name) (plain value) env (omega (arith, l, length-map earlier plain_name, length-map before plain)))

pub counts-before : (names earlier : List (List ℕ × Sort)) (name : List ℕ × Sort) (values before : List Value) (value : Value)
    → names ≡ earlier ++ name ∷ [] → values ≡ before ++ value ∷ [] → length values ≡ length names → length before ≡ length earlier
counts-before names earlier name values before value e f l =
    let p : length names ≡ length (earlier ++ name ∷ []) = ap length e in
    let q : length values ≡ length (before ++ value ∷ []) = ap length f in
    omega (arith, l, p, q, length-append earlier (name ∷ []), length-append before (value ∷ []))
