-- A front of a text was appended.
use Rattle.std.proofs.Common.{◌≡◌, ℕ, ◌+◌, ◌<◌, length, take, drop, get_or, List, [], ◌∷◌, ◌++◌, Option, Some, None, option_map, refl, sym, ap, ◌∙◌, subst, append_assoc}
use Rattle.std.proofs.lemmas.List.{take-append-drop, drop_more}
use Rattle.std.proofs.lemmas.Grind.{flat_map-append}
use Rattle.kid_outer.specs.Written.{AppendsPrefix}
use Rattle.kid_run.specs.Lines.{text_of}

append-none : (xs : List ℕ) → xs ++ [] ≡ xs
append-none [] = refl
append-none (x ∷ xs) = ap (λ ys. x ∷ ys) (append-none xs)

some_same : (v w : List ℕ) → Some v ≡ Some w → v ≡ w
some_same v w e = cc

pub front_none : (text : List ℕ) (old new : Option (List ℕ)) → new ≡ old → AppendsPrefix text old new
front_none text (Some old) (Some new) e = ([], text, refl, some_same new old e ∙ sym (append-none old))
front_none text None None e = tt
front_none text (Some old) None e = cc
front_none text None (Some new) e = cc

pub front_whole : (text : List ℕ) (old new : Option (List ℕ)) → new ≡ option_map (λ w. w ++ text) old → AppendsPrefix text old new
front_whole text (Some old) (Some new) e = (text, [], sym (append-none text), some_same new (old ++ text) e)
front_whole text None None e = tt
front_whole text (Some old) None e = cc
front_whole text None (Some new) e = cc

-- a front of a piece, after what was put before it
pub front_after : (done piece later : List ℕ) (old mid new : Option (List ℕ))
    → mid ≡ option_map (λ w. w ++ done) old → AppendsPrefix piece mid new → AppendsPrefix (done ++ (piece ++ later)) old new
front_after done piece later (Some old) (Some mid) (Some new) e f = (
  done ++ f.0,
  f.1 ++ later,
  ap (λ p. done ++ (p ++ later)) f.2 ∙ ap (λ p. done ++ p) (append_assoc f.0 f.1 later) ∙ sym (append_assoc done f.0 (f.1 ++ later)),
  f.3 ∙ ap (λ w. w ++ f.0) (some_same mid (old ++ done) e) ∙ append_assoc old done f.0,
)
front_after done piece later None None None e f = tt
front_after done piece later (Some old) (Some mid) None e f = absurd f
front_after done piece later (Some old) None new e f = cc
front_after done piece later None (Some mid) new e f = cc
front_after done piece later None None (Some new) e f = absurd f

text_of-at : (lines : List (List ℕ)) (i : ℕ) (line : List ℕ) → i < length lines → line ≡ get_or lines i line
    → text_of (take i lines) ++ (line ++ text_of (drop (i + 1) lines)) ≡ text_of lines
text_of-at lines i line within is =
    ap (λ ls. text_of (take i lines) ++ text_of ls) (ap (λ (l : List ℕ). l ∷ drop (i + 1) lines) is ∙ sym (drop_more lines i line within))
    ∙ sym (flat_map-append (λ (l : List ℕ). l) (take i lines) (drop i lines)) ∙ ap text_of (take-append-drop i lines)

-- a front of the line at this place, after the lines before it
pub front_at : (lines : List (List ℕ)) (i : ℕ) (line : List ℕ) (old mid new : Option (List ℕ)) → i < length lines → line ≡ get_or lines i line
    → mid ≡ option_map (λ w. w ++ text_of (take i lines)) old → AppendsPrefix line mid new → AppendsPrefix (text_of lines) old new
front_at lines i line old mid new within is put front =
    subst (λ (text : List ℕ). AppendsPrefix text old new) (text_of-at lines i line within is)
    (front_after (text_of (take i lines)) line (text_of (drop (i + 1) lines)) old mid new put front)
