-- What a status says of the stop that it is that of.
use Rattle.std.proofs.Common.{◌≡◌, ◌≢◌, ℕ, List, ◌++◌, Option, Some, None, option_map, refl, sym, ap, ◌∙◌, inl, inr, ◌⊎◌, ⊎_elim, arith}
use Rattle.kid_outer.specs.Held.{Held}
use Rattle.kid_top.specs.declared.stop.Stop.{Stop}
use Rattle.kid_top.specs.declared.stop.Stop.TheVariants.{Memory, Usage, Failed, Theory, Program, Inputs, Unbuilt, Absent}
use Rattle.kid_top.specs.Stops.{status_of, stop_text, Complains}
use Rattle.kid_top.specs.Command.{Command, derive, run, solve}
use Rattle.kid_top.specs.Done.{DoesHeld}
use Rattle.kid_top.specs.Ends.{EndsHeld, ending}
use Rattle.kid_top.specs.Said.{IsRefusedBy, Says}
use Rattle.kid_top.specs.Shown.{IsQuiet}
use Rattle.kid_top.specs.Kept.{DeriveKeeps, KeepsFiles}

-- a status of a stop, or want of memory
abbrev pub Told : Stop → ℕ → Type 0
Told why status = (status ≡ status_of why) ⊎ (status ≡ 1)

not_zero : (why : Stop) → status_of why ≡ 0 → ⊥
not_zero Memory e = cc
not_zero Usage e = cc
not_zero Failed e = cc
not_zero (Theory fault) e = cc
not_zero (Program fault) e = cc
not_zero (Inputs form) e = cc
not_zero (Unbuilt file) e = cc
not_zero (Absent file) e = cc

not_four : (why : Stop) → status_of why ≡ 4 → ⊥
not_four Memory e = cc
not_four Usage e = cc
not_four Failed e = cc
not_four (Theory fault) e = cc
not_four (Program fault) e = cc
not_four (Inputs form) e = cc
not_four (Unbuilt file) e = cc
not_four (Absent file) e = cc

one-four : (n : ℕ) → n ≡ 1 → n ≡ 4 → ⊥
one-four n e f = omega arith

one-zero : (n : ℕ) → n ≡ 1 → n ≡ 0 → ⊥
one-zero n e f = omega arith

one-two : (n : ℕ) → n ≡ 1 → n ≡ 2 → ⊥
one-two n e f = omega arith

one-three : (n : ℕ) → n ≡ 1 → n ≡ 3 → ⊥
one-three n e f = omega arith

pub told-zero : (why : Stop) (status : ℕ) → Told why status → status ≡ 0 → ⊥
told-zero why status t e = ⊎_elim (λ s. not_zero why (sym s ∙ e)) (λ s. one-zero status s e) t

pub told-done : (why : Stop) (status : ℕ) → Told why status → (status ≡ 0) ⊎ (status ≡ 4) → ⊥
told-done why status t done =
    ⊎_elim (λ e. told-zero why status t e) (λ e. ⊎_elim (λ s. not_four why (sym s ∙ e)) (λ s. one-four status s e) t) done

usage_of : (why : Stop) → status_of why ≡ 2 → why ≡ Usage
usage_of Memory e = cc
usage_of Usage e = refl
usage_of Failed e = cc
usage_of (Theory fault) e = cc
usage_of (Program fault) e = cc
usage_of (Inputs form) e = cc
usage_of (Unbuilt file) e = cc
usage_of (Absent file) e = cc

pub told-two : (why : Stop) (status : ℕ) → Told why status → status ≡ 2 → why ≡ Usage
told-two why status t e = ⊎_elim (λ s. usage_of why (sym s ∙ e)) (λ s. absurd (one-two status s e)) t

failed_of : (why : Stop) → status_of why ≡ 3 → why ≡ Failed
failed_of Memory e = cc
failed_of Usage e = cc
failed_of Failed e = refl
failed_of (Theory fault) e = cc
failed_of (Program fault) e = cc
failed_of (Inputs form) e = cc
failed_of (Unbuilt file) e = cc
failed_of (Absent file) e = cc

pub told-three : (why : Stop) (status : ℕ) → Told why status → status ≡ 3 → why ≡ Failed
told-three why status t e = ⊎_elim (λ s. failed_of why (sym s ∙ e)) (λ s. absurd (one-three status s e)) t

pub told-quiet : (why : Stop) (status : ℕ) → Told why status → status ≢ 1 → status ≢ 3 → IsQuiet why
told-quiet Memory status t one three = absurd (⊎_elim one one t)
told-quiet Usage status t one three = tt
told-quiet Failed status t one three = absurd (⊎_elim three one t)
told-quiet (Theory fault) status t one three = tt
told-quiet (Program fault) status t one three = tt
told-quiet (Inputs form) status t one three = tt
told-quiet (Unbuilt file) status t one three = tt
told-quiet (Absent file) status t one three = tt

-- the status is that of the outcome, unless memory ran out or something failed
pub ends-held : (words : List (List ℕ)) (h : Option Held) (why : Stop) (status : ℕ) → IsRefusedBy why words h → Told why status → EndsHeld words h status
ends-held words None why status refused t = tt
ends-held words (Some files) Memory status refused t = inr (inl (⊎_elim (λ s. s) (λ s. s) t))
ends-held words (Some files) Failed status refused t = inr (⊎_elim (λ s. inr s) (λ s. inl s) t)
ends-held words (Some files) Usage status refused t = ⊎_elim (λ s. inl (s ∙ sym (ap ending refused))) (λ s. inr (inl s)) t
ends-held words (Some files) (Theory fault) status refused t = ⊎_elim (λ s. inl (s ∙ sym (ap ending refused))) (λ s. inr (inl s)) t
ends-held words (Some files) (Program fault) status refused t = ⊎_elim (λ s. inl (s ∙ sym (ap ending refused))) (λ s. inr (inl s)) t
ends-held words (Some files) (Inputs form) status refused t = ⊎_elim (λ s. inl (s ∙ sym (ap ending refused))) (λ s. inr (inl s)) t
ends-held words (Some files) (Unbuilt file) status refused t = ⊎_elim (λ s. inl (s ∙ sym (ap ending refused))) (λ s. inr (inl s)) t
ends-held words (Some files) (Absent file) status refused t = ⊎_elim (λ s. inl (s ∙ sym (ap ending refused))) (λ s. inr (inl s)) t

-- what was put on err
pub says : (words : List (List ℕ)) (h : Option Held) (why : Stop) (status : ℕ) (old new : Option (List ℕ))
    → IsRefusedBy why words h → Complains why status old new → Says words h status old new
says words h why status old new refused (inr q) = (
  λ e. q.1,
  λ e. q.1,
  λ e. inl q.1,
  λ no_zero no_one no_four. absurd (no_one q.0),
)
says words h why status old new refused (inl q) = (
  λ e. absurd (not_zero why (sym q.0 ∙ e)),
  λ e. absurd (not_four why (sym q.0 ∙ e)),
  λ e. inr (q.1 ∙ ap (λ w. option_map (λ v. v ++ stop_text w) old) (memory_of why (sym q.0 ∙ e))),
  λ no_zero no_one no_four. record { why = why; cause = refused; status_is = q.0; said = q.1 },
)
  where
    memory_of : (w : Stop) → status_of w ≡ 1 → w ≡ Memory
    memory_of Memory e = refl
    memory_of Usage e = cc
    memory_of Failed e = cc
    memory_of (Theory fault) e = cc
    memory_of (Program fault) e = cc
    memory_of (Inputs form) e = cc
    memory_of (Unbuilt file) e = cc
    memory_of (Absent file) e = cc

-- ---- a call that did its work

pub ends-done : (words : List (List ℕ)) (h : Option Held) (status : ℕ) (old new : Option (List ℕ)) → DoesHeld words h status old new → EndsHeld words h status
ends-done words None status old new done = tt
ends-done words (Some files) status old new done = inl (done.status_is ∙ sym (ap ending done.comes))

done_one : {X : Type 0} (status : ℕ) → (status ≡ 0) ⊎ (status ≡ 4) → status ≡ 1 → X
done_one status done e = absurd (⊎_elim (λ z. zero_one status z e) (λ z. four_one status z e) done)
  where
    zero_one : (n : ℕ) → n ≡ 0 → n ≡ 1 → ⊥
    zero_one n e f = omega arith

    four_one : (n : ℕ) → n ≡ 4 → n ≡ 1 → ⊥
    four_one n e f = omega arith

pub says-done : (words : List (List ℕ)) (h : Option Held) (status : ℕ) (old : Option (List ℕ)) → (status ≡ 0) ⊎ (status ≡ 4) → Says words h status old old
says-done words h status old done = (
  λ e. refl,
  λ e. refl,
  λ e. done_one status done e,
  λ no_zero no_one no_four. absurd (⊎_elim no_zero no_four done),
)

-- ---- what is held where it stopped

kept_derive : (command : Command) (derivation program : List ℕ) (why : Stop) (status : ℕ) (h after : Option Held) → Told why status
    → DeriveKeeps command derivation program (status_of why) h after → DeriveKeeps command derivation program status h after
kept_derive command derivation program why status (Some files) (Some after) t kept = record {
  refused = λ a b c. ⊎_elim (λ s. kept.refused (λ z. a (s ∙ z)) (λ z. b (s ∙ z)) (λ z. c (s ∙ z))) (λ s. absurd (b s)) t;
  others = kept.others;
  order = kept.order;
}
kept_derive command derivation program why status None None t kept = tt
kept_derive command derivation program why status (Some files) None t kept = absurd kept
kept_derive command derivation program why status None (Some after) t kept = absurd kept

pub kept-told : (command : Option Command) (why : Stop) (status : ℕ) (h after : Option Held) → Told why status → KeepsFiles command (status_of why) h after → KeepsFiles command status h after
kept-told None why status h after t kept = kept
kept-told (Some (run program inputs fuel)) why status h after t kept = kept
kept-told (Some (solve theory script inputs fuel)) why status h after t kept = kept
kept-told (Some (derive theory script derivation program)) why status h after t kept = kept_derive (derive theory script derivation program) derivation program why status h after t kept
