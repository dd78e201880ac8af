-- What derive saved where no call on its two names failed, and after a failure.
use Rattle.std.proofs.Common.{◌≡◌, ℕ, ◌≤◌, OnOk, IfErr, List, Option, Some, None, option_map, Result, Ok, Err, refl, ap, ◌∙◌, subst, inl, inr, ⊎_elim}
use Rattle.kid_outer.specs.Held.{Held, update}
use Rattle.kid_outer.specs.Causes.{Rose, NeverFall}
use Rattle.kid_top.specs.declared.stop.Stop.{Stop}
use Rattle.kid_top.specs.Command.{Command, derive, run, solve, command_of}
use Rattle.kid_top.specs.Outcome.{Work, runs, saves}
use Rattle.kid_top.specs.WorkView.{Suits}
use Rattle.kid_top.specs.Risen.{Counts}
use Rattle.kid_top.specs.Saves.{SavesOne, NoneRose, SavesFront}
use Rattle.kid_top.specs.Finishing.{FinishRose, FinishWhole}
use Rattle.kid_top.specs.Kept.{KeepsWhole, LeavesFiles}
use Rattle.kid_top.proofs.StageLemmas.{rose_later}
use Rattle.kid_top.proofs.Performed.{GivesWork}

-- the program after the derivation
twice : (d p b t : List ℕ) (old mid : Option Held) → SavesOne d b old mid → option_map (update p t) mid ≡ option_map (λ files. update p t (update d b files)) old
twice d p b t None mid one = ap (option_map (update p t)) one
twice d p b t (Some files) mid one = ap (option_map (update p t)) one

pub second-saved : {X : Type 0} (r : Result X Stop) (d p b t : List ℕ) (old mid new : Option Held) → SavesOne d b old mid → OnOk r (SavesOne p t mid new) → IfErr r (λ _. new ≡ mid)
    → SavesFront d p b t old new
second-saved (Ok x) d p b t old mid new one ok err = inr (inr (ok ∙ twice d p b t old mid one))
second-saved (Err e) d p b t old mid new one ok err = inr (inl (err ∙ one))

-- a count that did not rise in all did not rise at the end
pub none-later : (a b c : ℕ) → a ≤ b → (Rose a c → ⊥) → Rose b c → ⊥
none-later a b c le none rose = none (rose_later a b c le rose)

pub whole-untouched : (command : Option Command) (before now : Counts) (h after : Option Held) → after ≡ h → KeepsWhole command before now h after
whole-untouched None before now h after e = tt
whole-untouched (Some (run program inputs fuel)) before now h after e = tt
whole-untouched (Some (solve theory script inputs fuel)) before now h after e = tt
whole-untouched (Some (derive theory script derivation program)) before now (Some files) (Some after) e = λ none. inl (same files after e)
  where
    same : (files after : Held) → Some after ≡ Some files → after ≡ files
    same files after e = cc
whole-untouched (Some (derive theory script derivation program)) before now None None e = tt
whole-untouched (Some (derive theory script derivation program)) before now (Some files) None e = tt
whole-untouched (Some (derive theory script derivation program)) before now None (Some after) e = tt

whole_derive : (theory script derivation program d p bytes text : List ℕ) (before mid now : Counts) (h after : Option Held) → d ≡ derivation → p ≡ program
    → GivesWork (derive theory script derivation program) (saves derivation program bytes text) h → NeverFall before mid
    → (NoneRose derivation program mid now → SavesFront derivation program bytes text h after)
    → KeepsWhole (Some (derive theory script derivation program)) before now h after
whole_derive theory script derivation program d p bytes text before mid now (Some files) (Some after) a b gives later k =
    λ none. inr (
      bytes,
      text,
      gives,
      k (none-later (before derivation) (mid derivation) (now derivation) (later derivation) none.0, none-later (before program) (mid program) (now program) (later program) none.1),
    )
whole_derive theory script derivation program d p bytes text before mid now None None a b gives later k = tt
whole_derive theory script derivation program d p bytes text before mid now (Some files) None a b gives later k = tt
whole_derive theory script derivation program d p bytes text before mid now None (Some after) a b gives later k = tt

whole-finished : (command : Command) (w : Work) (before mid now : Counts) (h after : Option Held) → Suits command w → GivesWork command w h → NeverFall before mid
    → FinishWhole w mid now h after → KeepsWhole (Some command) before now h after
whole-finished (run program inputs fuel) w before mid now h after suits gives later k = tt
whole-finished (solve theory script inputs fuel) w before mid now h after suits gives later k = tt
whole-finished (derive theory script derivation program) (runs p xs fuel) before mid now h after suits gives later k = absurd suits
whole-finished (derive theory script derivation program) (saves d p bytes text) before mid now h after suits gives later k =
    subst
    (λ (x : List ℕ). GivesWork (derive theory script x program) (saves d p bytes text) h → KeepsWhole (Some (derive theory script x program)) before now h after) suits.0
    (subst (λ (y : List ℕ). GivesWork (derive theory script d y) (saves d p bytes text) h → KeepsWhole (Some (derive theory script d y)) before now h after) suits.1
    (λ gives. whole_derive theory script d p d p bytes text before mid now h after refl refl gives later k)) gives

pub whole-by : (words : List (List ℕ)) (command : Command) (w : Work) (before mid now : Counts) (h after : Option Held) → Some command ≡ command_of words → Suits command w
    → GivesWork command w h → NeverFall before mid → FinishWhole w mid now h after → KeepsWhole (command_of words) before now h after
whole-by words command w before mid now h after fits suits gives later k =
    subst (λ (c : Option Command). KeepsWhole c before now h after) fits (whole-finished command w before mid now h after suits gives later k)

-- ---- after a failure

pub leaves-untouched : (command : Option Command) (before now : Counts) (h after : Option Held) → after ≡ h → LeavesFiles command before now h after
leaves-untouched None before now h after e = tt
leaves-untouched (Some (run program inputs fuel)) before now h after e = tt
leaves-untouched (Some (solve theory script inputs fuel)) before now h after e = tt
leaves-untouched (Some (derive theory script derivation program)) before now h after e = λ none. e

-- what failed while the work was done is one of derive's two names
leaves-finished : (command : Command) (w : Work) (before mid now : Counts) (out_before out_now : ℕ) (h after : Option Held) → Suits command w → NeverFall before mid
    → FinishRose w mid now out_before out_now → LeavesFiles (Some command) before now h after
leaves-finished (run program inputs fuel) w before mid now out_before out_now h after suits later rose = tt
leaves-finished (solve theory script inputs fuel) w before mid now out_before out_now h after suits later rose = tt
leaves-finished (derive theory script derivation program) (runs p xs fuel) before mid now out_before out_now h after suits later rose = absurd suits
leaves-finished (derive theory script derivation program) (saves d p bytes text) before mid now out_before out_now h after suits later rose = λ none. absurd (⊎_elim
    (λ r. none.0 (subst (λ (x : List ℕ). Rose (before x) (now x)) suits.0 (rose_later (before d) (mid d) (now d) (later d) r)))
    (λ r. none.1 (subst (λ (x : List ℕ). Rose (before x) (now x)) suits.1 (rose_later (before p) (mid p) (now p) (later p) r)))
    rose)

pub leaves-by : (words : List (List ℕ)) (command : Command) (w : Work) (before mid now : Counts) (out_before out_now : ℕ) (h after : Option Held)
    → Some command ≡ command_of words → Suits command w → NeverFall before mid → FinishRose w mid now out_before out_now → LeavesFiles (command_of words) before now h after
leaves-by words command w before mid now out_before out_now h after fits suits later rose =
    subst (λ (c : Option Command). LeavesFiles c before now h after) fits (leaves-finished command w before mid now out_before out_now h after suits later rose)
