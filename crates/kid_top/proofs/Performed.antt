-- What a command comes to, from what its work is and how it was finished.
use Rattle.std.proofs.Common.{◌≡◌, ◌≢◌, ℕ, Bool, true, false, IfOk, IfErr, List, [], ◌++◌, Option, Some, None, option_map, Result, Ok, Err, refl, sym, ap, ◌∙◌, subst, inl, inr, ◌⊎◌, ⊎_elim}
use Rattle.std.specs.Prelude.{if◌then◌else◌}
use Rattle.std.specs.List.{list_all}
use Rattle.kid_outer.specs.Held.{Held}
use Rattle.kid_outer.specs.Causes.{Rose}
use Rattle.kid_outer.specs.Written.{AppendsPrefix}
use Rattle.kid_run.proofs.Fronts.{front_none}
use Rattle.kid_top.specs.declared.stop.Stop.{Stop}
use Rattle.kid_top.specs.declared.stop.Stop.TheVariants.{Memory, Usage, Failed, Theory, Program, Inputs, Unbuilt, Absent}
use Rattle.kid_top.specs.Stops.{status_of}
use Rattle.kid_top.specs.Command.{Command, derive, run, solve, command_of}
use Rattle.kid_top.specs.Outcome.{Work, runs, saves, work_status, work_text, work_of, outcome_of, outcome, Refuses, Outcomes, is_whole}
use Rattle.kid_top.specs.declared.work.Work.{Work as Given}
use Rattle.kid_top.specs.WorkView.{plain_work, Suits}
use Rattle.kid_top.specs.Risen.{Counts, WorkRose}
use Rattle.kid_top.specs.Saves.{IsLateStop, SavesInOrder, KeptInOrder}
use Rattle.kid_top.specs.Finishing.{Finishes, FinishRose, FinishFront, FinishKeeps}
use Rattle.kid_top.specs.Done.{DoesHeld, DerivesHeld}
use Rattle.kid_top.specs.Ends.{HasWork, LateRose, CommandRose, FaultRose}
use Rattle.kid_top.specs.Shown.{text_for, PutsFront, IsQuiet}
use Rattle.kid_top.specs.Said.{IsRefusedBy}
use Rattle.kid_top.specs.Kept.{SavesOnly, KeepsFiles, KeepsFilesBy}
use Rattle.kid_top.proofs.HeldLemmas.{derives_held, command_apart}

-- what the files give for a command, where they are told
abbrev pub GivesWork : Command → Work → Option Held → Type 0
GivesWork command w None = Unit {0}
GivesWork command w (Some files) = work_of command files ≡ Ok w

-- ---- what was done

pub does-work : (words : List (List ℕ)) (command : Command) (w : Work) (status : ℕ) (h : Option Held) (old new : Option (List ℕ))
    → Some command ≡ command_of words → GivesWork command w h → status ≡ work_status w → new ≡ option_map (λ text. text ++ work_text w) old → DoesHeld words h status old new
does-work words command w status None old new fits gives is printed = tt
does-work words command w status (Some files) old new fits gives is printed =
    record { work = w; comes = ap (λ c. outcome_of c files) (sym fits) ∙ gives; status_is = is; printed = printed }

-- ---- what was put

pub front-of_work : (words : List (List ℕ)) (command : Command) (w : Work) (h : Option Held) (old new : Option (List ℕ))
    → Some command ≡ command_of words → GivesWork command w h → FinishFront w old new → PutsFront words h old new
front-of_work words command w None old new fits gives front = (work_text w, front)
front-of_work words command w (Some files) old new fits gives front =
    subst (λ (o : Result Work Stop). AppendsPrefix (text_for o) old new) (sym (ap (λ c. outcome_of c files) (sym fits) ∙ gives)) front

-- nothing was put
pub front-untouched : (words : List (List ℕ)) (h : Option Held) (out : Option (List ℕ)) → PutsFront words h out out
front-untouched words None out = ([], front_none [] out out refl)
front-untouched words (Some files) out = front_none (text_for (outcome words files)) out out refl

-- ---- what stopped it

pub late-refused : (words : List (List ℕ)) (h : Option Held) (why : Stop) → IsLateStop why → IsRefusedBy why words h
late-refused words None why late = tt
late-refused words (Some files) Memory late = tt
late-refused words (Some files) Failed late = tt
late-refused words (Some files) Usage late = absurd late
late-refused words (Some files) (Theory fault) late = absurd late
late-refused words (Some files) (Program fault) late = absurd late
late-refused words (Some files) (Inputs form) late = absurd late
late-refused words (Some files) (Unbuilt file) late = absurd late
late-refused words (Some files) (Absent file) late = absurd late

pub late-loud : {X : Type 0} (why : Stop) → IsLateStop why → IsQuiet why → X
late-loud Memory late quiet = absurd quiet
late-loud Failed late quiet = absurd quiet
late-loud Usage late quiet = absurd late
late-loud (Theory fault) late quiet = absurd late
late-loud (Program fault) late quiet = absurd late
late-loud (Inputs form) late quiet = absurd late
late-loud (Unbuilt file) late quiet = absurd late
late-loud (Absent file) late quiet = absurd late

pub late-fits : (why : Stop) → IsLateStop why → why ≡ Usage → ⊥
late-fits Memory late e = cc
late-fits Failed late e = cc
late-fits Usage late e = late
late-fits (Theory fault) late e = late
late-fits (Program fault) late e = late
late-fits (Inputs form) late e = late
late-fits (Unbuilt file) late e = late
late-fits (Absent file) late e = late

-- the refusal of a command's work is one of the call
pub work-refused : (words : List (List ℕ)) (command : Command) (why : Stop) (files : Held) → Some command ≡ command_of words → Refuses why (work_of command files) → Refuses why (outcome words files)
work-refused words command why files fits r = subst (λ (c : Option Command). Refuses why (outcome_of c files)) fits r

-- ---- what licenses a failure

has_work : (command : Command) (w : Work) (h : Option Held) → GivesWork command w h → HasWork command h
has_work command w None gives = tt
has_work command w (Some files) gives = (w, gives)

late_rose : (command : Command) (w : Work) (before now : Counts) (out_before out_now : ℕ) → Suits command w → FinishRose w before now out_before out_now
    → LateRose command before now out_before out_now
late_rose (derive theory script derivation program) (saves d p bytes text) before now out_before out_now suits rose =
    ⊎_elim (λ r. inl (subst (λ (x : List ℕ). Rose (before x) (now x)) suits.0 r)) (λ r. inr (subst (λ (x : List ℕ). Rose (before x) (now x)) suits.1 r)) rose
late_rose (derive theory script derivation program) (runs p xs fuel) before now out_before out_now suits rose = absurd suits
late_rose (run program inputs fuel) (runs p xs n) before now out_before out_now suits rose = rose
late_rose (run program inputs fuel) (saves d p bytes text) before now out_before out_now suits rose = absurd suits
late_rose (solve theory script inputs fuel) (runs p xs n) before now out_before out_now suits rose = rose
late_rose (solve theory script inputs fuel) (saves d p bytes text) before now out_before out_now suits rose = absurd suits

-- a failure while the work was done
pub finish-rose : (words : List (List ℕ)) (command : Command) (w : Work) (h : Option Held) (before now : Counts) (out_before out_now : ℕ)
    → Some command ≡ command_of words → Suits command w → GivesWork command w h → FinishRose w before now out_before out_now → FaultRose words h before now out_before out_now
finish-rose words command w h before now out_before out_now fits suits gives rose =
    subst (λ (c : Option Command). CommandRose c h before now out_before out_now) fits
    (inr (has_work command w h gives, late_rose command w before now out_before out_now suits rose))

-- a failure before the work was there
pub work-rose : (words : List (List ℕ)) (command : Command) (h : Option Held) (before now : Counts) (out_before out_now : ℕ)
    → Some command ≡ command_of words → WorkRose command h before now → FaultRose words h before now out_before out_now
work-rose words command h before now out_before out_now fits rose = subst (λ (c : Option Command). CommandRose c h before now out_before out_now) fits (inl rose)

-- ---- what is held

same_held : (files after : Held) → Some after ≡ Some files → after ≡ files
same_held files after e = cc

none_held : {X : Type 0} (files : Held) → None ≡ Some files → X
none_held files e = cc

some_held : {X : Type 0} (files : Held) → Some files ≡ None → X
some_held files e = cc

pub files-untouched : (command : Option Command) (status : ℕ) (h after : Option Held) → after ≡ h → KeepsFiles command status h after
files-untouched None status h after e = e
files-untouched (Some (run program inputs fuel)) status h after e = e
files-untouched (Some (solve theory script inputs fuel)) status h after e = e
files-untouched (Some (derive theory script derivation program)) status (Some files) (Some after) e =
    let same = same_held files after e in
    record { refused = λ a b c. same; others = λ name a b. ap (λ (f : Held). f name) same; order = inl (ap (λ (f : Held). f program) same) }
files-untouched (Some (derive theory script derivation program)) status None None e = tt
files-untouched (Some (derive theory script derivation program)) status (Some files) None e = none_held files e
files-untouched (Some (derive theory script derivation program)) status None (Some after) e = some_held after e

-- a status that says that the work was begun
abbrev pub IsBegun : ℕ → Type 0
IsBegun status = (status ≡ 0) ⊎ ((status ≡ 1) ⊎ (status ≡ 3))

begun_kept : {X : Type 0} (status : ℕ) → IsBegun status → status ≢ 0 → status ≢ 1 → status ≢ 3 → X
begun_kept status begun a b c = absurd (⊎_elim a (λ r. ⊎_elim b c r) begun)

pub late-begun : (why : Stop) → IsLateStop why → IsBegun (status_of why)
late-begun Memory late = inr (inl refl)
late-begun Failed late = inr (inr refl)
late-begun Usage late = absurd late
late-begun (Theory fault) late = absurd late
late-begun (Program fault) late = absurd late
late-begun (Inputs form) late = absurd late
late-begun (Unbuilt file) late = absurd late
late-begun (Absent file) late = absurd late

saved_only : (theory script derivation program bytes text : List ℕ) (status : ℕ) (files after : Held) → IsBegun status
    → work_of (derive theory script derivation program) files ≡ Ok (saves derivation program bytes text) → KeptInOrder derivation program bytes files after
    → SavesOnly (work_of (derive theory script derivation program) files) derivation program status files after
saved_only theory script derivation program bytes text status files after begun gives kept = record {
  refused = λ a b c. begun_kept status begun a b c;
  others = kept.others;
  order = ⊎_elim (λ r. inl r) (λ r. inr (bytes, text, gives, r)) kept.order;
}

keeps_derive : (theory script derivation program d p bytes text : List ℕ) (status : ℕ) (h after : Option Held) → IsBegun status → d ≡ derivation → p ≡ program
    → GivesWork (derive theory script derivation program) (saves derivation program bytes text) h → SavesInOrder derivation program bytes h after
    → KeepsFiles (Some (derive theory script derivation program)) status h after
keeps_derive theory script derivation program d p bytes text status (Some files) (Some after) begun a b gives kept =
    saved_only theory script derivation program bytes text status files after begun gives kept
keeps_derive theory script derivation program d p bytes text status None None begun a b gives kept = tt
keeps_derive theory script derivation program d p bytes text status (Some files) None begun a b gives kept = absurd kept
keeps_derive theory script derivation program d p bytes text status None (Some after) begun a b gives kept = absurd kept

pub files-finished : (command : Command) (w : Work) (status : ℕ) (h after : Option Held) → (IsBegun status ⊎ (status ≡ work_status w)) → Suits command w → GivesWork command w h
    → FinishKeeps w h after → KeepsFiles (Some command) status h after
files-finished (run program inputs fuel) (runs p xs n) status h after begun suits gives kept = kept
files-finished (run program inputs fuel) (saves d p bytes text) status h after begun suits gives kept = absurd suits
files-finished (solve theory script inputs fuel) (runs p xs n) status h after begun suits gives kept = kept
files-finished (solve theory script inputs fuel) (saves d p bytes text) status h after begun suits gives kept = absurd suits
files-finished (derive theory script derivation program) (runs p xs fuel) status h after begun suits gives kept = absurd suits
files-finished (derive theory script derivation program) (saves d p bytes text) status h after begun suits gives kept =
    let begins : IsBegun status = ⊎_elim (λ b. b) (λ z. inl z) begun in
    subst (λ (x : List ℕ). GivesWork (derive theory script x program) (saves d p bytes text) h → KeepsFiles (Some (derive theory script x program)) status h after) suits.0
    (subst (λ (y : List ℕ). GivesWork (derive theory script d y) (saves d p bytes text) h → KeepsFiles (Some (derive theory script d y)) status h after) suits.1
    (λ gives. keeps_derive theory script d p d p bytes text status h after begins refl refl gives kept)) gives

-- ---- the whole

pub gives_work : (command : Command) (h : Option Held) (x : Given) → Outcomes {X = Given} {Y = Work} h plain_work (Ok x) (λ files. work_of command files) → GivesWork command (plain_work x) h
gives_work command None x e = tt
gives_work command (Some files) x e = e

pub files-by : (words : List (List ℕ)) (command : Command) (w : Work) (r : Result ℕ Stop) (old new : Option (List ℕ)) (h after : Option Held) → Some command ≡ command_of words
    → Suits command w → GivesWork command w h → IfOk r (λ status. Finishes w status old new h after) → IfErr r IsLateStop → FinishKeeps w h after
    → KeepsFilesBy (command_of words) r h after
files-by words command w (Ok status) old new h after fits suits gives done late kept =
    subst (λ (c : Option Command). KeepsFiles c status h after) fits (files-finished command w status h after (inr done.status_is) suits gives kept)
files-by words command w (Err why) old new h after fits suits gives done late kept =
    subst (λ (c : Option Command). KeepsFiles c (status_of why) h after) fits (files-finished command w (status_of why) h after (inl (late-begun why late)) suits gives kept)

pub derived-by : (words : List (List ℕ)) (command : Command) (x : Given) (r : Result ℕ Stop) (old new : Option (List ℕ)) (h after : Option Held) → Some command ≡ command_of words
    → Outcomes {X = Given} {Y = Work} h plain_work (Ok x) (λ files. work_of command files) → IfOk r (λ status. Finishes (plain_work x) status old new h after)
    → IfOk r (λ status. DerivesHeld (command_of words) h after)
derived-by words command x (Ok status) old new h after fits gives done =
    subst (λ (c : Option Command). DerivesHeld c h after) fits (derives_held command h after plain_work x (command_apart words command (sym fits)) gives done.saved)
derived-by words command x (Err why) old new h after fits gives done = tt

pub done-by : (words : List (List ℕ)) (command : Command) (w : Work) (r : Result ℕ Stop) (old new : Option (List ℕ)) (h after : Option Held) → Some command ≡ command_of words
    → GivesWork command w h → IfOk r (λ status. Finishes w status old new h after) → IfOk r (λ status. DoesHeld words h status old new)
done-by words command w (Ok status) old new h after fits gives done = does-work words command w status h old new fits gives done.status_is done.printed
done-by words command w (Err why) old new h after fits gives done = tt

abbrev whole_status : Bool → ℕ
whole_status b = if b then 0 else 4

is_four : (b : Bool) → (whole_status b ≡ 0) ⊎ (whole_status b ≡ 4)
is_four true = inl refl
is_four false = inr refl

work_ends : (w : Work) → (work_status w ≡ 0) ⊎ (work_status w ≡ 4)
work_ends (runs p xs fuel) = is_four (list_all (is_whole p fuel) xs)
work_ends (saves d p bytes text) = inl refl

ends_at : (w : Work) (status : ℕ) → status ≡ work_status w → (status ≡ 0) ⊎ (status ≡ 4)
ends_at w status e = subst (λ (n : ℕ). (n ≡ 0) ⊎ (n ≡ 4)) (sym e) (work_ends w)

pub status-by : (w : Work) (r : Result ℕ Stop) (old new : Option (List ℕ)) (h after : Option Held) → IfOk r (λ status. Finishes w status old new h after)
    → IfOk r (λ status. (status ≡ 0) ⊎ (status ≡ 4))
status-by w (Ok status) old new h after done = ends_at w status done.status_is
status-by w (Err why) old new h after done = tt
