-- A file that is put into a list of files replaces what its name held.
use Rattle.std.proofs.Common.{◌≡◌, ℕ, zero, suc, ◌<◌, ◌≤◌, Bool, true, false, if◌then◌else◌, List, [], ◌∷◌, ◌++◌, length, get_or, set, Some, None, refl, sym, ap, ◌∙◌, arith}
use Rattle.std.proofs.Math.Path.{fun_ext}
use Rattle.std.proofs.lemmas.Slice.Eq.{bytes_eq-Decides}
use Rattle.std.specs.List.{position, position_or_len}
use Rattle.std.proofs.lemmas.Bool.Decides.{nat_tests}
use Rattle.std.specs.Str.{bytes_eq}
use Rattle.kid_outer.specs.declared.shelf.File.{File}
use Rattle.kid_outer.specs.Held.{Held, update}
use Rattle.kid_outer.specs.Shelf.{shelved}

if_twice : {A : Type 0} (b : Bool) (x y z : A) → (if b then x else (if b then y else z)) ≡ (if b then x else z)
if_twice true x y z = refl
if_twice false x y z = refl

if_swap : {A : Type 0} (p q : Bool) (x y z : A) → (p ≡ true → q ≡ true → ⊥)
    → (if p then x else (if q then y else z)) ≡ (if q then y else (if p then x else z))
if_swap true true x y z apart = absurd (apart refl refl)
if_swap true false x y z apart = refl
if_swap false true x y z apart = refl
if_swap false false x y z apart = refl

-- the later bytes of a name count
update-twice : (name new old : List ℕ) (files : Held) → update name new (update name old files) ≡ update name new files
update-twice name new old files = fun_ext (λ other. if_twice (bytes_eq name other) (Some new) (Some old) (files other))

-- no third name is equal to two that differ
two_names : (first second other : List ℕ) → bytes_eq first second ≡ false → bytes_eq first other ≡ true → bytes_eq second other ≡ true → ⊥
two_names first second other apart p q =
    let same_first : first ≡ other = (bytes_eq-Decides first other).0 p in
    let same_second : second ≡ other = (bytes_eq-Decides second other).0 q in
    let same : bytes_eq first second ≡ true = (bytes_eq-Decides first second).1 (same_first ∙ sym same_second) in
    cc

-- two names may change in either order
update-swap : (first second a b : List ℕ) (files : Held) → bytes_eq first second ≡ false
    → update first a (update second b files) ≡ update second b (update first a files)
update-swap first second a b files apart =
    fun_ext (λ other. if_swap (bytes_eq first other) (bytes_eq second other) (Some a) (Some b) (files other) (two_names first second other apart))

-- the first file of the name gets the bytes
pub shelved-set : (name bytes : List ℕ) (files : List File) (at : ℕ) (old : File) → at < length files → old ≡ get_or files at old
    → bytes_eq old.name name ≡ true → ((k : ℕ) → k < at → bytes_eq (get_or files k old).name name ≡ false)
    → shelved (set files at (record { name = old.name; bytes = bytes })) ≡ update name bytes (shelved files)
shelved-set name bytes [] at old room here same before = absurd (omega arith)
shelved-set name bytes (file ∷ files) zero old room here same before =
    let is_name : old.name ≡ name = (bytes_eq-Decides old.name name).0 same in
    let is_file : file.name ≡ name = sym (ap (λ (f : File). f.name) here) ∙ is_name in
    rw (is_name, is_file) (sym (update-twice name bytes file.bytes (shelved files)))
shelved-set name bytes (file ∷ files) (suc at) old room here same before =
    ap (update file.name file.bytes) (shelved-set name bytes files at old (omega arith) here same (λ k below. before (suc k) (omega arith)))
    ∙ update-swap file.name name file.bytes bytes (shelved files) (before 0 (omega arith))

-- a file of a new name stands last
pub shelved-push : (name bytes : List ℕ) (files : List File) → length files ≤ position_or_len (λ (file : File). bytes_eq file.name name) files
    → shelved (files ++ record { name = name; bytes = bytes } ∷ []) ≡ update name bytes (shelved files)
shelved-push name bytes [] absent = refl
shelved-push name bytes (file ∷ files) absent = other (bytes_eq file.name name) refl (shelved-push name bytes files)
  where
    other : (b : Bool) → bytes_eq file.name name ≡ b
        → (length files ≤ position_or_len (λ (each : File). bytes_eq each.name name) files
        → shelved (files ++ record { name = name; bytes = bytes } ∷ []) ≡ update name bytes (shelved files))
        → shelved (file ∷ files ++ record { name = name; bytes = bytes } ∷ []) ≡ update name bytes (shelved (file ∷ files))
    other true same rest = absurd (let none = simp same at absent in omega arith)
    other false differs rest =
        let later = simp differs at absent in
        ap (update file.name file.bytes) (rest (omega arith))
        ∙ update-swap file.name name file.bytes bytes (shelved files) differs

-- where no file has the name, all are passed
pub passed_all : (name : List ℕ) (files : List File) → position (λ (file : File). bytes_eq file.name name) files ≡ None
    → length files ≤ position_or_len (λ (file : File). bytes_eq file.name name) files
passed_all name files absent = grind (arith, nat_tests)
