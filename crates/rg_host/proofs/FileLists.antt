-- The files of an image, in a list of buffers.
use Rattle.std.proofs.Common.{◌≡◌, ◌≢◌, inl, inr, ℕ, zero, suc, ◌-◌, ◌<◌, ◌≤◌, get_or, subst, List, [], ◌∷◌, ◌++◌, length, map, replicate, Vec, refl, sym, ◌∙◌, ap, arith, append_assoc, length-append}
use Rattle.std.proofs.Math.ListN.{set}
use Rattle.std.proofs.lemmas.List.{set-append_left, map-set, map-append, length-map, length-set}
use Rattle.std.specs.declared.alloc.Global.{Global}
use Rattle.std.proofs.lemmas.Bool.{cases_eq}
use Rattle.std.proofs.lemmas.Bool.Decides.{nat_tests}
use Rattle.rg_host.specs.Image.{Image}
use Rattle.rg_host.specs.Effects.{with_file}
use Rattle.rg_host.specs.EffectLaws.{with_file-there, with_file-elsewhere}
use Rattle.rg_host.specs.Files.{eight, files_of, image_of, bytes_at}

image_of-set : (files : List (List ℕ)) (file : ℕ) (bytes : List ℕ) → file < length files → image_of (set files file bytes) file ≡ bytes
image_of-set [] file bytes below = absurd (omega arith)
image_of-set (first ∷ files) zero bytes below = refl
image_of-set (first ∷ files) (suc file) bytes below = image_of-set files file bytes (omega arith)

image_of-set_other : (files : List (List ℕ)) (file : ℕ) (bytes : List ℕ) (other : ℕ) → other ≢ file → image_of (set files file bytes) other ≡ image_of files other
image_of-set_other [] file bytes other differs = refl
image_of-set_other (first ∷ files) zero bytes zero differs = absurd (differs refl)
image_of-set_other (first ∷ files) zero bytes (suc other) differs = refl
image_of-set_other (first ∷ files) (suc file) bytes zero differs = refl
image_of-set_other (first ∷ files) (suc file) bytes (suc other) differs = image_of-set_other files file bytes other (λ same. differs (ap suc same))

eight-set : (files : List (List ℕ)) (file : ℕ) (bytes : List ℕ) → file < length files → eight (set files file bytes) ≡ set (eight files) file bytes
eight-set files file bytes below = rw (length-set files file bytes) (sym (set-append_left files (replicate (8 - length files) []) file bytes below))

eight-missing : (files : List (List ℕ)) → length files < 8 → eight (files ++ [] ∷ []) ≡ eight files
eight-missing files few =
    let more : 8 - length files ≡ suc (8 - length (files ++ [] ∷ [])) = omega (arith, length-append files ([] ∷ [])) in
    rw more (append_assoc files ([] ∷ []) (replicate (8 - length (files ++ [] ∷ [])) []))

-- one buffer is put in the place of another
files_of-set : (buffers : List (Vec ℕ Global)) (file : ℕ) (buffer : Vec ℕ Global) → file < length buffers → files_of (set buffers file buffer) ≡ set (files_of buffers) file buffer.items
files_of-set buffers file buffer below =
    ap eight (map-set (λ (b : Vec ℕ Global). b.items) buffers file buffer)
    ∙ eight-set (map (λ (b : Vec ℕ Global). b.items) buffers) file buffer.items (omega (arith, below, length-map buffers (λ (b : Vec ℕ Global). b.items)))

-- a buffer without bytes comes to the others
pub files_of-missing : (buffers : List (Vec ℕ Global)) (buffer : Vec ℕ Global) → buffer.items ≡ [] → length buffers < 8 → files_of (buffers ++ buffer ∷ []) ≡ files_of buffers
files_of-missing buffers buffer none few =
    ap eight (map-append (λ (b : Vec ℕ Global). b.items) buffers (buffer ∷ []))
    ∙ ap (λ (l : List ℕ). eight (map (λ (b : Vec ℕ Global). b.items) buffers ++ l ∷ [])) none
    ∙ eight-missing (map (λ (b : Vec ℕ Global). b.items) buffers) (omega (arith, few, length-map buffers (λ (b : Vec ℕ Global). b.items)))

-- the place of a buffer is one of the image
length-files_of : (buffers : List (Vec ℕ Global)) (file : ℕ) → file < length buffers → file < length (files_of buffers)
length-files_of buffers file below =
    let files = map (λ (b : Vec ℕ Global). b.items) buffers in
    omega (arith, below, length-map buffers (λ (b : Vec ℕ Global). b.items), length-append files (replicate (8 - length files) []))

-- the file whose buffer is replaced has the new bytes
pub set_there : (buffers : List (Vec ℕ Global)) (file : ℕ) (buffer : Vec ℕ Global) → file < length buffers → image_of (files_of (set buffers file buffer)) file ≡ buffer.items
set_there buffers file buffer below =
    ap (λ (l : List (List ℕ)). image_of l file) (files_of-set buffers file buffer below)
    ∙ image_of-set (files_of buffers) file buffer.items (length-files_of buffers file below)

-- and each other file those that it had
pub set_elsewhere : (buffers : List (Vec ℕ Global)) (file : ℕ) (buffer : Vec ℕ Global) (other : ℕ) → file < length buffers → other ≢ file → image_of (files_of (set buffers file buffer)) other ≡ image_of (files_of buffers) other
set_elsewhere buffers file buffer other below differs =
    ap (λ (l : List (List ℕ)). image_of l other) (files_of-set buffers file buffer below)
    ∙ image_of-set_other (files_of buffers) file buffer.items other differs

-- The image that buffers hold.

pub bytes_at-get : (files : List (Vec ℕ Global)) (i : ℕ) (default : Vec ℕ Global) → i < length files → bytes_at files i ≡ (get_or files i default).items
bytes_at-get [] i default below = absurd (omega arith)
bytes_at-get (buffer ∷ files) zero default below = refl
bytes_at-get (buffer ∷ files) (suc i) default below = bytes_at-get files i default (omega arith)

pub bytes_at-set : (files : List (Vec ℕ Global)) (i : ℕ) (buffer : Vec ℕ Global) → i < length files → (file : ℕ) → bytes_at (set files i buffer) file ≡ with_file i buffer.items (bytes_at files) file
bytes_at-set [] i buffer below file = absurd (omega arith)
bytes_at-set (first ∷ files) zero buffer below zero = refl
bytes_at-set (first ∷ files) zero buffer below (suc file) = grind (arith, nat_tests)
bytes_at-set (first ∷ files) (suc i) buffer below zero = grind (arith, nat_tests)
bytes_at-set (first ∷ files) (suc i) buffer below (suc file) = bytes_at-set files i buffer (omega arith) file ∙ grind (arith, nat_tests)

bytes_at-push : (files : List (Vec ℕ Global)) (buffer : Vec ℕ Global) (file : ℕ) → bytes_at (files ++ buffer ∷ []) file ≡ with_file (length files) buffer.items (bytes_at files) file
bytes_at-push [] buffer zero = refl
bytes_at-push [] buffer (suc file) = grind (arith, nat_tests)
bytes_at-push (first ∷ files) buffer zero = grind (arith, nat_tests)
bytes_at-push (first ∷ files) buffer (suc file) = bytes_at-push files buffer file ∙ grind (arith, nat_tests)

pub bytes_at-beyond : (files : List (Vec ℕ Global)) (file : ℕ) → length files ≤ file → bytes_at files file ≡ []
bytes_at-beyond [] file beyond = refl
bytes_at-beyond (buffer ∷ files) zero beyond = absurd (omega arith)
bytes_at-beyond (buffer ∷ files) (suc file) beyond = bytes_at-beyond files file (omega arith)

pub each_push : (P : List ℕ → Type 0) (files : List (Vec ℕ Global)) (buffer : Vec ℕ Global) (file : ℕ) → (file ≡ length files → P buffer.items) → (file ≢ length files → P (bytes_at files file)) → P (bytes_at (files ++ buffer ∷ []) file)
each_push P files buffer file there elsewhere = subst P (sym (bytes_at-push files buffer file)) (elim (cases_eq file (length files)) [
  | inl here ↦ subst P (sym (ap (λ (f : ℕ). with_file (length files) buffer.items (bytes_at files) f) here ∙ with_file-there (length files) buffer.items (bytes_at files))) (there here)
  | inr other ↦ subst P (sym (with_file-elsewhere (length files) buffer.items (bytes_at files) file other)) (elsewhere other)
])

pub with_same : (file : ℕ) (bytes : List ℕ) (image : Image) (other : ℕ) → bytes ≡ image file → with_file file bytes image other ≡ image other
with_same file bytes image other same = elim (cases_eq other file) [
  | inl here ↦ ap (λ (f : ℕ). with_file file bytes image f) here ∙ with_file-there file bytes image ∙ same ∙ ap image (sym here)
  | inr differs ↦ with_file-elsewhere file bytes image other differs
]

image_of-missing : (n file : ℕ) → image_of (replicate n []) file ≡ []
image_of-missing zero file = refl
image_of-missing (suc n) zero = refl
image_of-missing (suc n) (suc file) = image_of-missing n file

image_of-buffers : (files : List (Vec ℕ Global)) (n file : ℕ) → image_of (map (λ (b : Vec ℕ Global). b.items) files ++ replicate n []) file ≡ bytes_at files file
image_of-buffers [] n file = image_of-missing n file
image_of-buffers (buffer ∷ files) n zero = refl
image_of-buffers (buffer ∷ files) n (suc file) = image_of-buffers files n file

-- it is the image of the files that they hold
pub image_of-files_of : (files : List (Vec ℕ Global)) (file : ℕ) → image_of (files_of files) file ≡ bytes_at files file
image_of-files_of files file = image_of-buffers files (8 - length (map (λ (b : Vec ℕ Global). b.items) files)) file
