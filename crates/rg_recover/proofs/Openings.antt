-- What a fault of an opening says of a fault of a run.
use Rattle.std.proofs.Common.{◌≡◌, ℕ, Result, Ok, Err, refl, ap}
use Rattle.std.specs.Prelude.{OnOk, IfErr, IsErrOf}
use Rattle.rg_open.specs.declared.fault.OpenFault.{OpenFault}
use Rattle.rg_open.specs.declared.fault.OpenFault.TheVariants as opening
use Rattle.rg_recover.specs.RunFaults.{of_open}
use Rattle.rg_run.specs.declared.fault.RunFault.{RunFault}
use Rattle.rg_run.specs.declared.fault.RunFault.TheVariants.{Disk, Damaged, SchemaDiffers, BadState, Gap, Read, Limit, Memory, Write}

pub open_disk : (fault : OpenFault) → of_open fault ≡ Disk → fault ≡ opening.Disk
open_disk opening.Disk is = refl
open_disk (opening.Damaged p) is = absurd (let e : ◌≡◌ {A = RunFault} (Damaged p) Disk = is in cc)
open_disk opening.SchemaDiffers is = absurd (let e : ◌≡◌ {A = RunFault} SchemaDiffers Disk = is in cc)
open_disk (opening.BadState n) is = absurd (let e : ◌≡◌ {A = RunFault} (BadState n) Disk = is in cc)
open_disk opening.Memory is = absurd (let e : ◌≡◌ {A = RunFault} Memory Disk = is in cc)
open_disk opening.Table is = absurd (let e : ◌≡◌ {A = RunFault} Memory Disk = is in cc)

pub open_damaged : (fault : OpenFault) (p : ℕ) → of_open fault ≡ Damaged p → fault ≡ opening.Damaged p
open_damaged opening.Disk p is = absurd (let e : ◌≡◌ {A = RunFault} Disk (Damaged p) = is in cc)
open_damaged (opening.Damaged q) p is = let e : q ≡ p = cc in ap (λ (m : ℕ). opening.Damaged m) e
open_damaged opening.SchemaDiffers p is = absurd (let e : ◌≡◌ {A = RunFault} SchemaDiffers (Damaged p) = is in cc)
open_damaged (opening.BadState n) p is = absurd (let e : ◌≡◌ {A = RunFault} (BadState n) (Damaged p) = is in cc)
open_damaged opening.Memory p is = absurd (let e : ◌≡◌ {A = RunFault} Memory (Damaged p) = is in cc)
open_damaged opening.Table p is = absurd (let e : ◌≡◌ {A = RunFault} Memory (Damaged p) = is in cc)

pub open_differs : (fault : OpenFault) → of_open fault ≡ SchemaDiffers → fault ≡ opening.SchemaDiffers
open_differs opening.Disk is = absurd (let e : ◌≡◌ {A = RunFault} Disk SchemaDiffers = is in cc)
open_differs (opening.Damaged p) is = absurd (let e : ◌≡◌ {A = RunFault} (Damaged p) SchemaDiffers = is in cc)
open_differs opening.SchemaDiffers is = refl
open_differs (opening.BadState n) is = absurd (let e : ◌≡◌ {A = RunFault} (BadState n) SchemaDiffers = is in cc)
open_differs opening.Memory is = absurd (let e : ◌≡◌ {A = RunFault} Memory SchemaDiffers = is in cc)
open_differs opening.Table is = absurd (let e : ◌≡◌ {A = RunFault} Memory SchemaDiffers = is in cc)

pub open_bad : (fault : OpenFault) (n : ℕ) → of_open fault ≡ BadState n → fault ≡ opening.BadState n
open_bad opening.Disk n is = absurd (let e : ◌≡◌ {A = RunFault} Disk (BadState n) = is in cc)
open_bad (opening.Damaged p) n is = absurd (let e : ◌≡◌ {A = RunFault} (Damaged p) (BadState n) = is in cc)
open_bad opening.SchemaDiffers n is = absurd (let e : ◌≡◌ {A = RunFault} SchemaDiffers (BadState n) = is in cc)
open_bad (opening.BadState m) n is = let e : m ≡ n = cc in ap (λ (k : ℕ). opening.BadState k) e
open_bad opening.Memory n is = absurd (let e : ◌≡◌ {A = RunFault} Memory (BadState n) = is in cc)
open_bad opening.Table n is = absurd (let e : ◌≡◌ {A = RunFault} Memory (BadState n) = is in cc)

-- a fault of an opening is neither of the input nor of the output
pub open_others : (fault : OpenFault) → (of_open fault ≡ Read → ⊥) × (of_open fault ≡ Limit → ⊥) × (of_open fault ≡ Write → ⊥) × ((n : ℕ) → of_open fault ≡ Gap n → ⊥)
open_others opening.Disk = (λ is. cc, λ is. cc, λ is. cc, λ n is. cc)
open_others (opening.Damaged p) = (λ is. cc, λ is. cc, λ is. cc, λ n is. cc)
open_others opening.SchemaDiffers = (λ is. cc, λ is. cc, λ is. cc, λ n is. cc)
open_others (opening.BadState m) = (λ is. cc, λ is. cc, λ is. cc, λ n is. cc)
open_others opening.Memory = (λ is. cc, λ is. cc, λ is. cc, λ n is. cc)
open_others opening.Table = (λ is. cc, λ is. cc, λ is. cc, λ n is. cc)

-- a result is of one fault
pub err_is : {A : Type 0} (f e : RunFault) → IsErrOf {T = A} (Err f) e → f ≡ e
err_is {A} f e is = let same : ◌≡◌ {A = Result A RunFault} (Err f) (Err e) = is in cc

pub on_ok_by : {A : Type 0} (r : Result A RunFault) (P Q : Type 0) → (P → Q) → OnOk r P → OnOk r Q
on_ok_by (Ok a) P Q by holds = by holds
on_ok_by (Err f) P Q by holds = tt

pub if_err_by : {A : Type 0} (r : Result A RunFault) (P Q : RunFault → Type 0) → ((f : RunFault) → P f → Q f) → IfErr r P → IfErr r Q
if_err_by (Ok a) P Q by holds = tt
if_err_by (Err f) P Q by holds = by f holds
