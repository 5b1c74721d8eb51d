-- What was read of a table, as a result for the document.
use Rattle.fb_types.proofs.Common.{◌≡◌, ℕ, Option, Some, None, Ok, Err, sym, ap, subst, ◌∙◌, Result, IfSome, option_map}
use Rattle.fb_inputs.specs.declared.deploy_location.DeployFault.{DeployFault}
use Rattle.fb_inputs.specs.declared.deploy_location.DeployKey.{DeployKey}
use Rattle.fb_inputs.specs.declared.deploy_location.TableError.{TableError}
use Rattle.fb_inputs.specs.declared.deploy_location.TableFault.{TableFault}
use Rattle.fb_inputs.specs.DeployLocations.{AnswersInTable, InDocument, InTable, IsLocated, fault_of, location_of, shape_in}
use Rattle.fb_inputs.specs.Lists.{placed}

abbrev got : {A : Type 0} → A → Result A DeployFault
got x = Ok x

abbrev put : {A : Type 0} → DeployKey → ℕ → InTable A → InDocument A
put k i o = placed (shape_in k i) o

pub placed-ok : {A : Type 0} (k : DeployKey) (i : ℕ) (m : InTable A) (read : Result A TableError) (o : Result A DeployFault) (x : A) → AnswersInTable (λ t. t) m read → IsLocated k i read o → o ≡ Ok x
    → placed (shape_in k i) m ≡ Ok x
placed-ok {A = A} k i m (Ok y) o x h p is = ap (put k i) h ∙ ap (λ (z : A). put k i (Ok z)) (same y x (sym p ∙ is))
  where
    same : (y x : A) → got y ≡ got x → y ≡ x
    same y x e = cc
placed-ok {A = A} k i m (Err e) o x h p is = absurd (subst (λ (r : Result A DeployFault). IsLocated k i (Err e) r) is p)

by_fault : {A : Type 0} (k : DeployKey) (i : ℕ) (m : InTable A) (o : Option TableFault) → IfSome o (λ n. m ≡ Err n) → IfSome (option_map (shape_in k i) o) (λ n. placed (shape_in k i) m ≡ Err n)
by_fault k i m None h = tt
by_fault k i m (Some why) h = ap (put k i) h

pub placed-err : {A : Type 0} (k : DeployKey) (i : ℕ) (m : InTable A) (read : Result A TableError) (o : Result A DeployFault) (f : DeployFault) → AnswersInTable (λ t. t) m read → IsLocated k i read o → o ≡ Err f
    → IfSome (location_of f) (λ n. placed (shape_in k i) m ≡ Err n)
placed-err k i m (Ok y) o f h p is = absurd (let both = sym p ∙ is in cc)
placed-err {A = A} k i m (Err e) o f h p is = rw (subst (λ (r : Result A DeployFault). IsLocated k i (Err e) r) is p) (by_fault k i m (fault_of e) h)

pub if-some : {A : Type 0} (o : Option A) (P Q : A → Type 0) → ((x : A) → P x → Q x) → IfSome o P → IfSome o Q
if-some None P Q gives h = tt
if-some (Some x) P Q gives h = gives x h
