-- Resources leave one after another.
use Rattle.fb_window.proofs.lemmas.Common.{◌≡◌, ℕ, ◌+◌, ◌≤◌, true, Option, Some, None, List, [], ◌∷◌, ◌++◌, length, map, refl, sym, ap, ◌∙◌, arith, append_assoc, append-nil, Inputs, Reason, slice_index_or, is_some, Resource, JobModel, job_of, jobs_of, resting_of}

-- the jobs of one resource more
pub jobs_push : (i : Inputs) (limit : ℕ) (bounds : List ℕ) (first index : ℕ) (xs : List Resource) (x : Resource) → first + length xs ≡ index
    → jobs_of i limit bounds first (xs ++ x ∷ []) ≡ jobs_of i limit bounds first xs ++ job_of i limit (slice_index_or bounds index 0) x
jobs_push i limit bounds first index [] x e =
    let f : first ≡ index = omega arith in
    append-nil (job_of i limit (slice_index_or bounds first 0) x) ∙ ap (λ n. job_of i limit (slice_index_or bounds n 0) x) f
jobs_push i limit bounds first index (y ∷ ys) x e =
    let f : (first + 1) + length ys ≡ index = omega arith in
    ap (λ z. job_of i limit (slice_index_or bounds first 0) y ++ z) (jobs_push i limit bounds (first + 1) index ys x f)
    ∙ sym (append_assoc (job_of i limit (slice_index_or bounds first 0) y) (jobs_of i limit bounds (first + 1) ys) (job_of i limit (slice_index_or bounds index 0) x))

job_few : (i : Inputs) (limit to : ℕ) (x : Resource) → length (job_of i limit to x) ≤ 1
job_few i limit to x = go x.stopped
  where
    go : (o : Option Reason)
        → length (elim o as (λ _. List JobModel) [ None ↦ record { inputs = i; steps = limit; resource = x; to = to } ∷ [] | Some q ↦ [] ]) ≤ 1
    go None = omega arith
    go (Some q) = omega arith

pub length_join : {A : Type 0} (xs ys : List A) → length (xs ++ ys) ≡ length xs + length ys
length_join [] ys = omega arith
length_join (x ∷ xs) ys = let e = length_join xs ys in omega arith

-- no more jobs than resources
pub jobs_few : (i : Inputs) (limit : ℕ) (bounds : List ℕ) (first : ℕ) (xs : List Resource) → length (jobs_of i limit bounds first xs) ≤ length xs
jobs_few i limit bounds first [] = omega arith
jobs_few i limit bounds first (x ∷ xs) =
    let a = job_few i limit (slice_index_or bounds first 0) x in
    let b = jobs_few i limit bounds (first + 1) xs in
    let e = length_join (job_of i limit (slice_index_or bounds first 0) x) (jobs_of i limit bounds (first + 1) xs) in
    omega arith

-- ---- One resource

-- one that has not stopped has a job, and none rests at its index
pub job_none : (i : Inputs) (limit to : ℕ) (x : Resource) → x.stopped ≡ None → job_of i limit to x ≡ record { inputs = i; steps = limit; resource = x; to = to } ∷ []
job_none i limit to x e =
    ap (λ (o : Option Reason). elim o as (λ _. List JobModel) [ None ↦ record { inputs = i; steps = limit; resource = x; to = to } ∷ [] | Some q ↦ [] ]) e

pub resting_none : (x : Resource) → x.stopped ≡ None → resting_of x ≡ None
resting_none x e = ap (λ (o : Option Reason). elim o as (λ _. Option Resource) [ None ↦ None | Some q ↦ Some x ]) e

-- and one that has stopped rests, without a job
pub job_some : (i : Inputs) (limit to : ℕ) (x : Resource) → is_some x.stopped ≡ true → job_of i limit to x ≡ []
job_some i limit to x e = go x.stopped e
  where
    go : (o : Option Reason) → is_some o ≡ true → elim o as (λ _. List JobModel) [ None ↦ record { inputs = i; steps = limit; resource = x; to = to } ∷ [] | Some q ↦ [] ] ≡ []
    go None f = cc
    go (Some q) f = refl

pub resting_some : (x : Resource) → is_some x.stopped ≡ true → resting_of x ≡ Some x
resting_some x e = go x.stopped e
  where
    go : (o : Option Reason) → is_some o ≡ true → elim o as (λ _. Option Resource) [ None ↦ None | Some q ↦ Some x ] ≡ Some x
    go None f = cc
    go (Some q) f = refl

pub append_empty : {A : Type 0} (xs ys : List A) → ys ≡ [] → xs ≡ xs ++ ys
append_empty xs ys e = sym (ap (λ z. xs ++ z) e ∙ append-nil xs)

pub map_push : {A B : Type 0} (f : A → B) (xs : List A) (x : A) → map f (xs ++ x ∷ []) ≡ map f xs ++ f x ∷ []
map_push f [] x = refl
map_push f (y ∷ ys) x = ap (λ z. f y ∷ z) (map_push f ys x)

-- where none is left, what was gone over is all
pub no_more : {A : Type 0} (done left all : List A) → done ++ left ≡ all → length left ≡ 0 → done ≡ all
no_more done [] all e none = sym (append-nil done) ∙ e
no_more done (x ∷ xs) all e none = absurd (omega arith)
