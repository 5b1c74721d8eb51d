-- The texts that jobs made, and the final lines that they are of.
use Rattle.fb_sim.proofs.lemmas.Common.{◌≡◌, ℕ, zero, suc, ◌+◌, Bool, true, false, List, [], ◌∷◌, ◌++◌, length, take, drop, map, Option, Some, None, refl, sym, ap, ◌∙◌, subst, arith, append-nil, IfSome, Vec, AllZip, length-append, Inputs, Each, Form, Line, Reason, IsMarkedText, Resource, WindowDone, Does, JobModel, jobs_of}
use Rattle.fb_types.proofs.Common.{if◌then◌else◌, slice_get, slice_index_or, nil_from_length}
use Rattle.fb_types.proofs.lemmas.lists.EachLaws.{each_append}
use Rattle.fb_laws.proofs.lemmas.lists.Indexes.{drop_at, push_counted}
use Rattle.fb_trace.specs.declared.marks.MarkedText.{MarkedText}
use Rattle.fb_resource.specs.declared.resource.WindowDone.TheVariants.{NoMemory, Ran}
use Rattle.fb_window.specs.Jobs.{job_of}
use Rattle.fb_window.specs.Texts.{IsFrontOf}
use Rattle.fb_sim.specs.Texts.{AreDone, AreUnwrittenIn, AreTextsFrom, AreTextsOf, DoesWithText, HasText, IsTextFrom}
use Rattle.fb_sim.specs.declared.rounds.job_texts.FinalTexts.{FinalTexts}
use Rattle.fb_sim.specs.declared.rounds.workers.JobDone.{JobDone}

-- ---- Jobs, and what becomes of them

job_is_of : (i : Inputs) (limit to : ℕ) (x : Resource) → Each (λ (j : JobModel). j.inputs ≡ i) (job_of i limit to x)
job_is_of i limit to x = go x.stopped
  where
    go : (o : Option Reason) → Each (λ (j : JobModel). j.inputs ≡ i) (elim o as (λ _. List JobModel) [ None ↦ record { inputs = i; steps = limit; resource = x; to = to } ∷ [] | Some q ↦ [] ])
    go None = (refl, tt)
    go (Some q) = tt

-- the jobs of a system are of its inputs
pub jobs_are_of : (i : Inputs) (limit : ℕ) (bounds : List ℕ) (r : ℕ) (xs : List Resource) → Each (λ (j : JobModel). j.inputs ≡ i) (jobs_of i limit bounds r xs)
jobs_are_of i limit bounds r [] = tt
jobs_are_of i limit bounds r (x ∷ xs) =
    each_append (λ (j : JobModel). j.inputs ≡ i) (job_of i limit (slice_index_or bounds r 0) x) (jobs_of i limit bounds (r + 1) xs)
    (job_is_of i limit (slice_index_or bounds r 0) x) (jobs_are_of i limit bounds (r + 1) xs)

abbrev pub dones_of : List JobDone → List WindowDone
dones_of ds = map (λ d. d.done) ds

abbrev pub texts_of : List JobDone → List (Option MarkedText)
texts_of ds = map (λ d. d.text) ds

-- all jobs are done
pub dones_are : (js : List JobModel) (ds : List JobDone) → AllZip DoesWithText js ds → AllZip Does js (dones_of ds)
dones_are [] [] h = tt
dones_are [] (d ∷ ds) h = absurd h
dones_are (j ∷ js) [] h = absurd h
dones_are (j ∷ js) (d ∷ ds) h = (h.0.0, dones_are js ds h.1)

-- their texts are those of their lines
pub texts_are : (i : Inputs) (js : List JobModel) (ds : List JobDone) → Each (λ (j : JobModel). j.inputs ≡ i) js → AllZip DoesWithText js ds → AllZip (HasText i) (dones_of ds) (texts_of ds)
texts_are i [] [] of h = tt
texts_are i [] (d ∷ ds) of h = absurd h
texts_are i (j ∷ js) [] of h = absurd h
texts_are i (j ∷ js) (d ∷ ds) of h = (subst (λ (k : Inputs). HasText k d.done d.text) of.0 h.0.1, texts_are i js ds of.1 h.1)

-- ---- Final lines

one_from : (i : Inputs) (p : Vec Line) (d : WindowDone) (t : Option MarkedText) → IsFrontOf p d → HasText i d t → IsTextFrom i p.items t
one_from i p (Ran x lines sent stop) (Some m) f h = (f.0, subst (λ (xs : List Line). IsMarkedText i m.form xs m) f.1 h)
one_from i p (Ran x lines sent stop) None f h = tt
one_from i p NoMemory t f h = absurd f

-- a text of as many lines as these is that of these alone
pub text_whole : (i : Inputs) (form : Form) (xs : List Line) (t : Option MarkedText) (m : MarkedText) → IsTextFrom i xs t → t ≡ Some m → m.form ≡ form → m.lines ≡ length xs → IsMarkedText i form xs m
text_whole i form xs t m h is in_form lines =
    let f = subst (IsTextFrom i xs) is h in
    let all = f.1.lines in
    let long = length-append xs f.0 in
    let none : f.0 ≡ [] = nil_from_length f.0 (omega (arith, all, lines, long)) in
    let same : xs ++ f.0 ≡ xs = ap (λ z. xs ++ z) none ∙ append-nil xs in
    subst (λ (g : Form). IsMarkedText i g xs m) in_form (subst (λ (ys : List Line). IsMarkedText i m.form ys m) same f.1)

-- where they are the first lines of the jobs, the texts begin with theirs
pub texts_from : (i : Inputs) (ps : List (Vec Line)) (ds : List WindowDone) (ts : List (Option MarkedText)) → AllZip IsFrontOf ps ds → AllZip (HasText i) ds ts → AreTextsFrom i ps ts
texts_from i [] [] [] f h = tt
texts_from i [] [] (t ∷ ts) f h = absurd h
texts_from i [] (d ∷ ds) ts f h = absurd f
texts_from i (p ∷ ps) [] ts f h = absurd f
texts_from i (p ∷ ps) (d ∷ ds) [] f h = absurd h
texts_from i (p ∷ ps) (d ∷ ds) (t ∷ ts) f h = (one_from i p d t f.0 h.0, texts_from i ps ds ts f.1 h.1)

-- ---- Lists that grow

pub dones_push : (ds : List JobDone) (d : JobDone) → dones_of (ds ++ d ∷ []) ≡ dones_of ds ++ d.done ∷ []
dones_push [] d = refl
dones_push (e ∷ ds) d = ap (λ z. e.done ∷ z) (dones_push ds d)

pub texts_push : (ds : List JobDone) (d : JobDone) → texts_of (ds ++ d ∷ []) ≡ texts_of ds ++ d.text ∷ []
texts_push [] d = refl
texts_push (e ∷ ds) d = ap (λ z. e.text ∷ z) (texts_push ds d)

-- the lists below an index have their texts, and the one there gets its own
pub zip_push : {A B : Type 0} (P : A → B → Type 0) (xs : List A) (ys : List B) (x : A) (y : B) → AllZip P xs ys → P x y → AllZip P (xs ++ x ∷ []) (ys ++ y ∷ [])
zip_push P [] [] x y h one = (one, tt)
zip_push P [] (b ∷ ys) x y h one = absurd h
zip_push P (a ∷ xs) [] x y h one = absurd h
zip_push P (a ∷ xs) (b ∷ ys) x y h one = (h.0, zip_push P xs ys x y h.1 one)

abbrev pub lines_of : List (Vec Line) → List (List Line)
lines_of ps = map (λ p. p.items) ps

lines_push : (ps : List (Vec Line)) (p : Vec Line) → lines_of (ps ++ p ∷ []) ≡ lines_of ps ++ p.items ∷ []
lines_push [] p = refl
lines_push (q ∷ ps) p = ap (λ z. q.items ∷ z) (lines_push ps p)

take_one : (ps : List (Vec Line)) (n : ℕ) (p : Vec Line) → slice_get ps n ≡ Some p → take (n + 1) ps ≡ take n ps ++ p ∷ []
take_one [] n p e = absurd (let f : None ≡ Some p = e in cc)
take_one (q ∷ ps) zero p e = let f : q ≡ p = cc in ap (λ z. z ∷ []) f
take_one (q ∷ ps) (suc n) p e = let f : suc n + 1 ≡ suc (n + 1) = omega arith in rw f (ap (λ z. q ∷ z) (take_one ps n p e))

-- the lists below an index have their texts, and those of the others begin with their lines
pub record AreMade (i : Inputs) (form : Form) (finals : List (Vec Line)) (made : List MarkedText) (left : List (Option MarkedText)) : Type 0 where
  pub below : AllZip (IsMarkedText i form) (lines_of (take (length made) finals)) made
  pub others : AreTextsFrom i (drop (length made) finals) left

module _ (i : Inputs) (form : Form) (finals : List (Vec Line)) where
  module _ (made : List MarkedText) (t : Option MarkedText) (left : List (Option MarkedText)) (it : AreMade i form finals made (t ∷ left)) (p : Vec Line) (at : slice_get finals (length made) ≡ Some p) where
    next_left : IsTextFrom i p.items t × AreTextsFrom i (drop (length made + 1) finals) left
    next_left = subst (λ (ps : List (Vec Line)). AreTextsFrom i ps (t ∷ left)) (drop_at finals (length made) p at) it.others

    pub one_made : (m : MarkedText) → IsMarkedText i form p.items m → AreMade i form finals (made ++ m ∷ []) left
    one_made m is =
        let more : length (made ++ m ∷ []) ≡ length made + 1 = push_counted made m (length made) refl in
        record {
          below = subst (λ (n : ℕ). AllZip (IsMarkedText i form) (lines_of (take n finals)) (made ++ m ∷ [])) (sym more)
              (subst (λ (ps : List (Vec Line)). AllZip (IsMarkedText i form) (lines_of ps) (made ++ m ∷ [])) (sym (take_one finals (length made) p at))
              (subst (λ (xs : List (List Line)). AllZip (IsMarkedText i form) xs (made ++ m ∷ [])) (sym (lines_push (take (length made) finals) p))
              (zip_push (IsMarkedText i form) (lines_of (take (length made) finals)) made p.items m it.below is)));
          others = subst (λ (n : ℕ). AreTextsFrom i (drop n finals) left) (sym more) next_left.1;
        }

-- ---- All together

no_left : (ds : List JobDone) → length ds ≡ 0 → ds ≡ []
no_left [] e = refl
no_left (d ∷ ds) e = absurd (omega arith)

-- all were taken apart
pub are_apart : (js : List JobModel) (ds all left : List JobDone) → length left ≡ 0 → ds ++ left ≡ all
    → (ws : Vec WindowDone) (ts : Vec (Option MarkedText)) → ws.items ≡ dones_of ds → ts.items ≡ texts_of ds
    → AllZip DoesWithText js all → AreDone js (record { dones = ws; texts = Some ts })
are_apart js ds all left none whole ws ts dones texts h =
    let same : ds ≡ all = sym (append-nil ds) ∙ ap (λ z. ds ++ z) (sym (no_left left none)) ∙ whole in
    let each : AllZip DoesWithText js ds = subst (λ (zs : List JobDone). AllZip DoesWithText js zs) (sym same) h in
    record {
      done = subst (λ (zs : List WindowDone). AllZip Does js zs) (sym dones) (dones_are js ds each);
      texts = λ i of.
          subst (λ (zs : List WindowDone). AllZip (HasText i) zs ts.items) (sym dones)
          (subst (λ (zs : List (Option MarkedText)). AllZip (HasText i) (dones_of ds) zs) (sym texts) (texts_are i js ds of each));
    }

-- the texts of unwritten lines, in a form
pub unwritten_texts : (i : Inputs) (form : Form) (lists : List (Vec Line)) (unwritten : Option FinalTexts) (ts : List MarkedText)
    → AreUnwrittenIn form unwritten ts → IfSome unwritten (AreTextsOf i lists) → AllZip (IsMarkedText i form) (lines_of lists) ts
unwritten_texts i form lists (Some t) ts e h = subst (λ (f : Form). AllZip (IsMarkedText i f) (lines_of lists) ts) e.0 (subst (λ (ms : List MarkedText). AllZip (IsMarkedText i t.form) (lines_of lists) ms) (sym e.1) h)
unwritten_texts i form lists None ts e h = absurd e

-- the texts that jobs made, where they are of use
texts_used : (i : Inputs) (finals : List (Vec Line)) (dones : List WindowDone) (texts used : Option (Vec (Option MarkedText)))
    → AllZip IsFrontOf finals dones → IfSome texts (λ ts. AllZip (HasText i) dones ts.items) → used ≡ texts → IfSome used (λ ts. AreTextsFrom i finals ts.items)
texts_used i finals dones None used f h is = subst (λ (o : Option (Vec (Option MarkedText))). IfSome o (λ ts. AreTextsFrom i finals ts.items)) (sym is) tt
texts_used i finals dones (Some ts) used f h is = subst (λ (o : Option (Vec (Option MarkedText))). IfSome o (λ ts. AreTextsFrom i finals ts.items)) (sym is) (texts_from i finals dones ts.items f h)

-- otherwise there are none
no_texts_used : (i : Inputs) (finals : List (Vec Line)) (used : Option (Vec (Option MarkedText))) → used ≡ None → IfSome used (λ ts. AreTextsFrom i finals ts.items)
no_texts_used i finals used is = subst (λ (o : Option (Vec (Option MarkedText))). IfSome o (λ ts. AreTextsFrom i finals ts.items)) (sym is) tt

-- where a test says whether they are used
pub texts_if_used : (i : Inputs) (finals : List (Vec Line)) (dones : List WindowDone) (texts used : Option (Vec (Option MarkedText))) (b : Bool)
    → (b ≡ true → AllZip IsFrontOf finals dones) → IfSome texts (λ ts. AllZip (HasText i) dones ts.items) → used ≡ (if b then texts else None) → IfSome used (λ ts. AreTextsFrom i finals ts.items)
texts_if_used i finals dones texts used true f h is = texts_used i finals dones texts used (f refl) h is
texts_if_used i finals dones texts used false f h is = no_texts_used i finals used is
